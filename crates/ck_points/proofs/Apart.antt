-- Evaluations whose points are all at different places, and what is evaluated in any order of such ones.
use Rattle.std.proofs.Common.{◌≡◌, sym}
use Rattle.std.specs.Prelude.{⊤, Bool, true, false, List, [], ◌∷◌, ◌++◌, map, if◌then◌else◌}
use Rattle.std.specs.List.{AllByRecursion as Each}
use Rattle.ck_prog.specs.Paths.{Path}
use Rattle.ck_points.specs.Evaluations as form
use Rattle.ck_points.specs.Evaluations.{Node, Evaluation, Orders, Value, with_calls, next_in, arranged, orders_of}
use Rattle.ck_points.specs.Evaluations.{listed, any_of, unsequenced}
use Rattle.ck_points.specs.Places.{Side, Split, Before, Test, After}
use Rattle.ck_points.proofs.PassagesStay.{each_left, each_right}

-- what holds of the path and the side of each point of an evaluation
abbrev mutual
  pub Within : (Path → Side → Type 0) → Evaluation → Type 0
  Within R form.Nothing = ⊤
  Within R (form.Does d) = ⊤
  Within R (form.Then a b) = Within R a × Within R b
  Within R (form.Call n function operands) = R n.path Before × R n.path After × Within R operands
  Within R (form.InAnyOrder n es) = R n.path Split × WithinAll R es
  Within R (form.Choice t e a b meeting) =
      R t.at.path Test × R meeting.path After × Within R e × Within R a × Within R b

  pub WithinAll : (Path → Side → Type 0) → Orders → Type 0
  WithinAll R form.NoOrders = ⊤
  WithinAll R (form.Order e es) = Within R e × WithinAll R es

mutual
  pub within_map : (R Q : Path → Side → Type 0) → ((π : Path) (s : Side) → R π s → Q π s) → (e : Evaluation)
      → Within R e → Within Q e
  within_map R Q f form.Nothing h = tt
  within_map R Q f (form.Does d) h = tt
  within_map R Q f (form.Then a b) h = (within_map R Q f a h.0, within_map R Q f b h.1)
  within_map R Q f (form.Call n function e) h =
      (f n.path Before h.0, f n.path After h.1, within_map R Q f e h.2)
  within_map R Q f (form.InAnyOrder n es) h = (f n.path Split h.0, within_map_all R Q f es h.1)
  within_map R Q f (form.Choice t e a b m) h = (
    f t.at.path Test h.0,
    f m.path After h.1,
    within_map R Q f e h.2,
    within_map R Q f a h.3,
    within_map R Q f b h.4,
  )

  within_map_all : (R Q : Path → Side → Type 0) → ((π : Path) (s : Side) → R π s → Q π s) → (es : Orders)
      → WithinAll R es → WithinAll Q es
  within_map_all R Q f form.NoOrders h = tt
  within_map_all R Q f (form.Order e es) h = (within_map R Q f e h.0, within_map_all R Q f es h.1)

mutual
  pub within_any : (R : Path → Side → Type 0) → ((π : Path) (s : Side) → R π s) → (e : Evaluation) → Within R e
  within_any R f form.Nothing = tt
  within_any R f (form.Does d) = tt
  within_any R f (form.Then a b) = (within_any R f a, within_any R f b)
  within_any R f (form.Call n function e) = (f n.path Before, f n.path After, within_any R f e)
  within_any R f (form.InAnyOrder n es) = (f n.path Split, within_any_all R f es)
  within_any R f (form.Choice t e a b m) =
      (f t.at.path Test, f m.path After, within_any R f e, within_any R f a, within_any R f b)

  within_any_all : (R : Path → Side → Type 0) → ((π : Path) (s : Side) → R π s) → (es : Orders) → WithinAll R es
  within_any_all R f form.NoOrders = tt
  within_any_all R f (form.Order e es) = (within_any R f e, within_any_all R f es)

-- different spots ----------------------------------------------------------------------------------------------------

pub record Same (π : Path) (r : Side) (ρ : Path) (s : Side) : Type 0 where
  pub path : π ≡ ρ
  pub side : r ≡ s

abbrev pub Differ : Path → Side → Path → Side → Type 0
Differ π r ρ s = Same π r ρ s → ⊥

-- no point of an evaluation is there
abbrev pub Misses : Path → Side → Evaluation → Type 0
Misses π r e = Within (λ ρ s. Differ ρ s π r) e

abbrev pub Disjoint : Evaluation → Evaluation → Type 0
Disjoint a b = Within (λ ρ s. Misses ρ s a) b

abbrev mutual
  pub Apart : Evaluation → Type 0
  Apart form.Nothing = ⊤
  Apart (form.Does d) = ⊤
  Apart (form.Then a b) = Apart a × Apart b × Disjoint a b
  Apart (form.Call n function e) = Apart e × Misses n.path Before e × Misses n.path After e
  Apart (form.InAnyOrder n es) = ApartAll n.path es
  Apart (form.Choice t e a b m) =
      (Apart e × Apart a × Apart b) × (Disjoint e a × Disjoint e b × Disjoint a b)
      × (Misses t.at.path Test e × Misses t.at.path Test a × Misses t.at.path Test b)
      × (Misses m.path After e × Misses m.path After a × Misses m.path After b)

  pub ApartAll : Path → Orders → Type 0
  ApartAll π form.NoOrders = ⊤
  ApartAll π (form.Order e es) = (Apart e × Misses π Split e) × ApartAll π es

pub misses_by : (R : Path → Side → Type 0) (π : Path) (r : Side) (e : Evaluation) → Within R e
    → ((ρ : Path) (s : Side) → R ρ s → Differ ρ s π r) → Misses π r e
misses_by R π r e h f = within_map R (λ ρ s. Differ ρ s π r) f e h

pub disjoint_by : (R Q : Path → Side → Type 0) (a b : Evaluation) → Within R a → Within Q b
    → ((π : Path) (r : Side) (ρ : Path) (s : Side) → R π r → Q ρ s → Differ π r ρ s) → Disjoint a b
disjoint_by R Q a b left right f =
    within_map Q (λ ρ s. Misses ρ s a) (λ ρ s q. misses_by R ρ s a left (λ π r x. f π r ρ s x q)) b right

mutual
  swapped : (P : Path → Side → Path → Side → Type 0) (a b : Evaluation) → Within (λ ρ s. Within (λ π r. P π r ρ s) a) b
      → Within (λ π r. Within (λ ρ s. P π r ρ s) b) a
  swapped P form.Nothing b h = tt
  swapped P (form.Does d) b h = tt
  swapped P (form.Then x y) b h =
      let R : Path → Side → Type 0 = λ ρ s. Within (λ π r. P π r ρ s) (form.Then x y) in (
        swapped P x b (within_map R (λ ρ s. Within (λ π r. P π r ρ s) x) (λ ρ s g. g.0) b h),
        swapped P y b (within_map R (λ ρ s. Within (λ π r. P π r ρ s) y) (λ ρ s g. g.1) b h),
      )
  swapped P (form.Call n function e) b h =
      let R : Path → Side → Type 0 = λ ρ s. Within (λ π r. P π r ρ s) (form.Call n function e) in (
        within_map R (P n.path Before) (λ ρ s g. g.0) b h,
        within_map R (P n.path After) (λ ρ s g. g.1) b h,
        swapped P e b (within_map R (λ ρ s. Within (λ π r. P π r ρ s) e) (λ ρ s g. g.2) b h),
      )
  swapped P (form.InAnyOrder n es) b h =
      let R : Path → Side → Type 0 = λ ρ s. Within (λ π r. P π r ρ s) (form.InAnyOrder n es) in (
        within_map R (P n.path Split) (λ ρ s g. g.0) b h,
        swapped_all P es b (within_map R (λ ρ s. WithinAll (λ π r. P π r ρ s) es) (λ ρ s g. g.1) b h),
      )
  swapped P (form.Choice t e x y m) b h =
      let R : Path → Side → Type 0 = λ ρ s. Within (λ π r. P π r ρ s) (form.Choice t e x y m) in (
        within_map R (P t.at.path Test) (λ ρ s g. g.0) b h,
        within_map R (P m.path After) (λ ρ s g. g.1) b h,
        swapped P e b (within_map R (λ ρ s. Within (λ π r. P π r ρ s) e) (λ ρ s g. g.2) b h),
        swapped P x b (within_map R (λ ρ s. Within (λ π r. P π r ρ s) x) (λ ρ s g. g.3) b h),
        swapped P y b (within_map R (λ ρ s. Within (λ π r. P π r ρ s) y) (λ ρ s g. g.4) b h),
      )

  swapped_all : (P : Path → Side → Path → Side → Type 0) (es : Orders) (b : Evaluation)
      → Within (λ ρ s. WithinAll (λ π r. P π r ρ s) es) b → WithinAll (λ π r. Within (λ ρ s. P π r ρ s) b) es
  swapped_all P form.NoOrders b h = tt
  swapped_all P (form.Order e es) b h =
      let R : Path → Side → Type 0 = λ ρ s. WithinAll (λ π r. P π r ρ s) (form.Order e es) in (
        swapped P e b (within_map R (λ ρ s. Within (λ π r. P π r ρ s) e) (λ ρ s g. g.0) b h),
        swapped_all P es b (within_map R (λ ρ s. WithinAll (λ π r. P π r ρ s) es) (λ ρ s g. g.1) b h),
      )

turned : (π : Path) (r : Side) (ρ : Path) (s : Side) → Differ π r ρ s → Differ ρ s π r
turned π r ρ s d same = d (record { path = sym same.path; side = sym same.side })

pub symmetric : (a b : Evaluation) → Disjoint a b → Disjoint b a
symmetric a b h =
    within_map (λ π r. Within (λ ρ s. Differ π r ρ s) b) (λ π r. Misses π r b)
    (λ π r g. within_map (λ ρ s. Differ π r ρ s) (λ ρ s. Differ ρ s π r) (λ ρ s d. turned π r ρ s d) b g) a
    (swapped (λ π r ρ s. Differ π r ρ s) a b h)

-- several evaluations ------------------------------------------------------------------------------------------------

-- each is apart, and any two are disjoint
abbrev pub Pool : List Evaluation → Type 0
Pool [] = ⊤
Pool (e ∷ es) = Apart e × Each (Disjoint e) es × Pool es

each_insert : (P : Evaluation → Type 0) (xs : List Evaluation) (y : Evaluation) (ys : List Evaluation)
    → Each P (xs ++ ys) → P y → Each P (xs ++ (y ∷ ys))
each_insert P [] y ys each one = (one, each)
each_insert P (x ∷ xs) y ys each one = (each.0, each_insert P xs y ys each.1 one)

each_without : (P : Evaluation → Type 0) (xs : List Evaluation) (y : Evaluation) (ys : List Evaluation)
    → Each P (xs ++ (y ∷ ys)) → P y × Each P (xs ++ ys)
each_without P [] y ys each = (each.0, each.1)
each_without P (x ∷ xs) y ys each = let rest = each_without P xs y ys each.1 in (rest.0, (each.0, rest.1))

to_front : (xs : List Evaluation) (y : Evaluation) (ys : List Evaluation) → Pool (xs ++ (y ∷ ys))
    → Pool (y ∷ (xs ++ ys))
to_front [] y ys pool = pool
to_front (x ∷ xs) y ys pool =
    let rest = to_front xs y ys pool.2 in
    let own = each_without (Disjoint x) xs y ys pool.1 in
    (rest.0, (symmetric x y own.0, rest.1), (pool.0, own.1, rest.2))

from_front : (xs : List Evaluation) (y : Evaluation) (ys : List Evaluation) → Pool (y ∷ (xs ++ ys))
    → Pool (xs ++ (y ∷ ys))
from_front [] y ys pool = pool
from_front (x ∷ xs) y ys pool = (
  pool.2.0,
  each_insert (Disjoint x) xs y ys pool.2.1 (symmetric y x pool.1.0),
  from_front xs y ys (pool.0, pool.1.1, pool.2.2),
)

first_swapped : (a b : Evaluation) (es : List Evaluation) → Pool (a ∷ b ∷ es) → Pool (b ∷ a ∷ es)
first_swapped a b es pool =
    (pool.2.0, (symmetric a b pool.1.0, pool.2.1), (pool.0, pool.1.1, pool.2.2))

second_swapped : (a b c : Evaluation) (es : List Evaluation) → Pool (a ∷ b ∷ c ∷ es) → Pool (a ∷ c ∷ b ∷ es)
second_swapped a b c es pool =
    (pool.0, (pool.1.1.0, (pool.1.0, pool.1.1.1)), first_swapped b c es pool.2)

-- operands in any order ----------------------------------------------------------------------------------------------

-- what is evaluated for the operands without calls
abbrev others : List Value → List Evaluation
others [] = []
others (v ∷ vs) = if v.facts.holds_call then others vs else v.evaluation ∷ others vs

-- the operands with calls, and those without
split_if : (P : Evaluation → Type 0) (b : Bool) (e : Evaluation) (xs ys : List Evaluation) → P e → Each P (xs ++ ys)
    → Each P ((if b then e ∷ xs else xs) ++ (if b then ys else e ∷ ys))
split_if P true e xs ys one each = (one, each)
split_if P false e xs ys one each = each_insert P xs e ys each one

both_sorts : (P : Evaluation → Type 0) (vs : List Value) → Each (λ v. P v.evaluation) vs
    → Each P (with_calls vs ++ others vs)
both_sorts P [] each = tt
both_sorts P (v ∷ vs) each =
    split_if P v.facts.holds_call v.evaluation (with_calls vs) (others vs) each.0 (both_sorts P vs each.1)

abbrev pub ValuesApart : List Value → Type 0
ValuesApart [] = ⊤
ValuesApart (v ∷ vs) = Apart v.evaluation × Each (λ w. Disjoint v.evaluation w.evaluation) vs × ValuesApart vs

pool_if : (b : Bool) (e : Evaluation) (xs ys : List Evaluation) → Pool (e ∷ (xs ++ ys))
    → Pool ((if b then e ∷ xs else xs) ++ (if b then ys else e ∷ ys))
pool_if true e xs ys pool = pool
pool_if false e xs ys pool = from_front xs e ys pool

pool_of : (vs : List Value) → ValuesApart vs → Pool (with_calls vs ++ others vs)
pool_of [] each = tt
pool_of (v ∷ vs) each =
    pool_if v.facts.holds_call v.evaluation (with_calls vs) (others vs)
    (each.0, both_sorts (Disjoint v.evaluation) vs each.1, pool_of vs each.2)

within_next : (R : Path → Side → Type 0) (b : Bool) (e : Evaluation) (es rest : List Evaluation)
    (more : List Evaluation → Evaluation)
    → ((ds : List Evaluation) → Each (Within R) ds → Each (Within R) rest → Within R (more ds))
    → Each (Within R) es → Each (Within R) (if b then rest else e ∷ rest)
    → Within R (if b then next_in es more else form.Then e (more es))
within_next R true e [] rest more f each others = f [] tt others
within_next R true e (d ∷ ds) rest more f each others = (each.0, f ds each.1 others)
within_next R false e es rest more f each others = (others.0, f es each others.1)

within_arranged : (R : Path → Side → Type 0) (vs : List Value) (es : List Evaluation) → Each (Within R) es
    → Each (Within R) (others vs) → Within R (arranged vs es)
within_arranged R [] es each rest = tt
within_arranged R (v ∷ vs) es each rest =
    within_next R v.facts.holds_call v.evaluation es (others vs) (arranged vs)
    (λ ds. within_arranged R vs ds) each rest

disjoint_arranged : (e : Evaluation) (vs : List Value) (es : List Evaluation) → Each (Disjoint e) (es ++ others vs)
    → Disjoint e (arranged vs es)
disjoint_arranged e vs es each =
    within_arranged (λ ρ s. Misses ρ s e) vs es (each_left (Disjoint e) es (others vs) each)
    (each_right (Disjoint e) es (others vs) each)

apart_next : (b : Bool) (e : Evaluation) (es : List Evaluation) (vs : List Value)
    → ((ds : List Evaluation) → Pool (ds ++ others vs) → Apart (arranged vs ds))
    → Pool (es ++ (if b then others vs else e ∷ others vs))
    → Apart (if b then next_in es (arranged vs) else form.Then e (arranged vs es))
apart_next true e [] vs f pool = f [] pool
apart_next true e (d ∷ ds) vs f pool = (pool.0, f ds pool.2, disjoint_arranged d vs ds pool.1)
apart_next false e es vs f pool =
    let front = to_front es e (others vs) pool in
    (front.0, f es front.2, disjoint_arranged e vs es front.1)

apart_arranged : (vs : List Value) (es : List Evaluation) → Pool (es ++ others vs) → Apart (arranged vs es)
apart_arranged [] es pool = tt
apart_arranged (v ∷ vs) es pool =
    apart_next v.facts.holds_call v.evaluation es vs (λ ds. apart_arranged vs ds) pool

-- in each order
within_orders : (R : Path → Side → Type 0) (es : List Evaluation) → Each (Within R) es
    → Each (Each (Within R)) (orders_of es)
within_orders R [] each = (tt, tt)
within_orders R (a ∷ []) each = (each, tt)
within_orders R (a ∷ b ∷ []) each = (each, ((each.1.0, (each.0, tt)), tt))
within_orders R (a ∷ b ∷ c ∷ []) each =
    let p = each.0 in
    let q = each.1.0 in
    let r = each.1.1.0 in
    (each, ((p, (r, (q, tt))), ((q, (p, (r, tt))), ((q, (r, (p, tt))), ((r, (p, (q, tt))), ((r, (q, (p, tt))), tt))))))
within_orders R (a ∷ b ∷ c ∷ d ∷ es) each = (each, tt)

pool_orders : (es rest : List Evaluation) → Pool (es ++ rest) → Each (λ o. Pool (o ++ rest)) (orders_of es)
pool_orders [] rest pool = (pool, tt)
pool_orders (a ∷ []) rest pool = (pool, tt)
pool_orders (a ∷ b ∷ []) rest pool = (pool, (first_swapped a b rest pool, tt))
pool_orders (a ∷ b ∷ c ∷ []) rest pool =
    let acb = second_swapped a b c rest pool in
    let bac = first_swapped a b (c ∷ rest) pool in
    let bca = second_swapped b a c rest bac in
    let cab = first_swapped a c (b ∷ rest) acb in
    (pool, (acb, (bac, (bca, (cab, (second_swapped c a b rest cab, tt))))))
pool_orders (a ∷ b ∷ c ∷ d ∷ es) rest pool = (pool, tt)

within_all_arranged : (R : Path → Side → Type 0) (vs : List Value) (os : List (List Evaluation))
    → Each (Each (Within R)) os → Each (Within R) (others vs) → Each (Within R) (map (arranged vs) os)
within_all_arranged R vs [] each rest = tt
within_all_arranged R vs (o ∷ os) each rest =
    (within_arranged R vs o each.0 rest, within_all_arranged R vs os each.1 rest)

apart_all_arranged : (vs : List Value) (os : List (List Evaluation)) → Each (λ o. Pool (o ++ others vs)) os
    → Each Apart (map (arranged vs) os)
apart_all_arranged vs [] each = tt
apart_all_arranged vs (o ∷ os) each = (apart_arranged vs o each.0, apart_all_arranged vs os each.1)

within_listed : (R : Path → Side → Type 0) (es : List Evaluation) → Each (Within R) es → WithinAll R (listed es)
within_listed R [] each = tt
within_listed R (e ∷ es) each = (each.0, within_listed R es each.1)

apart_listed : (π : Path) (es : List Evaluation) → Each Apart es → Each (Misses π Split) es → ApartAll π (listed es)
apart_listed π [] each misses = tt
apart_listed π (e ∷ es) each misses = ((each.0, misses.0), apart_listed π es each.1 misses.1)

within_any_of : (R : Path → Side → Type 0) (n : Node) (es : List Evaluation) → R n.path Split → Each (Within R) es
    → Within R (any_of n es)
within_any_of R n [] here each = (here, tt)
within_any_of R n (e ∷ []) here each = each.0
within_any_of R n (d ∷ e ∷ es) here each = (here, within_listed R (d ∷ e ∷ es) each)

apart_any_of : (n : Node) (es : List Evaluation) → Each Apart es → Each (Misses n.path Split) es → Apart (any_of n es)
apart_any_of n [] each misses = tt
apart_any_of n (e ∷ []) each misses = each.0
apart_any_of n (d ∷ e ∷ es) each misses = apart_listed n.path (d ∷ e ∷ es) each misses

pub within_unsequenced : (R : Path → Side → Type 0) (n : Node) (vs : List Value) → R n.path Split
    → Each (λ v. Within R v.evaluation) vs → Within R (unsequenced n vs)
within_unsequenced R n vs here each =
    let both = both_sorts (Within R) vs each in
    within_any_of R n (map (arranged vs) (orders_of (with_calls vs))) here
    (within_all_arranged R vs (orders_of (with_calls vs))
    (within_orders R (with_calls vs) (each_left (Within R) (with_calls vs) (others vs) both))
    (each_right (Within R) (with_calls vs) (others vs) both))

misses_all : (π : Path) (vs : List Value) (os : List (List Evaluation)) → Each (Each (Misses π Split)) os
    → Each (Misses π Split) (others vs) → Each (Misses π Split) (map (arranged vs) os)
misses_all π vs os each rest = within_all_arranged (λ ρ s. Differ ρ s π Split) vs os each rest

pub apart_unsequenced : (n : Node) (vs : List Value) → ValuesApart vs
    → Each (λ v. Misses n.path Split v.evaluation) vs → Apart (unsequenced n vs)
apart_unsequenced n vs apart misses =
    let P = Misses n.path Split in
    let both = both_sorts P vs misses in
    let os = orders_of (with_calls vs) in
    apart_any_of n (map (arranged vs) os)
    (apart_all_arranged vs os (pool_orders (with_calls vs) (others vs) (pool_of vs apart)))
    (misses_all n.path vs os
    (within_orders (λ ρ s. Differ ρ s n.path Split) (with_calls vs) (each_left P (with_calls vs) (others vs) both))
    (each_right P (with_calls vs) (others vs) both))
