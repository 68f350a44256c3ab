-- The number of a call among those of a project, which are listed by function and then by path.
use Rattle.std.proofs.Common.{◌≡◌, ℕ, zero, suc, ◌+◌, ◌<◌, Bool, true, false, List, [], ◌∷◌, ◌++◌, length, map, take}
use Rattle.std.proofs.Common.{Some, None, refl, sym, ap, ◌∙◌, subst, arith}
use Rattle.std.specs.Cmp.Lexicographic.{slice_cmp}
use Rattle.std.specs.List.{filter, slice_get}
use Rattle.std.specs.Option.{unwrap_or}
use Rattle.std.specs.Ordering.{nat_cmp, ordering_then, is_lt, is_eq}
use Rattle.std.specs.Prelude.{if◌then◌else◌}
use Rattle.std.specs.declared.cmp.Ordering.{Ordering}
use Rattle.std.specs.declared.cmp.Ordering.TheVariants.{Less, Greater}
use Rattle.std.proofs.lemmas.List.{length-append, length-map}
use Rattle.std.proofs.lemmas.Option.{same_Some}
use Rattle.ck_kinds.specs.CallOrder.{against, call_place, AllAre, IsRank}
use Rattle.ck_kinds.specs.KindedDrafts.{flow_program}
use Rattle.ck_kinds.proofs.PathLemmas.{nat_cmp-less, nat_cmp-greater, nat_cmp-itself}
use Rattle.ck_kinds.proofs.PlacedCalls.{path_against, placed, ascend-filter, none_before}
use Rattle.ck_kinds.proofs.Ranks.{same_rank}
use Rattle.ck_points.specs.Graphs.{number_of_call}
use Rattle.ck_prog.specs.Acts.{Project}
use Rattle.ck_prog.specs.Calls.{CallSite, calls_of_function, is_numbered, numbered_calls}
use Rattle.ck_prog.specs.PathOrder.{CallsAscend}
use Rattle.ck_prog.specs.Paths.{Path}
use Rattle.ck_prog.specs.TypedBodies.{TypedFunction}
use Rattle.ck_tables.specs.Program.{functions}
use Rattle.ck_call_rows.specs.TypedRows.{CallPlace, place_of_site, call_places, place_of_row, project, AreTypedCalls}
use Rattle.ck_tables.specs.declared.program.Linked.{Linked}
use Rattle.ck_tables.specs.declared.program_rows.ProgramRows.{ProgramRows}

-- ordered all alike ---------------------------------------------------------------------------------------------------

all-append : {X : Type 0} (o : Ordering) (compare : X → Ordering) (xs ys : List X) → AllAre o compare xs
    → AllAre o compare ys → AllAre o compare (xs ++ ys)
all-append o compare [] ys left right = right
all-append o compare (x ∷ xs) ys left right = (left.0, all-append o compare xs ys left.1 right)

-- those of another function
other_function : (i j : ℕ) (π : Path) (o : Ordering) → nat_cmp j i ≡ o
    → ((p : Ordering) → ordering_then o p ≡ o) → (cs : List CallSite)
    → AllAre o (against (call_place i π)) (map (place_of_site j) cs)
other_function i j π o e first [] = tt
other_function i j π o e first (c ∷ cs) = (
  ap (λ p. ordering_then p (slice_cmp nat_cmp c.path π)) e ∙ first (slice_cmp nat_cmp c.path π),
  other_function i j π o e first cs,
)

-- those of the function itself are ordered by their paths
own_function : (i : ℕ) (π : Path) (c : CallSite) → against (call_place i π) (place_of_site i c) ≡ path_against π c
own_function i π c = ap (λ p. ordering_then p (slice_cmp nat_cmp c.path π)) (nat_cmp-itself i)

own-greater : (i : ℕ) (π : Path) (cs : List CallSite) → AllAre Greater (path_against π) cs
    → AllAre Greater (against (call_place i π)) (map (place_of_site i) cs)
own-greater i π [] all = tt
own-greater i π (c ∷ cs) all = (own_function i π c ∙ all.0, own-greater i π cs all.1)

module _ (k : Project) where
  later_functions : (i j : ℕ) (π : Path) (fs : List TypedFunction) → i < j
      → AllAre Greater (against (call_place i π)) (call_places k j fs)
  later_functions i j π [] less = tt
  later_functions i j π (f ∷ fs) less =
      all-append Greater (against (call_place i π)) _ _
      (other_function i j π Greater (nat_cmp-greater j i less) (λ p. refl)
      (filter (is_numbered k) (calls_of_function f)))
      (later_functions i (suc j) π fs (omega (arith, less)))

-- ranks ---------------------------------------------------------------------------------------------------------------

-- after some that are less
rank-after : {X : Type 0} (compare : X → Ordering) (xs ys : List X) (n m : ℕ) (b : Bool) → m ≡ length xs + n
    → AllAre Less compare xs → IsRank compare ys n b → IsRank compare (xs ++ ys) m b
rank-after compare [] ys n m b e less rank =
    let same : n ≡ m = omega (arith, e) in subst (λ l. IsRank compare ys l b) same rank
rank-after compare (x ∷ xs) ys n zero b e less rank = absurd (omega (arith, e))
rank-after compare (x ∷ xs) ys n (suc m) b e less rank =
    (less.0, rank-after compare xs ys n m b (omega (arith, e)) less.1 rank)

rank-greater : {X : Type 0} (compare : X → Ordering) (xs : List X) (n : ℕ) (b : Bool) → n ≡ 0 → b ≡ false
    → AllAre Greater compare xs → IsRank compare xs n b
rank-greater compare [] n b none missing all = (none, missing)
rank-greater compare (x ∷ xs) zero b none missing all = (ap is_lt all.0, missing ∙ sym (ap is_eq all.0), all.1)
rank-greater compare (x ∷ xs) (suc n) b none missing all = absurd (omega (arith, none))

-- of a path of a function, before those that are greater
rank-own : (i : ℕ) (π : Path) (cs : List CallSite) (ys : List CallPlace) (n : ℕ) (b : Bool)
    → IsRank (path_against π) cs n b → AllAre Greater (against (call_place i π)) ys
    → IsRank (against (call_place i π)) (map (place_of_site i) cs ++ ys) n b
rank-own i π [] ys n b rank all = rank-greater (against (call_place i π)) ys n b rank.0 rank.1 all
rank-own i π (c ∷ cs) ys zero b rank all = (
  ap is_lt (own_function i π c) ∙ rank.0,
  rank.1 ∙ sym (ap is_eq (own_function i π c)),
  all-append Greater (against (call_place i π)) _ ys (own-greater i π cs rank.2) all,
)
rank-own i π (c ∷ cs) ys (suc n) b rank all =
    (own_function i π c ∙ rank.0, rank-own i π cs ys n b rank.1 all)

module _ (k : Project) where
  -- of a path of a function that comes after so many
  rank-function : (i j n : ℕ) (π : Path) (fs : List TypedFunction) (f : TypedFunction) (m t : ℕ) (b : Bool)
      → i ≡ j + n → slice_get fs n ≡ Some f
      → IsRank (path_against π) (filter (is_numbered k) (calls_of_function f)) m b
      → t ≡ length (numbered_calls k (take n fs)) + m
      → IsRank (against (call_place i π)) (call_places k j fs) t b
  rank-function i j n π [] f m t b at is rank sum = absurd (cc)
  rank-function i j zero π (g ∷ fs) f m t b at is rank sum =
      let here : j ≡ i = omega (arith, at) in
      let same : g ≡ f = same_Some g f is in
      let all : m ≡ t = omega (arith, sum) in
      let own : IsRank (path_against π) (filter (is_numbered k) (calls_of_function g)) t b =
      subst (λ h. IsRank (path_against π) (filter (is_numbered k) (calls_of_function h)) t b) (sym same)
      (subst (λ l. IsRank (path_against π) (filter (is_numbered k) (calls_of_function f)) l b) all rank) in
      subst (λ l. IsRank (against (call_place l π)) (call_places k j (g ∷ fs)) t b) here
      (rank-own j π (filter (is_numbered k) (calls_of_function g)) (call_places k (suc j) fs) t b own
      (later_functions k j (suc j) π fs (omega arith)))
  rank-function i j (suc n) π (g ∷ fs) f m t b at is rank sum =
      let own = filter (is_numbered k) (calls_of_function g) in
      let rest = length (numbered_calls k (take n fs)) + m in
      let long = length-map own (place_of_site j) in
      let both = length-append own (numbered_calls k (take n fs)) in
      rank-after (against (call_place i π)) (map (place_of_site j) own) (call_places k (suc j) fs) rest t b
      (omega (arith, sum, long, both))
      (other_function i j π Less (nat_cmp-less j i (omega (arith, at))) (λ p. refl) own)
      (rank-function i (suc j) n π fs f m rest b (omega (arith, at)) is rank refl)

-- numbers -------------------------------------------------------------------------------------------------------------

-- where a path of a function comes among the project's calls, and the number that it has
pub record IsNumbered (l : Linked) (r : ProgramRows) (i : ℕ) (f : TypedFunction) (π : Path) : Type 0 where
  pub number : ℕ
  pub found : Bool
  pub rank : IsRank (against (call_place i π)) (map place_of_row r.calls.rows.items) number found
  pub is :
      number_of_call (flow_program l r) i f π
      ≡ (if found then number else length (numbered_calls (project l r) (take i (functions l))))

sum_by_found : (a m : ℕ) (b : Bool) → a + unwrap_or (if b then Some m else None) 0 ≡ (if b then a + m else a)
sum_by_found a m true = refl
sum_by_found a m false = omega arith

module _ (up : CallsAscend) (l : Linked) (r : ProgramRows) (typed : AreTypedCalls l r) (i : ℕ) (f : TypedFunction)
    (there : slice_get (functions l) i ≡ Some f) where
  pub numbered : (π : Path) → IsNumbered l r i f π
  numbered π =
      let k = project l r in
      let own = filter (is_numbered k) (calls_of_function f) in
      let p = placed π own (ascend-filter (is_numbered k) (calls_of_function f) (up f)) in
      let first = length (numbered_calls k (take i (functions l))) in
      record {
        number = first + p.number;
        found = p.found;
        rank =
            subst (λ ps. IsRank (against (call_place i π)) ps (first + p.number) p.found) (sym typed.calls.places)
            (rank-function k i 0 i π (functions l) f p.number (first + p.number) p.found (omega arith) there p.rank
            refl);
        is = ap (λ o. first + unwrap_or o 0) p.position_is ∙ sum_by_found first p.number p.found;
      }

  -- as many calls come before the empty path as the functions before have
  pub first_number : (n : ℕ) (b : Bool)
      → IsRank (against (call_place i [])) (map place_of_row r.calls.rows.items) n b
      → n ≡ length (numbered_calls (project l r) (take i (functions l)))
  first_number n b rank =
      let k = project l r in
      let own = filter (is_numbered k) (calls_of_function f) in
      let p = placed [] own (ascend-filter (is_numbered k) (calls_of_function f) (up f)) in
      let first = length (numbered_calls k (take i (functions l))) in
      let other : IsRank (against (call_place i [])) (map place_of_row r.calls.rows.items) (first + p.number) p.found =
      subst (λ ps. IsRank (against (call_place i [])) ps (first + p.number) p.found) (sym typed.calls.places)
      (rank-function k i 0 i [] (functions l) f p.number (first + p.number) p.found (omega arith) there p.rank refl) in
      let e = same_rank (against (call_place i [])) (map place_of_row r.calls.rows.items) n (first + p.number) b p.found
      rank other in
      let none = none_before own p.number p.found p.rank in
      e.0 ∙ omega (arith, none)

  pub number_where_found : (π : Path) (n : ℕ)
      → IsRank (against (call_place i π)) (map place_of_row r.calls.rows.items) n true
      → n ≡ number_of_call (flow_program l r) i f π
  number_where_found π n rank =
      let w = numbered π in
      let e = same_rank (against (call_place i π)) (map place_of_row r.calls.rows.items) n w.number true w.found rank
      w.rank in
      e.0
      ∙ ap (λ b. if b then w.number else length (numbered_calls (project l r) (take i (functions l)))) e.1 ∙ sym w.is

  pub number_where_missing : (π : Path) (n m : ℕ) (b : Bool)
      → IsRank (against (call_place i π)) (map place_of_row r.calls.rows.items) n false
      → IsRank (against (call_place i [])) (map place_of_row r.calls.rows.items) m b
      → m ≡ number_of_call (flow_program l r) i f π
  number_where_missing π n m b rank first =
      let w = numbered π in
      let e = same_rank (against (call_place i π)) (map place_of_row r.calls.rows.items) n w.number false w.found rank
      w.rank in
      first_number m b first
      ∙ ap (λ b. if b then w.number else length (numbered_calls (project l r) (take i (functions l)))) e.1 ∙ sym w.is

-- the function of a number
pub function-below : {X : Type 0} (xs : List X) (i : ℕ) → i < length xs → (x : X) × (slice_get xs i ≡ Some x)
function-below [] i low = absurd (omega (arith, low))
function-below (x ∷ xs) zero low = (x, refl)
function-below (x ∷ xs) (suc i) low = function-below xs i (omega (arith, low))
