-- What is evaluated for an expression, an initialiser or a declarator has its points at different places, all at parts
-- of it.
use Rattle.std.proofs.Common.{◌≡◌, refl, sym, ◌∙◌, ap, arith}
use Rattle.std.specs.Prelude.{⊤, ℕ, suc, ◌+◌, ◌*◌, ◌<◌, ◌≤◌, Bool, true, false, List, [], ◌∷◌, ◌++◌, Option, Some, None}
use Rattle.std.specs.Prelude.{if◌then◌else◌}
use Rattle.std.specs.List.{AllByRecursion as Each}
use Rattle.ck_prog.specs.Declarations.{Entry}
use Rattle.ck_prog.specs.Paths as part
use Rattle.ck_prog.specs.Paths.{Path, Part, step, below}
use Rattle.ck_prog.specs.TypedBodies as bodies
use Rattle.ck_prog.specs.TypedBodies.{DeclaredFacts, TypedInitialiser, TypedInitialisers, TypedDeclarators}
use Rattle.ck_prog.specs.TypedTrees as trees
use Rattle.ck_prog.specs.TypedTrees.{Typed, Links, Arguments, Steps, Facts, facts}
use Rattle.ck_prog.specs.declared.operators.Operator.{Operator}
use Rattle.ck_prog.specs.declared.operators.Operator.TheVariants.{Binary, And, Or, Comma}
use Rattle.ck_points.specs.Evaluations as form
use Rattle.ck_points.specs.Evaluations.{Node, Evaluation, Value, test_of, applied, unsequenced, operands, linked}
use Rattle.ck_points.specs.Evaluations.{called, suffixed, evaluation, after_links, values_of, after_steps}
use Rattle.ck_points.specs.Initialising.{initialising, initialising_from, is_automatic, declared, declaring}
use Rattle.ck_points.specs.Places.{Side, Split, Before, Test, After}
use Rattle.ck_points.proofs.Apart.{Within, within_map, within_any, Differ, Misses, Disjoint, Apart, misses_by}
use Rattle.ck_points.proofs.Apart.{disjoint_by, ValuesApart, within_unsequenced, apart_unsequenced}

-- paths --------------------------------------------------------------------------------------------------------------

abbrev pub rest_of : Path → Path
rest_of [] = []
rest_of (k ∷ rest) = rest

abbrev first_step : Path → ℕ
first_step [] = 0
first_step (k ∷ rest) = k

pub deeper : (π : Path) (k : ℕ) (rest : Path) → (π ++ (k ∷ [])) ++ rest ≡ π ++ (k ∷ rest)
deeper [] k rest = refl
deeper (n ∷ π) k rest = ap (λ r. n ∷ r) (deeper π k rest)

pub same_step : (π : Path) (j k : ℕ) (r s : Path) → π ++ (j ∷ r) ≡ π ++ (k ∷ s) → j ≡ k
same_step [] j k r s same = ap first_step same
same_step (n ∷ π) j k r s same = same_step π j k r s (ap rest_of same)

pub longer : (π : Path) (k : ℕ) (rest : Path) → π ≡ π ++ (k ∷ rest) → ⊥
longer [] k rest same = cc
longer (n ∷ π) k rest same = longer π k rest (ap rest_of same)

-- a path below another, by a step from one on, and before another
pub record Between (π : Path) (low high : ℕ) (ρ : Path) : Type 0 where
  pub step : ℕ
  pub rest : Path
  pub at_least : low ≤ step
  pub less : step < high
  pub is : ρ ≡ π ++ (step ∷ rest)

pub record From (π : Path) (low : ℕ) (ρ : Path) : Type 0 where
  pub step : ℕ
  pub rest : Path
  pub at_least : low ≤ step
  pub is : ρ ≡ π ++ (step ∷ rest)

pub from_steps : (π : Path) (low high bound : ℕ) (ρ : Path) → bound ≤ low → Between π low high ρ → From π bound ρ
from_steps π low high bound ρ le s =
    let l = s.at_least in
    record { step = s.step; rest = s.rest; at_least = omega (arith, le, l); is = s.is }

pub widened : (π : Path) (low high low' high' : ℕ) (ρ : Path) → low' ≤ low → high ≤ high' → Between π low high ρ
    → Between π low' high' ρ
widened π low high low' high' ρ le ge s =
    let l = s.at_least in
    let h = s.less in
    record {
      step = s.step;
      rest = s.rest;
      at_least = omega (arith, le, l);
      less = omega (arith, ge, h);
      is = s.is;
    }

pub steps_differ : (π : Path) (low high bound : ℕ) (ρ σ : Path) → high ≤ bound → Between π low high ρ → From π bound σ
    → ρ ≡ σ → ⊥
steps_differ π low high bound ρ σ le s t same =
    let e = same_step π s.step t.step s.rest t.rest (sym s.is ∙ (same ∙ t.is)) in
    let h = s.less in
    let l = t.at_least in
    omega (arith, le, e, h, l)

-- at a part itself, but for its test, or below it
pub data Own (π ρ : Path) (s : Side) : Type 0 where
  AtSelf : ρ ≡ π → (s ≡ Test → ⊥) → Own π ρ s
  Deeper : From π 0 ρ → Own π ρ s

pub in_part : (π : Path) (p : Part) (ρ : Path) (s : Side) → Own (below π p) ρ s → Between π (step p) (suc (step p)) ρ
in_part π p ρ s (AtSelf is other) =
    record { step = step p; rest = []; at_least = omega arith; less = omega arith; is = is }
in_part π p ρ s (Deeper f) =
    record {
      step = step p;
      rest = f.step ∷ f.rest;
      at_least = omega arith;
      less = omega arith;
      is = f.is ∙ deeper π (step p) (f.step ∷ f.rest);
    }

-- what is at a part is no more above it
not_above : (π : Path) (p : Part) (r : Side) (ρ : Path) (s : Side) → Own (below π p) ρ s → Differ ρ s π r
not_above π p r ρ s own same =
    let t = in_part π p ρ s own in longer π t.step t.rest (sym same.path ∙ t.is)

-- what fits a path ---------------------------------------------------------------------------------------------------

pub record Fits (π : Path) (e : Evaluation) : Type 0 where
  pub within : Within (Own π) e
  pub apart : Apart e

abbrev InSteps : Path → ℕ → ℕ → Path → Side → Type 0
InSteps π low high ρ s = Between π low high ρ

within_part : (π : Path) (p : Part) (e : Evaluation) → Fits (below π p) e
    → Within (InSteps π (step p) (suc (step p))) e
within_part π p e fits = within_map (Own (below π p)) (InSteps π (step p) (suc (step p))) (in_part π p) e fits.within

steps_own : (π : Path) (low high : ℕ) (e : Evaluation) → Within (InSteps π low high) e → Within (Own π) e
steps_own π low high e h =
    within_map (InSteps π low high) (Own π)
    (λ ρ s t. Deeper (from_steps π low high 0 ρ (omega arith) t)) e h

disjoint_steps : (π : Path) (low mid bound high : ℕ) (a b : Evaluation) → mid ≤ bound
    → Within (InSteps π low mid) a → Within (InSteps π bound high) b → Disjoint a b
disjoint_steps π low mid bound high a b le left right =
    disjoint_by (InSteps π low mid) (InSteps π bound high) a b left right
    (λ ρ r σ s x y same.
    steps_differ π low mid bound ρ σ le x (from_steps π bound high bound σ (omega arith) y) same.path)

-- no point of what is below by these steps is at the path itself
misses_self : (π : Path) (r : Side) (low high : ℕ) (e : Evaluation) → Within (InSteps π low high) e → Misses π r e
misses_self π r low high e h =
    misses_by (InSteps π low high) π r e h (λ ρ s t same. longer π t.step t.rest (sym same.path ∙ t.is))

misses_part : (π : Path) (p : Part) (r : Side) (e : Evaluation) → Fits (below π p) e → Misses π r e
misses_part π p r e fits = misses_by (Own (below π p)) π r e fits.within (not_above π p r)

-- nor is its test among its own points
own_no_test : (π ρ : Path) (s : Side) → Own π ρ s → Differ ρ s π Test
own_no_test π ρ s (AtSelf is other) same = other same.side
own_no_test π ρ s (Deeper f) same = longer π f.step f.rest (sym same.path ∙ f.is)

pub no_test : (π : Path) (e : Evaluation) → Fits π e → Misses π Test e
no_test π e fits = misses_by (Own π) π Test e fits.within (own_no_test π)

within_applied : (R : Path → Side → Type 0) (π : Path) (f : Facts) (e : Evaluation) → Within R e
    → Within R (applied π f e)
within_applied R π f e h = by_call f.holds_call where
  by_call : (b : Bool) → Within R (if b then form.Then e (form.Does (form.Apply π)) else form.Does (form.Evaluate π))
  by_call true = (h, tt)
  by_call false = tt

apart_applied : (π : Path) (f : Facts) (e : Evaluation) → Apart e → Apart (applied π f e)
apart_applied π f e h = by_call f.holds_call where
  by_call : (b : Bool) → Apart (if b then form.Then e (form.Does (form.Apply π)) else form.Does (form.Evaluate π))
  by_call true = (h, tt, tt)
  by_call false = tt

applied_fits : (π : Path) (f : Facts) (e : Evaluation) → Fits π e → Fits π (applied π f e)
applied_fits π f e fits =
    record { within = within_applied (Own π) π f e fits.within; apart = apart_applied π f e fits.apart }

one_operand : (π : Path) (p : Part) (f : Facts) (e : Evaluation) → Fits (below π p) e → Fits π (applied π f e)
one_operand π p f e fits =
    applied_fits π f e
    (record {
      within = steps_own π (step p) (suc (step p)) e (within_part π p e fits);
      apart = fits.apart;
    })

-- chains -------------------------------------------------------------------------------------------------------------

-- a value up to some step, whose test is no point of it
record SoFar (π : Path) (high : ℕ) (v : Value) : Type 0 where
  apart : Apart v.evaluation
  within : Within (InSteps π 0 high) v.evaluation
  spare : Misses v.path Test v.evaluation
  at : Between π 0 high v.path

module _ (π : Path) (k : ℕ) (n : Node) (at_step : n.path ≡ π ++ (k ∷ [])) (left right : Value)
    (l : SoFar π k left) (r : Within (InSteps π (suc k) (suc (suc k))) right.evaluation)
    (r_apart : Apart right.evaluation) where
  here_steps : Between π k (suc k) n.path
  here_steps = record { step = k; rest = []; at_least = omega arith; less = omega arith; is = at_step }

  here_from : From π k n.path
  here_from = record { step = k; rest = []; at_least = omega arith; is = at_step }

  left_misses : (side : Side) → Misses n.path side left.evaluation
  left_misses side =
      misses_by (InSteps π 0 k) n.path side left.evaluation l.within
      (λ ρ s t same. steps_differ π 0 k k ρ n.path (omega arith) t here_from same.path)

  right_misses : (side : Side) → Misses n.path side right.evaluation
  right_misses side =
      misses_by (InSteps π (suc k) (suc (suc k))) n.path side right.evaluation r
      (λ ρ s t same. steps_differ π k (suc k) (suc k) n.path ρ (omega arith) here_steps
      (from_steps π (suc k) (suc (suc k)) (suc k) ρ (omega arith) t) (sym same.path))

  both_disjoint : Disjoint left.evaluation right.evaluation
  both_disjoint = disjoint_steps π 0 k (suc k) (suc (suc k)) left.evaluation right.evaluation (omega arith) l.within r

  test_misses : Misses left.path Test right.evaluation
  test_misses =
      misses_by (InSteps π (suc k) (suc (suc k))) left.path Test right.evaluation r
      (λ ρ s t same. steps_differ π 0 k (suc k) left.path ρ (omega arith) l.at
      (from_steps π (suc k) (suc (suc k)) (suc k) ρ (omega arith) t) (sym same.path))

  operands_apart : (op : Operator) → Apart (operands op n left right)
  operands_apart And = (
    (l.apart, r_apart, tt),
    (both_disjoint, tt, tt),
    (l.spare, test_misses, tt),
    (left_misses After, right_misses After, tt),
  )
  operands_apart Or = (
    (l.apart, tt, r_apart),
    (tt, both_disjoint, within_any (λ ρ s. ⊤) (λ ρ s. tt) right.evaluation),
    (l.spare, tt, test_misses),
    (left_misses After, tt, right_misses After),
  )
  operands_apart Comma = (l.apart, r_apart, both_disjoint)
  operands_apart (Binary op) =
      apart_unsequenced n (left ∷ right ∷ [])
      (l.apart, (both_disjoint, tt), (r_apart, tt, tt)) (left_misses Split, (right_misses Split, tt))

  -- within anything that the operands, the test and the operator's own points are within
  operands_within : (R : Path → Side → Type 0) (op : Operator) → R left.path Test → R n.path Split → R n.path After
      → Within R left.evaluation → Within R right.evaluation → Within R (operands op n left right)
  operands_within R And test split after a b = (test, after, a, b, tt)
  operands_within R Or test split after a b = (test, after, a, tt, b)
  operands_within R Comma test split after a b = (a, b)
  operands_within R (Binary op) test split after a b =
      within_unsequenced R n (left ∷ right ∷ []) split (a, (b, tt))

  wide_left : Within (InSteps π 0 (suc (suc k))) left.evaluation
  wide_left =
      within_map (InSteps π 0 k) (InSteps π 0 (suc (suc k)))
      (λ ρ s t. widened π 0 k 0 (suc (suc k)) ρ (omega arith) (omega arith) t) left.evaluation l.within

  wide_right : Within (InSteps π 0 (suc (suc k))) right.evaluation
  wide_right =
      within_map (InSteps π (suc k) (suc (suc k))) (InSteps π 0 (suc (suc k)))
      (λ ρ s t. widened π (suc k) (suc (suc k)) 0 (suc (suc k)) ρ (omega arith) (omega arith) t) right.evaluation r

  operands_in : (op : Operator) → Within (InSteps π 0 (suc (suc k))) (operands op n left right)
  operands_in op =
      let own = widened π k (suc k) 0 (suc (suc k)) n.path (omega arith) (omega arith) here_steps in
      operands_within (InSteps π 0 (suc (suc k))) op
      (widened π 0 k 0 (suc (suc k)) left.path (omega arith) (omega arith) l.at) own own wide_left wide_right

  operands_spare : (op : Operator) → Misses n.path Test (operands op n left right)
  operands_spare op =
      operands_within (λ ρ s. Differ ρ s n.path Test) op
      (λ same. steps_differ π 0 k k left.path n.path (omega arith) l.at here_from same.path)
      (λ same. split_test same.side) (λ same. after_test same.side) (left_misses Test) (right_misses Test) where
        split_test : Split ≡ Test → ⊥
        split_test same = cc

        after_test : After ≡ Test → ⊥
        after_test same = cc

under_part : (π : Path) (p : Part) (low high : ℕ) (ρ : Path) → Between (below π p) low high ρ
    → Between π (step p) (suc (step p)) ρ
under_part π p low high ρ t = in_part π p ρ Before (Deeper (from_steps (below π p) low high 0 ρ (omega arith) t))

-- rows of suffixes ---------------------------------------------------------------------------------------------------

record Row (π : Path) (k : ℕ) (v : Value) : Type 0 where
  apart : Apart v.evaluation
  within : Within (InSteps π 0 (suc k)) v.evaluation

-- the values of arguments from one on
record Given (π : Path) (k : ℕ) (vs : List Value) : Type 0 where
  apart : ValuesApart vs
  within : Each (λ v. Within (λ ρ s. From π k ρ) v.evaluation) vs

earlier : (π : Path) (low k : ℕ) (vs : List Value) → low ≤ k → Each (λ v. Within (λ ρ s. From π k ρ) v.evaluation) vs
    → Each (λ v. Within (λ ρ s. From π low ρ) v.evaluation) vs
earlier π low k [] le each = tt
earlier π low k (v ∷ vs) le each = (
  within_map (λ ρ s. From π k ρ) (λ ρ s. From π low ρ)
      (λ ρ s f. let l = f.at_least in
      record { step = f.step; rest = f.rest; at_least = omega (arith, le, l); is = f.is }) v.evaluation each.0,
  earlier π low k vs le each.1,
)

before_all : (π : Path) (low high k : ℕ) (e : Evaluation) (vs : List Value) → high ≤ k → Within (InSteps π low high) e
    → Each (λ v. Within (λ ρ s. From π k ρ) v.evaluation) vs → Each (λ v. Disjoint e v.evaluation) vs
before_all π low high k e [] le h each = tt
before_all π low high k e (v ∷ vs) le h each = (
  disjoint_by (InSteps π low high) (λ ρ s. From π k ρ) e v.evaluation h each.0
      (λ ρ r σ s x y same. steps_differ π low high k ρ σ le x y same.path),
  before_all π low high k e vs le h each.1,
)

-- what is below a part, as seen from above it
lifted : (π : Path) (p : Part) (vs : List Value)
    → Each (λ v. Within (λ ρ s. From (below π p) 0 ρ) v.evaluation) vs
    → Each (λ v. Within (InSteps π (step p) (suc (step p))) v.evaluation) vs
lifted π p [] each = tt
lifted π p (v ∷ vs) each = (
  within_map (λ ρ s. From (below π p) 0 ρ) (InSteps π (step p) (suc (step p)))
      (λ ρ s f. in_part π p ρ Before (Deeper f)) v.evaluation each.0,
  lifted π p vs each.1,
)

all_from : (π : Path) (low high : ℕ) (vs : List Value) → Each (λ v. Within (InSteps π low high) v.evaluation) vs
    → Each (λ v. Within (λ ρ s. From π low ρ) v.evaluation) vs
all_from π low high [] each = tt
all_from π low high (v ∷ vs) each = (
  within_map (InSteps π low high) (λ ρ s. From π low ρ) (λ ρ s t. from_steps π low high low ρ (omega arith) t)
      v.evaluation each.0,
  all_from π low high vs each.1,
)

all_wide : (R Q : Path → Side → Type 0) → ((ρ : Path) (s : Side) → R ρ s → Q ρ s) → (vs : List Value)
    → Each (λ v. Within R v.evaluation) vs → Each (λ v. Within Q v.evaluation) vs
all_wide R Q f [] each = tt
all_wide R Q f (v ∷ vs) each = (within_map R Q f v.evaluation each.0, all_wide R Q f vs each.1)

called_apart : (function : Option Entry) (v : Value) (vs : List Value) → Apart v.evaluation
    → Each (λ w. Disjoint v.evaluation w.evaluation) vs → ValuesApart vs → ValuesApart (called function v vs)
called_apart None v vs one first rest = (one, first, rest)
called_apart (Some e) v vs one first rest = rest

called_within : (R : Path → Side → Type 0) (function : Option Entry) (v : Value) (vs : List Value)
    → Within R v.evaluation → Each (λ w. Within R w.evaluation) vs
    → Each (λ w. Within R w.evaluation) (called function v vs)
called_within R None v vs first rest = (first, rest)
called_within R (Some e) v vs first rest = rest

-- a call at a suffix, after a value before it, with arguments below the suffix
module _ (π : Path) (k : ℕ) (n : Node) (at_step : n.path ≡ below π (part.Suffix k)) (function : Option Entry)
    (v : Value) (l : Row π k v) (vs : List Value) (a : Given (below π (part.Suffix k)) 0 vs) where
  call_here : Between π (suc k) (suc (suc k)) n.path
  call_here = record { step = suc k; rest = []; at_least = omega arith; less = omega arith; is = at_step }

  inner : Each (λ w. Within (InSteps π (suc k) (suc (suc k))) w.evaluation) vs
  inner = lifted π (part.Suffix k) vs a.within

  value_misses : (side : Side) → Misses n.path side v.evaluation
  value_misses side =
      misses_by (InSteps π 0 (suc k)) n.path side v.evaluation l.within
      (λ ρ s t same. steps_differ π 0 (suc k) (suc k) ρ n.path (omega arith) t
      (from_steps π (suc k) (suc (suc k)) (suc k) n.path (omega arith) call_here) same.path)

  arguments_miss : (side : Side) → Each (λ w. Misses n.path side w.evaluation) vs
  arguments_miss side =
      all_wide (λ ρ s. From (below π (part.Suffix k)) 0 ρ) (λ ρ s. Differ ρ s n.path side)
      (λ ρ s f same. longer (below π (part.Suffix k)) f.step f.rest (sym at_step ∙ (sym same.path ∙ f.is))) vs a.within

  called_miss : (side : Side) → Each (λ w. Misses n.path side w.evaluation) (called function v vs)
  called_miss side =
      called_within (λ ρ s. Differ ρ s n.path side) function v vs (value_misses side) (arguments_miss side)

  whole_apart : Apart (unsequenced n (called function v vs))
  whole_apart =
      apart_unsequenced n (called function v vs)
      (called_apart function v vs l.apart
      (before_all π 0 (suc k) (suc k) v.evaluation vs (omega arith) l.within
      (all_from π (suc k) (suc (suc k)) vs inner)) a.apart) (called_miss Split)

  whole_misses : (side : Side) → (Split ≡ side → ⊥) → Misses n.path side (unsequenced n (called function v vs))
  whole_misses side other =
      within_unsequenced (λ ρ s. Differ ρ s n.path side) n (called function v vs) (λ same. other same.side)
      (called_miss side)

  whole_within : Within (InSteps π 0 (suc (suc k))) (unsequenced n (called function v vs))
  whole_within =
      within_unsequenced (InSteps π 0 (suc (suc k))) n (called function v vs)
      (widened π (suc k) (suc (suc k)) 0 (suc (suc k)) n.path (omega arith) (omega arith) call_here)
      (called_within (InSteps π 0 (suc (suc k))) function v vs
      (within_map (InSteps π 0 (suc k)) (InSteps π 0 (suc (suc k)))
      (λ ρ s t. widened π 0 (suc k) 0 (suc (suc k)) ρ (omega arith) (omega arith) t) v.evaluation l.within)
      (all_wide (InSteps π (suc k) (suc (suc k))) (InSteps π 0 (suc (suc k)))
      (λ ρ s t. widened π (suc k) (suc (suc k)) 0 (suc (suc k)) ρ (omega arith) (omega arith) t) vs inner))

  call_here_wide : InSteps π 0 (suc (suc k)) n.path Before
  call_here_wide = widened π (suc k) (suc (suc k)) 0 (suc (suc k)) n.path (omega arith) (omega arith) call_here

-- a suffix without operands of its own
unchanged : (π : Path) (k : ℕ) (f : Facts) (v : Value) → Row π k v
    → Row π (suc k) (suffixed (below π (part.Suffix k)) f (applied (below π (part.Suffix k)) f v.evaluation))
unchanged π k f v l =
    record {
      apart = apart_applied (below π (part.Suffix k)) f v.evaluation l.apart;
      within =
          within_applied (InSteps π 0 (suc (suc k))) (below π (part.Suffix k)) f v.evaluation
          (within_map (InSteps π 0 (suc k)) (InSteps π 0 (suc (suc k)))
          (λ ρ s t. widened π 0 (suc k) 0 (suc (suc k)) ρ (omega arith) (omega arith) t) v.evaluation l.within);
    }

split_before : Split ≡ Before → ⊥
split_before same = cc

split_after : Split ≡ After → ⊥
split_after same = cc

after_no_test : After ≡ Test → ⊥
after_no_test same = cc

split_no_test : Split ≡ Test → ⊥
split_no_test same = cc

-- the test of a first part is no point of later ones
test_free : (π : Path) (e : Evaluation) (low high : ℕ) → 1 ≤ low → Within (InSteps π low high) e
    → Misses (below π part.Condition) Test e
test_free π e low high le h =
    misses_by (InSteps π low high) (below π part.Condition) Test e h
    (λ ρ s t same. let l = t.at_least in
    let e = same_step π t.step 0 t.rest [] (sym t.is ∙ same.path) in absurd (omega (arith, le, l, e)))

-- expressions --------------------------------------------------------------------------------------------------------

mutual
  pub expression_fits : (π : Path) (x : Typed) → Fits π (evaluation π x)
  expression_fits π (trees.Name f e) = record { within = tt; apart = tt }
  expression_fits π (trees.Constant f) = record { within = tt; apart = tt }
  expression_fits π (trees.Strings f ts) = record { within = tt; apart = tt }
  expression_fits π (trees.SizeofType f written) = record { within = tt; apart = tt }
  expression_fits π (trees.Paren f x) =
      let ρ = below π part.Enclosed in one_operand π part.Enclosed f (evaluation ρ x) (expression_fits ρ x)
  expression_fits π (trees.Unary f op x) =
      let ρ = below π part.Enclosed in one_operand π part.Enclosed f (evaluation ρ x) (expression_fits ρ x)
  expression_fits π (trees.Cast f written x) =
      let ρ = below π part.Enclosed in one_operand π part.Enclosed f (evaluation ρ x) (expression_fits ρ x)
  expression_fits π (trees.Postfix x steps) =
      let ρ = below π part.Primary in
      let fits = expression_fits ρ x in
      row_fits π 0 (record { path = ρ; facts = facts x; evaluation = evaluation ρ x }) steps
      (record { apart = fits.apart; within = within_part π part.Primary (evaluation ρ x) fits })
  expression_fits π (trees.Chain x links) =
      let ρ = below π (part.Operand 0) in
      let fits = expression_fits ρ x in
      let e = evaluation ρ x in
      chain_fits π 0 (record { path = ρ; facts = facts x; evaluation = e }) links
      (record {
        apart = fits.apart;
        within = within_part π (part.Operand 0) e fits;
        spare = no_test ρ e fits;
        at = record { step = 0; rest = []; at_least = omega arith; less = omega arith; is = refl };
      })
  expression_fits π (trees.Conditional f test a b) =
      let ρ = below π part.Condition in
      let σ = below π part.Second in
      let τ = below π part.Third in
      let d = evaluation ρ test in
      let e = evaluation σ a in
      let g = evaluation τ b in
      let tested : Value = record { path = ρ; facts = facts test; evaluation = d } in
      let n : Node = record { path = π; first = f.first } in
      let p = expression_fits ρ test in
      let q = expression_fits σ a in
      let r = expression_fits τ b in
      let wp = within_part π part.Condition d p in
      let wq = within_part π part.Second e q in
      let wr = within_part π part.Third g r in
      applied_fits π f (form.Choice (test_of tested) d e g n)
      (record {
        within = (
          Deeper (record { step = 0; rest = []; at_least = omega arith; is = refl }),
          AtSelf refl after_no_test,
          steps_own π 0 1 d wp,
          steps_own π 1 2 e wq,
          steps_own π 2 3 g wr,
        );
        apart = (
          (p.apart, q.apart, r.apart),
          (
            disjoint_steps π 0 1 1 2 d e (omega arith) wp wq,
            disjoint_steps π 0 1 2 3 d g (omega arith) wp wr,
            disjoint_steps π 1 2 2 3 e g (omega arith) wq wr,
          ),
          (no_test ρ d p, test_free π e 1 2 (omega arith) wq, test_free π g 2 3 (omega arith) wr),
          (misses_self π After 0 1 d wp, misses_self π After 1 2 e wq, misses_self π After 2 3 g wr),
        );
      })
  expression_fits π (trees.Assignment f op a b) =
      let ρ = below π part.Left in
      let σ = below π part.Right in
      let d = evaluation ρ a in
      let e = evaluation σ b in
      let n : Node = record { path = π; first = f.first } in
      let u : Value = record { path = ρ; facts = facts a; evaluation = d } in
      let v : Value = record { path = σ; facts = facts b; evaluation = e } in
      let p = expression_fits ρ a in
      let q = expression_fits σ b in
      let wp = within_part π part.Left d p in
      let wq = within_part π part.Right e q in
      applied_fits π f (unsequenced n (u ∷ v ∷ []))
      (record {
        within =
            within_unsequenced (Own π) n (u ∷ v ∷ []) (AtSelf refl split_no_test)
            (steps_own π 0 1 d wp, (steps_own π 1 2 e wq, tt));
        apart =
            apart_unsequenced n (u ∷ v ∷ [])
            (p.apart, (disjoint_steps π 0 1 1 2 d e (omega arith) wp wq, tt), (q.apart, tt, tt))
            (misses_self π Split 0 1 d wp, (misses_self π Split 1 2 e wq, tt));
      })

  chain_fits : (π : Path) (k : ℕ) (v : Value) (links : Links) → SoFar π (2 * k + 1) v → Fits π (after_links π k v links)
  chain_fits π k v trees.NoLinks l =
      record { within = steps_own π 0 (2 * k + 1) v.evaluation l.within; apart = l.apart }
  chain_fits π k v (trees.Link op x f rest) l =
      let here = below π (part.OperatorOf k) in
      let ρ = below π (part.Operand (suc k)) in
      let e = evaluation ρ x in
      let right : Value = record { path = ρ; facts = facts x; evaluation = e } in
      let n : Node = record { path = here; first = f.first } in
      let fits = expression_fits ρ x in
      let w = within_map (InSteps π (2 * suc k) (suc (2 * suc k))) (InSteps π (suc (2 * k + 1)) (suc (suc (2 * k + 1))))
      (λ ρ s t. widened π (2 * suc k) (suc (2 * suc k)) (suc (2 * k + 1)) (suc (suc (2 * k + 1))) ρ (omega arith)
      (omega arith) t) e (within_part π (part.Operand (suc k)) e fits) in
      let o = operands op n v right in
      let inside = operands_in π (2 * k + 1) n refl v right l w fits.apart op in
      chain_fits π (suc k) (linked op here f v right) rest
      (record {
        apart = apart_applied here f o (operands_apart π (2 * k + 1) n refl v right l w fits.apart op);
        within =
            within_applied (InSteps π 0 (2 * suc k + 1)) here f o
            (within_map (InSteps π 0 (suc (suc (2 * k + 1)))) (InSteps π 0 (2 * suc k + 1))
            (λ ρ s t. widened π 0 (suc (suc (2 * k + 1))) 0 (2 * suc k + 1) ρ (omega arith) (omega arith) t) o inside);
        spare =
            within_applied (λ ρ s. Differ ρ s here Test) here f o
            (operands_spare π (2 * k + 1) n refl v right l w fits.apart op);
        at = record { step = 2 * k + 1; rest = []; at_least = omega arith; less = omega arith; is = refl };
      })

  given_fits : (π : Path) (k : ℕ) (es : Arguments) → Given π k (values_of π k es)
  given_fits π k trees.NoArguments = record { apart = tt; within = tt }
  given_fits π k (trees.Argument x rest) =
      let ρ = below π (part.ArgumentOf k) in
      let e = evaluation ρ x in
      let fits = expression_fits ρ x in
      let w = within_part π (part.ArgumentOf k) e fits in
      let later = given_fits π (suc k) rest in
      record {
        apart = (
          fits.apart,
          before_all π k (suc k) (suc k) e (values_of π (suc k) rest) (omega arith) w later.within,
          later.apart,
        );
        within = (
          within_map (InSteps π k (suc k)) (λ ρ s. From π k ρ)
              (λ ρ s t. from_steps π k (suc k) k ρ (omega arith) t) e w,
          earlier π k (suc k) (values_of π (suc k) rest) (omega arith) later.within,
        );
      }

  row_fits : (π : Path) (k : ℕ) (v : Value) (steps : Steps) → Row π k v → Fits π (after_steps π k v steps)
  row_fits π k v trees.NoSteps l =
      record { within = steps_own π 0 (suc k) v.evaluation l.within; apart = l.apart }
  row_fits π k v (trees.Index opening x f rest) l =
      let here = below π (part.Suffix k) in
      let ρ = below here part.IndexOf in
      let n : Node = record { path = here; first = f.first } in
      let fits = expression_fits ρ x in
      let index : Value = record { path = ρ; facts = facts x; evaluation = evaluation ρ x } in
      let w = within_part here part.IndexOf (evaluation ρ x) fits in
      let one : Given here 0 (index ∷ []) =
      record {
        apart = (fits.apart, tt, tt);
        within = (
          within_map (InSteps here 0 1) (λ ρ s. From here 0 ρ)
              (λ ρ s t. from_steps here 0 1 0 ρ (omega arith) t) (evaluation ρ x) w,
          tt,
        );
      } in
      let e = unsequenced n (v ∷ index ∷ []) in
      row_fits π (suc k) (suffixed here f (applied here f e)) rest
      (record {
        apart = apart_applied here f e (whole_apart π k n refl None v l (index ∷ []) one);
        within =
            within_applied (InSteps π 0 (suc (suc k))) here f e (whole_within π k n refl None v l (index ∷ []) one);
      })
  row_fits π k v (trees.Call opening function es f rest) l =
      let here = below π (part.Suffix k) in
      let n : Node = record { path = here; first = f.first } in
      let vs = values_of here 0 es in
      let given = given_fits here 0 es in
      let e = unsequenced n (called function v vs) in
      row_fits π (suc k) (suffixed here f (form.Call n function e)) rest
      (record {
        apart = (
          whole_apart π k n refl function v l vs given,
          whole_misses π k n refl function v l vs given Before split_before,
          whole_misses π k n refl function v l vs given After split_after,
        );
        within = (
          call_here_wide π k n refl function v l vs given,
          call_here_wide π k n refl function v l vs given,
          whole_within π k n refl function v l vs given,
        );
      })
  row_fits π k v (trees.Access is_dot name m f rest) l =
      row_fits π (suc k) (suffixed (below π (part.Suffix k)) f (applied (below π (part.Suffix k)) f v.evaluation)) rest
      (unchanged π k f v l)
  row_fits π k v (trees.PostIncrement t op f rest) l =
      row_fits π (suc k) (suffixed (below π (part.Suffix k)) f (applied (below π (part.Suffix k)) f v.evaluation)) rest
      (unchanged π k f v l)

-- initialisers and declarators ---------------------------------------------------------------------------------------

fits_if_static : (b : Bool) (π : Path) (e : Evaluation) → Fits π e → Fits π (if b then form.Nothing else e)
fits_if_static true π e fits = record { within = tt; apart = tt }
fits_if_static false π e fits = fits

-- elements or declarators from one on
pub record Listed (π : Path) (k : ℕ) (e : Evaluation) : Type 0 where
  pub within : Within (λ ρ s. From π k ρ) e
  pub apart : Apart e

with_first : (π : Path) (k : ℕ) (d e : Evaluation) → Within (InSteps π k (suc k)) d → Apart d → Listed π (suc k) e
    → Listed π k (form.Then d e)
with_first π k d e w apart later =
    record {
      within = (
        within_map (InSteps π k (suc k)) (λ ρ s. From π k ρ) (λ ρ s t. from_steps π k (suc k) k ρ (omega arith) t) d w,
        within_map (λ ρ s. From π (suc k) ρ) (λ ρ s. From π k ρ)
            (λ ρ s f. let l = f.at_least in
            record { step = f.step; rest = f.rest; at_least = omega (arith, l); is = f.is }) e later.within,
      );
      apart = (
        apart,
        later.apart,
        disjoint_by (InSteps π k (suc k)) (λ ρ s. From π (suc k) ρ) d e w later.within
            (λ ρ r σ s x y same. steps_differ π k (suc k) (suc k) ρ σ (omega arith) x y same.path),
      );
    }

from_own : (π : Path) (k : ℕ) (e : Evaluation) → Within (λ ρ s. From π k ρ) e → Within (Own π) e
from_own π k e h =
    within_map (λ ρ s. From π k ρ) (Own π)
    (λ ρ s f. Deeper (record { step = f.step; rest = f.rest; at_least = omega arith; is = f.is })) e h

mutual
  initialising_fits : (π : Path) (i : TypedInitialiser) → Fits π (initialising π i)
  initialising_fits π (bodies.Value f x) =
      let fits = expression_fits π x in
      let e = evaluation π x in
      fits_if_static f.static π (form.Then e (form.Does (form.Initialise π)))
      (record { within = (fits.within, tt); apart = (fits.apart, tt, tt) })
  initialising_fits π (bodies.Braces f is) =
      let inner = elements_fit π 0 is in
      let e = initialising_from π 0 is in
      fits_if_static f.static π (form.Then (form.Does (form.Clear π)) e)
      (record {
        within = (tt, from_own π 0 e inner.within);
        apart = (tt, inner.apart, within_any (λ ρ s. ⊤) (λ ρ s. tt) e);
      })

  elements_fit : (π : Path) (k : ℕ) (is : TypedInitialisers) → Listed π k (initialising_from π k is)
  elements_fit π k bodies.NoInitialisers = record { within = tt; apart = tt }
  elements_fit π k (bodies.Initialiser ds i rest) =
      let ρ = below π (part.ElementOf k) in
      let fits = initialising_fits ρ i in
      with_first π k (initialising ρ i) (initialising_from π (suc k) rest)
      (within_part π (part.ElementOf k) (initialising ρ i) fits) fits.apart (elements_fit π (suc k) rest)

forgotten_fits : (b : Bool) (π : Path) → Fits π (if b then form.Does (form.Forget π) else form.Nothing)
forgotten_fits true π = record { within = tt; apart = tt }
forgotten_fits false π = record { within = tt; apart = tt }

declared_fits : (π : Path) (f : DeclaredFacts) (i : Option TypedInitialiser) → Fits π (declared π f i)
declared_fits π f None = forgotten_fits (is_automatic f.entry.meaning) π
declared_fits π f (Some i) = initialising_fits π i

pub declarators_fit : (π : Path) (k : ℕ) (ds : TypedDeclarators) → Listed π k (declaring π k ds)
declarators_fit π k bodies.NoDeclared = record { within = tt; apart = tt }
declarators_fit π k (bodies.Declared written f i rest) =
    let ρ = below π (part.InitialiserOf k) in
    let fits = declared_fits ρ f i in
    with_first π k (declared ρ f i) (declaring π (suc k) rest)
    (within_part π (part.InitialiserOf k) (declared ρ f i) fits) fits.apart (declarators_fit π (suc k) rest)

pub declaring_fits : (π : Path) (ds : TypedDeclarators) → Fits π (declaring π 0 ds)
declaring_fits π ds =
    let all = declarators_fit π 0 ds in
    record { within = from_own π 0 (declaring π 0 ds) all.within; apart = all.apart }
