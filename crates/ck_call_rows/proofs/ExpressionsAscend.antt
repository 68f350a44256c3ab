-- The calls of an expression are listed in the order of their paths, below any path, as those of a function are
-- (ck_prog, `calls_ascend`).
use Rattle.std.specs.Prelude.{ℕ, suc, ◌*◌, ◌<◌, ◌≤◌, Bool, true, false, List, [], ◌∷◌, ◌++◌, if◌then◌else◌}
use Rattle.std.proofs.Common.{◌≡◌, refl, sym, ◌∙◌, ap, subst, arith}
use Rattle.ck_prog.specs.Calls.{CallSite, is_size, row_of, followed, calls_in, calls_in_links, calls_in_arguments}
use Rattle.ck_prog.specs.Calls.{calls_in_steps}
use Rattle.ck_prog.specs.PathOrder.{IsBefore, Whole, Smaller, Deeper, Each, Ascend}
use Rattle.ck_prog.specs.Paths as part
use Rattle.ck_prog.specs.Paths.{Path, Part, step, below}
use Rattle.ck_prog.specs.TypedTrees as trees
use Rattle.ck_prog.specs.TypedTrees.{Typed, Links, Arguments, Steps}

-- paths --------------------------------------------------------------------------------------------------------------

fork : (π : Path) (j k : ℕ) (r s : Path) → j < k → IsBefore (π ++ (j ∷ r)) (π ++ (k ∷ s))
fork [] j k r s less = Smaller j k r s less
fork (n ∷ π) j k r s less = Deeper n (π ++ (j ∷ r)) (π ++ (k ∷ s)) (fork π j k r s less)

longer : (π : Path) (k : ℕ) (r : Path) → IsBefore π (π ++ (k ∷ r))
longer [] k r = Whole k r
longer (n ∷ π) k r = Deeper n π (π ++ (k ∷ r)) (longer π k r)

deeper_path : (π : Path) (k : ℕ) (rest : Path) → (π ++ (k ∷ [])) ++ rest ≡ π ++ (k ∷ rest)
deeper_path [] k rest = refl
deeper_path (n ∷ π) k rest = ap (λ r. n ∷ r) (deeper_path π k rest)

-- a call in the part of this step, or in a part of this step or a later one
pub record Under (π : Path) (k : ℕ) (c : CallSite) : Type 0 where
  pub rest : Path
  pub path_is : c.path ≡ π ++ (k ∷ rest)

pub record From (π : Path) (low : ℕ) (c : CallSite) : Type 0 where
  pub first : ℕ
  pub rest : Path
  pub at_least : low ≤ first
  pub path_is : c.path ≡ π ++ (first ∷ rest)

-- calls that ascend, all in one part; all in parts from a step on
pub record Within (π : Path) (k : ℕ) (cs : List CallSite) : Type 0 where
  pub each : Each (Under π k) cs
  pub ascend : Ascend cs

pub record Ordered (π : Path) (low : ℕ) (cs : List CallSite) : Type 0 where
  pub each : Each (From π low) cs
  pub ascend : Ascend cs

none : (π : Path) (low : ℕ) → Ordered π low []
none π low = record { each = tt; ascend = tt }

under_of : (π : Path) (k : ℕ) (cs : List CallSite) → Each (From (π ++ (k ∷ [])) 0) cs → Each (Under π k) cs
under_of π k [] each = tt
under_of π k (c ∷ cs) each =
    let rest = each.0.first ∷ each.0.rest in
    (record { rest = rest; path_is = each.0.path_is ∙ deeper_path π k rest }, under_of π k cs each.1)

-- what is ordered below a part is within it
in_part : (π : Path) (p : Part) (cs : List CallSite) → Ordered (below π p) 0 cs → Within π (step p) cs
in_part π p cs o = record { each = under_of π (step p) cs o.each; ascend = o.ascend }

from_of : (π : Path) (k low : ℕ) (cs : List CallSite) → low ≤ k → Each (Under π k) cs → Each (From π low) cs
from_of π k low [] less each = tt
from_of π k low (c ∷ cs) less each = (
  record { first = k; rest = each.0.rest; at_least = less; path_is = each.0.path_is },
  from_of π k low cs less each.1,
)

widened : (π : Path) (k low : ℕ) (cs : List CallSite) → low ≤ k → Within π k cs → Ordered π low cs
widened π k low cs less w = record { each = from_of π k low cs less w.each; ascend = w.ascend }

-- one part alone
only : (π : Path) (p : Part) (cs : List CallSite) → Ordered (below π p) 0 cs → Ordered π 0 cs
only π p cs o = widened π (step p) 0 cs (omega arith) (in_part π p cs o)

both_each : (P : CallSite → Type 0) (xs ys : List CallSite) → Each P xs → Each P ys → Each P (xs ++ ys)
both_each P [] ys left right = right
both_each P (x ∷ xs) ys left right = (left.0, both_each P xs ys left.1 right)

later_each : (π : Path) (low high : ℕ) (cs : List CallSite) → low ≤ high → Each (From π high) cs → Each (From π low) cs
later_each π low high [] less each = tt
later_each π low high (c ∷ cs) less each =
    let first = each.0 in (
      record {
        first = first.first;
        rest = first.rest;
        at_least = omega (arith, less, first.at_least);
        path_is = first.path_is;
      },
      later_each π low high cs less each.1,
    )

before_each : (π : Path) (k low : ℕ) (c : CallSite) (ys : List CallSite) → k < low → Under π k c → Each (From π low) ys
    → Each (λ d. IsBefore c.path d.path) ys
before_each π k low c [] less u each = tt
before_each π k low c (y ∷ ys) less u each = (
  subst (λ p. IsBefore p y.path) (sym u.path_is)
      (subst (IsBefore (π ++ (k ∷ u.rest))) (sym each.0.path_is)
      (fork π k each.0.first u.rest each.0.rest (omega (arith, less, each.0.at_least)))),
  before_each π k low c ys less u each.1,
)

both_ascend : (π : Path) (k low : ℕ) (xs ys : List CallSite) → k < low → Within π k xs → Ordered π low ys
    → Ascend (xs ++ ys)
both_ascend π k low [] ys less w o = o.ascend
both_ascend π k low (x ∷ xs) ys less w o = (
  both_each (λ d. IsBefore x.path d.path) xs ys w.ascend.0 (before_each π k low x ys less w.each.0 o.each),
  both_ascend π k low xs ys less (record { each = w.each.1; ascend = w.ascend.1 }) o,
)

-- a part, and then later ones
joined : (π : Path) (k low : ℕ) (xs ys : List CallSite) → k < low → Within π k xs → Ordered π low ys
    → Ordered π k (xs ++ ys)
joined π k low xs ys less w o =
    record {
      each =
          both_each (From π k) xs ys (from_of π k k xs (omega arith) w.each)
          (later_each π k low ys (omega (arith, less)) o.each);
      ascend = both_ascend π k low xs ys less w o;
    }

then_part : (π : Path) (p : Part) (low : ℕ) (xs ys : List CallSite) → step p < low → Ordered (below π p) 0 xs
    → Ordered π low ys → Ordered π (step p) (xs ++ ys)
then_part π p low xs ys less o rest = joined π (step p) low xs ys less (in_part π p xs o) rest

last_part : (π : Path) (p : Part) (xs : List CallSite) → Ordered (below π p) 0 xs → Ordered π (step p) xs
last_part π p xs o = widened π (step p) (step p) xs (omega arith) (in_part π p xs o)

later : (π : Path) (low high : ℕ) (xs : List CallSite) → low ≤ high → Ordered π high xs → Ordered π low xs
later π low high xs less o = record { each = later_each π low high xs less o.each; ascend = o.ascend }

-- a call before the calls in its arguments
after_call : (π : Path) (xs : List CallSite) (low : ℕ) → Each (From π low) xs → Each (λ d. IsBefore π d.path) xs
after_call π [] low each = tt
after_call π (x ∷ xs) low each =
    (subst (IsBefore π) (sym each.0.path_is) (longer π each.0.first each.0.rest), after_call π xs low each.1)

with_call : (π : Path) (p : Part) (c : CallSite) (xs : List CallSite) → c.path ≡ below π p → Ordered (below π p) 0 xs
    → Within π (step p) (c ∷ xs)
with_call π p c xs e o =
    record {
      each = (record { rest = []; path_is = e }, under_of π (step p) xs o.each);
      ascend = (subst (λ q. Each (λ d. IsBefore q d.path) xs) (sym e) (after_call (below π p) xs 0 o.each), o.ascend);
    }

-- expressions --------------------------------------------------------------------------------------------------------

evaluated_or_not : (π : Path) (sized : Bool) (cs : List CallSite) → Ordered π 0 cs
    → Ordered π 0 (if sized then [] else cs)
evaluated_or_not π true cs o = none π 0
evaluated_or_not π false cs o = o

mutual
  pub expression_ascends : (π : Path) (x : Typed) → Ordered π 0 (calls_in π x)
  expression_ascends π (trees.Name f e) = none π 0
  expression_ascends π (trees.Constant f) = none π 0
  expression_ascends π (trees.Strings f ts) = none π 0
  expression_ascends π (trees.Paren f x) = only π part.Enclosed _ (expression_ascends (below π part.Enclosed) x)
  expression_ascends π (trees.Postfix x steps) = then_part π part.Primary 1 _ _ (omega arith)
      (expression_ascends (below π part.Primary) x) (steps_ascend π x trees.NoSteps 0 steps)
  expression_ascends π (trees.Unary f op x) = evaluated_or_not π (is_size op) (calls_in (below π part.Enclosed) x)
      (only π part.Enclosed _ (expression_ascends (below π part.Enclosed) x))
  expression_ascends π (trees.SizeofType f written) = none π 0
  expression_ascends π (trees.Cast f written x) =
      only π part.Enclosed _ (expression_ascends (below π part.Enclosed) x)
  expression_ascends π (trees.Chain x links) = then_part π (part.Operand 0) 2 _ _ (omega arith)
      (expression_ascends (below π (part.Operand 0)) x) (links_ascend π 1 links)
  expression_ascends π (trees.Conditional f test a b) = then_part π part.Condition 1 _ _ (omega arith)
      (expression_ascends (below π part.Condition) test) (then_part π part.Second 2 _ _ (omega arith)
      (expression_ascends (below π part.Second) a)
      (last_part π part.Third _ (expression_ascends (below π part.Third) b)))
  expression_ascends π (trees.Assignment f op a b) = then_part π part.Left 1 _ _ (omega arith)
      (expression_ascends (below π part.Left) a)
      (last_part π part.Right _ (expression_ascends (below π part.Right) b))

  pub links_ascend : (π : Path) (k : ℕ) (links : Links) → Ordered π (2 * k) (calls_in_links π k links)
  links_ascend π k trees.NoLinks = none π (2 * k)
  links_ascend π k (trees.Link op x f rest) =
      then_part π (part.Operand k) (2 * suc k) _ _ (omega arith)
      (expression_ascends (below π (part.Operand k)) x) (links_ascend π (suc k) rest)

  pub arguments_ascend : (π : Path) (k : ℕ) (es : Arguments) → Ordered π k (calls_in_arguments π k es)
  arguments_ascend π k trees.NoArguments = none π k
  arguments_ascend π k (trees.Argument x rest) =
      then_part π (part.ArgumentOf k) (suc k) _ _ (omega arith) (expression_ascends (below π (part.ArgumentOf k)) x)
      (arguments_ascend π (suc k) rest)

  pub steps_ascend : (π : Path) (x : Typed) (before : Steps) (k : ℕ) (steps : Steps)
      → Ordered π (suc k) (calls_in_steps π x before k steps)
  steps_ascend π x before k trees.NoSteps = none π (suc k)
  steps_ascend π x before k (trees.Index opening i f rest) =
      let more = followed before (trees.Index opening i f trees.NoSteps) in
      then_part π (part.Suffix k) (suc (suc k)) _ _ (omega arith) (only (below π (part.Suffix k)) part.IndexOf _
      (expression_ascends (below (below π (part.Suffix k)) part.IndexOf) i)) (steps_ascend π x more (suc k) rest)
  steps_ascend π x before k (trees.Call opening function es f rest) =
      let more = followed before (trees.Call opening function es f trees.NoSteps) in
      let call : CallSite = record {
        path = below π (part.Suffix k);
        first = f.first;
        called = row_of x before;
        function = function;
        arguments = es;
      } in
      let inner = calls_in_arguments (below π (part.Suffix k)) 0 es in
      joined π (suc k) (suc (suc k)) (call ∷ inner) (calls_in_steps π x more (suc k) rest) (omega arith)
      (with_call π (part.Suffix k) call inner refl (arguments_ascend (below π (part.Suffix k)) 0 es))
      (steps_ascend π x more (suc k) rest)
  steps_ascend π x before k (trees.Access is_dot name m f rest) =
      let more = followed before (trees.Access is_dot name m f trees.NoSteps) in
      later π (suc k) (suc (suc k)) _ (omega arith) (steps_ascend π x more (suc k) rest)
  steps_ascend π x before k (trees.PostIncrement t op f rest) =
      let more = followed before (trees.PostIncrement t op f trees.NoSteps) in
      later π (suc k) (suc (suc k)) _ (omega arith) (steps_ascend π x more (suc k) rest)
