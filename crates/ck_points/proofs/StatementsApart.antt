-- The points of a function are at different places: those of statements are at or below their paths.
use Rattle.std.proofs.Common.{◌≡◌, sym, ◌∙◌, ap, arith}
use Rattle.std.specs.Prelude.{◌≤◌, ◌≢◌, ℕ, zero, suc, Bool, true, false, List, [], ◌∷◌}
use Rattle.std.specs.Prelude.{AllPairs, Option, Some, None, if◌then◌else◌, refl}
use Rattle.std.specs.List.{AllByRecursion as Each}
use Rattle.std.proofs.lemmas.List.Elements.{All-from_recursion}
use Rattle.ck_base.specs.declared.tokens.Token.{Token}
use Rattle.ck_prog.specs.Paths as part
use Rattle.ck_prog.specs.Paths.{Path, Part, step, below}
use Rattle.ck_prog.specs.TypedBodies as bodies
use Rattle.ck_prog.specs.TypedBodies.{TypedDeclaration, TypedStart, TypedStatement, TypedItems, TypedFunction}
use Rattle.ck_prog.specs.TypedTrees.{Typed, facts}
use Rattle.ck_points.specs.Evaluations.{Evaluation, Does, Then, Give, evaluation}
use Rattle.ck_points.specs.Functions.{inside, plain_body, pair_body, pair_left, exit, status_in, points}
use Rattle.ck_points.specs.Initialising.{declaring, has_initialiser}
use Rattle.ck_points.specs.Labels.{labelled, marks, switch_edges, labels_from}
use Rattle.ck_points.specs.Laws.{PlacesDiffer}
use Rattle.ck_points.specs.Passages.{Passage, nothing, in_turn, point, either_way, passage}
use Rattle.ck_points.specs.Places.{Side, Before, Enter, Test, Leave, After, place, before, test, after, Passes}
use Rattle.ck_points.specs.Places.{Point, Way, Edge, leads}
use Rattle.ck_points.specs.Statements.{Jumps, jumped, in_switch, in_loop, evaluated, around, tested, decided}
use Rattle.ck_points.specs.Statements.{switched}
use Rattle.ck_points.specs.Statements.{maybe_decided, maybe_evaluated, declaration, started, statement, items}
use Rattle.ck_points.proofs.ExpressionsApart.{Between, From, Own, AtSelf, Deeper, Fits, in_part, from_steps}
use Rattle.ck_points.proofs.ExpressionsApart.{steps_differ, longer, no_test}
use Rattle.ck_points.proofs.ExpressionsApart.{expression_fits, declarators_fit, declaring_fits}
use Rattle.ck_points.proofs.OrdinaryPoints.{Ordinary, evaluation_ordinary}
use Rattle.ck_points.proofs.PassagesStay.{each_append}
use Rattle.ck_points.proofs.PointsApart.{each_map, Other, Distinct, distinct_append, points_within}
use Rattle.ck_points.proofs.PointsApart.{evaluation_distinct, no_point_at}

-- at a path or below it
data Under (π ρ : Path) : Type 0 where
  Itself : ρ ≡ π → Under π ρ
  Inside : From π 0 ρ → Under π ρ

-- different places, all of them at a path or below it; all below it, by steps from one on. Nothing happens at the
-- points, or a call, which has one edge.
record At (π : Path) (p : Passage) : Type 0 where
  distinct : Distinct p.points
  under : Each (λ q. Under π q.place.path) p.points
  ordinary : Each Ordinary p.points

pub record Below (π : Path) (low : ℕ) (p : Passage) : Type 0 where
  pub distinct : Distinct p.points
  pub from : Each (λ q. From π low q.place.path) p.points
  pub ordinary : Each Ordinary p.points

no_test_before : Before ≡ Test → ⊥
no_test_before same = cc

in_step : (π : Path) (p : Part) (ρ : Path) → Under (below π p) ρ → Between π (step p) (suc (step p)) ρ
in_step π p ρ (Itself is) = in_part π p ρ Before (AtSelf is no_test_before)
in_step π p ρ (Inside f) = in_part π p ρ Before (Deeper f)

part_below : (π : Path) (p : Part) (s : Passage) → At (below π p) s → Below π (step p) s
part_below π p s at =
    record {
      distinct = at.distinct;
      from =
          each_map (λ q. Under (below π p) q.place.path) (λ q. From π (step p) q.place.path)
          (λ q u. from_steps π (step p) (suc (step p)) (step p) q.place.path (omega arith)
          (in_step π p q.place.path u)) s.points at.under;
      ordinary = at.ordinary;
    }

-- a part, and then what is at later steps
then_below : (π : Path) (p : Part) (bound : ℕ) (a b : Passage) → suc (step p) ≤ bound → At (below π p) a
    → Below π bound b → Below π (step p) (in_turn a b)
then_below π p bound a b le first later =
    record {
      distinct =
          distinct_append a.points b.points first.distinct later.distinct
          (each_map (λ r. From π bound r.place.path) (λ r. Each (λ q. Other q r) a.points)
          (λ r f.
          each_map (λ q. Under (below π p) q.place.path) (λ q. Other q r)
          (λ q u same.
          steps_differ π (step p) (suc (step p)) bound q.place.path r.place.path le (in_step π p q.place.path u) f
          (ap (λ x. x.path) same)) a.points first.under) b.points later.from);
      from =
          each_append (λ q. From π (step p) q.place.path) a.points b.points (part_below π p a first).from
          (each_map (λ r. From π bound r.place.path) (λ r. From π (step p) r.place.path)
          (λ r f. let l = f.at_least in
          record { step = f.step; rest = f.rest; at_least = omega (arith, le, l); is = f.is }) b.points later.from);
      ordinary = each_append Ordinary a.points b.points first.ordinary later.ordinary;
    }

nothing_at : (π : Path) (next : Way) → At π (nothing next)
nothing_at π next = record { distinct = tt; under = tt; ordinary = tt }

nothing_below : (π : Path) (low : ℕ) (next : Way) → Below π low (nothing next)
nothing_below π low next = record { distinct = tt; from = tt; ordinary = tt }

from_start : (π : Path) (low : ℕ) (s : Passage) → Below π low s → Below π 0 s
from_start π low s b =
    record {
      distinct = b.distinct;
      from =
          each_map (λ q. From π low q.place.path) (λ q. From π 0 q.place.path)
          (λ q f. record { step = f.step; rest = f.rest; at_least = omega arith; is = f.is }) s.points b.from;
      ordinary = b.ordinary;
    }

-- parts of statements ------------------------------------------------------------------------------------------------

own_under : (π ρ : Path) (s : Side) → Own π ρ s → Under π ρ
own_under π ρ s (AtSelf is other) = Itself is
own_under π ρ s (Deeper f) = Inside f

fitting_at : (π : Path) (e : Evaluation) (next : Way) → Fits π e → At π (passage [] e next)
fitting_at π e next fits =
    record {
      distinct = evaluation_distinct [] e next fits.apart;
      under =
          each_map (λ q. Own π q.place.path q.place.side) (λ q. Under π q.place.path)
          (λ q o. own_under π q.place.path q.place.side o) (passage [] e next).points
          (points_within (Own π) [] e next fits.within);
      ordinary = evaluation_ordinary [] e next;
    }

evaluated_at : (π : Path) (x : Typed) (next : Way) → At π (evaluated π x next)
evaluated_at π x next = fitting_at π (evaluation π x) next (expression_fits π x)

tested_at : (π : Path) (x : Typed) (es : List Edge) → At π (tested π x es)
tested_at π x es =
    let on = leads (test π) in
    let a = evaluated_at π x on in
    let q = point (test π) Passes (facts x).first es in
    record {
      distinct =
          distinct_append (evaluated π x on).points q.points a.distinct (tt, tt)
          (no_point_at [] (evaluation π x) on π [] Test (no_test π (evaluation π x) (expression_fits π x)), tt);
      under =
          each_append (λ q. Under π q.place.path) (evaluated π x on).points q.points a.under (Itself refl, tt);
      ordinary = each_append Ordinary (evaluated π x on).points q.points a.ordinary (tt, tt);
    }

decided_at : (π : Path) (x : Typed) (holds fails : Way) → At π (decided π x holds fails)
decided_at π x holds fails = tested_at π x (either_way (facts x).sense.constancy holds fails)

maybe_decided_at : (π : Path) (x : Option Typed) (holds fails : Way) → At π (maybe_decided π x holds fails)
maybe_decided_at π None holds fails = nothing_at π holds
maybe_decided_at π (Some x) holds fails = decided_at π x holds fails

maybe_evaluated_at : (π : Path) (x : Option Typed) (next : Way) → At π (maybe_evaluated π x next)
maybe_evaluated_at π None next = nothing_at π next
maybe_evaluated_at π (Some x) next = evaluated_at π x next

-- the two points round what is below them
not_below : (π : Path) (side : Side) (q : Point) → From π 0 q.place.path → q.place ≡ place π [] side → ⊥
not_below π side q f same = longer π f.step f.rest (sym (ap (λ p. p.path) same) ∙ f.is)

before_not_after : (π : Path) → before π ≡ after π → ⊥
before_not_after π same = let e : Before ≡ After = ap (λ p. p.side) same in cc

around_at : (π : Path) (first : Token) (s : Passage) (next : Way) → Below π 0 s → At π (around π first s next)
around_at π first s next b =
    record {
      distinct = (
        each_append (λ r. before π ≡ r.place → ⊥) s.points _
            (each_map (λ q. From π 0 q.place.path) (λ r. before π ≡ r.place → ⊥)
            (λ q f same. not_below π Before q f (sym same)) s.points b.from) (before_not_after π, tt),
        distinct_append s.points _ b.distinct (tt, tt) (
          each_map (λ q. From π 0 q.place.path) (λ q. q.place ≡ after π → ⊥)
              (λ q f same. not_below π After q f same) s.points b.from,
          tt,
        ),
      );
      under = (
        Itself refl,
        each_append (λ q. Under π q.place.path) s.points _
            (each_map (λ q. From π 0 q.place.path) (λ q. Under π q.place.path) (λ q f. Inside f) s.points b.from)
            (Itself refl, tt),
      );
      ordinary = (tt, each_append Ordinary s.points _ b.ordinary (tt, tt));
    }

either_at : (b : Bool) (π : Path) (p q : Passage) → At π p → At π q → At π (if b then p else q)
either_at true π p q left right = left
either_at false π p q left right = right

-- the initialisers of a declaration are below it
initialised_below : (π : Path) (ds : bodies.TypedDeclarators) (next : Way)
    → Below π 0 (passage [] (declaring π 0 ds) next)
initialised_below π ds next =
    let e = declaring π 0 ds in
    let all = declarators_fit π 0 ds in
    record {
      distinct = evaluation_distinct [] e next all.apart;
      from = points_within (λ ρ s. From π 0 ρ) [] e next all.within;
      ordinary = evaluation_ordinary [] e next;
    }

declaration_at : (π : Path) (d : TypedDeclaration) (next : Way) → At π (declaration π d next)
declaration_at π (bodies.Declaration first written ds) next =
    let e = declaring π 0 ds in
    let s = passage [] e (leads (after π)) in
    either_at (has_initialiser ds) π (around π first s next) (passage [] e next)
    (around_at π first s next (initialised_below π ds (leads (after π)))) (fitting_at π e next (declaring_fits π ds))

started_at : (π : Path) (start : TypedStart) (next : Way) → At π (started π start next)
started_at π bodies.StartEmpty next = nothing_at π next
started_at π (bodies.StartExpression x) next = evaluated_at π x next
started_at π (bodies.StartDeclaration d) next = declaration_at π d next

-- statements ---------------------------------------------------------------------------------------------------------

mutual
  statement_at : (j : Jumps) (π : Path) (s : TypedStatement) (next : Way) → At π (statement j π s next)
  statement_at j π (bodies.Block first is) next =
      let end = leads (after π) in around_at π first (items j π 0 is end) next (items_below j π 0 is end)
  statement_at j π (bodies.Empty first) next =
      let end = leads (after π) in around_at π first (nothing end) next (nothing_below π 0 end)
  statement_at j π (bodies.ExpressionStatement x) next =
      let p = below π part.Evaluated in
      let end = leads (after π) in
      around_at π (facts x).first (evaluated p x end) next
      (part_below π part.Evaluated (evaluated p x end) (evaluated_at p x end))
  statement_at j π (bodies.If keyword x s) next =
      let p = below π part.Controlled in
      let q = below π part.Controlling in
      let end = leads (after π) in
      let test = decided q x (leads (before p)) end in
      let body = statement j p s end in
      around_at π keyword (in_turn test body) next
      (then_below π part.Controlling 1 test body (omega arith) (decided_at q x (leads (before p)) end)
      (part_below π part.Controlled body (statement_at j p s end)))
  statement_at j π (bodies.IfElse keyword x s t) next =
      let p = below π part.Controlled in
      let o = below π part.Otherwise in
      let q = below π part.Controlling in
      let end = leads (after π) in
      let test = decided q x (leads (before p)) (leads (before o)) in
      let holds = statement j p s end in
      let fails = statement j o t end in
      around_at π keyword (in_turn test (in_turn holds fails)) next
      (then_below π part.Controlling 1 test (in_turn holds fails) (omega arith)
      (decided_at q x (leads (before p)) (leads (before o)))
      (then_below π part.Controlled 2 holds fails (omega arith) (statement_at j p s end)
      (part_below π part.Otherwise fails (statement_at j o t end))))
  statement_at j π (bodies.Switch keyword x s) next =
      let p = below π part.Controlled in
      let q = below π part.Controlling in
      let end = leads (after π) in
      let test = switched q x (marks p s) end in
      let body = statement (in_switch j end) p s end in
      around_at π keyword (in_turn test body) next
      (then_below π part.Controlling 1 test body (omega arith)
      (tested_at q x (switch_edges (facts x).sense.constancy (marks p s) end))
      (part_below π part.Controlled body (statement_at (in_switch j end) p s end)))
  statement_at j π (bodies.While keyword x s) next =
      let p = below π part.Controlled in
      let q = below π part.Controlling in
      let end = leads (after π) in
      let again = decided q x (leads (before p)) end in
      let inner = in_loop j end again.enters in
      let body = statement inner p s again.enters in
      around_at π keyword (in_turn again body) next
      (then_below π part.Controlling 1 again body (omega arith) (decided_at q x (leads (before p)) end)
      (part_below π part.Controlled body (statement_at inner p s again.enters)))
  statement_at j π (bodies.Do keyword s x) next =
      let p = below π part.DoBody in
      let q = below π part.DoTest in
      let end = leads (after π) in
      let again = decided q x (leads (before p)) end in
      let inner = in_loop j end again.enters in
      let body = statement inner p s again.enters in
      around_at π keyword (in_turn body again) next
      (then_below π part.DoBody 1 body again (omega arith) (statement_at inner p s again.enters)
      (part_below π part.DoTest again (decided_at q x (leads (before p)) end)))
  statement_at j π (bodies.For keyword start x step s) next =
      let p = below π part.ForBody in
      let q = below π part.ForTest in
      let r = below π part.ForStep in
      let end = leads (after π) in
      let again = maybe_decided q x (leads (before p)) end in
      let stepped = maybe_evaluated r step again.enters in
      let inner = in_loop j end stepped.enters in
      let begun = started (below π part.ForStart) start again.enters in
      let body = statement inner p s stepped.enters in
      around_at π keyword (in_turn begun (in_turn again (in_turn stepped body))) next
      (then_below π part.ForStart 1 begun (in_turn again (in_turn stepped body)) (omega arith)
      (started_at (below π part.ForStart) start again.enters)
      (then_below π part.ForTest 2 again (in_turn stepped body) (omega arith)
      (maybe_decided_at q x (leads (before p)) end)
      (then_below π part.ForStep 3 stepped body (omega arith) (maybe_evaluated_at r step again.enters)
      (part_below π part.ForBody body (statement_at inner p s stepped.enters)))))
  statement_at j π (bodies.Case keyword in_switch x v s) next =
      let p = below π part.CaseBody in
      let end = leads (after π) in
      let body = statement j p s end in
      around_at π keyword body next
      (from_start π 1 body (part_below π part.CaseBody body (statement_at j p s end)))
  statement_at j π (bodies.Default keyword in_switch s) next =
      let p = below π part.Labelled in
      let end = leads (after π) in
      let body = statement j p s end in
      around_at π keyword body next (part_below π part.Labelled body (statement_at j p s end))
  statement_at j π (bodies.Label keyword name s) next =
      let p = below π part.Labelled in
      let end = leads (after π) in
      let body = statement j p s end in
      around_at π keyword body next (part_below π part.Labelled body (statement_at j p s end))
  statement_at j π (bodies.Goto keyword name) next =
      let to = leads (labelled name j.labels (after π)) in
      around_at π keyword (nothing to) next (nothing_below π 0 to)
  statement_at j π (bodies.Jump keyword to there) next =
      around_at π keyword (nothing (jumped j to)) next (nothing_below π 0 (jumped j to))
  statement_at j π (bodies.Return keyword) next =
      around_at π keyword (nothing j.returned) next (nothing_below π 0 j.returned)
  statement_at j π (bodies.ReturnValue keyword result x) next =
      let p = below π part.Evaluated in
      let e = Then (evaluation p x) (Does (Give π)) in
      let fits = expression_fits p x in
      let body = passage [] e j.returned in
      around_at π keyword body next
      (part_below π part.Evaluated body
      (fitting_at p e j.returned (record { within = (fits.within, tt); apart = (fits.apart, tt, tt) })))

  items_below : (j : Jumps) (π : Path) (k : ℕ) (is : TypedItems) (next : Way) → Below π k (items j π k is next)
  items_below j π k bodies.NoItems next = nothing_below π k next
  items_below j π k (bodies.DeclarationItem d rest) next =
      let p = below π (part.Item k) in
      let later = items j π (suc k) rest next in
      then_below π (part.Item k) (suc k) (declaration p d later.enters) later (omega arith)
      (declaration_at p d later.enters) (items_below j π (suc k) rest next)
  items_below j π k (bodies.StatementItem s rest) next =
      let p = below π (part.Item k) in
      let later = items j π (suc k) rest next in
      then_below π (part.Item k) (suc k) (statement j p s later.enters) later (omega arith)
      (statement_at j p s later.enters) (items_below j π (suc k) rest next)

-- functions ----------------------------------------------------------------------------------------------------------

pub inside_below : (f : TypedFunction) (out : Way) → Below [] 0 (inside f out)
inside_below f out =
    let j : Jumps = record { broken = out; continued = out; returned = out; labels = labels_from [] 0 f.items } in
    items_below j [] 0 f.items out

none_at : (side : Side) (s : Passage) → Below [] 0 s → Each (λ q. q.place ≡ place [] [] side → ⊥) s.points
none_at side s b =
    each_map (λ q. From [] 0 q.place.path) (λ q. q.place ≡ place [] [] side → ⊥)
    (λ q f same. not_below [] side q f same) s.points b.from

at_none : (side : Side) (s : Passage) → Below [] 0 s → Each (λ q. place [] [] side ≡ q.place → ⊥) s.points
at_none side s b =
    each_map (λ q. From [] 0 q.place.path) (λ q. place [] [] side ≡ q.place → ⊥)
    (λ q f same. not_below [] side q f (sym same)) s.points b.from

other_side : (r s : Side) → (r ≡ s → ⊥) → place [] [] r ≡ place [] [] s → ⊥
other_side r s other same = other (ap (λ p. p.side) same)

before_enter : Before ≡ Enter → ⊥
before_enter same = cc

before_leave : Before ≡ Leave → ⊥
before_leave same = cc

before_after : Before ≡ After → ⊥
before_after same = cc

enter_leave : Enter ≡ Leave → ⊥
enter_leave same = cc

enter_after : Enter ≡ After → ⊥
enter_after same = cc

leave_after : Leave ≡ After → ⊥
leave_after same = cc

plain_distinct : (name : Token) (f : TypedFunction) → Distinct (plain_body name (inside f (leads exit))).points
plain_distinct name f =
    let s = inside f (leads exit) in
    let b = inside_below f (leads exit) in (
      each_append (λ r. place [] [] Before ≡ r.place → ⊥) s.points _ (at_none Before s b)
          (other_side Before After before_after, tt),
      distinct_append s.points _ b.distinct (tt, tt) (none_at After s b, tt),
    )

pair_distinct : (name : Token) (f : TypedFunction) → Distinct (pair_body name (inside f (leads pair_left))).points
pair_distinct name f =
    let s = inside f (leads pair_left) in
    let b = inside_below f (leads pair_left) in (
      (
        other_side Before Enter before_enter,
        each_append (λ r. place [] [] Before ≡ r.place → ⊥) s.points _ (at_none Before s b)
            (other_side Before Leave before_leave, (other_side Before After before_after, tt)),
      ),
      (
        each_append (λ r. place [] [] Enter ≡ r.place → ⊥) s.points _ (at_none Enter s b)
            (other_side Enter Leave enter_leave, (other_side Enter After enter_after, tt)),
        distinct_append s.points _ b.distinct ((other_side Leave After leave_after, tt), (tt, tt))
            (none_at Leave s b, (none_at After s b, tt)),
      ),
    )

either_distinct : (b : Bool) (p q : Passage) → Distinct p.points → Distinct q.points
    → Distinct (if b then p else q).points
either_distinct true p q left right = left
either_distinct false p q left right = right

function_distinct : (f : TypedFunction) → Distinct (points f)
function_distinct f =
    let name = f.declared.entry.at in
    either_distinct (status_in f.items) (pair_body name (inside f (leads pair_left)))
    (plain_body name (inside f (leads exit))) (pair_distinct name f) (plain_distinct name f)

pairs_of : (qs : List Point) → Distinct qs → AllPairs (λ a b. a.place ≢ b.place) qs
pairs_of [] all i j d less low = absurd (omega (arith, low))
pairs_of (q ∷ qs) all zero zero d less low = absurd (omega (arith, less))
pairs_of (q ∷ qs) all zero (suc j) d less low =
    All-from_recursion (λ r. q.place ≢ r.place) qs all.0 j d (omega (arith, low))
pairs_of (q ∷ qs) all (suc i) zero d less low = absurd (omega (arith, less))
pairs_of (q ∷ qs) all (suc i) (suc j) d less low =
    pairs_of qs all.1 i j d (omega (arith, less)) (omega (arith, low))

pub places_differ : PlacesDiffer
places_differ f = pairs_of (points f) (function_distinct f)
