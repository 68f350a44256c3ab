-- The edges that leave the test of a `switch`.
use Rattle.std.proofs.Common.{◌≡◌, ℕ, ℤ, Bool, true, false, List, [], ◌∷◌, ◌++◌, length, map, refl, sym, ap, ◌∙◌}
use Rattle.std.specs.Prelude.{Option, Some, None, if◌then◌else◌}
use Rattle.std.specs.Ordering.{int_eq}
use Rattle.ck_base.specs.declared.spans.Span.{Span}
use Rattle.ck_drafts.specs.Drafts.{PlainEdge, edge_drafted}
use Rattle.ck_passages.specs.Drawing.{draw, put}
use Rattle.ck_passages.specs.Points.{PlainPoint, Drawn, added, before_drawn}
use Rattle.ck_passages.proofs.DrawnPassages.{added-append, draw-passage}
use Rattle.ck_points.specs.Evaluations.{evaluation}
use Rattle.ck_points.specs.Labels.{Marked, default_way, case_or, case_way, case_edges, switch_edges}
use Rattle.ck_points.specs.Passages.{point, passage}
use Rattle.ck_points.specs.Places.{Place, Way, Edge, test, Passes, leads}
use Rattle.ck_points.specs.Statements.{switched}
use Rattle.ck_prog.specs.Paths.{Path}
use Rattle.ck_prog.specs.Sights.{LabelOfSwitch, CaseLabel, DefaultLabel}
use Rattle.ck_prog.specs.TypedTrees.{Typed, facts}
use Rattle.ck_tables.specs.Program.{value_of, readings}
use Rattle.ck_tables.specs.declared.facts.ValueId.{ValueId}
use Rattle.ck_tables.specs.declared.program.Linked.{Linked}
use Rattle.ck_bodies.specs.DrawnStatements.{switched_before}
use Rattle.ck_bodies.specs.Noting.{PlainNoted, StatusVariable, NamedLabel, SwitchLabel, PlainNote, plain_noted}
use Rattle.ck_bodies.specs.Noting.{marked_before, marked, is_case, is_default, case_edge_of, number_after}
use Rattle.ck_bodies.specs.declared.notes.Noted.{Noted}
use Rattle.ck_bodies.specs.declared.notes.Noted.TheVariants as made

pub map-append : {X Y : Type 0} (f : X → Y) (xs ys : List X) → map f (xs ++ ys) ≡ map f xs ++ map f ys
map-append f [] ys = refl
map-append f (x ∷ xs) ys = ap (λ zs. f x ∷ zs) (map-append f xs ys)

-- the first of the labels ---------------------------------------------------------------------------------------------

pub case_edges-first : (k : ℕ) (n : PlainNoted) (p : Place) (ms : List Marked) →
    case_edges k (marked_before n p ms) ≡ case_edge_of k n p ++ case_edges (number_after k n) ms
case_edges-first k StatusVariable p ms = refl
case_edges-first k (NamedLabel name) p ms = refl
case_edges-first k (SwitchLabel label) p ms = refl

module _ (l : Linked) (p : Place) (ms : List Marked) (elsewhere : Way) where
  pub default_way-first : (n : Noted) →
      default_way (marked_before (plain_noted (readings l) n) p ms) elsewhere
      ≡ (if is_default n then leads p else default_way ms elsewhere)
  default_way-first made.Status = refl
  default_way-first (made.Label name) = refl
  default_way-first (made.Case value) = refl
  default_way-first made.Default = refl

  pub case_way-first : (v : ValueId) (n : Noted) →
      case_way (value_of l v.0) (marked_before (plain_noted (readings l) n) p ms) elsewhere
      ≡ (if is_case l v n then leads p else case_way (value_of l v.0) ms elsewhere)
  case_way-first v made.Status = refl
  case_way-first v (made.Label name) = refl
  case_way-first v (made.Case None) = refl
  case_way-first v (made.Case (Some w)) = refl
  case_way-first v made.Default = refl

pub first-taken : (b : Bool) (p q : Way) → b ≡ true → (if b then p else q) ≡ p
first-taken true p q h = refl
first-taken false p q h = absurd (cc)

pub first-passed : (b : Bool) (p q : Way) → b ≡ false → (if b then p else q) ≡ q
first-passed false p q h = refl
first-passed true p q h = absurd (cc)

-- a way's place -------------------------------------------------------------------------------------------------------

either-to : (b : Bool) (p a c : Way) → a.to ≡ c.to → (if b then p else a).to ≡ (if b then p else c).to
either-to true p a c same = refl
either-to false p a c same = same

case_or-to : (v : ℤ) (label : LabelOfSwitch) (p : Place) (a c : Way) → a.to ≡ c.to →
    (case_or v label p a).to ≡ (case_or v label p c).to
case_or-to v (CaseLabel None) p a c same = same
case_or-to v (CaseLabel (Some w)) p a c same = either-to (int_eq v w) (leads p) a c same
case_or-to v DefaultLabel p a c same = same

pub case_way-to : (v : ℤ) (ms : List Marked) (a c : Way) → a.to ≡ c.to →
    (case_way v ms a).to ≡ (case_way v ms c).to
case_way-to v [] a c same = same
case_way-to v (m ∷ ms) a c same =
    case_or-to v m.label m.place (case_way v ms a) (case_way v ms c) (case_way-to v ms a c same)

-- the test of a `switch` ----------------------------------------------------------------------------------------------

module _ (π : Path) (x : Typed) (ms : List Marked) (past : Place) (ps : List PlainPoint) where
  pub switched-drawn : (at : Place) (site : Span) (es : List PlainEdge) (d new : Drawn) → at ≡ test π →
      site ≡ (facts x).first.span →
      es ≡ map edge_drafted (switch_edges (facts x).sense.constancy ms (leads past)) → d ≡ put at Passes site es ps →
      new ≡ draw [] (evaluation π x) d → new ≡ before_drawn (switched π x ms (leads past)) ps
  switched-drawn at site es d new there spot edges is drawn =
      let ways = switch_edges (facts x).sense.constancy ms (leads past) in
      let span = (facts x).first.span in
      let end = point (test π) Passes (facts x).first ways in
      let start = passage [] (evaluation π x) (leads (test π)) in
      let e =
      is ∙ ap (λ a. put a Passes site es ps) there ∙ ap (λ s. put (test π) Passes s es ps) spot
      ∙ ap (λ xs. put (test π) Passes span xs ps) edges in
      drawn ∙ ap (draw [] (evaluation π x)) e ∙ draw-passage [] (evaluation π x) (leads (test π)) (added ps end.points)
      ∙ ap (λ qs. record { to = start.enters.to; points = qs }) (sym (added-append ps start.points end.points))

  pub switched_before-is : (d new : Drawn) → d.points ≡ ps → new ≡ before_drawn (switched π x ms (leads past)) ps →
      new ≡ switched_before π x ms past d
  unfolding switched_before
  switched_before-is d new same is = is ∙ ap (before_drawn (switched π x ms (leads past))) (sym same)
