-- A controlling expression and its test.
use Rattle.std.proofs.Common.{◌≡◌, ℕ, List, [], sym, ap, ◌∙◌}
use Rattle.ck_base.specs.declared.spans.Span.{Span}
use Rattle.ck_drafts.specs.Drafts.{PlainEdge}
use Rattle.ck_passages.specs.Drawing.{put, test_edges}
use Rattle.ck_passages.specs.Points.{PlainPoint, Drawn, before_drawn}
use Rattle.ck_passages.proofs.DrawnPassages.{added-append, test_edges-drafted}
use Rattle.ck_points.specs.Evaluations.{evaluation}
use Rattle.ck_points.specs.Passages.{passage, point, either_way}
use Rattle.ck_points.specs.Places.{Test, Place, place, test, Passes, leads}
use Rattle.ck_points.specs.Statements.{decided}
use Rattle.ck_prog.specs.Paths.{Path}
use Rattle.ck_prog.specs.TypedTrees.{Typed, facts}

module _ (π : Path) (x : Typed) (holds fails : Place) (ps : List PlainPoint) where
  pub decided-drawn : (os : List ℕ) (at : Place) (site : Span) (es : List PlainEdge) (d new : Drawn) → os ≡ [] →
      at ≡ place π os Test → site ≡ (facts x).first.span →
      es ≡ test_edges (facts x).sense.constancy holds fails → d ≡ put at Passes site es ps →
      new ≡ before_drawn (passage os (evaluation π x) (leads d.to)) d.points →
      new ≡ before_drawn (decided π x (leads holds) (leads fails)) ps
  decided-drawn os at site es d new alone there spot edges is drawn =
      let c = (facts x).sense.constancy in
      let span = (facts x).first.span in
      let ways = either_way c (leads holds) (leads fails) in
      let end = point (test π) Passes (facts x).first ways in
      let start = passage [] (evaluation π x) (leads (test π)) in
      let e =
      is ∙ ap (λ a. put a Passes site es ps) (there ∙ ap (λ o. place π o Test) alone)
      ∙ ap (λ s. put (test π) Passes s es ps) spot
      ∙ ap (λ xs. put (test π) Passes span xs ps) (edges ∙ test_edges-drafted c (leads holds) (leads fails)) in
      drawn ∙ ap (λ o. before_drawn (passage o (evaluation π x) (leads d.to)) d.points) alone
      ∙ ap (λ p. before_drawn (passage [] (evaluation π x) (leads p.to)) p.points) e
      ∙ ap (λ qs. record { to = start.enters.to; points = qs }) (sym (added-append ps start.points end.points))
