-- What is drawn for a function is its points.
use Rattle.std.proofs.Common.{◌≡◌, ℕ, Bool, true, false, List, [], ◌∷◌, ◌++◌, map, refl, sym, ap, ◌∙◌}
use Rattle.std.specs.Prelude.{if◌then◌else◌}
use Rattle.ck_base.specs.declared.tokens.Token.{Token}
use Rattle.ck_passages.specs.Drawing.{put_passing}
use Rattle.ck_passages.specs.Points.{PlainPoint, Drawn, without_deeds, added, before_drawn, drawn, plain_point}
use Rattle.ck_passages.specs.declared.drawing.Drawing.{Drawing}
use Rattle.ck_passages.proofs.DrawnPassages.{added-append}
use Rattle.ck_points.specs.Functions as form
use Rattle.ck_points.specs.Functions.{entry, exit, pair_entered, pair_left, status_in, points}
use Rattle.ck_points.specs.Labels.{labels_from}
use Rattle.ck_points.specs.Passages.{Passage, in_turn, passing}
use Rattle.ck_points.specs.Places.{Place, Passes, EntersPair, LeavesPair, leads}
use Rattle.ck_prog.specs.TypedBodies.{TypedFunction, TypedItems}
use Rattle.ck_tables.specs.Rows.{IsRow}
use Rattle.ck_tables.specs.declared.program.Linked.{Linked}
use Rattle.ck_bodies.specs.DrawnFunctions.{inside, ending, plain_whole, pair_whole, draw_whole}
use Rattle.ck_bodies.proofs.StatementsDrawn.{items-drawn}

abbrev entering : Place → List PlainPoint → Drawn
entering to ps = record { to = to; points = ps }

abbrev name_of : TypedFunction → Token
name_of f = f.declared.entry.at

module _ (f : TypedFunction) where
  inside-drawn : (out : Place) (ps : List PlainPoint) →
      inside (labels_from [] 0 f.items) f.items (entering out ps) ≡ before_drawn (form.inside f (leads out)) ps
  unfolding inside
  inside-drawn out ps =
      items-drawn
      (record {
        broken = leads out;
        continued = leads out;
        returned = leads out;
        labels = labels_from [] 0 f.items;
      }) [] 0 f.items (leads out) ps

  -- the exit
  abbrev last : List PlainPoint
  last = added [] (form.ending (name_of f)).points

  ending-drawn : ending (name_of f) ≡ entering exit last
  unfolding ending
  ending-drawn = refl

  plain-drawn : (plain_whole (name_of f) (labels_from [] 0 f.items) f.items).points
      ≡ added [] (form.plain_body (name_of f) (form.inside f (leads exit))).points
  unfolding plain_whole
  plain-drawn =
      let s = form.inside f (leads exit) in
      ap (λ d. (put_passing entry Passes (name_of f).span d).points)
      (ap (inside (labels_from [] 0 f.items) f.items) ending-drawn ∙ inside-drawn exit last)
      ∙ ap (λ qs. (put_passing entry Passes (name_of f).span (entering s.enters.to qs)).points)
      (sym (added-append [] s.points (form.ending (name_of f)).points))

  abbrev left : List PlainPoint
  left =
      added [] (in_turn (passing pair_left LeavesPair (name_of f) (leads exit)) (form.ending (name_of f))).points

  pair-drawn : (pair_whole (name_of f) (labels_from [] 0 f.items) f.items).points
      ≡ added [] (form.pair_body (name_of f) (form.inside f (leads pair_left))).points
  unfolding pair_whole
  pair-drawn =
      let s = form.inside f (leads pair_left) in
      let span = (name_of f).span in
      let enter = λ (d : Drawn). (put_passing entry Passes span (put_passing pair_entered EntersPair span d)).points in
      ap (λ d. enter (inside (labels_from [] 0 f.items) f.items (put_passing pair_left LeavesPair span d))) ending-drawn
      ∙ ap enter (inside-drawn pair_left left)
      ∙ ap (λ qs. enter (entering s.enters.to qs))
      (sym
      (added-append [] s.points
      (in_turn (passing pair_left LeavesPair (name_of f) (leads exit)) (form.ending (name_of f))).points))

  chosen : (b : Bool) (x y : Drawn) (p q : Passage) → x.points ≡ added [] p.points → y.points ≡ added [] q.points →
      (if b then x else y).points ≡ added [] (if b then p else q).points
  chosen true x y p q first second = first
  chosen false x y p q first second = second

  pub whole-drawn : (draw_whole (name_of f) f.items).points ≡ added [] (points f)
  whole-drawn =
      chosen (status_in f.items) (pair_whole (name_of f) (labels_from [] 0 f.items) f.items)
      (plain_whole (name_of f) (labels_from [] 0 f.items) f.items)
      (form.pair_body (name_of f) (form.inside f (leads pair_left)))
      (form.plain_body (name_of f) (form.inside f (leads exit))) pair-drawn plain-drawn

either-true : (b : Bool) (x y : Drawn) → b ≡ true → x ≡ (if b then x else y)
either-true true x y h = refl
either-true false x y h = absurd (cc)

either-false : (b : Bool) (x y : Drawn) → b ≡ false → y ≡ (if b then x else y)
either-false false x y h = refl
either-false true x y h = absurd (cc)

module _ (name : Token) (is : TypedItems) where
  pub pair-chosen : status_in is ≡ true → pair_whole name (labels_from [] 0 is) is ≡ draw_whole name is
  pair-chosen h =
      either-true (status_in is) (pair_whole name (labels_from [] 0 is) is)
      (plain_whole name (labels_from [] 0 is) is) h

  pub plain-chosen : status_in is ≡ false → plain_whole name (labels_from [] 0 is) is ≡ draw_whole name is
  plain-chosen h =
      either-false (status_in is) (pair_whole name (labels_from [] 0 is) is)
      (plain_whole name (labels_from [] 0 is) is) h

-- points in memory ----------------------------------------------------------------------------------------------------

pub drawn-points : (l : Linked) (d : Drawing) → (drawn l d).points ≡ map (plain_point l) d.points.items
unfolding drawn
drawn-points l d = refl

pub same-row : {X : Type 0} (xs : List X) (i : ℕ) (x y : X) → IsRow xs i x → IsRow xs i y → x ≡ y
same-row xs i x y a b = sym (a.is x) ∙ b.is x
