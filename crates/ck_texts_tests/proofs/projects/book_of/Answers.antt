use Rattle.std.proofs.Common.{[], ◌∷◌, ◌++◌, ap, ◌∙◌, subst}
use Rattle.std.specs.Prelude.{codes, slice_get}
use Rattle.std.specs.Option.{IfSome}
use Rattle.ck_lexer.specs.PlaceMaps.{IsPlaceMapOf}
use Rattle.ck_texts_tests.proofs.projects.book_of.Goals as goal

pub returns : goal.returns
returns c = record {
  places = c.in_ok-map.map;
  there = ap (λ maps. slice_get maps 0)
      (c.in_ok-push.ensures.items ∙ ap (λ maps. maps ++ c.in_ok-map.map ∷ []) c.new-maps.ensures.items);
  is = subst (λ found. IfSome found (IsPlaceMapOf (codes "main.i") c.args.text.now))
      c.in_ok-map.ensures.ok_part c.in_ok-map_of.ensures;
}
