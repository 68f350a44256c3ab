use Rattle.std.proofs.Common.{[], ◌∷◌, ◌++◌, ap, sym, ◌∙◌, subst}
use Rattle.std.specs.Prelude.{codes, map, slice_get}
use Rattle.std.specs.Option.{IfSome}
use Rattle.ck_lexer.specs.PlaceMaps.{IsPlaceMapOf}
use Rattle.ck_texts.specs.Views.{file_of}
use Rattle.ck_texts_tests.proofs.refusals.files_with.Goals as goal

pub returns : goal.returns
returns c =
    let is = subst (λ found. IfSome found (IsPlaceMapOf (codes "main.i") c.args.text.now)) c.in_ok-map.ensures.ok_part
    c.in_ok-map_of.ensures in
    record {
      file = file_of c.in_ok-main.main;
      there = ap (λ files. slice_get (map file_of files) 1)
          (c.in_ok-push-2.ensures.items ∙ ap (λ files. files ++ c.in_ok-main.main ∷ [])
          (c.in_ok-push.ensures.items ∙ ap (λ files. files ++ c.in_ok-big.big ∷ []) c.new-list.ensures.items));
      bytes = c.in_ok-main.ensures.bytes;
      places = c.in_ok-map.map;
      mapped = ap (λ maps. slice_get maps 1)
          (c.in_ok-push-4.ensures.items ∙ ap (λ maps. maps ++ c.in_ok-map.map ∷ [])
          (c.in_ok-push-3.ensures.items ∙ ap (λ maps. maps ++ c.in_ok-empty.empty ∷ []) c.new-maps.ensures.items));
      is = subst (λ name. IsPlaceMapOf name c.in_ok-main.main.bytes.items c.in_ok-map.map)
          (sym c.in_ok-main.ensures.name)
          (subst (λ bytes. IsPlaceMapOf (codes "main.i") bytes c.in_ok-map.map) (sym c.in_ok-main.ensures.bytes) is);
    }
