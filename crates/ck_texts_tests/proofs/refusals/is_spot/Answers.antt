use Rattle.std.proofs.Common.{leb, leb-true, length, sym, subst}
use Rattle.std.specs.Prelude.{map}
use Rattle.ck_texts.specs.Placed.{IsSpotOf}
use Rattle.ck_texts.specs.Views.{file_of}
use Rattle.ck_texts_tests.proofs.FitLemmas.{OnTrue-from, mapped}
use Rattle.ck_texts_tests.proofs.refusals.is_spot.Goals as goal

pub returns-then-span-eq1 : goal.returns-then-span-eq1
returns-then-span-eq1 c =
    let files = c.args.files.now.list.items in
    let maps = c.args.files.now.maps.items in
    let text = c.args.text.now in
    let span = c.in-At.span in
    OnTrue-from (leb span.start (length text)) (IsSpotOf (map file_of files) maps c.args.at.now)
    (λ holds. subst (IsSpotOf (map file_of files) maps) (sym c.in-At.is)
    (mapped files maps text span c.requires c.if-span-eq1.true (leb-true span.start (length text) holds)))
