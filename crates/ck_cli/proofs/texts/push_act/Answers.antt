use Rattle.std.proofs.Common.{◌++◌, ap, ◌∙◌}
use Rattle.std.proofs.lemmas.Result.{on_ok_weaker}
use Rattle.ck_lexer.specs.PlaceMaps.{place_of}
use Rattle.ck_cli.proofs.TextLemmas.{IsActWritten-named}
use Rattle.ck_cli.proofs.texts.push_act.Goals as goal

pub returns : goal.returns
returns c =
    on_ok_weaker c.push_named.result
    (IsActWritten-named c.args.source.now.bytes.now c.args.made (place_of c.place.result) c.args.text.now.items
    c.extend_from_slice.new.self.items c.push_named.new.text.items c.name.result.now c.place.ensures c.name.ensures
    (c.in_ok-extend_from_slice.ensures.items ∙ ap (λ w. c.args.text.now.items ++ w) c.as_bytes.ensures.value))
    c.push_named.ensures
