use Rattle.std.proofs.Common.{◌≡◌, ◌++◌, ◌∷◌, [], ap, ◌∙◌}
use Rattle.ck_lexer.specs.PlaceMaps.{names_of}
use Rattle.ck_lexer.proofs.LineStarts.{line_with}
use Rattle.ck_lexer.proofs.LinesKept.{mapped_first}
use Rattle.ck_lexer.proofs.places.empty_map.Goals as goal

pub returns : goal.returns
returns c = λ bytes.
    let named : names_of c.push_name.new.names.items ≡ c.args.name.now ∷ [] = c.in_ok-push_name.ensures
    ∙ (ap (λ vs. names_of vs ++ c.as_bytes.result.now ∷ []) c.new-names.ensures.items
    ∙ ap (λ text. text ∷ []) c.as_bytes.ensures.value) in
    let lined : c.push_line.new.lines.items ≡ line_with 0 1 0 ∷ [] = c.in_ok-push_line.ensures
    ∙ ap (λ ls. ls ++ line_with 0 1 0 ∷ []) c.new-lines.ensures.items in
    mapped_first c.args.name.now bytes
    (record { names = c.push_name.new.names; lines = c.push_line.new.lines }) named lined
