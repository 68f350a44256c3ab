use Rattle.std.proofs.Common.{◌≡◌, length, inr, refl, sym, ◌∙◌}
use Rattle.std.proofs.lemmas.List.{length-map}
use Rattle.ck_lexer.specs.PlaceMaps.{items_of, names_of}
use Rattle.ck_lexer.proofs.LinesKept.{mapped_marked, mapped_on, marked-feed}
use Rattle.ck_lexer.proofs.places.pass_line_ends.Goals as goal

pub returns-in_ok-push_line-in-Some-clause-lines : goal.returns-in_ok-push_line-in-Some-clause-lines
returns-in_ok-push_line-in-Some-clause-lines c = λ name lexeme is mapped.
    let map = c.args.map.now in
    let last : c.len.result ≡ length (names_of map.names.items) = c.len.ensures
    ∙ (map.names.ok.0 ∙ sym (length-map map.names.items items_of)) in
    mapped_marked name c.args.bytes.now map
    (record { names = c.push_name.new.names; lines = c.push_line.new.lines }) c.args.on c.args.at c.args.end
    c.len.result lexeme c.in-Some.marked
    c.in_ok-push_name-in-Some.ensures c.in_ok-push_line-in-Some.ensures mapped is c.in-Some.ensures last

pub returns-in_ok-push_line-in-Some-clause-feed : goal.returns-in_ok-push_line-in-Some-clause-feed
returns-in_ok-push_line-in-Some-clause-feed c = λ lexeme is. inr
    (marked-feed c.args.bytes.now c.args.at c.args.end lexeme c.in-Some.marked is c.in-Some.ensures)

pub returns-in_ok-on-in-None-clause-lines : goal.returns-in_ok-on-in-None-clause-lines
returns-in_ok-on-in-None-clause-lines c = λ name lexeme is mapped.
    mapped_on name c.args.bytes.now c.args.map.now
    (record { names = c.args.map.now.names; lines = c.push_lines.new.lines }) c.args.on c.in_ok-on-in-None.on
    c.args.at c.args.end lexeme
    refl mapped is c.in-None.ensures c.in_ok-on-in-None.ensures.numbered c.in_ok-on-in-None.ensures.lines
