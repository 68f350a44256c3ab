use Rattle.std.proofs.Common.{◌≡◌, ◌-◌, leb, get_or, ap, ◌∙◌, rules}
use Rattle.std.proofs.lemmas.List.Sorted.{IsPartitionPoint-from_clause, IsPartitionedBy-leb}
use Rattle.ck_lexer.specs.PlaceMaps.{start_of}
use Rattle.ck_lexer.proofs.LastLine.{last_counted}
use Rattle.ck_lexer.proofs.places.last_before.Goals as goal

pub returns-in-Some : goal.returns-in-Some
returns-in-Some c = λ up first.
    let parted = IsPartitionedBy-leb start_of c.args.lines.now c.args.offset up in
    let point = IsPartitionPoint-from_clause
    (λ line. leb
    (start_of line) c.args.offset) c.args.lines.now c.partition_point-count.result
    c.partition_point-count.ensures.partitioned parted (λ a r q k. search rules) in
    let line = c.in-Some.line.now in
    let read : line ≡ get_or c.args.lines.now (c.partition_point-count.result - 1) line = c.in-Some.ensures.lookup.1
    ∙ ap (λ i. get_or c.args.lines.now i line) c.saturating_sub.ensures in
    last_counted c.args.lines.now c.args.offset c.partition_point-count.result c.in-Some.line.now up first
    c.partition_point-count.ensures.bound point read
