use Rattle.std.proofs.Common.{map, ap, ◌∙◌}
use Rattle.ck_drafts.specs.Drafts.{plain_edge, plain_place}
use Rattle.ck_passages.specs.Drawing.{test_edges}
use Rattle.ck_passages.specs.Operands.{tree}
use Rattle.ck_passages.specs.Walks.{tables, made}
use Rattle.ck_passages.proofs.Decisions.{decided-drawn}
use Rattle.ck_passages.proofs.walk.Walk.decide.Goals as goal

pub returns : goal.returns
returns c =
    let w = c.args.self.now in
    let l = tables w in
    let holds = plain_place c.args.holds in
    let fails = plain_place c.args.fails in
    let known = c.expression_facts-known.ensures in
    decided-drawn c.args.path.now (tree l c.args.x.0) holds fails (made w c.args.drawing.now).points w.orders.now
    (plain_place c.in_ok-at.at) c.expression_facts-known.result.first.span (map plain_edge c.in_ok-edges.edges.items)
    (made w c.put.new.self) (made w c.draw.new.drawing) c.requires.alone c.in_ok-at.ensures
    (ap (λ f. f.first.span) known)
    (c.in_ok-edges.ensures ∙ ap (λ f. test_edges f.sense.constancy holds fails) known) (c.in_ok-put.ensures l)
    c.in_ok-draw.ensures
