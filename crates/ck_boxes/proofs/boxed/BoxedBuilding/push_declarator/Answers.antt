use Rattle.std.proofs.Common.{ap}
use Rattle.ck_boxes.proofs.DepthLemmas.{element, grown}
use Rattle.ck_grammar.specs.Nesting.{declarator_nesting, declarators_nesting}
use Rattle.ck_grammar.specs.Trees as plain
use Rattle.ck_syntax.specs.ExpressionViews.{declarator_before, declarator_tree}
use Rattle.ck_syntax.specs.Rows.{row_before}
use Rattle.ck_boxes.proofs.boxed.BoxedBuilding.push_declarator.Goals as goal

pub push-requires : goal.push-requires
push-requires g c =
    element declarators_nesting (declarator_before c.new.result) (declarator_nesting (declarator_tree c.args.next.tree))
    c.args.next.depth c.args.next.measured (λ rest. ap (λ f. declarators_nesting (f rest)) c.new.ensures)

pub returns : goal.returns
returns g c =
    grown c.push.result (row_before declarator_before c.args.row.now.row.items)
    (row_before declarator_before c.push.new.self.row.items)
    (declarator_before c.new.result) (plain.Also c.args.comma (declarator_tree c.args.next.tree))
    (λ rest. ap (λ f. f rest) c.new.ensures) c.push.ensures
