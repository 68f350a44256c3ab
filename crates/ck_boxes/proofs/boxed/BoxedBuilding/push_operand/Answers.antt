use Rattle.std.proofs.Common.{ap}
use Rattle.ck_boxes.proofs.DepthLemmas.{element, grown}
use Rattle.ck_grammar.specs.Nesting.{nesting, operands_nesting}
use Rattle.ck_grammar.specs.Trees as plain
use Rattle.ck_syntax.specs.ExpressionViews.{expr_tree, operand_before}
use Rattle.ck_syntax.specs.Rows.{row_before}
use Rattle.ck_boxes.proofs.boxed.BoxedBuilding.push_operand.Goals as goal

pub push-requires : goal.push-requires
push-requires g c =
    element operands_nesting (operand_before c.new.result) (nesting (expr_tree c.args.operand.tree))
    c.args.operand.depth c.args.operand.measured (λ rest. ap (λ f. operands_nesting (f rest)) c.new.ensures)

pub returns : goal.returns
returns g c =
    grown c.push.result (row_before operand_before c.args.row.now.row.items)
    (row_before operand_before c.push.new.self.row.items)
    (operand_before c.new.result) (plain.Operand c.args.operator (expr_tree c.args.operand.tree))
    (λ rest. ap (λ f. f rest) c.new.ensures) c.push.ensures
