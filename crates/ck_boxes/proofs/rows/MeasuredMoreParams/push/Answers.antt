use Rattle.std.proofs.Common.{ap, ◌∙◌}
use Rattle.ck_boxes.proofs.DepthLemmas.{pushed}
use Rattle.ck_grammar.specs.Nesting.{more_params_nesting}
use Rattle.ck_syntax.proofs.GrowingRows.{row_before-push}
use Rattle.ck_syntax.specs.ExpressionViews.{parameter_before}
use Rattle.ck_syntax.specs.Rows.{row_before}
use Rattle.ck_boxes.proofs.rows.MeasuredMoreParams.push.Goals as goal

pub invariant_of-self-2 : goal.invariant_of-self-2
invariant_of-self-2 g c = record {
  measured =
      pushed more_params_nesting parameter_before c.args.self.now.row.items c.push.new.self.items _
      c.args.self.now.depth c.args.depth
      c.deeper-self.result c.in_ok-push.ensures.items c.args.self.now.measured c.requires c.deeper-self.ensures;
}

pub returns : goal.returns
returns g c rest =
    ap (λ l. row_before parameter_before l rest) c.in_ok-push.ensures.items
    ∙ row_before-push parameter_before c.args.self.now.row.items _ rest
