use Rattle.std.proofs.Common.{ap, subst, sym, ◌∙◌}
use Rattle.ck_boxes.proofs.DepthLemmas.{pushed}
use Rattle.ck_boxes.specs.Depths.{NestBefore}
use Rattle.ck_grammar.specs.Nesting.{members_nesting}
use Rattle.ck_syntax.proofs.GrowingRows.{row_before-push}
use Rattle.ck_syntax.specs.ExpressionViews.{member_before}
use Rattle.ck_syntax.specs.Rows.{row_before}
use Rattle.ck_boxes.proofs.rows.MeasuredMembers.push.Goals as goal

pub invariant_of-self : goal.invariant_of-self
invariant_of-self g c = record {
  measured =
      subst (λ l. NestBefore members_nesting (row_before member_before l) c.args.self.now.depth)
      (sym c.in_err-push.ensures.items)
      c.args.self.now.measured;
}

pub invariant_of-self-2 : goal.invariant_of-self-2
invariant_of-self-2 g c = record {
  measured =
      pushed members_nesting member_before c.args.self.now.row.items c.push.new.self.items _ c.args.self.now.depth
      c.args.depth
      c.deeper-self.result c.in_ok-push.ensures.items c.args.self.now.measured c.requires c.deeper-self.ensures;
}

pub returns : goal.returns
returns g c rest =
    ap (λ l. row_before member_before l rest) c.in_ok-push.ensures.items
    ∙ row_before-push member_before c.args.self.now.row.items _ rest
