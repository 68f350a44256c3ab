-- The numbers that a row names are numbers of the project.
use Rattle.std.proofs.Common.{◌≡◌, ◌<◌, ℕ, true, subst, arith}
use Rattle.std.specs.Prelude.{◌&&◌}
use Rattle.std.specs.List.{list_all}
use Rattle.ck_base.specs.declared.tokens.Token.{Token}
use Rattle.ck_tables.specs.Numbers.{Numbers, initialiser_node_fits, declarator_fits, declaration_row_fits, item_fits}
use Rattle.ck_tables.specs.Numbers.{expression_fits, init_facts_fit, part_fits, entry_fits, body_fits}
use Rattle.ck_tables.specs.declared.exprs.ExprId.{ExprId}
use Rattle.ck_tables.specs.declared.inits.InitFacts.{InitFacts}
use Rattle.ck_tables.specs.declared.inits.InitNode.{InitNode}
use Rattle.ck_tables.specs.declared.inits.InitNode.TheVariants as inits
use Rattle.ck_tables.specs.declared.program.Body.{Body}
use Rattle.ck_tables.specs.declared.stmts.Declaration.{Declaration}
use Rattle.ck_tables.specs.declared.stmts.Start.{Start}
use Rattle.ck_tables.specs.declared.stmts.StmtId.{StmtId}
use Rattle.ck_tables.specs.declared.stmts.StmtNode.{StmtNode}
use Rattle.ck_tables.specs.declared.stmts.StmtNode.TheVariants as stmts
use Rattle.ck_counts.proofs.Lists.{first, second}

module _ (n : Numbers) where
  pub value-fits : (m : InitNode) (facts : InitFacts) (value : ExprId) → m ≡ inits.Value facts value →
      initialiser_node_fits n m ≡ true → value.0 < n.expressions
  unfolding initialiser_node_fits
  value-fits m facts value e h =
      let t = subst (λ y. initialiser_node_fits n y ≡ true) e h in
      let u = second (init_facts_fit n facts) (expression_fits n value) t in grind (arith, u)

  pub declarators-fit : (d : Declaration) → declaration_row_fits n d ≡ true →
      list_all (declarator_fits n) d.declared.items ≡ true
  unfolding declaration_row_fits
  declarators-fit d h =
      second (list_all (part_fits n) d.written.items) (list_all (declarator_fits n) d.declared.items) h

  pub items-fit : (b : Body) → body_fits n b ≡ true → list_all (item_fits n) b.items.items ≡ true
  unfolding body_fits
  items-fit b h =
      let items = list_all (item_fits n) b.items.items in
      let parameters = list_all (part_fits n) b.parameters.items in
      let written = list_all (part_fits n) b.written.items in
      second parameters items
      (second written (parameters && items) (second (entry_fits n b.declared.entry) (written && (parameters && items))
      h))
