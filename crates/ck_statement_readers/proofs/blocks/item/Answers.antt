use Rattle.std.proofs.Common.{refl, sym, ◌∙◌}
use Rattle.std.specs.Prelude.{Ok}
use Rattle.ck_readers.proofs.Readings.{found_none, found_some}
use Rattle.ck_readers.specs.SourceView.{words}
use Rattle.ck_statement_readers.proofs.ItemLoop.{declaration_pushed, no_declaration, no_statement, statement_pushed}
use Rattle.ck_statement_readers.proofs.blocks.item.Goals as goal

pub returns-in_default : goal.returns-in_default
returns-in_default g c d s ds ss = record {
  none =
      no_declaration (words c.args.source.now) d s c.args.source.now.tokens c.args.at
      (sym c.begins_declaration.ensures ∙ c.if-begins_declaration.true)
      (found_none g.T.BuildingDeclarations.declaration d c.args.source.now.tokens c.args.at _ c.in_default.is
      (ds c.args.at (Ok c.in_ok-read.field-0) c.ranges.at.fits c.in_ok-read.ensures));
  stays = λ rest. refl;
}

pub returns-then-begins_declaration : goal.returns-then-begins_declaration
returns-then-begins_declaration g c d s ds ss =
    declaration_pushed (words c.args.source.now) d s c.args.source.now.tokens c.args.at _ _
    g.T.BuildingDeclarations.declaration c.in-Some.read
    (sym c.begins_declaration.ensures ∙ c.if-begins_declaration.true)
    (found_some _ _ _ _ _ _ c.in-Some.is
    (ds c.args.at (Ok c.in_ok-read.field-0) c.ranges.at.fits c.in_ok-read.ensures))
    c.in_ok-push_declaration.ensures

pub returns-in_default-2 : goal.returns-in_default-2
returns-in_default-2 g c d s ds ss = record {
  none =
      no_statement (words c.args.source.now) d s c.args.source.now.tokens c.args.at
      (sym c.begins_declaration.ensures ∙ c.if-begins_declaration.false)
      (found_none g.T.BuildingStatements.statement s c.args.source.now.tokens c.args.at _ c.in_default-2.is
      (ss c.args.at (Ok c.in_ok-read-2.field-0) c.ranges.at.fits c.in_ok-read-2.ensures));
  stays = λ rest. refl;
}

pub returns : goal.returns
returns g c d s ds ss =
    statement_pushed (words c.args.source.now) d s c.args.source.now.tokens c.args.at _ _
    g.T.BuildingStatements.statement c.in-Some-2.read
    (sym c.begins_declaration.ensures ∙ c.if-begins_declaration.false)
    (found_some _ _ _ _ _ _ c.in-Some-2.is
    (ss c.args.at (Ok c.in_ok-read-2.field-0) c.ranges.at.fits c.in_ok-read-2.ensures))
    c.in_ok-push_statement.ensures
