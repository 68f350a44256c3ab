use Rattle.ck_declaration_readers.proofs.Declared.{declares_read, undeclared, unended}
use Rattle.ck_declaration_readers.specs.Steps.{declared_after}
use Rattle.ck_grammar.specs.Trees.{NoSpecifiers}
use Rattle.ck_readers.proofs.Readings.{found_none, found_some}
use Rattle.ck_readers.specs.SourceView.{words}
use Rattle.ck_declaration_readers.proofs.declarations.declares.Goals as goal

pub returns-in_default : goal.returns-in_default
returns-in_default g c d i named valued =
    undeclared (words c.args.source.now) d i c.args.source.now.tokens c.args.at
    (g.T.Building.specifiers c.args.of NoSpecifiers) (g.T.Building.declarator c.args.first)
    (found_none g.T.BuildingDeclarations.declared (declared_after (words c.args.source.now) d i)
    c.args.source.now.tokens c.args.at _ c.in_default.is (c.in_ok-found.ensures d i named valued))

pub returns-in_default-mark : goal.returns-in_default-mark
returns-in_default-mark g c d i named valued =
    let part =
    found_some g.T.BuildingDeclarations.declared (declared_after (words c.args.source.now) d i)
    c.args.source.now.tokens c.args.at _ _ c.in-Some.is (c.in_ok-found.ensures d i named valued) in
    unended (words c.args.source.now) d i c.args.source.now.tokens c.args.at
    (g.T.Building.specifiers c.args.of NoSpecifiers) (g.T.Building.declarator c.args.first) _ part.read
    c.in_default-mark.ensures

pub returns : goal.returns
returns g c d i named valued =
    declares_read (words c.args.source.now) d i c.args.source.now.tokens c.args.at
    (g.T.Building.specifiers c.args.of NoSpecifiers) (g.T.Building.declarator c.args.first)
    g.T.BuildingDeclarations.declaration g.T.BuildingDeclarations.declared c.in-Some.found c.in-Some-mark.mark
    c.declares-tree.result (found_some _ _ _ _ _ _ c.in-Some.is (c.in_ok-found.ensures d i named valued))
    c.in-Some-mark.ensures c.declares-tree.ensures
