use Rattle.std.proofs.Common.{rules}
use Rattle.std.specs.Prelude.{Ok}
use Rattle.ck_declaration_readers.proofs.Declared.{pushed_initialised, pushed_plainly}
use Rattle.ck_readers.proofs.Readings.{found_some}
use Rattle.ck_readers.specs.SourceView.{words}
use Rattle.ck_declaration_readers.proofs.declarations.push_declared.Goals as goal

pub returns-in_default : goal.returns-in_default
returns-in_default g c i valued =
    pushed_plainly (words c.args.source.now) i c.args.comma (g.T.Building.declarator c.args.name)
    c.args.source.now.tokens c.args.at _ _ c.in_default.ensures c.in_ok-push_plainly.ensures

pub returns : goal.returns
returns g c i valued =
    pushed_initialised (words c.args.source.now) i c.args.comma (g.T.Building.declarator c.args.name)
    c.args.source.now.tokens c.args.at _ _ g.T.BuildingDeclarations.init c.in-Some.mark c.in-Some-2.read
    c.in-Some.ensures
    (found_some _ _ _ _ _ _ c.in-Some-2.is
    (valued c.in-Some.mark.1 (Ok c.in_ok-read.field-0) (search rules) c.in_ok-read.ensures))
    c.in_ok-push_initialised.ensures
