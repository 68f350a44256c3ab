use Rattle.std.proofs.Common.{drop, rules}
use Rattle.std.specs.Prelude.{Ok}
use Rattle.ck_declaration_readers.proofs.Initialised.{entry_read, no_designation, no_init}
use Rattle.ck_grammar.specs.ReadingStatements as reading
use Rattle.ck_readers.proofs.Readings.{found_none, found_some}
use Rattle.ck_readers.specs.SourceView.{words}
use Rattle.ck_declaration_readers.proofs.initialisers.entry.Goals as goal

pub returns-in_default : goal.returns-in_default
returns-in_default g c e i es is =
    let w = words c.args.source.now in
    no_designation w e i (drop c.args.at c.args.source.now.tokens)
    (found_none g.T.BuildingDeclarations.designation (reading.designation w e) c.args.source.now.tokens c.args.at _
    c.in_default.is (c.in_ok-found.ensures e es))

pub returns-in_default-2 : goal.returns-in_default-2
returns-in_default-2 g c e i es is =
    let w = words c.args.source.now in
    let before =
    found_some g.T.BuildingDeclarations.designation (reading.designation w e) c.args.source.now.tokens c.args.at _ _
    c.in-Some.is (c.in_ok-found.ensures e es) in
    no_init w e i (drop c.args.at c.args.source.now.tokens) _ before.read
    (found_none g.T.BuildingDeclarations.init i c.args.source.now.tokens c.in-Some.found.1 _ c.in_default-2.is
    (is c.in-Some.found.1 (Ok c.in_ok-read.field-0) (search rules) c.in_ok-read.ensures))

pub returns : goal.returns
returns g c e i es is =
    entry_read (words c.args.source.now) e i g.T.BuildingDeclarations.designation g.T.BuildingDeclarations.init
    c.args.source.now.tokens c.args.at c.in-Some.found c.in-Some-2.read
    (found_some _ _ _ _ _ _ c.in-Some.is (c.in_ok-found.ensures e es))
    (found_some _ _ _ _ _ _ c.in-Some-2.is
    (is c.in-Some.found.1 (Ok c.in_ok-read.field-0) (search rules) c.in_ok-read.ensures))
