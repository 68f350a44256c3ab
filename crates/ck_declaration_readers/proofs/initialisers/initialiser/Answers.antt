use Rattle.std.proofs.Common.{drop}
use Rattle.ck_declaration_readers.proofs.Initialised.{braced_read, unclosed, unlisted, value_is}
use Rattle.ck_declaration_readers.specs.Steps.{inits_from, value_after}
use Rattle.ck_grammar.specs.ReadingStatements.{init_by}
use Rattle.ck_readers.proofs.Readings.{found_none, found_some}
use Rattle.ck_readers.specs.SourceView.{words}
use Rattle.ck_statement_trees.proofs.Wholes.{read_from}
use Rattle.ck_declaration_readers.proofs.initialisers.initialiser.Goals as goal

pub returns-in_default : goal.returns-in_default
returns-in_default g c v e i vs es is =
    let w = words c.args.source.now in
    read_from g.T.BuildingDeclarations.init (init_by w v (inits_from w e i)) (value_after v)
    c.args.source.now.tokens c.args.at c.args.at (λ h. h)
    (value_is w v (inits_from w e i) (drop c.args.at c.args.source.now.tokens) c.in_default.ensures)
    c.value_alone.result (c.value_alone.ensures v vs)

pub returns-in_default-2 : goal.returns-in_default-2
returns-in_default-2 g c v e i vs es is =
    let w = words c.args.source.now in
    unlisted w v (inits_from w e i) c.args.source.now.tokens c.args.at c.in-Some.mark c.in-Some.ensures
    (found_none g.T.BuildingDeclarations.inits (inits_from w e i) c.args.source.now.tokens c.in-Some.mark.1 _
    c.in_default-2.is (c.in_ok-found.ensures e i es is))

pub returns-in_default-mark : goal.returns-in_default-mark
returns-in_default-mark g c v e i vs es is =
    let w = words c.args.source.now in
    let listed =
    found_some g.T.BuildingDeclarations.inits (inits_from w e i) c.args.source.now.tokens c.in-Some.mark.1 _ _
    c.in-Some-2.is (c.in_ok-found.ensures e i es is) in
    unclosed w v (inits_from w e i) c.args.source.now.tokens c.args.at c.in-Some.mark c.in-Some.ensures _ listed.read
    c.in_default-mark.ensures

pub returns : goal.returns
returns g c v e i vs es is =
    let w = words c.args.source.now in
    braced_read w v (inits_from w e i) c.args.source.now.tokens c.args.at c.in-Some.mark c.in-Some.ensures
    g.T.BuildingDeclarations.init g.T.BuildingDeclarations.inits c.in-Some-2.found c.in-Some-mark.mark
    c.in_ok-braced.field-0 (found_some _ _ _ _ _ _ c.in-Some-2.is (c.in_ok-found.ensures e i es is))
    c.in-Some-mark.ensures c.in_ok-braced.ensures
