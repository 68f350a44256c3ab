use Rattle.std.proofs.Common.{drop, sym, ◌∙◌}
use Rattle.ck_declaration_readers.proofs.Initialised.{designation_is}
use Rattle.ck_declaration_readers.specs.Steps.{designators_from}
use Rattle.ck_grammar.specs.ReadingStatements as reading
use Rattle.ck_readers.specs.SourceView.{words}
use Rattle.ck_statement_trees.proofs.Wholes.{read_from}
use Rattle.ck_declaration_readers.proofs.designators.designation.Goals as goal

pub returns-then-begins_designator : goal.returns-then-begins_designator
returns-then-begins_designator g c e reads =
    let w = words c.args.source.now in
    read_from g.T.BuildingDeclarations.designation (reading.designation w e) (designators_from w e)
    c.args.source.now.tokens c.args.at c.args.at (λ h. h)
    (designation_is w e (drop c.args.at c.args.source.now.tokens)
    (sym c.begins_designator.ensures ∙ c.if-begins_designator.true))
    c.designators.result (c.designators.ensures e reads)
