use Rattle.std.proofs.Common.{rules, of_calls, drop, sym}
use Rattle.ck_declaration_readers.specs.Steps.{declares_from}
use Rattle.ck_file_readers.proofs.NoTypes.{declares_is}
use Rattle.ck_file_readers.specs.Steps.{declarator_in, init_in}
use Rattle.ck_grammar.specs.ReadingStatements as reading
use Rattle.ck_grammar.specs.Trees.{NoSpecifiers}
use Rattle.ck_readers.proofs.Readings.{read_same}
use Rattle.ck_readers.specs.SourceView.{words}
use Rattle.ck_file_readers.proofs.declarations.declares_no_types.Goals as goal

pub returns : goal.returns
returns g c n names values is =
    let of = g.T.Building.specifiers c.args.of NoSpecifiers in
    let first = g.T.Building.declarator c.args.first in
    read_same g.T.BuildingDeclarations.declaration
    (declares_from (words c.args.source.now) (declarator_in n c.args.source.now) (init_in n c.args.source.now) of first)
    (reading.declares c.args.source.now.bytes c.args.source.now.typedefs n of first)
    c.args.source.now.tokens c.args.at c.declares.result
    (sym (declares_is n c.args.source.now of first (drop c.args.at c.args.source.now.tokens) is))
    (c.declares.ensures (declarator_in n c.args.source.now) (init_in n c.args.source.now)
    (λ here answer fits said. names c.args.source here answer fits (search (rules, of_calls)))
    (λ here answer fits said. values c.args.source here answer fits (search (rules, of_calls))))
