use Rattle.std.proofs.Common.{sym, ◌∙◌}
use Rattle.ck_file_readers.proofs.NoTypes.{named}
use Rattle.ck_grammar.specs.Trees.{NoSpecifiers}
use Rattle.ck_file_readers.proofs.declarations.declares.Goals as goal

pub returns-clause-reads : goal.returns-clause-reads
returns-clause-reads g c n names values =
    let is = sym c.has_typedef.ensures ∙ c.if-has_typedef.false in
    named n c.args.source.now (g.T.Building.specifiers c.args.of NoSpecifiers) (g.T.Building.declarator c.args.first)
    is g.T.BuildingDeclarations.declaration c.args.at c.declares_no_types.result
    (c.declares_no_types.ensures n names values is)
