use Rattle.ck_file_readers.proofs.TypeDeclarations.{types_read, types_unended}
use Rattle.ck_grammar.specs.Trees.{NoSpecifiers}
use Rattle.ck_file_readers.proofs.types.declares_types.Goals as goal

pub returns-in_default-clause-reads : goal.returns-in_default-clause-reads
returns-in_default-clause-reads g c n names is =
    types_unended n (g.T.Building.specifiers c.args.of NoSpecifiers) (g.T.Building.declarator c.args.first)
    c.args.source.now c.add_name.new.source c.more_types.new.source is c.in_ok-add_name.ensures.kept
    c.in_ok-found.ensures.kept c.in_ok-add_name.ensures.added g.T.BuildingDeclarations.more_declared
    c.in_ok-found.found c.args.at (c.in_ok-found.ensures.reads n names) c.in_default.ensures

pub returns-clause-reads : goal.returns-clause-reads
returns-clause-reads g c n names is =
    let of = g.T.Building.specifiers c.args.of NoSpecifiers in
    let first = g.T.Building.declarator c.args.first in
    types_read n of first c.args.source.now c.add_name.new.source c.more_types.new.source is
    c.in_ok-add_name.ensures.kept c.in_ok-found.ensures.kept c.in_ok-add_name.ensures.added
    g.T.BuildingDeclarations.more_declared c.in_ok-found.found c.args.at (c.in_ok-found.ensures.reads n names)
    g.T.BuildingDeclarations.declaration c.in-Some.mark c.declares.result
    (g.T.BuildingDeclarations.declared c.plainly-rest.result) c.in-Some.ensures c.declares.ensures
    c.plainly-rest.ensures
