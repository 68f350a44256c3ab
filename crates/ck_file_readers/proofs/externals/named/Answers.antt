use Rattle.std.proofs.Common.{suc, sym, ◌∙◌}
use Rattle.std.specs.Prelude.{Ok}
use Rattle.ck_file_readers.proofs.Wholes.{no_declaration, with_body, with_declaration}
use Rattle.ck_file_readers.specs.Steps.{declarator_in}
use Rattle.ck_grammar.specs.Trees.{NoSpecifiers}
use Rattle.ck_readers.proofs.Readings.{found_some}
use Rattle.ck_file_readers.proofs.externals.named.Goals as goal

pub returns-then-is_word-clause-reads : goal.returns-then-is_word-clause-reads
returns-then-is_word-clause-reads g c n names values bodies =
    with_body n (g.T.Building.specifiers c.args.of NoSpecifiers) c.args.source.now c.args.source.now c.args.at
    g.T.Building.declarator c.in-Some.read
    (found_some g.T.Building.declarator (declarator_in (suc n) c.args.source.now) c.args.source.now.tokens c.args.at
    c.in_ok-read.field-0 c.in-Some.read c.in-Some.is
    (names _ c.args.at (Ok c.in_ok-read.field-0) c.ranges.at.fits c.in_ok-read.ensures))
    g.T.BuildingStatements.external (sym c.is_word.ensures ∙ c.if-is_word.true) c.defines.result
    (c.defines.ensures n bodies)

pub returns-in_default-2-clause-reads : goal.returns-in_default-2-clause-reads
returns-in_default-2-clause-reads g c n names values bodies =
    no_declaration n (g.T.Building.specifiers c.args.of NoSpecifiers) c.args.source.now c.declares.new.source c.args.at
    g.T.Building.declarator c.in-Some.read
    (found_some g.T.Building.declarator (declarator_in (suc n) c.args.source.now) c.args.source.now.tokens c.args.at
    c.in_ok-read.field-0 c.in-Some.read c.in-Some.is
    (names _ c.args.at (Ok c.in_ok-read.field-0) c.ranges.at.fits c.in_ok-read.ensures))
    (sym c.is_word.ensures ∙ c.if-is_word.false)
    (rw c.in_default-2.is at (c.in_ok-found.ensures.reads (suc n) names values))

pub returns-clause-reads : goal.returns-clause-reads
returns-clause-reads g c n names values bodies =
    with_declaration n (g.T.Building.specifiers c.args.of NoSpecifiers) c.args.source.now c.declares.new.source
    c.args.at g.T.Building.declarator c.in-Some.read
    (found_some g.T.Building.declarator (declarator_in (suc n) c.args.source.now) c.args.source.now.tokens c.args.at
    c.in_ok-read.field-0 c.in-Some.read c.in-Some.is
    (names _ c.args.at (Ok c.in_ok-read.field-0) c.ranges.at.fits c.in_ok-read.ensures))
    (sym c.is_word.ensures ∙ c.if-is_word.false) g.T.BuildingStatements.external g.T.BuildingDeclarations.declaration
    c.in-Some-2.found c.file_declaration.result
    (rw c.in-Some-2.is at (c.in_ok-found.ensures.reads (suc n) names values)) c.file_declaration.ensures
