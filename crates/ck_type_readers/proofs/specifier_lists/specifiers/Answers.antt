use Rattle.std.proofs.Common.{drop}
use Rattle.ck_grammar.specs.Trees as plain
use Rattle.ck_readers.specs.SourceView.{words}
use Rattle.ck_type_readers.proofs.Readings.{specifiers_fit, specifiers_fit_not}
use Rattle.ck_type_readers.proofs.specifier_lists.specifiers.Goals as goal

pub returns-then-goes_together : goal.returns-then-goes_together
returns-then-goes_together g c inside listed structs enums =
    let all = c.in_ok-found.ensures inside listed structs enums in
    record {
      read =
          specifiers_fit c.tallies_tell.ensures (words c.args.source.now) inside listed c.args.place
          (drop c.args.at c.args.source.now.tokens) (drop c.in_ok-found.found.1 c.args.source.now.tokens)
          (g.T.Building.specifiers c.in_ok-found.found.0.0 plain.NoSpecifiers) c.in_ok-found.found.0.1
          c.goes_together.result all.read all.told c.goes_together.ensures c.if-goes_together.true;
      within = all.within;
    }

pub returns-else-goes_together : goal.returns-else-goes_together
returns-else-goes_together g c inside listed structs enums =
    let all = c.in_ok-found.ensures inside listed structs enums in
    specifiers_fit_not c.tallies_tell.ensures (words c.args.source.now) inside listed c.args.place
    (drop c.args.at c.args.source.now.tokens) (drop c.in_ok-found.found.1 c.args.source.now.tokens)
    (g.T.Building.specifiers c.in_ok-found.found.0.0 plain.NoSpecifiers) c.in_ok-found.found.0.1
    c.goes_together.result all.read all.told c.goes_together.ensures c.if-goes_together.false
