-- What the trees in memory stand for, production by production: the one set of laws that a crate above cites where it
-- builds trees or walks over them, as `using(ck_syntax::proofs::Views::views)` or in a list of `search`. It has the
-- plain tree of each production that code matches, and of each struct with vectors of the trees by its fields, as
-- code reads them.
use Rattle.ck_syntax.proofs.Equations.{views as expression_views, parts}
use Rattle.ck_syntax.proofs.InitialiserEquations.{initialiser_views, initialiser_parts}
use Rattle.ck_syntax.proofs.StatementEquations.{statement_views}

pub ruleset views = (expression_views, parts, initialiser_views, initialiser_parts, statement_views)
