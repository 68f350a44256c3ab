use Rattle.std.proofs.Common.{ap, ◌∙◌}
use Rattle.std.specs.Prelude.{reverse}
use Rattle.ck_scopes.specs.Environments.{Environment}
use Rattle.ck_scopes.specs.Ordered.{start_of}
use Rattle.ck_scopes.proofs.KeptLemmas.{start_read, start_none}
use Rattle.ck_scopes.proofs.scopes.Scopes.start.Goals as goal

pub returns-in-Some : goal.returns-in-Some
returns-in-Some c =
    start_read c.self.inside.file c.self.inside.scope c.self.inside.sight (reverse c.self.inside.rows.items)
    c.self.inside.opened.items c.in-Some.scope c.index.result.now c.in-Some.is c.self.invariant c.index.ensures
    ∙ ap (λ (v : Environment). start_of v.scope) c.self.view_is

pub returns-in-None : goal.returns-in-None
returns-in-None c =
    start_none c.self.inside.file c.self.inside.scope c.self.inside.sight (reverse c.self.inside.rows.items)
    (reverse c.self.inside.opened.items) c.in-None.is
    ∙ ap (λ (v : Environment). start_of v.scope) c.self.view_is
