use Rattle.std.proofs.Common.{ap, ◌∙◌}
use Rattle.std.specs.Prelude.{reverse}
use Rattle.ck_scopes.specs.Environments.{Environment, meant}
use Rattle.ck_scopes.proofs.KeptLemmas.{meant_is}
use Rattle.ck_scopes.proofs.scopes.Scopes.meant.Goals as goal

pub returns-in-Some : goal.returns-in-Some
returns-in-Some c =
    c.in-Some.ensures
    ∙ (meant_is c.self.inside.file c.self.inside.scope c.self.inside.sight (reverse c.self.inside.rows.items)
    (reverse c.self.inside.opened.items) c.args.space c.args.name.0 c.self.invariant
    ∙ ap (λ (v : Environment). meant v c.args.space c.args.name.0) c.self.view_is)

pub returns-in-None : goal.returns-in-None
returns-in-None c =
    c.in-None.ensures
    ∙ (meant_is c.self.inside.file c.self.inside.scope c.self.inside.sight (reverse c.self.inside.rows.items)
    (reverse c.self.inside.opened.items) c.args.space c.args.name.0 c.self.invariant
    ∙ ap (λ (v : Environment). meant v c.args.space c.args.name.0) c.self.view_is)
