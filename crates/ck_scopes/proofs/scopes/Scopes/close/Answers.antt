use Rattle.std.proofs.Common.{◌<◌, ap, length, subst, sym, ◌∙◌}
use Rattle.std.specs.Prelude.{reverse}
use Rattle.ck_scopes.specs.Environments.{Environment, outside}
use Rattle.ck_scopes.specs.Kept.{IsKept}
use Rattle.ck_scopes.proofs.KeptLemmas.{closed_kept, closed_shown, some_open}
use Rattle.ck_scopes.proofs.scopes.Scopes.close.Goals as goal

pub returns-in_default : goal.returns-in_default
returns-in_default c =
    absurd (some_open (reverse c.self.inside.rows.items) (reverse c.self.inside.opened.items) c.self.inside.file
    c.self.inside.scope c.in_default.is
    (subst (λ (v : Environment). 0 < length v.scope) (sym c.self.view_is) c.requires))

pub invariant_of-self : goal.invariant_of-self
invariant_of-self c =
    subst
    (IsKept (reverse c.self.inside.rows.items) (reverse c.self.inside.opened.items) c.self.inside.file
    c.index-closing.result.now.outer)
    (sym c.hide_from.ensures)
    (closed_kept c.self.inside.file c.self.inside.scope c.self.inside.sight (reverse c.self.inside.rows.items)
    c.self.inside.opened.items c.in-Some.scope c.index-closing.result.now c.in-Some.is c.self.invariant
    c.index-closing.ensures)

pub returns : goal.returns
returns c =
    closed_shown c.self.inside.file c.self.inside.scope c.self.inside.sight (reverse c.self.inside.rows.items)
    c.self.inside.opened.items c.in-Some.scope c.index-closing.result.now c.in-Some.is c.self.invariant
    c.index-closing.ensures
    ∙ ap outside c.self.view_is
