use Rattle.std.proofs.Common.{◌+◌, ap, subst, sym, ◌∙◌}
use Rattle.std.specs.Prelude.{None, reverse}
use Rattle.ck_scopes.specs.Environments.{next_file}
use Rattle.ck_scopes.specs.Kept.{IsKept, environment_of}
use Rattle.ck_scopes.proofs.KeptLemmas.{kept_next, environment_next}
use Rattle.ck_scopes.proofs.SeenLemmas.{hide_all}
use Rattle.ck_scopes.proofs.scopes.Scopes.next_file.Goals as goal

pub invariant_of-self : goal.invariant_of-self
invariant_of-self c =
    let rows = reverse c.self.inside.rows.items in
    let scopes = reverse c.self.inside.opened.items in
    let file = c.self.inside.file in
    let sight = c.self.inside.sight in
    subst (λ f. IsKept rows scopes f None c.hide_from.new.self) (sym c.in-Some.ensures.1)
    (subst (IsKept rows scopes (file + 1) None) (sym (c.hide_from.ensures ∙ hide_all sight))
    (kept_next rows scopes file c.self.inside.scope sight c.self.invariant))

pub returns-clause-next : goal.returns-clause-next
returns-clause-next c =
    let rows = reverse c.self.inside.rows.items in
    let scopes = reverse c.self.inside.opened.items in
    ap (λ f. environment_of rows scopes f None) c.in-Some.ensures.1
    ∙ (environment_next rows scopes c.self.inside.file c.self.inside.scope ∙ ap next_file c.self.view_is)
