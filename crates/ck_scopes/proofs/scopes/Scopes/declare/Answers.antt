use Rattle.std.proofs.Common.{◌≡◌, ap, arith, length, refl, subst, sym, ◌∙◌}
use Rattle.std.specs.Prelude.{reverse}
use Rattle.std.proofs.lemmas.List.{length-reverse}
use Rattle.ck_scopes.specs.Environments.{Environment, declaring}
use Rattle.ck_scopes.specs.Kept.{IsKept}
use Rattle.ck_scopes.specs.declared.scopes.Row.{Row}
use Rattle.ck_scopes.proofs.KeptLemmas.{row_kept, row_shown, count_is}
use Rattle.ck_scopes.proofs.scopes.Scopes.declare.Goals as goal

pub invariant_of-self-in-Ok : goal.invariant_of-self-in-Ok
invariant_of-self-in-Ok c =
    let file = c.self.inside.file in
    let scope = c.self.inside.scope in
    let scopes = reverse c.self.inside.opened.items in
    let r : Row = record { file = file; scope = scope; name = c.args.name; space = c.args.space } in
    let count : c.in_ok-count.count ≡ length c.self.inside.rows.items = grind arith in
    subst (IsKept (reverse c.push.new.self.items) scopes file scope) (sym c.in-Ok.ensures.shown)
    (row_kept file scope c.self.inside.sight c.self.inside.rows.items c.push.new.self.items scopes r c.in_ok-count.count
    c.self.invariant c.in_ok-push.ensures.items refl refl count)

pub returns-in-Ok-clause-declared : goal.returns-in-Ok-clause-declared
returns-in-Ok-clause-declared c =
    let file = c.self.inside.file in
    let scope = c.self.inside.scope in
    let scopes = reverse c.self.inside.opened.items in
    let r : Row = record { file = file; scope = scope; name = c.args.name; space = c.args.space } in
    row_shown file scope c.self.inside.sight c.self.inside.rows.items c.push.new.self.items scopes r
    c.in_ok-push.ensures.items refl refl
    ∙ ap (λ (v : Environment). declaring v c.args.name.0 c.args.space) c.self.view_is

pub returns-in-Ok-clause-number : goal.returns-in-Ok-clause-number
returns-in-Ok-clause-number c =
    let rows = c.self.inside.rows.items in
    let count : c.in_ok-count.count ≡ length rows = grind arith in
    count
    ∙ (sym (length-reverse rows)
    ∙ (count_is (reverse rows) (reverse c.self.inside.opened.items) c.self.inside.file c.self.inside.scope
    ∙ ap (λ (v : Environment). length v.declared) c.self.view_is))
