use Rattle.std.proofs.Common.{◌≡◌, ap, arith, length, refl, sym, ◌∙◌}
use Rattle.std.specs.Prelude.{reverse}
use Rattle.std.proofs.lemmas.List.{length-reverse}
use Rattle.ck_scopes.specs.Environments.{inside}
use Rattle.ck_scopes.specs.declared.scopes.Opened.{Opened}
use Rattle.ck_scopes.proofs.KeptLemmas.{opened_kept, opened_shown}
use Rattle.ck_scopes.proofs.scopes.Scopes.open.Goals as goal

pub invariant_of-self-2 : goal.invariant_of-self-2
invariant_of-self-2 c =
    let o : Opened = record { start = c.in_ok-start.start; outer = c.self.inside.scope } in
    let start : c.in_ok-start.start ≡ length c.self.inside.rows.items = grind arith in
    let scope : c.in_ok-scope.scope ≡ length c.self.inside.opened.items = grind arith in
    opened_kept c.self.inside.file c.self.inside.scope c.self.inside.sight (reverse c.self.inside.rows.items)
    c.self.inside.opened.items c.push.new.self.items o c.in_ok-scope.scope c.self.invariant c.in_ok-push.ensures.items
    (start ∙ sym (length-reverse c.self.inside.rows.items)) refl scope

pub returns-clause-inside : goal.returns-clause-inside
returns-clause-inside c =
    let o : Opened = record { start = c.in_ok-start.start; outer = c.self.inside.scope } in
    let start : c.in_ok-start.start ≡ length c.self.inside.rows.items = grind arith in
    let scope : c.in_ok-scope.scope ≡ length c.self.inside.opened.items = grind arith in
    opened_shown c.self.inside.file c.self.inside.scope c.self.inside.sight (reverse c.self.inside.rows.items)
    c.self.inside.opened.items c.push.new.self.items o c.in_ok-scope.scope c.self.invariant c.in_ok-push.ensures.items
    (start ∙ sym (length-reverse c.self.inside.rows.items)) refl scope
    ∙ ap inside c.self.view_is
