use Rattle.std.proofs.Common.{ap, sym, ◌∙◌}
use Rattle.std.specs.Prelude.{reverse, Some, None, if◌then◌else◌}
use Rattle.std.proofs.lemmas.Bool.{le-leb, lt-leb}
use Rattle.ck_scopes.specs.Environments.{number_of}
use Rattle.ck_scopes.proofs.KeptLemmas.{innermost_found}
use Rattle.ck_scopes.proofs.scopes.Scopes.in_innermost.Goals as goal

pub returns-in_err-number : goal.returns-in_err-number
returns-in_err-number c =
    ap number_of c.from_residual.ensures
    ∙ innermost_found c.self.inside.file c.self.inside.scope c.self.inside.sight
    (reverse c.self.inside.rows.items) (reverse c.self.inside.opened.items) c.args.space c.args.name.0 c.args.self.now
    c.start-start.result None c.self.invariant c.self.view_is c.start-start.ensures c.in_err-number.ensures

pub returns-then-start-number : goal.returns-then-start-number
returns-then-start-number c =
    let n = c.in_ok-number.number in
    sym (ap (λ b. if b then Some n else None) (le-leb c.start-start.result n c.if-start-number.true))
    ∙ innermost_found c.self.inside.file c.self.inside.scope c.self.inside.sight
    (reverse c.self.inside.rows.items) (reverse c.self.inside.opened.items) c.args.space c.args.name.0 c.args.self.now
    c.start-start.result (Some n) c.self.invariant c.self.view_is c.start-start.ensures c.in_ok-number.ensures

pub returns-else-start-number : goal.returns-else-start-number
returns-else-start-number c =
    let n = c.in_ok-number.number in
    sym (ap (λ b. if b then Some n else None) (lt-leb c.start-start.result n c.if-start-number.false))
    ∙ innermost_found c.self.inside.file c.self.inside.scope c.self.inside.sight
    (reverse c.self.inside.rows.items) (reverse c.self.inside.opened.items) c.args.space c.args.name.0 c.args.self.now
    c.start-start.result (Some n) c.self.invariant c.self.view_is c.start-start.ensures c.in_ok-number.ensures
