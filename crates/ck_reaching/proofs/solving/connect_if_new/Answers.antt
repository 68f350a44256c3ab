use Rattle.std.proofs.Common.{sym, subst}
use Rattle.std.specs.List.{Contains}
use Rattle.ck_reaching.specs.Reaching.{Reaches}
use Rattle.ck_reaching.proofs.LookLemmas.{AreConnected-seen, AreConnected-grows}
use Rattle.ck_reaching.proofs.solving.connect_if_new.Goals as goal

pub connect_calls-requires-clause-calls : goal.connect_calls-requires-clause-calls
connect_calls-requires-clause-calls c = λ k there.
    let s = c.args.rules.now in
    let f = c.args.function.0 in
    let cell = c.args.cell.0 in
    let at = c.requires.calls.only cell k (subst (λ xs. Contains xs k) c.at.ensures there) in
    let reaches = c.requires.work.reached cell f (c.reaches.ensures.0 c.if-not-reaches.false) in
    (at.0, at.1, subst (λ q. Reaches s q f) (sym at.2) reaches)

pub returns-clause-connected : goal.returns-clause-connected
returns-clause-connected c =
    let s = c.args.rules.now in
    let f = c.args.function.0 in
    let cell = c.args.cell.0 in
    let new = c.connect_calls.new.work in
    let e = c.in_ok-connect_calls.ensures in
    AreConnected-seen s cell f c.args.seen.now c.insert.new.self new.edges c.insert.ensures.exactly
    (λ number call is at kind. e.connected number
    (subst (λ xs. Contains xs number) (sym c.at.ensures) (c.requires.calls.all cell number (call, is, at))) call is
    kind)
    (AreConnected-grows s c.args.seen.now c.args.work.now new e.advances.grows c.requires.connected)
