use Rattle.std.proofs.Common.{◌≡◌, [], true, false, IfOk, sym, ap, subst, ◌∙◌}
use Rattle.ck_points.specs.Functions.{status_in}
use Rattle.ck_tables.specs.Program.{plain_body}
use Rattle.ck_bodies.specs.DrawnFunctions.{plain_whole, pair_whole}
use Rattle.ck_bodies.specs.Noting.{named, has_status, plain_notes}
use Rattle.ck_bodies.specs.Walks.{tables, made}
use Rattle.ck_bodies.proofs.FunctionsDrawn.{pair-chosen, plain-chosen}
use Rattle.ck_bodies.proofs.Noted.{named-noted_from, status-noted_from}
use Rattle.ck_bodies.proofs.walk.BodyWalk.whole.Goals as goal

pub returns-then-keeps_status : goal.returns-then-keeps_status
returns-then-keeps_status c =
    let w = c.args.self.now in
    let l = tables w in
    let is = (plain_body l c.args.body.now).items in
    let labels =
    ap (λ ns. named (plain_notes l ns)) c.in_ok-labels.ensures.notes ∙ ap named c.in_ok-notes.ensures.notes
    ∙ named-noted_from [] 0 is in
    let flag : status_in is ≡ true =
    sym (status-noted_from [] 0 is) ∙ sym (ap has_status c.in_ok-notes.ensures.notes)
    ∙ ap (λ ns. has_status (plain_notes l ns)) (sym c.as_slice.ensures.value)
    ∙ sym (c.notes_status-keeps_status.ensures l) ∙ c.if-keeps_status.true in
    subst (λ x. IfOk c.pair_whole.result (λ d. made w d ≡ x))
    (ap (λ ls. pair_whole c.args.name ls is) labels ∙ pair-chosen c.args.name is flag) c.pair_whole.ensures

pub returns : goal.returns
returns c =
    let w = c.args.self.now in
    let l = tables w in
    let is = (plain_body l c.args.body.now).items in
    let labels =
    ap (λ ns. named (plain_notes l ns)) c.in_ok-labels.ensures.notes ∙ ap named c.in_ok-notes.ensures.notes
    ∙ named-noted_from [] 0 is in
    let flag : status_in is ≡ false =
    sym (status-noted_from [] 0 is) ∙ sym (ap has_status c.in_ok-notes.ensures.notes)
    ∙ ap (λ ns. has_status (plain_notes l ns)) (sym c.as_slice.ensures.value)
    ∙ sym (c.notes_status-keeps_status.ensures l) ∙ c.if-keeps_status.false in
    subst (λ x. IfOk c.plain_whole.result (λ d. made w d ≡ x))
    (ap (λ ls. plain_whole c.args.name ls is) labels ∙ plain-chosen c.args.name is flag) c.plain_whole.ensures
