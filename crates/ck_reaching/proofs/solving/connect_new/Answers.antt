use Rattle.std.proofs.Common.{◌≡◌, ◌∙◌, length, ap, sym}
use Rattle.std.proofs.lemmas.Bool.{eqb-true}
use Rattle.std.proofs.lemmas.Result.{on_ok_weaker}
use Rattle.ck_reaching.proofs.LookLemmas.{ConnectsNew-none, ConnectsNew-from}
use Rattle.ck_reaching.proofs.solving.connect_new.Goals as goal

pub returns-then-is_empty : goal.returns-then-is_empty
returns-then-is_empty c =
    let none : length c.at.result.now ≡ 0 =
    eqb-true (length c.at.result.now) 0 (sym c.is_empty.ensures ∙ c.if-is_empty.true) in
    ConnectsNew-none c.args.rules.now c.args.cell.0 c.args.calls.now c.args.seen.now c.args.work.now c.requires.work
    c.requires.seen c.requires.connected c.requires.calls (ap length (sym c.at.ensures) ∙ none)

pub returns : goal.returns
returns c =
    on_ok_weaker c.connect_functions.result
    (ConnectsNew-from c.args.rules.now c.args.cell.0 c.connect_functions.new.seen c.args.work.now
    c.connect_functions.new.work c.requires.work) c.connect_functions.ensures
