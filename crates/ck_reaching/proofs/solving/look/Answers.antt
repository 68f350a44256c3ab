use Rattle.std.proofs.lemmas.Result.{on_ok_weaker}
use Rattle.ck_reaching.proofs.LookLemmas.{IsLook-from}
use Rattle.ck_reaching.proofs.solving.look.Goals as goal

pub returns : goal.returns
returns c =
    on_ok_weaker c.spread.result
    (IsLook-from c.args.rules.now c.args.cell.0 c.connect_new.new.seen c.args.work.now c.connect_new.new.work
    c.spread.new.self c.in_ok-connect_new.ensures) c.spread.ensures
