use Rattle.std.proofs.lemmas.Result.{on_ok_weaker}
use Rattle.ck_pointers.proofs.GivingLemmas.{given_by_bringing}
use Rattle.ck_pointers.proofs.givens.give.Goals as goal

pub returns : goal.returns
returns c =
    on_ok_weaker c.bring.result
    (given_by_bringing c.args.source c.args.to.0 c.args.rules.now c.bring.new.rules) c.bring.ensures
