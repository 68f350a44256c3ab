use Rattle.ck_cli.specs.declared.calls.KernelCall.TheVariants.{Init}
use Rattle.ck_cli.proofs.TextLemmas.{AreActsWritten-more}
use Rattle.ck_cli.proofs.texts.push_acts.Goals as goal

pub loop-made-preserved : goal.loop-made-preserved
loop-made-preserved c =
    AreActsWritten-more c.args.source.now.bytes.now c.args.calls.now c.loop-made.made-index
    (record { call = Init; start = 0 }) c.args.text.now.items c.loop-made.text.items c.push_act.new.text.items
    c.loop-made-test.true c.loop-made.invariant c.in_ok-push_act.ensures
