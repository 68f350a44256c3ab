use Rattle.std.proofs.Common.{ap, sym, ◌∙◌}
use Rattle.ck_texts.proofs.SegmentLemmas.{enters_last, goes_in-last}
use Rattle.ck_texts.proofs.steps.goes_in.Goals as goal

pub returns-in-Some : goal.returns-in-Some
returns-in-Some c =
    c.enters.ensures ∙ (ap enters_last c.in-Some.ensures.value ∙ sym (goes_in-last c.args.steps.now))

pub returns-in-None : goal.returns-in-None
returns-in-None c = ap enters_last c.in-None.ensures.value ∙ sym (goes_in-last c.args.steps.now)
