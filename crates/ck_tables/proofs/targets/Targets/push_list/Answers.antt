use Rattle.ck_tables.proofs.TargetLemmas.{within_list}
use Rattle.ck_tables.proofs.targets.Targets.push_list.Goals as goal

pub invariant_of-self-2 : goal.invariant_of-self-2
invariant_of-self-2 c =
    within_list c.self.inside.lists.items c.push.new.self.items c.args.functions c.self.inside.calls.items
    c.self.inside.slots.items c.in_ok-push.ensures.items c.self.invariant
