use Rattle.ck_reaching.proofs.SetLemmas.{Has-replicate}
use Rattle.std.proofs.Common.{◌+◌, ◌/◌}
use Rattle.ck_reaching.proofs.sets.FnSet.new.Goals as goal

pub returns-clause-empty : goal.returns-clause-empty
returns-clause-empty c =
    Has-replicate (c.args.functions / 256 + 1) c.no_pairs.result c.no_pairs.ensures.none c.in_ok-blocks.blocks.items
    (c.in_ok-blocks.ensures.items_if_clones_equal (λ y e. e))
