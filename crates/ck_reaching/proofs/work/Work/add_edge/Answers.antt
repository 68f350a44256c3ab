use Rattle.std.proofs.lemmas.Result.{on_ok_weaker}
use Rattle.ck_reaching.proofs.WorkLemmas.{AddsEdge-from}
use Rattle.ck_reaching.proofs.work.Work.add_edge.Goals as goal

pub returns : goal.returns
returns c =
    on_ok_weaker c.add-2.result
    (AddsEdge-from c.args.from.0 c.args.to.0 c.args.self.now c.add-2.new.self c.add.new.self c.copy_to.new.into
    c.requires.shaped c.requires.from c.requires.to c.in_ok-add.ensures c.copy_to.ensures)
    c.add-2.ensures
