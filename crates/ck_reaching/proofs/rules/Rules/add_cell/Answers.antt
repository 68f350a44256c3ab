use Rattle.ck_reaching.specs.Rules.{System}
use Rattle.ck_reaching.proofs.RangeLemmas.{IsInRange-wider}
use Rattle.ck_reaching.proofs.rules.Rules.add_cell.Goals as goal

pub invariant_of-self : goal.invariant_of-self
invariant_of-self c =
    let inside = c.self.inside in
    let s : System = record {
      cells = inside.cells;
      callees = inside.callees.items;
      kinds = inside.kinds.items;
      names = inside.names.items;
      flows = inside.flows.items;
      calls = inside.calls.items;
    } in
    IsInRange-wider s c.self.invariant
