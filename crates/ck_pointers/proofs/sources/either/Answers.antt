use Rattle.std.proofs.Common.{subst}
use Rattle.ck_reaching.specs.declared.rules.CellId.{CellId}
use Rattle.ck_pointers.specs.Sources.{IsBrought}
use Rattle.ck_pointers.proofs.SourceLemmas.{either_cell}
use Rattle.ck_pointers.proofs.sources.either.Goals as goal

pub returns : goal.returns
returns c =
    let cell : CellId = record { 0 = c.cells.result } in
    let one = subst (λ s. IsBrought c.args.first c.cells.result s c.bring.new.rules) c.in_ok-add_cell.ensures.added
    c.in_ok-bring.ensures in
    either_cell c.args.first c.args.second cell c.args.rules.now c.bring.new.rules c.bring-2.new.rules
    c.cells.ensures.in_range c.cells.ensures.count c.requires.first c.requires.second one c.in_ok-bring-2.ensures
