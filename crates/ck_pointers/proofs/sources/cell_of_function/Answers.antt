use Rattle.std.proofs.Common.{Some, sym, ap, subst, ◌∙◌}
use Rattle.ck_origins.specs.Steps.{with_name}
use Rattle.ck_reaching.specs.declared.rules.CellId.{CellId}
use Rattle.ck_pointers.specs.Sources.{IsCellOf}
use Rattle.ck_pointers.specs.declared.sources.Source.TheVariants.{Function}
use Rattle.ck_pointers.proofs.ResultLemmas.{cell_of_name}
use Rattle.ck_pointers.proofs.SourceLemmas.{name_there}
use Rattle.ck_pointers.proofs.sources.cell_of_function.Goals as goal

pub returns : goal.returns
returns c =
    let cell : CellId = record { 0 = c.cells.result } in
    subst (IsCellOf (Function c.args.function) (Some cell) c.args.rules.now)
    (sym (c.in_ok-add_name.ensures
    ∙ ap (λ s. with_name s (name_there c.args.function cell)) c.in_ok-add_cell.ensures.added))
    (cell_of_name c.args.function cell c.args.rules.now c.cells.ensures.in_range c.cells.ensures.count)
