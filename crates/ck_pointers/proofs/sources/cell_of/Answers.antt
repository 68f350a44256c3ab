use Rattle.std.proofs.Common.{Some, None, sym, subst}
use Rattle.ck_pointers.specs.Sources.{IsCellOf, IsWithin}
use Rattle.ck_pointers.proofs.ResultLemmas.{cell_of_cell, cell_of_nowhere}
use Rattle.ck_pointers.proofs.sources.cell_of.Goals as goal

pub returns-in-Nowhere : goal.returns-in-Nowhere
returns-in-Nowhere c =
    subst (λ s. IsCellOf s None c.args.rules.now c.args.rules.now) (sym c.in-Nowhere.is)
    (cell_of_nowhere c.args.rules.now)

pub returns-in-Cell : goal.returns-in-Cell
returns-in-Cell c =
    subst (λ s. IsCellOf s (Some c.in-Cell.cell) c.args.rules.now c.args.rules.now) (sym c.in-Cell.is)
    (cell_of_cell c.in-Cell.cell c.args.rules.now (subst (IsWithin c.args.rules.now) c.in-Cell.is c.requires))

pub returns-in_ok-cell_of_function-in-Function : goal.returns-in_ok-cell_of_function-in-Function
returns-in_ok-cell_of_function-in-Function c =
    let cell = c.in_ok-cell_of_function-in-Function.field-0 in
    subst (λ s. IsCellOf s (Some cell) c.args.rules.now c.cell_of_function.new.rules) (sym c.in-Function.is)
    c.in_ok-cell_of_function-in-Function.ensures
