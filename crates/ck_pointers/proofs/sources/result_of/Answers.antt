use Rattle.std.proofs.Common.{subst}
use Rattle.std.proofs.lemmas.Result.{IfOk-weaker}
use Rattle.ck_pointers.specs.Sources.{IsCellOf, IsResult}
use Rattle.ck_pointers.specs.declared.sources.Source.TheVariants.{Cell}
use Rattle.ck_pointers.proofs.ResultLemmas.{result_of_cell, result_of_nothing}
use Rattle.ck_pointers.proofs.sources.result_of.Goals as goal

pub returns-in-None : goal.returns-in-None
returns-in-None c =
    result_of_nothing c.args.kind c.args.called c.args.rules.now c.cell_of.new.rules
    (subst (λ x. IsCellOf c.args.called x c.args.rules.now c.cell_of.new.rules) c.in-None.is c.in_ok-cell.ensures)

pub returns-in-Some : goal.returns-in-Some
returns-in-Some c =
    let mid = c.cell_of.new.rules in
    let new = c.result_of_cell.new.rules in
    IfOk-weaker c.result_of_cell.result (λ source. IsResult c.args.kind (Cell c.in-Some.cell) source mid new)
    (λ source. IsResult c.args.kind c.args.called source c.args.rules.now new)
    (λ source is. result_of_cell c.args.kind c.args.called source c.in-Some.cell c.args.rules.now mid new
    (subst (λ x. IsCellOf c.args.called x c.args.rules.now mid) c.in-Some.is c.in_ok-cell.ensures) is)
    c.result_of_cell.ensures
