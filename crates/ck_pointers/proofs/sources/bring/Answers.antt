use Rattle.std.proofs.Common.{sym, subst}
use Rattle.std.proofs.lemmas.Result.{on_ok_weaker}
use Rattle.ck_pointers.specs.Sources.{IsBrought}
use Rattle.ck_pointers.specs.declared.sources.Source.TheVariants.{Function, Cell}
use Rattle.ck_pointers.proofs.SourceLemmas.{brought_flow, brought_name, brought_nothing}
use Rattle.ck_pointers.proofs.sources.bring.Goals as goal

pub returns-in-Nowhere : goal.returns-in-Nowhere
returns-in-Nowhere c =
    subst (λ s. IsBrought s c.args.cell.0 c.args.rules.now c.args.rules.now) (sym c.in-Nowhere.is)
    (brought_nothing c.args.cell.0 c.args.rules.now)

pub returns-in-Function : goal.returns-in-Function
returns-in-Function c =
    on_ok_weaker c.add_name.result
    (λ is. subst (λ s. IsBrought s c.args.cell.0 c.args.rules.now c.add_name.new.self) (sym c.in-Function.is)
    (subst (IsBrought (Function c.in-Function.function) c.args.cell.0 c.args.rules.now) (sym is)
    (brought_name c.in-Function.function c.args.cell c.args.rules.now))) c.add_name.ensures

pub returns-in-Cell : goal.returns-in-Cell
returns-in-Cell c =
    on_ok_weaker c.add_flow.result
    (λ is. subst (λ s. IsBrought s c.args.cell.0 c.args.rules.now c.add_flow.new.self) (sym c.in-Cell.is)
    (subst (IsBrought (Cell c.in-Cell.from) c.args.cell.0 c.args.rules.now) (sym is)
    (brought_flow c.in-Cell.from c.args.cell c.args.rules.now))) c.add_flow.ensures
