use Rattle.std.proofs.Common.{Some, refl, sym, ap, subst, ◌∙◌}
use Rattle.ck_origins.specs.Steps.{with_call}
use Rattle.ck_reaching.specs.declared.rules.Call.{Call}
use Rattle.ck_reaching.specs.declared.rules.CellId.{CellId}
use Rattle.ck_pointers.specs.Sources.{IsResult}
use Rattle.ck_pointers.specs.declared.sources.Source.TheVariants.{Cell}
use Rattle.ck_pointers.proofs.ResultLemmas.{result_of_call}
use Rattle.ck_pointers.proofs.sources.result_of_cell.Goals as goal

pub returns : goal.returns
returns c =
    let cell : CellId = record { 0 = c.cells.result } in
    let call : Call =
    record { called = c.args.called; kind = c.args.kind; arguments = c.new-arguments.result; result = Some cell } in
    subst (IsResult c.args.kind (Cell c.args.called) (Cell cell) c.args.rules.now)
    (sym (c.in_ok-add_call.ensures.added ∙ ap (λ s. with_call s call) c.in_ok-add_cell.ensures.added))
    (result_of_call call cell c.args.rules.now c.cells.ensures.in_range c.cells.ensures.count c.requires.called
    c.new-arguments.ensures.items refl)
