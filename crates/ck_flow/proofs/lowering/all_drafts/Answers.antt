use Rattle.std.proofs.Common.{◌≡◌, ◌+◌, [], ◌∷◌, length, Some, ap, sym, subst, arith, length-append}
use Rattle.std.specs.Prelude.{slice_get}
use Rattle.ck_drafts.specs.Drafts.{AreDraftsOf}
use Rattle.ck_flow.proofs.SoFar.{AreSoFar, none-yet, one-more}
use Rattle.ck_kinds.specs.KindedDrafts.{flow_program}
use Rattle.ck_prog.specs.TypedBodies.{TypedFunction}
use Rattle.ck_flow.proofs.lowering.all_drafts.Goals as goal

pub functions-init : goal.functions-init
functions-init c =
    let p = flow_program c.args.program.now.linked c.args.program.now.rows in
    record {
      long = ap length c.new-all.ensures.items;
      so_far = none-yet p c.new-all.result.items c.new-all.ensures.items;
    }

pub functions-preserved : goal.functions-preserved
functions-preserved c =
    let p = flow_program c.args.program.now.linked c.args.program.now.rows in
    let all = c.functions.all.items in
    let drafts = c.in_ok-drafts.drafts in
    let own =
    subst (λ i. (f : TypedFunction) → slice_get p.functions i ≡ Some f → AreDraftsOf p i f drafts.items)
    (sym c.functions.invariant.long) c.in_ok-drafts.ensures in
    let items = c.in_ok-push.ensures.items in
    let long = c.functions.invariant.long in
    record {
      long = omega (arith, ap length items, length-append all (drafts ∷ []), long);
      so_far = subst (AreSoFar p) (sym items) (one-more p all drafts c.functions.invariant.so_far own);
    }

pub returns : goal.returns
returns c =
    let long = c.functions.invariant.long in
    let count = c.requires.count in
    record {
      functions = omega arith;
      each = λ i f drafts own there. c.functions.invariant.so_far.each i drafts there f own;
    }
