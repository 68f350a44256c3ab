use Rattle.std.proofs.Common.{◌≡◌, get_or, slice_get, sym, ap, ◌∙◌, subst, inl, inr, arith}
use Rattle.std.proofs.lemmas.Bool.{cases_lt}
use Rattle.std.proofs.lemmas.List.Elements.{Contains-get_or}
use Rattle.std.proofs.lemmas.Option.{slice_get_within, slice_get-get_or, same_Some}
use Rattle.ck_base.specs.declared.spans.PointId.{PointId}
use Rattle.ck_graph.proofs.SoundGraphs.{there-from_call}
use Rattle.ck_paths.specs.Search.{HasCallers}
use Rattle.ck_paths.proofs.Lists.{place-of}
use Rattle.ck_paths.proofs.Growing.{Grows-then}
use Rattle.ck_paths.proofs.Chains.{callers-kept, callers-before}
use Rattle.ck_paths.proofs.search.pass_exit.Goals as goal

pub back_to-requires-clause-caller : goal.back_to-requires-clause-caller
back_to-requires-clause-caller c =
    there-from_call c.args.graph.now (get_or c.args.callers.now c.loop-caller.caller-index _).0 c.args.target.0
    ((c.requires.callers.exactly _).0 (Contains-get_or c.args.callers.now c.loop-caller.caller-index _
    c.loop-caller-test.true))

pub loop-caller-preserved : goal.loop-caller-preserved
loop-caller-preserved c =
    let flow = c.args.graph.now in
    let old = c.args.found.now.places.items in
    let mid = c.loop-caller.found.places.items in
    let new = c.back_to.new.found.places.items in
    let callers = c.args.callers.now in
    let n = c.loop-caller.caller-index in
    let grew = c.in_ok-back_to.ensures.grows in
    record {
      grows = Grows-then flow old mid new c.loop-caller.found.last.items c.back_to.new.found.last.items
          c.loop-caller.invariant.grows grew;
      back = λ k p below there. elim (cases_lt k n) [
        | inl before ↦ callers-kept flow old mid new c.args.ends p.0 grew.kept
            (c.loop-caller.invariant.back k p before there)
        | inr last ↦
            let number : k ≡ n = omega (arith, last, below) in
            let same : p ≡ get_or callers n _ = same_Some p (get_or callers n _)
            (sym there ∙ (ap (slice_get callers) number ∙ slice_get-get_or callers n _ c.loop-caller-test.true)) in
            subst (λ (q : PointId). HasCallers flow old new c.args.ends q.0 0) (sym same)
            (callers-before flow old mid new c.args.ends _ c.loop-caller.invariant.grows.kept
            c.in_ok-back_to.ensures.callers)
      ];
    }

pub returns-clause-back : goal.returns-clause-back
returns-clause-back c = λ caller may.
    let callers = c.args.callers.now in
    let place = place-of callers (record { 0 = caller }) ((c.requires.callers.exactly (record { 0 = caller })).1 may) in
    c.loop-caller.invariant.back place.0 (record { 0 = caller })
    (omega (arith, c.loop-caller-test.false, slice_get_within callers place.0 (record { 0 = caller }) place.1))
    place.1
