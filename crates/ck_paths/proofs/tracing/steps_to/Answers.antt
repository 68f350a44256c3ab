use Rattle.std.proofs.Common.{◌≡◌, ◌++◌, false, List, [], ◌∷◌, reverse, sym, ap, ◌∙◌, subst, arith}
use Rattle.std.proofs.lemmas.List.{reverse-append}
use Rattle.ck_segments.specs.declared.segments.Step.{Step}
use Rattle.ck_paths.specs.Tracing.{IsTraced}
use Rattle.ck_paths.proofs.Traces.{traced-none, traced-more}
use Rattle.ck_paths.proofs.tracing.steps_to.Goals as goal

pub back-init : goal.back-init
back-init c = record {
  there = c.requires.there;
  cited = c.requires.cited;
  traced =
      subst
      (λ (steps : List Step).
      IsTraced c.args.graph.now c.args.found.now.places.items c.args.exits.now c.args.number c.args.number
      (reverse steps))
      (sym c.new-steps.ensures.items)
      (traced-none c.args.graph.now c.args.found.now.places.items c.args.exits.now c.args.number c.requires.there);
}

pub back-preserved : goal.back-preserved
back-preserved c =
    let flow = c.args.graph.now in
    let places = c.args.found.now.places.items in
    let exits = c.args.exits.now in
    let step : Step = c.in-Some.back.step in
    let old : List Step = c.back.steps.items in
    let items : c.push.new.self.items ≡ old ++ step ∷ [] = c.in_ok-push.ensures.items in
    let turned : reverse c.push.new.self.items ≡ step ∷ reverse old =
    ap (λ (xs : List Step). reverse xs) items ∙ reverse-append old (step ∷ []) in
    record {
      there = omega (arith, c.in-Some.ensures.earlier, c.back.invariant.there);
      cited = λ x h. c.back.invariant.cited x (c.in-Some.ensures.up false x h);
      traced =
          subst (λ (xs : List Step). IsTraced flow places exits c.in-Some.back.from c.args.number xs) (sym turned)
          (traced-more flow places exits c.back.at c.in-Some.back.from c.args.number step (reverse old)
          c.in-Some.ensures
          c.back.invariant.traced);
    }
