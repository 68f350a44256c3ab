use Rattle.std.proofs.Common.{◌≡◌, ◌<◌, List, get_or, Some, slice_get, refl, sym, ap, ◌∙◌, subst, inl, inr, arith}
use Rattle.std.proofs.lemmas.Bool.{cases_lt}
use Rattle.std.proofs.lemmas.List.Elements.{Contains-get_or, All-contains}
use Rattle.std.proofs.lemmas.Option.{slice_get_within, slice_get-get_or, same_Some}
use Rattle.ck_base.specs.declared.spans.PointId.{PointId}
use Rattle.ck_graph.specs.declared.entries.Root.{Root}
use Rattle.ck_graph.specs.Flow.{function_count}
use Rattle.ck_graph.specs.Steps.{first_of}
use Rattle.ck_paths.specs.declared.found.Reason.TheVariants.{AtRoot}
use Rattle.ck_paths.specs.Found.{HasPlace}
use Rattle.ck_paths.proofs.Lists.{place-of}
use Rattle.ck_paths.proofs.Growing.{justified-added, extends-added, has-added, has-kept}
use Rattle.ck_paths.proofs.Steps.{starts-at}
use Rattle.ck_paths.proofs.search.enter_roots.Goals as goal

pub loop-k-preserved : goal.loop-k-preserved
loop-k-preserved c =
    let flow = c.args.graph.now in
    let roots : List Root = c.args.roots.now in
    let mid = c.loop-k.found.places.items in
    let new = c.add.new.self.places.items in
    let n = c.loop-k.k in
    let root : Root = get_or roots n _ in
    let listed : slice_get roots n ≡ Some root = slice_get-get_or roots n _ c.loop-k-test.true in
    let below : root.function.0 < function_count flow = All-contains (λ root. root.function.0 < function_count flow)
    roots root c.requires.roots (Contains-get_or roots n _ c.loop-k-test.true) in
    let adds = c.in_ok-add.ensures in
    let kept = extends-added c.first.result root.start root.start (AtRoot n) mid new adds.added in
    record {
      ready = record { linked = adds.linked; size = adds.size ∙ c.loop-k.invariant.ready.size };
      justified = justified-added flow roots c.first.result root.start root.start (AtRoot n) mid new adds.added
          (λ same. starts-at flow roots n root (record {
            point = c.first.result;
            from = root.start;
            to =
                root.start;
            reason = AtRoot n;
            same = same;
          }) c.requires.sound below listed c.first.ensures refl refl)
          c.loop-k.invariant.justified;
      entered = λ k r before there. elim (cases_lt k n) [
        | inl earlier ↦ has-kept mid new (first_of flow r.function.0) r.start r.start kept
            (c.loop-k.invariant.entered k r earlier there)
        | inr last ↦
            let number : k ≡ n = omega (arith, last, before) in
            let same : r ≡ root = same_Some r root (sym there ∙ (ap (slice_get roots) number ∙ listed)) in
            let has : HasPlace new c.first.result.0 root.start root.start =
            has-added c.first.result root.start root.start (AtRoot n) mid new adds.added in
            subst (λ (x : Root). HasPlace new (first_of flow x.function.0) x.start x.start) (sym same)
            (subst (λ (p : PointId). HasPlace new p.0 root.start root.start) c.first.ensures has)
      ];
    }

pub returns-clause-entered : goal.returns-clause-entered
returns-clause-entered c = λ root listed.
    let roots : List Root = c.args.roots.now in
    let place = place-of roots root listed in
    c.loop-k.invariant.entered place.0 root (omega (
      arith,
      c.loop-k-test.false,
      slice_get_within roots place.0 root
          place.1,
    )) place.1
