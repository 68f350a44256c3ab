use Rattle.std.proofs.Common.{◌≡◌, length, arith}
use Rattle.std.proofs.lemmas.List.{length-map}
use Rattle.ck_graph.specs.Flow.{function_count}
use Rattle.ck_texts.specs.Placed.{IsOutcomeOf}
use Rattle.ck_texts.specs.Views.{names_of, outcome_of, text_of}
use Rattle.ck_texts_tests.specs.Fitting.{AllFits}
use Rattle.ck_texts_tests.proofs.FitLemmas.{OnTrue-weaker, names_fit}
use Rattle.ck_texts_tests.proofs.fitting.fits.Goals as goal

pub returns : goal.returns
returns c =
    let flow = c.args.graph.now in
    let roots = c.args.roots.now.list.items in
    let book = c.args.book.now in
    let outcome = outcome_of c.args.verdict.now in
    let same : length (names_of c.args.book.now).functions ≡ function_count c.args.graph.now =
    omega (arith, length-map c.args.book.now.functions.items text_of, c.args.book.now.functions.ok.0) in
    OnTrue-weaker c.verdict_fits.result (IsOutcomeOf flow roots outcome)
    (AllFits flow roots (names_of book) book.maps.items outcome)
    (λ is. record {
      names = names_fit flow (names_of book) book.maps.items c.args.text.now c.requires same
          c.if-not-points_fit.ensures;
      roots = c.if-not-roots_fit.ensures;
      verdict = is;
    })
    c.verdict_fits.ensures
