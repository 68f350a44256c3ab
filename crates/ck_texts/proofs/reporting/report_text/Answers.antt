use Rattle.std.proofs.Common.{◌≡◌, List, map, ap, sym, ◌∙◌}
use Rattle.std.proofs.lemmas.Result.{IfOk-weaker}
use Rattle.ck_texts.specs.Placed.{AreMapsOf, IsReport}
use Rattle.ck_texts.specs.Printing.{place_by}
use Rattle.ck_texts.specs.Report.{accepted_text, rejected_text, report_text}
use Rattle.ck_texts.specs.Views.{File, names_of, outcome_of, path_of}
use Rattle.ck_texts.proofs.PlaceLemmas.{maps_say}
use Rattle.ck_texts.proofs.reporting.report_text.Goals as goal

pub returns-in-Accepted : goal.returns-in-Accepted
returns-in-Accepted c =
    let flow = c.args.graph.now in
    let roots = c.args.roots.now.list.items in
    let names = names_of c.args.names.now in
    let maps = c.args.names.now.maps.items in
    IfOk-weaker c.accepted.result (λ text. text.items ≡ accepted_text c.in-Accepted.counts)
    (λ text. (files : List File) → AreMapsOf files maps
    → IsReport files flow roots names (outcome_of c.args.verdict.now) text.items)
    (λ text written files are. record {
      at = place_by maps;
      places = maps_say files maps are;
      written = written ∙ sym (ap (λ v. report_text flow roots names (place_by maps) (outcome_of v)) c.in-Accepted.is);
    })
    c.accepted.ensures

pub returns-in-Rejected : goal.returns-in-Rejected
returns-in-Rejected c =
    let flow = c.args.graph.now in
    let roots = c.args.roots.now.list.items in
    let names = names_of c.args.names.now in
    let maps = c.args.names.now.maps.items in
    IfOk-weaker c.rejected.result
    (λ text. text.items ≡ rejected_text flow roots names (place_by maps) (map path_of c.deref.result.now))
    (λ text. (files : List File) → AreMapsOf files maps
    → IsReport files flow roots names (outcome_of c.args.verdict.now) text.items)
    (λ text written files are. record {
      at = place_by maps;
      places = maps_say files maps are;
      written = written ∙ (ap (λ alarms. rejected_text flow roots names (place_by maps) (map path_of alarms))
          c.deref.ensures.value
          ∙ sym (ap (λ v. report_text flow roots names (place_by maps) (outcome_of v)) c.in-Rejected.is));
    })
    c.rejected.ensures
