use Rattle.std.proofs.Common.{ap, sym, ◌∙◌}
use Rattle.ck_scopes.specs.Links.{Links, is_one}
use Rattle.ck_scopes.specs.LinksKept.{is_here, is_outside, later_of, latest_place}
use Rattle.ck_scopes.proofs.LinkLemmas.{one_is}
use Rattle.ck_scopes.proofs.linkages.Linkages.latest.Goals as goal

pub returns-then-external : goal.returns-then-external
returns-then-external c =
    let now = c.args.self.now in
    let name = c.args.name in
    let outside =
    c.at.ensures
    ∙ (c.self.invariant.outside name ∙ ap (λ (v : Links). latest_place (is_outside name) v.declared) c.self.view_is) in
    c.later.ensures
    ∙ (ap (λ r. later_of r c.at.result) c.latest_here-here.ensures
    ∙ (ap (later_of (latest_place (is_here now.file name) now.declared)) outside
    ∙ (sym (one_is now.file name now.declared)
    ∙ ap (λ b. latest_place (is_one now.file name b) now.declared) (sym c.if-external.true))))
