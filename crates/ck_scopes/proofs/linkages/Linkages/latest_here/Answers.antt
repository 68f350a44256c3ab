use Rattle.std.proofs.Common.{◌<◌, ap, arith, length, sym, ◌∙◌}
use Rattle.std.specs.Prelude.{Some, None, if◌then◌else◌}
use Rattle.std.proofs.lemmas.Bool.{eq-eqb, ne_eqb}
use Rattle.ck_prog.specs.declared.names.Linkage.TheVariants.{NoLinkage}
use Rattle.ck_scopes.specs.Links.{LinkedName, Links}
use Rattle.ck_scopes.specs.LinksKept.{has_linkage, is_here, latest_place}
use Rattle.ck_scopes.proofs.LinkLemmas.{place_within, here_read, here_missing}
use Rattle.ck_scopes.proofs.linkages.Linkages.latest_here.Goals as goal

pub returns-in_err-number : goal.returns-in_err-number
returns-in_err-number c =
    let x : LinkedName = record { entry = 0; file = 0; name = 0; linkage = NoLinkage } in
    c.from_residual.ensures
    ∙ (here_missing c.self.inside.rows.items c.self.inside.file c.args.name x c.self.invariant.files
    (c.in_err-number.ensures ∙ c.self.invariant.any c.args.name)
    ∙ ap (λ (v : Links). latest_place (is_here v.file c.args.name) v.declared) c.self.view_is)

pub index-requires : goal.index-requires
index-requires c =
    let within : c.in_ok-number.number < length c.self.inside.rows.items =
    place_within c.self.inside.rows.items (has_linkage c.args.name) c.in_ok-number.number
    (c.in_ok-number.ensures ∙ c.self.invariant.any c.args.name) in
    grind (arith, within)

pub returns-then-index-self : goal.returns-then-index-self
returns-then-index-self c =
    let n = c.in_ok-number.number in
    let file = c.self.inside.file in
    let row = c.index.result.now in
    sym (ap (λ b. if b then Some n else None) (eq-eqb row.file file c.if-index-self.true))
    ∙ (sym (here_read c.self.inside.rows.items file c.args.name n row c.self.invariant.files
    (c.in_ok-number.ensures ∙ c.self.invariant.any c.args.name) c.index.ensures)
    ∙ ap (λ (v : Links). latest_place (is_here v.file c.args.name) v.declared) c.self.view_is)

pub returns-else-index-self : goal.returns-else-index-self
returns-else-index-self c =
    let n = c.in_ok-number.number in
    let file = c.self.inside.file in
    let row = c.index.result.now in
    sym (ap (λ b. if b then Some n else None) (ne_eqb row.file file c.if-index-self.false))
    ∙ (sym (here_read c.self.inside.rows.items file c.args.name n row c.self.invariant.files
    (c.in_ok-number.ensures ∙ c.self.invariant.any c.args.name) c.index.ensures)
    ∙ ap (λ (v : Links). latest_place (is_here v.file c.args.name) v.declared) c.self.view_is)
