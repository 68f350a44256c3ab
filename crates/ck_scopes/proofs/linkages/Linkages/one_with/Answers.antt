use Rattle.std.proofs.Common.{◌≡◌, ◌<◌, ap, arith, length, subst, sym, ◌∙◌}
use Rattle.std.specs.Prelude.{Some}
use Rattle.ck_prog.specs.declared.names.Linkage.TheVariants.{NoLinkage}
use Rattle.ck_scopes.specs.Environments.{number_of}
use Rattle.ck_scopes.specs.Links.{LinkedName, Links, is_one, latest_entry}
use Rattle.ck_scopes.specs.LinksKept.{latest_place}
use Rattle.ck_scopes.proofs.LinkLemmas.{place_within, entry_read, entry_missing}
use Rattle.ck_scopes.proofs.linkages.Linkages.one_with.Goals as goal

pub returns-in_err-number : goal.returns-in_err-number
returns-in_err-number c =
    let x : LinkedName = record { entry = 0; file = 0; name = 0; linkage = NoLinkage } in
    ap number_of c.from_residual.ensures
    ∙ entry_missing (is_one c.args.self.now.file c.args.name.0 c.args.external) x c.args.self.now.declared
    c.in_err-number.ensures

pub index-requires : goal.index-requires
index-requires c =
    let n = c.in_ok-number.number in
    let test = is_one c.args.self.now.file c.args.name.0 c.args.external in
    let found =
    subst (λ (v : Links). Some n ≡ latest_place test v.declared) (sym c.self.view_is) c.in_ok-number.ensures in
    let within : n < length c.self.inside.rows.items = place_within c.self.inside.rows.items test n found in
    grind (arith, within)

pub returns : goal.returns
returns c =
    let n = c.in_ok-number.number in
    let test = is_one c.args.self.now.file c.args.name.0 c.args.external in
    let found =
    subst (λ (v : Links). Some n ≡ latest_place test v.declared) (sym c.self.view_is) c.in_ok-number.ensures in
    entry_read c.self.inside.rows.items test n c.index.result.now found c.index.ensures
    ∙ ap (λ (v : Links). latest_entry test v.declared) c.self.view_is
