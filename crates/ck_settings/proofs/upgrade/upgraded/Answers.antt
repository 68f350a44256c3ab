use Rattle.std.proofs.Common.{◌≡◌, ap, string_bytes}
use Rattle.std.proofs.lemmas.Str.{IsUtf8-string_bytes}
use Rattle.toml.specs.View.{table_view}
use Rattle.ck_settings.specs.Values.{settings_view}
use Rattle.ck_settings.proofs.VersionTwo.{text_upgrades}
use Rattle.ck_settings.proofs.upgrade.upgraded.Goals as goal

pub returns-in-Ok : goal.returns-in-Ok
returns-in-Ok c =
    let written : c.into_bytes.result.items ≡ string_bytes c.in-Ok.text = ap (λ v. v.items)
    c.into_bytes.ensures.value in
    rw written (text_upgrades (settings_view c.args.settings.now) c.requires (string_bytes c.in-Ok.text)
    (table_view c.in_ok-table.table)
    c.in_ok-table.ensures (IsUtf8-string_bytes c.in-Ok.text) c.in-Ok.ensures.reads_back)
