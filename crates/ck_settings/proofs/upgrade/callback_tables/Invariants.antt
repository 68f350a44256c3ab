use Rattle.std.proofs.Common.{◌≡◌, map, take}
use Rattle.toml.specs.Data.{table}
use Rattle.toml.specs.View.{view}
use Rattle.ck_settings.specs.Values.{callback_view}
use Rattle.ck_settings.specs.Upgrading.{callback_members}
use Rattle.ck_settings.proofs.upgrade.callback_tables.Given as goal

abbrev pub invariant-settings : goal.invariant-settings
invariant-settings l = map view l.values.items
    ≡ map (λ x. table (callback_members (callback_view x))) (take l.callback-index l.callbacks)
