use Rattle.std.proofs.Common.{◌≡◌, map, take}
use Rattle.toml.specs.Data.{table}
use Rattle.toml.specs.View.{view}
use Rattle.ck_settings.specs.Values.{function_view}
use Rattle.ck_settings.specs.Upgrading.{function_members}
use Rattle.ck_settings.proofs.upgrade.function_tables.Given as goal

abbrev pub invariant-settings : goal.invariant-settings
invariant-settings l = map view l.values.items
    ≡ map (λ x. table (function_members (function_view x))) (take l.function-index l.functions)
