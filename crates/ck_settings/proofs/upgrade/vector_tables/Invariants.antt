use Rattle.std.proofs.Common.{◌≡◌, map, take}
use Rattle.toml.specs.Data.{table}
use Rattle.toml.specs.View.{view}
use Rattle.ck_settings.specs.Values.{vector_view}
use Rattle.ck_settings.specs.Upgrading.{vector_members}
use Rattle.ck_settings.proofs.upgrade.vector_tables.Given as goal

abbrev pub invariant-settings : goal.invariant-settings
invariant-settings l = map view l.values.items
    ≡ map (λ x. table (vector_members (vector_view x))) (take l.vector-index l.vectors)
