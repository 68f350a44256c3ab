use Rattle.std.proofs.Common.{◌∙◌}
use Rattle.toml.proofs.Views.{view-Array}
use Rattle.ck_settings.specs.Values.{vector_view}
use Rattle.ck_settings.specs.Upgrading.{vector_members}
use Rattle.ck_settings.proofs.Tables.{all_tables}
use Rattle.ck_settings.proofs.upgrade.vector_tables.Goals as goal

pub returns : goal.returns
returns c =
    view-Array c.settings.values
    ∙ all_tables vector_view vector_members c.settings.values.items c.args.vectors.now c.settings.vector-index
    c.settings-test.false c.settings.invariant
