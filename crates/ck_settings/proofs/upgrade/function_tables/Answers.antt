use Rattle.std.proofs.Common.{◌∙◌}
use Rattle.toml.proofs.Views.{view-Array}
use Rattle.ck_settings.specs.Values.{function_view}
use Rattle.ck_settings.specs.Upgrading.{function_members}
use Rattle.ck_settings.proofs.Tables.{all_tables}
use Rattle.ck_settings.proofs.upgrade.function_tables.Goals as goal

pub returns : goal.returns
returns c =
    view-Array c.settings.values
    ∙ all_tables function_view function_members c.settings.values.items c.args.functions.now c.settings.function-index
    c.settings-test.false c.settings.invariant
