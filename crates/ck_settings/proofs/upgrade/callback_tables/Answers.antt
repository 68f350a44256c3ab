use Rattle.std.proofs.Common.{◌∙◌}
use Rattle.toml.proofs.Views.{view-Array}
use Rattle.ck_settings.specs.Values.{callback_view}
use Rattle.ck_settings.specs.Upgrading.{callback_members}
use Rattle.ck_settings.proofs.Tables.{all_tables}
use Rattle.ck_settings.proofs.upgrade.callback_tables.Goals as goal

pub returns : goal.returns
returns c =
    view-Array c.settings.values
    ∙ all_tables callback_view callback_members c.settings.values.items c.args.callbacks.now c.settings.callback-index
    c.settings-test.false c.settings.invariant
