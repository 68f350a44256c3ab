use Rattle.std.proofs.Common.{ap, ◌∙◌}
use Rattle.toml.specs.View.{view, members_view, table_view}
use Rattle.ck_settings.specs.Upgrading.{put_member}
use Rattle.ck_settings.proofs.Tables.{members-put}
use Rattle.ck_settings.proofs.upgrade.put.Goals as goal

pub returns : goal.returns
returns c =
    ap members_view c.in_ok-insert.ensures.entries ∙ members-put c.in_ok-key.key c.args.value c.args.table.now.entries
    ∙ ap (λ k. put_member k (view c.args.value) (table_view c.args.table.now)) c.in_ok-key.ensures.ok
