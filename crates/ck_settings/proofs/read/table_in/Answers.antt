use Rattle.toml.specs.View.{table_view}
use Rattle.ck_settings.proofs.Toml.{is_document, not_text}
use Rattle.ck_settings.proofs.read.table_in.Goals as goal

pub returns-in_default : goal.returns-in_default
returns-in_default c = not_text c.args.bytes.now c.not_toml.result c.in_default.ensures.cases.0 c.not_toml.ensures

pub returns-in-Ok-table_from_str : goal.returns-in-Ok-table_from_str
returns-in-Ok-table_from_str c =
    is_document c.args.bytes.now (table_view c.in-Ok-table_from_str.table) c.in-Ok.ensures.cases.1
    (rw c.in-Ok.ensures.cases.0 at c.in-Ok-table_from_str.ensures.ok)
