use Rattle.std.proofs.Common.{string_bytes, sym, ◌∙◌}
use Rattle.ck_cli.proofs.ProjectLemmas.{just_main-then, just_main-else}
use Rattle.ck_cli.proofs.project.has_just_main.Goals as goal

pub returns-then-has_main : goal.returns-then-has_main
returns-then-has_main c =
    just_main-then string_bytes c.args.names.now c.has_no_other.result (sym c.has_main.ensures ∙ c.if-has_main.true)
    c.has_no_other.ensures

pub returns-else-has_main : goal.returns-else-has_main
returns-else-has_main c =
    just_main-else string_bytes c.args.names.now c.has_main.result c.if-has_main.false c.has_main.ensures
