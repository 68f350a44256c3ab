use Rattle.std.proofs.Common.{sym, ◌∙◌}
use Rattle.ck_grammar.specs.Trees as plain
use Rattle.ck_readers.specs.SourceView.{words}
use Rattle.ck_type_readers.proofs.SpecifierSteps.{body_after_tag}
use Rattle.ck_type_readers.proofs.specifier_lists.enum_specifier.Goals as goal

pub returns-then-opens_body : goal.returns-then-opens_body
returns-then-opens_body g c listed enums =
    body_after_tag (words c.args.source.now) listed (λ tag. plain.Enum c.args.keyword tag) c.args.keyword
    (g.T.Building.specifiers c.args.row.now) (g.T.Building.specifiers c.enum_list-then-opens_body.new.row)
    c.args.source.now.tokens c.args.at (c.in-Some.tag, c.in-Some.after_tag) c.in-Some.ensures
    (sym c.opens_body.ensures ∙ c.if-opens_body.true) c.enum_list-then-opens_body.result
    (c.enum_list-then-opens_body.ensures listed enums)
