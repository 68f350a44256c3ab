use Rattle.std.proofs.Common.{sym, ◌∙◌}
use Rattle.ck_grammar.specs.Trees as plain
use Rattle.ck_readers.specs.SourceView.{words}
use Rattle.ck_type_readers.proofs.SpecifierSteps.{body_after_tag}
use Rattle.ck_type_readers.proofs.specifier_lists.struct_specifier.Goals as goal

pub returns-then-opens_body : goal.returns-then-opens_body
returns-then-opens_body g c inside structs =
    body_after_tag (words c.args.source.now) inside (λ tag. plain.Struct c.args.keyword tag) c.args.keyword
    (g.T.Building.specifiers c.args.row.now) (g.T.Building.specifiers c.struct_members-then-opens_body.new.row)
    c.args.source.now.tokens c.args.at (c.in-Some.tag, c.in-Some.after_tag) c.in-Some.ensures
    (sym c.opens_body.ensures ∙ c.if-opens_body.true) c.struct_members-then-opens_body.result
    (c.struct_members-then-opens_body.ensures inside structs)
