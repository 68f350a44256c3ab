use Rattle.std.proofs.Common.{ap, sym, ◌∙◌}
use Rattle.ck_grammar.specs.Trees as plain
use Rattle.ck_grammar.specs.Written.{specifiers}
use Rattle.ck_syntax.specs.ExpressionViews.{specifier_before, struct_before, enum_before, member_trees}
use Rattle.ck_syntax.specs.ExpressionViews.{enumerator_trees}
use Rattle.ck_syntax.specs.declared.specifiers.EnumSpecifier.{out-EnumSpecifier}
use Rattle.ck_syntax.specs.declared.specifiers.StructSpecifier.{out-StructSpecifier}
use Rattle.ck_syntax.proofs.EndLemmas.{last_along, last-struct, last-enum}
use Rattle.ck_syntax.proofs.Equations as views
use Rattle.ck_syntax.proofs.specifiers.Specifier.last_token.Goals as goal

pub returns-in-Struct : goal.returns-in-Struct
returns-in-Struct g c =
    let s = out-StructSpecifier _ c.deref.result.now in
    last_along specifiers _
    (ap (λ s. specifier_before s plain.NoSpecifiers) c.in-Struct.is
    ∙ views.specifier_before-Struct _ plain.NoSpecifiers
    ∙ ap (λ s. struct_before s plain.NoSpecifiers) (sym c.deref.ensures)
    ∙ views.struct_before-parts c.deref.result.now plain.NoSpecifiers)
    (λ before more. last-struct s.tag s.opening (member_trees s.members.items) s.keyword s.closing more)

pub returns-in-Enum : goal.returns-in-Enum
returns-in-Enum g c =
    let s = out-EnumSpecifier _ c.deref-in-Enum.result.now in
    last_along specifiers _
    (ap (λ s. specifier_before s plain.NoSpecifiers) c.in-Enum.is
    ∙ views.specifier_before-Enum _ plain.NoSpecifiers
    ∙ ap (λ s. enum_before s plain.NoSpecifiers) (sym c.deref-in-Enum.ensures)
    ∙ views.enum_before-parts c.deref-in-Enum.result.now plain.NoSpecifiers)
    (λ before more. last-enum s.tag s.opening (enumerator_trees s.earlier.items s.last s.comma) s.keyword s.closing
    more)
