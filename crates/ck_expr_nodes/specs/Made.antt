-- The typed trees that productions make of the typed trees of their parts (C99 6.5).
use Rattle.std.specs.Prelude.{Bool, true, false, List, [], ◌∷◌, Option}
use Rattle.ck_base.specs.declared.tokens.Token.{Token}
use Rattle.ck_prog.specs.AssignmentSenses.{assignment_sense, choice_sense}
use Rattle.ck_prog.specs.BinarySenses.{binary_sense}
use Rattle.ck_prog.specs.Declarations.{MemberOf, Place, is_written, text}
use Rattle.ck_prog.specs.PostfixSenses.{element, result, member, access}
use Rattle.ck_prog.specs.Senses.{Sense}
use Rattle.ck_prog.specs.TypedExpressions.{facts_of, call_facts, unary_facts}
use Rattle.ck_prog.specs.TypedTrees.{Typed, Facts, TypeParts, Paren, Unary, SizeofType, Cast, Conditional, Assignment}
use Rattle.ck_prog.specs.TypedTrees.{facts}
use Rattle.ck_prog.specs.UnarySenses.{step, size_of, cast_sense}
use Rattle.ck_prog.specs.declared.operators.Assigning.{Assigning}
use Rattle.ck_prog.specs.declared.operators.Operator.{Operator}
use Rattle.ck_prog.specs.declared.operators.Prefix.{Prefix}
use Rattle.ck_prog.specs.declared.operators.Prefix.TheVariants.{SizeOf}
use Rattle.ck_prog.specs.declared.operators.Role.{Role}
use Rattle.ck_types.specs.Types.{CType}

-- 6.5.1
abbrev pub paren_of : Role → Token → Typed → Typed
paren_of role opening x = Paren (facts_of role opening (facts x).sense (facts x ∷ [])) x

-- 6.5.2.1: the value of a row up to an index
abbrev pub index_facts : Place → Role → Facts → Facts → Facts
index_facts p role so_far x = facts_of role so_far.first (element p so_far.sense x.sense) (so_far ∷ x ∷ [])

-- 6.5.2.2: up to a call with arguments of these senses
abbrev pub called_facts : Place → Role → Facts → List Sense → Facts
called_facts p role so_far arguments = call_facts role so_far.first (result p so_far.sense arguments)

-- 6.5.2.3: whether a token before a member's name is `.`
abbrev pub is_dot : Place → Token → Bool
is_dot p operator = is_written p operator "."

-- 6.5.2.3: the member of this name of what is before the token
abbrev pub accessed : Place → Token → Facts → Token → Option MemberOf
accessed p operator so_far name = member p (is_dot p operator) so_far.sense (text p name)

-- 6.5.2.3: up to a member
abbrev pub access_facts : Place → Role → Token → Facts → Token → Facts
access_facts p role operator so_far name =
    facts_of role so_far.first (access p (is_dot p operator) so_far.sense (text p name)) (so_far ∷ [])

-- 6.5.2.4: up to `++` or `--`
abbrev pub step_facts : Place → Role → Facts → Facts
step_facts p role so_far = facts_of role so_far.first (step p so_far.sense) (so_far ∷ [])

-- 6.5.3.4: nothing under `sizeof` is evaluated
abbrev pub is_evaluated : Prefix → Bool
is_evaluated SizeOf = false
is_evaluated _ = true

-- 6.5.3
abbrev pub unary_of : Place → Role → Token → Bool → Prefix → Typed → Typed
unary_of p role first of_star op x = Unary (unary_facts p role first of_star op (facts x)) op x

-- 6.5.3.4: of a type, in which these parts are written
abbrev pub sizeof_of : Place → Role → Token → Option CType → TypeParts → Typed
sizeof_of p role keyword type written = SizeofType (facts_of role keyword (size_of p type) []) written

-- 6.5.4: to a type, in which these parts are written
abbrev pub cast_of : Role → Token → Option CType → TypeParts → Typed → Typed
cast_of role opening type written x =
    Cast (facts_of role opening (cast_sense type (facts x).sense) (facts x ∷ [])) written x

-- 6.5.5 to 6.5.14, 6.5.17: the value of a chain up to an operand
abbrev pub link_facts : Place → Role → Operator → Facts → Facts → Facts
link_facts p role op so_far x =
    facts_of role so_far.first (binary_sense p op so_far.sense x.sense) (so_far ∷ x ∷ [])

-- 6.5.15
abbrev pub conditional_of : Role → Typed → Typed → Typed → Typed
conditional_of role x y z =
    let sense = choice_sense (facts x).sense (facts y).sense (facts z).sense in
    Conditional (facts_of role (facts x).first sense (facts x ∷ facts y ∷ facts z ∷ [])) x y z

-- 6.5.16
abbrev pub assignment_of : Place → Role → Assigning → Typed → Typed → Typed
assignment_of p role op x y =
    let sense = assignment_sense p op (facts x).sense (facts y).sense in
    Assignment (facts_of role (facts x).first sense (facts x ∷ facts y ∷ [])) op x y
