-- How worked texts look into typed trees: all expressions of a tree with their facts, in written order, an expression
-- before its parts and after that the values of its row. For worked texts alone.
use Rattle.std.specs.Prelude.{ℕ, Bool, ℤ, List, [], ◌∷◌, Option, Some, None, if◌then◌else◌}
use Rattle.std.specs.Option.{is_some}
use Rattle.ck_prog.specs.Declarations.{Entry}
use Rattle.ck_prog.specs.Derivations.{element_count}
use Rattle.ck_prog.specs.Tags.{enumerator_value}
use Rattle.ck_prog.specs.declared.operators.Role.{Role}
use Rattle.ck_prog.specs.TypedTrees.{Typed, Links, Arguments, Steps, TypeParts, Facts, Name, Constant, Strings, Paren}
use Rattle.ck_prog.specs.TypedTrees.{Postfix, Unary, SizeofType, Cast, Chain, Conditional, Assignment, NoLinks, Link}
use Rattle.ck_prog.specs.TypedTrees.{NoArguments, Argument, NoSteps, Index, Call, Access, PostIncrement, NoParts}
use Rattle.ck_prog.specs.TypedTrees.{Mention, StructBody, EnumeratorValue, Expression, ArraySize, WholeDeclarator}
use Rattle.ck_prog.specs.TypedTrees.{facts}

-- a name, another value, or a call with the function that it names
pub data Seen : Type 0 where
  OfName : Facts → Option Entry → Seen
  OfValue : Facts → Seen
  OfCall : Facts → Option Entry → Seen

abbrev mutual
  pub seen : Typed → List Seen → List Seen
  seen (Name f e) more = OfName f e ∷ more
  seen (Constant f) more = OfValue f ∷ more
  seen (Strings f ts) more = OfValue f ∷ more
  seen (Paren f e) more = OfValue f ∷ seen e more
  seen (Postfix e steps) more = seen e (seen_in_steps steps more)
  seen (Unary f op e) more = OfValue f ∷ seen e more
  seen (SizeofType f parts) more = OfValue f ∷ seen_in_parts parts more
  seen (Cast f parts e) more = OfValue f ∷ seen_in_parts parts (seen e more)
  seen (Chain e links) more = seen e (seen_in_links links more)
  seen (Conditional f test a b) more = OfValue f ∷ seen test (seen a (seen b more))
  seen (Assignment f op a b) more = OfValue f ∷ seen a (seen b more)

  seen_in_links : Links → List Seen → List Seen
  seen_in_links NoLinks more = more
  seen_in_links (Link op e f rest) more = seen e (OfValue f ∷ seen_in_links rest more)

  seen_in_arguments : Arguments → List Seen → List Seen
  seen_in_arguments NoArguments more = more
  seen_in_arguments (Argument e es) more = seen e (seen_in_arguments es more)

  seen_in_steps : Steps → List Seen → List Seen
  seen_in_steps NoSteps more = more
  seen_in_steps (Index opening e f rest) more = seen e (OfValue f ∷ seen_in_steps rest more)
  seen_in_steps (Call opening function es f rest) more =
      seen_in_arguments es (OfCall f function ∷ seen_in_steps rest more)
  seen_in_steps (Access is_dot name m f rest) more = OfValue f ∷ seen_in_steps rest more
  seen_in_steps (PostIncrement t op f rest) more = OfValue f ∷ seen_in_steps rest more

  seen_in_parts : TypeParts → List Seen → List Seen
  seen_in_parts NoParts more = more
  seen_in_parts (Mention keyword tag e rest) more = seen_in_parts rest more
  seen_in_parts (StructBody keyword l rest) more = seen_in_parts rest more
  seen_in_parts (EnumeratorValue t v rest) more = seen_in_parts rest more
  seen_in_parts (Expression e rest) more = seen e (seen_in_parts rest more)
  seen_in_parts (ArraySize e is_large rest) more = seen e (seen_in_parts rest more)
  seen_in_parts (WholeDeclarator d rest) more = seen_in_parts rest more

abbrev pub seen_in : Option Typed → List Seen
seen_in None = []
seen_in (Some e) = seen e []

-- where names begin that mean nothing
abbrev pub undeclared : List Seen → List ℕ
undeclared [] = []
undeclared (OfName f None ∷ rest) = f.first.span.start ∷ undeclared rest
undeclared (s ∷ rest) = undeclared rest

-- names, with where they begin, and their roles
abbrev pub roles : List Seen → List (ℕ × Role)
roles [] = []
roles (OfName f e ∷ rest) = (f.first.span.start, f.role) ∷ roles rest
roles (s ∷ rest) = roles rest

abbrev name_or_empty : Option Entry → List ℕ
name_or_empty None = []
name_or_empty (Some e) = e.name

-- calls, with where their rows begin, and the name of the function that is called by its name
abbrev pub calls : List Seen → List (ℕ × List ℕ)
calls [] = []
calls (OfCall f e ∷ rest) = (f.first.span.start, name_or_empty e) ∷ calls rest
calls (s ∷ rest) = calls rest

abbrev pub facts_seen : Seen → Facts
facts_seen (OfName f e) = f
facts_seen (OfValue f) = f
facts_seen (OfCall f e) = f

-- where values begin that have no type, and where those that hold a call
abbrev pub untyped : List Seen → List ℕ
untyped [] = []
untyped (s ∷ rest) =
    if is_some (facts_seen s).sense.type then untyped rest else (facts_seen s).first.span.start ∷ untyped rest

abbrev pub with_calls : List Seen → List ℕ
with_calls [] = []
with_calls (s ∷ rest) =
    if (facts_seen s).holds_call then (facts_seen s).first.span.start ∷ with_calls rest else with_calls rest

-- sizes of arrays, with where they begin, how many elements they give, and whether the array is too large
abbrev pub sizes : TypeParts → List (ℕ × Option ℕ × Bool)
sizes NoParts = []
sizes (Mention keyword tag e rest) = sizes rest
sizes (StructBody keyword l rest) = sizes rest
sizes (EnumeratorValue t v rest) = sizes rest
sizes (Expression e rest) = sizes rest
sizes (ArraySize e is_large rest) =
    ((facts e).first.span.start, element_count (facts e).sense.constancy, is_large) ∷ sizes rest
sizes (WholeDeclarator d rest) = sizes rest

-- values of enumeration constants, with where they are written
abbrev pub enumerators : TypeParts → List (ℕ × Option ℤ)
enumerators NoParts = []
enumerators (Mention keyword tag e rest) = enumerators rest
enumerators (StructBody keyword l rest) = enumerators rest
enumerators (EnumeratorValue t v rest) = (t.span.start, enumerator_value v) ∷ enumerators rest
enumerators (Expression e rest) = enumerators rest
enumerators (ArraySize e is_large rest) = enumerators rest
enumerators (WholeDeclarator d rest) = enumerators rest

-- declarators, with their spots, whether what they say is impossible, and whether their types are complete
abbrev pub declarators : TypeParts → List (ℕ × Bool × Bool)
declarators NoParts = []
declarators (Mention keyword tag e rest) = declarators rest
declarators (StructBody keyword l rest) = declarators rest
declarators (EnumeratorValue t v rest) = declarators rest
declarators (Expression e rest) = declarators rest
declarators (ArraySize e is_large rest) = declarators rest
declarators (WholeDeclarator d rest) = (d.spot.span.start, d.impossible, d.complete) ∷ declarators rest

-- what is written in the type of `sizeof` ( type name )
abbrev pub parts_of : Option Typed → TypeParts
parts_of (Some (SizeofType f parts)) = parts
parts_of _ = NoParts
