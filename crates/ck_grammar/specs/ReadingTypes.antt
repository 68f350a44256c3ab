-- How specifiers and declarators are read from a list of tokens (C99 6.7), for given readers of what is inside.
use Rattle.std.specs.Prelude.{ℕ, zero, suc, Bool, true, false, ◌&&◌, ◌||◌, List, [], ◌∷◌, length, Option, Some, None}
use Rattle.std.specs.Prelude.{codes, if◌then◌else◌}
use Rattle.ck_base.specs.declared.tokens.Token.{Token}
use Rattle.ck_grammar.specs.Fitting.{Naming, may_be_abstract, may_name, is_written, is_star, is_pointer_part}
use Rattle.ck_grammar.specs.Fitting.{is_ordinary, has_member, is_void_alone}
use Rattle.ck_grammar.specs.Readers.{Reader, ◌>>=◌, ◌>>◌, onto, or_else, mark}
use Rattle.ck_grammar.specs.ReadingExpressions.{begins_operand}
use Rattle.ck_grammar.specs.Specified.{Place, go_together}
use Rattle.ck_grammar.specs.Trees.{Expr, Specifiers, Members, Declarators, Declarator, Dims, Params, MoreParams}
use Rattle.ck_grammar.specs.Trees.{Enumerators, NoSpecifiers, TypedefName, Tagged, Struct, Enum, NoMembers, Member}
use Rattle.ck_grammar.specs.Trees.{NoDeclarators, Also, Abstract, Named, Nested, NoDims, Open, Sized, Function}
use Rattle.ck_grammar.specs.Trees.{NoParams, VoidParams, Parameters, NoMore, Ellipsis, More, LastOne, LastValued, One}
use Rattle.ck_grammar.specs.Trees.{Valued}
use Rattle.ck_grammar.specs.Trees as trees
use Rattle.ck_grammar.specs.Words.{Word, is_text, is_identifier, Sort, Storage, Qualifier, Inline, TypeWord, StructWord}
use Rattle.ck_grammar.specs.Words.{EnumWord, TypeName, RoundMark, SquareMark, CurlyMark, CloseMark, begins_specifiers}
use Rattle.ck_grammar.specs.Words.{sort}

abbrev pub is_curly : Sort → Bool
is_curly CurlyMark = true
is_curly _ = false

abbrev pub is_close : Sort → Bool
is_close CloseMark = true
is_close _ = false

-- the `void` of a specifier
abbrev pub void_of : Specifiers → Params
void_of (trees.Word t rest) = VoidParams t
void_of _ = NoParams

module _ (w : Token → Word) where
  -- the first token is of such a sort
  abbrev pub begins_with : (Sort → Bool) → List Token → Bool
  begins_with test [] = false
  begins_with test (t ∷ ts) = test (sort (w t))

  abbrev pub is_name : List Token → Bool
  is_name [] = false
  is_name (t ∷ ts) = is_ordinary (w t)

  -- what a parameter list can begin with, the `)` after an empty one too
  abbrev pub begins_params : List Token → Bool
  begins_params [] = false
  begins_params (t ∷ ts) = begins_specifiers (sort (w t)) || is_close (sort (w t))

  -- `{` members or enumerators `}` of `struct` or `enum` (6.7.2.1, 6.7.2.2), and the specifiers after it, which `go`
  -- reads
  abbrev pub body : {M : Type 0} → Reader M → (Token → M → Token → Specifiers → Specifiers)
      → (List Token → Specifiers × List Token) → Reader Specifiers
  body inner make go ts = do
    (opening, ts) ← mark w "{" ts
    (m, ts) ← inner ts
    (closing, ts) ← mark w "}" ts
    let (rest, ts) = go ts
    Some (make opening m closing rest, ts)

  -- after `struct` or `enum`: a tag, a body or both (6.7.2.3)
  abbrev pub tagged : {M : Type 0} → Reader M → (Option Token → Token → M → Token → Specifiers → Specifiers)
      → (List Token → Specifiers × List Token) → Token → Reader Specifiers
  tagged inner make go keyword [] = None
  tagged inner make go keyword (t ∷ ts) =
      if is_identifier (w t)
      then (if begins_with is_curly ts then body inner (make (Some t)) go ts else Some
      (onto (Tagged keyword t) (go ts)))
      else body inner (make None) go (t ∷ ts)

  module _ (members_ : Reader Members) (enumerators_ : Reader Enumerators) where
    -- a specifier by the sort of its first token, and those after it, which `go` reads; the flag says whether a type is
    -- before it, and then a typedef name is none (6.7.7)
    abbrev pub specifier_by : (Bool → List Token → Specifiers × List Token) → Bool → Sort → Token → List Token
        → Specifiers × List Token
    specifier_by go seen StructWord t ts =
        or_else (NoSpecifiers, t ∷ ts) (tagged members_ (λ tag. Struct t tag) (go true) t ts)
    specifier_by go seen EnumWord t ts =
        or_else (NoSpecifiers, t ∷ ts) (tagged enumerators_ (λ tag. Enum t tag) (go true) t ts)
    specifier_by go seen TypeName t ts = if seen then (NoSpecifiers, t ∷ ts) else onto (TypedefName t) (go true ts)
    specifier_by go seen Storage t ts = onto (trees.Word t) (go (seen || false) ts)
    specifier_by go seen Qualifier t ts = onto (trees.Word t) (go (seen || false) ts)
    specifier_by go seen Inline t ts = onto (trees.Word t) (go (seen || false) ts)
    specifier_by go seen TypeWord t ts = onto (trees.Word t) (go (seen || true) ts)
    specifier_by go seen _ t ts = (NoSpecifiers, t ∷ ts)

    -- specifiers, as many as come
    abbrev pub specifier_loop : ℕ → Bool → List Token → Specifiers × List Token
    specifier_loop zero seen ts = (NoSpecifiers, ts)
    specifier_loop (suc fuel) seen [] = (NoSpecifiers, [])
    specifier_loop (suc fuel) seen (t ∷ ts) = specifier_by (specifier_loop fuel) seen (sort (w t)) t ts

    -- specifiers, where they may go together at this place (6.7)
    abbrev pub specifiers : Place → Reader Specifiers
    specifiers place ts = do
      let (s, ts) = specifier_loop (length ts) false ts
      go_together w place s
      Some (s, ts)

  -- further declarators after commas, as many as come
  abbrev pub declarator_loop : Reader Declarator → ℕ → List Token → Declarators × List Token
  declarator_loop declarator_ zero ts = (NoDeclarators, ts)
  declarator_loop declarator_ (suc fuel) ts = or_else (NoDeclarators, ts) do
    (comma, ts) ← mark w "," ts
    (d, ts) ← declarator_ ts
    let (rest, ts) = declarator_loop declarator_ fuel ts
    Some (Also comma d rest, ts)

  -- member declarations (6.7.2.1), as many as come
  abbrev pub member_loop : Reader Specifiers → Reader Declarator → ℕ → List Token → Members × List Token
  member_loop specifiers_ declarator_ zero ts = (NoMembers, ts)
  member_loop specifiers_ declarator_ (suc fuel) ts = or_else (NoMembers, ts) do
    (s, ts) ← specifiers_ ts
    (first, ts) ← declarator_ ts
    let (others, ts) = declarator_loop declarator_ (length ts) ts
    (semicolon, ts) ← mark w ";" ts
    let (rest, ts) = member_loop specifiers_ declarator_ fuel ts
    Some (Member s first others semicolon rest, ts)

  -- the members of a struct, one or more
  abbrev pub members : Reader Specifiers → Reader Declarator → Reader Members
  members specifiers_ declarator_ ts = do
    let (m, ts) = member_loop specifiers_ declarator_ (length ts) ts
    has_member m
    Some (m, ts)

  -- after an enumerator: a comma and the next ones, or the end, maybe after a comma (6.7.2.2)
  abbrev pub enumerator_end : Reader Enumerators → (Option Token → Enumerators) → (Token → Enumerators → Enumerators)
      → Reader Enumerators
  enumerator_end go last next [] = Some (last None, [])
  enumerator_end go last next (t ∷ ts) =
      if is_text (codes ",") (w t)
      then (if is_name ts
      then (do
        (rest, ts) ← go ts
        Some (next t rest, ts))
      else Some (last (Some t), ts))
      else Some (last None, t ∷ ts)

  -- after an enumerator's name: maybe `=` and a constant expression
  abbrev pub enumerator_value : Reader Expr → Reader Enumerators → Token → Reader Enumerators
  enumerator_value expr go name [] = None
  enumerator_value expr go name (t ∷ ts) =
      if is_text (codes "=") (w t)
      then (do
        (value, ts) ← expr ts
        enumerator_end go (LastValued name t value) (Valued name t value) ts)
      else enumerator_end go (LastOne name) (One name) (t ∷ ts)

  -- enumerators, one or more
  abbrev pub enumerators : Reader Expr → ℕ → Reader Enumerators
  enumerators expr zero ts = None
  enumerators expr (suc fuel) [] = None
  enumerators expr (suc fuel) (t ∷ ts) =
      if is_ordinary (w t) then enumerator_value expr (enumerators expr fuel) t ts else None

  -- a `void` alone is the empty parameter list
  abbrev pub parameters : Specifiers → Declarator → MoreParams → Params
  parameters s d rest = if is_void_alone w s d rest then void_of s else Parameters s d rest

  module _ (specifiers_ : Reader Specifiers) (declarator_ : Reader Declarator) where
    -- further parameters after commas, as many as come, and maybe `, ...` (6.7.5.3)
    abbrev pub more_loop : ℕ → List Token → MoreParams × List Token
    more_loop zero ts = (NoMore, ts)
    more_loop (suc fuel) ts = or_else (NoMore, ts) do
      (comma, ts) ← mark w "," ts
      if begins_with begins_specifiers ts
          then (do
            (s, ts) ← specifiers_ ts
            (d, ts) ← declarator_ ts
            let (rest, ts) = more_loop fuel ts
            Some (More comma s d rest, ts))
          else (do
            (dots, ts) ← mark w "..." ts
            Some (Ellipsis comma dots, ts))

    -- a parameter list: none, `void` alone, or parameters (6.7.5.3)
    abbrev pub params : Reader Params
    params ts =
        if begins_with begins_specifiers ts
        then (do
          (s, ts) ← specifiers_ ts
          (d, ts) ← declarator_ ts
          let (rest, ts) = more_loop (length ts) ts
          Some (parameters s d rest, ts))
        else Some (NoParams, ts)

  module _ (expr : Reader Expr) (params_ : Reader Params) where
    -- what `[` or `(` after a declarator's middle begins (6.7.5.2, 6.7.5.3), and what is after it, which `go` reads
    abbrev pub dim_by : (List Token → Dims × List Token) → Sort → Token → List Token → Dims × List Token
    dim_by go SquareMark opening ts = or_else (NoDims, opening ∷ ts) (
        if begins_operand w ts
        then (do
          (size, ts) ← expr ts
          (closing, ts) ← mark w "]" ts
          let (rest, ts) = go ts
          Some (Sized opening size closing rest, ts))
        else (do
          (closing, ts) ← mark w "]" ts
          let (rest, ts) = go ts
          Some (Open opening closing rest, ts)))
    dim_by go RoundMark opening ts = or_else (NoDims, opening ∷ ts) do
      (p, ts) ← params_ ts
      (closing, ts) ← mark w ")" ts
      let (rest, ts) = go ts
      Some (Function opening p closing rest, ts)
    dim_by go _ t ts = (NoDims, t ∷ ts)

    abbrev pub dim_loop : ℕ → List Token → Dims × List Token
    dim_loop zero ts = (NoDims, ts)
    dim_loop (suc fuel) [] = (NoDims, [])
    dim_loop (suc fuel) (t ∷ ts) = dim_by (dim_loop fuel) (sort (w t)) t ts

  -- `*` and qualifiers, as many as come
  abbrev pub pointer_parts : List Token → List Token × List Token
  pointer_parts [] = ([], [])
  pointer_parts (t ∷ ts) = if is_pointer_part (sort (w t)) then onto (◌∷◌ t) (pointer_parts ts) else ([], t ∷ ts)

  -- the pointer before a declarator's middle (6.7.5.1), if there is one
  abbrev pub pointer : List Token → List Token × List Token
  pointer ts = if begins_with is_star ts then pointer_parts ts else ([], ts)

  module _ (expr : Reader Expr) (params_ : Reader Params) where
    -- what is made of a declarator's front and of what is after its middle
    abbrev pub with_dims : (Dims → Declarator) → List Token → Declarator × List Token
    with_dims make ts = onto make (dim_loop expr params_ (length ts) ts)

    -- an abstract declarator's middle is nothing (6.7.6)
    abbrev pub abstract : Naming → List Token → Reader Declarator
    abstract naming stars ts = do
      may_be_abstract naming
      Some (with_dims (Abstract stars) ts)

    module _ (inner : Reader Declarator) where
      -- after `(`: a declarator and `)` in the middle (6.7.5)
      abbrev pub nested : List Token → Token → Reader Declarator
      nested stars opening ts = do
        (d, ts) ← inner ts
        is_written d
        (closing, ts) ← mark w ")" ts
        Some (with_dims (Nested stars opening d closing) ts)

      -- the middle of a declarator by its first token: in parentheses, a name or nothing; where a name may be missing,
      -- `(` before what begins parameters is no middle (6.7.5.3)
      abbrev pub middle_by : Naming → List Token → Sort → Token → Reader Declarator
      middle_by naming stars RoundMark t ts =
          if may_be_abstract naming && begins_params ts then abstract naming stars (t ∷ ts) else nested stars t ts
      middle_by naming stars _ t ts =
          if may_name naming (w t) then Some (with_dims (Named stars t) ts) else abstract naming stars (t ∷ ts)

      abbrev pub middle : Naming → List Token → Reader Declarator
      middle naming stars [] = abstract naming stars []
      middle naming stars (t ∷ ts) = middle_by naming stars (sort (w t)) t ts

      -- declarators (6.7.5) and abstract declarators (6.7.6)
      abbrev pub declarator : Naming → Reader Declarator
      declarator naming ts = let (stars, ts) = pointer ts in middle naming stars ts
