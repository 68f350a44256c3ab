-- One step of each loop of the readers of types: an element, and the others after it, which `go` reads; nothing where
-- no element comes. And the loops from a place on.
use Rattle.std.specs.Prelude.{ℕ, zero, suc, Bool, true, false, ◌||◌, List, [], ◌∷◌, length, Option, Some, None}
use Rattle.std.specs.Prelude.{if◌then◌else◌}
use Rattle.ck_base.specs.declared.tokens.Token.{Token}
use Rattle.ck_grammar.specs.Fitting as fitting
use Rattle.ck_grammar.specs.Fitting.{is_pointer_part, is_specifier_word}
use Rattle.ck_grammar.specs.Readers.{Reader, ◌>>=◌, onto, or_else, mark}
use Rattle.ck_grammar.specs.ReadingExpressions.{begins_operand}
use Rattle.ck_grammar.specs.ReadingTypes as reading
use Rattle.ck_grammar.specs.ReadingTypes.{begins_with, body, tagged, declarator_loop, member_loop, enumerator_end}
use Rattle.ck_grammar.specs.ReadingTypes.{more_loop, dim_loop, specifier_loop}
use Rattle.ck_grammar.specs.Specified.{is_type_word}
use Rattle.ck_grammar.specs.Trees.{Expr, Specifiers, Members, Declarators, Declarator, Dims, Params, MoreParams}
use Rattle.ck_grammar.specs.Trees.{Enumerators, TypedefName, Struct, Enum, Member, Also, Open, Sized, Function, More}
use Rattle.ck_grammar.specs.Trees.{Ellipsis}
use Rattle.ck_grammar.specs.Trees as trees
use Rattle.ck_grammar.specs.Words.{Word, begins_specifiers, sort}
use Rattle.ck_grammar.specs.declared.classes.Sort.{Sort}
use Rattle.ck_grammar.specs.declared.classes.Sort.TheVariants.{StructWord, EnumWord, TypeName}
use Rattle.ck_grammar.specs.declared.classes.Sort.TheVariants.{RoundMark, SquareMark}

-- a typedef name (6.7.7), where a type is before it or not; none is after one
abbrev pub name_step : Token → (Bool → List Token → Specifiers × List Token) → Bool → Reader Specifiers
name_step t go seen ts = if seen then None else Some (onto (TypedefName t) (go true ts))

-- a storage class, a qualifier, `inline` or a type word (6.7.1 to 6.7.4)
abbrev pub word_step : Sort → Token → (Bool → List Token → Specifiers × List Token) → Bool → Reader Specifiers
word_step s t go seen ts =
    if is_specifier_word s then Some (onto (trees.Word t) (go (seen || is_type_word s) ts)) else None

module _ (w : Token → Word) where
  -- `*` or a qualifier (C99 6.7.5)
  abbrev pub pointer_step : (List Token → List Token × List Token) → Reader (List Token)
  pointer_step go [] = None
  pointer_step go (t ∷ ts) = if is_pointer_part (sort (w t)) then Some (onto (◌∷◌ t) (go ts)) else None

  -- `*` and qualifiers, at most so many
  abbrev pub pointer_loop : ℕ → List Token → List Token × List Token
  pointer_loop zero ts = ([], ts)
  pointer_loop (suc fuel) ts = or_else ([], ts) (pointer_step (pointer_loop fuel) ts)

  -- a comma and a declarator (C99 6.7)
  abbrev pub declarator_step : Reader Declarator → (List Token → Declarators × List Token) → Reader Declarators
  declarator_step declarator go ts = do
    (comma, ts) ← mark w "," ts
    (d, ts) ← declarator ts
    let (rest, ts) = go ts
    Some (Also comma d rest, ts)

  abbrev pub declarators_from : Reader Declarator → List Token → Declarators × List Token
  declarators_from declarator ts = declarator_loop w declarator (length ts) ts

  -- a member declaration (6.7.2.1)
  abbrev pub member_step : Reader Specifiers → Reader Declarator → (List Token → Members × List Token) → Reader Members
  member_step specifiers declarator go ts = do
    (s, ts) ← specifiers ts
    (first, ts) ← declarator ts
    let (others, ts) = declarators_from declarator ts
    (semicolon, ts) ← mark w ";" ts
    let (rest, ts) = go ts
    Some (Member s first others semicolon rest, ts)

  abbrev pub members_from : Reader Specifiers → Reader Declarator → List Token → Members × List Token
  members_from specifiers declarator ts = member_loop w specifiers declarator (length ts) ts

  abbrev pub enumerators_from : Reader Expr → Reader Enumerators
  enumerators_from expr ts = reading.enumerators w expr (length ts) ts

  -- a comma and a parameter (6.7.5.3)
  abbrev pub param_step : Reader Specifiers → Reader Declarator → (List Token → MoreParams × List Token)
      → Reader MoreParams
  param_step specifiers declarator go ts = do
    (comma, ts) ← mark w "," ts
    if begins_with w begins_specifiers ts
        then (do
          (s, ts) ← specifiers ts
          (d, ts) ← declarator ts
          let (rest, ts) = go ts
          Some (More comma s d rest, ts))
        else None

  -- a comma and `...` (6.7.5.3)
  abbrev pub ellipsis : Reader (Token × Token)
  ellipsis ts = do
    (comma, ts) ← mark w "," ts
    (dots, ts) ← mark w "..." ts
    Some ((comma, dots), ts)

  -- a comma, and a parameter or `...`
  abbrev pub more_step : Reader Specifiers → Reader Declarator → (List Token → MoreParams × List Token)
      → Reader MoreParams
  more_step specifiers declarator go ts = do
    (comma, ts) ← mark w "," ts
    if begins_with w begins_specifiers ts
        then (do
          (s, ts) ← specifiers ts
          (d, ts) ← declarator ts
          let (rest, ts) = go ts
          Some (More comma s d rest, ts))
        else (do
          (dots, ts) ← mark w "..." ts
          Some (Ellipsis comma dots, ts))

  abbrev pub more_from : Reader Specifiers → Reader Declarator → List Token → MoreParams × List Token
  more_from specifiers declarator ts = more_loop w specifiers declarator (length ts) ts

  -- `]` after a size, or at once (6.7.5.2)
  abbrev pub array_step : Reader Expr → Token → (List Token → Dims × List Token) → Reader Dims
  array_step expr opening go ts =
      if begins_operand w ts
      then (do
        (size, ts) ← expr ts
        (closing, ts) ← mark w "]" ts
        let (rest, ts) = go ts
        Some (Sized opening size closing rest, ts))
      else (do
        (closing, ts) ← mark w "]" ts
        let (rest, ts) = go ts
        Some (Open opening closing rest, ts))

  -- parameters and `)` (6.7.5.3)
  abbrev pub function_step : Reader Params → Token → (List Token → Dims × List Token) → Reader Dims
  function_step params opening go ts = do
    (p, ts) ← params ts
    (closing, ts) ← mark w ")" ts
    let (rest, ts) = go ts
    Some (Function opening p closing rest, ts)

  module _ (expr : Reader Expr) (params : Reader Params) where
    abbrev pub dim_by : (List Token → Dims × List Token) → Sort → Token → Reader Dims
    dim_by go SquareMark opening ts = array_step expr opening go ts
    dim_by go RoundMark opening ts = function_step params opening go ts
    dim_by go _ t ts = None

    -- a suffix of a declarator
    abbrev pub dim_step : (List Token → Dims × List Token) → Reader Dims
    dim_step go [] = None
    dim_step go (t ∷ ts) = dim_by go (sort (w t)) t ts

    abbrev pub dims_from : List Token → Dims × List Token
    dims_from ts = dim_loop w expr params (length ts) ts

  -- a struct's body and the specifiers after it (6.7.2.1)
  abbrev pub struct_body : Reader Members → Token → Option Token → (List Token → Specifiers × List Token)
      → Reader Specifiers
  struct_body members keyword tag go = body w members (Struct keyword tag) go

  -- what is after `struct`
  abbrev pub struct_step : Reader Members → Token → (List Token → Specifiers × List Token) → Reader Specifiers
  struct_step members keyword go = tagged w members (λ tag. Struct keyword tag) go keyword

  -- an enum's body and the specifiers after it (6.7.2.2)
  abbrev pub enum_body : Reader Enumerators → Token → Option Token → (List Token → Specifiers × List Token)
      → Reader Specifiers
  enum_body enumerators keyword tag go = body w enumerators (Enum keyword tag) go

  -- what is after `enum`
  abbrev pub enum_step : Reader Enumerators → Token → (List Token → Specifiers × List Token) → Reader Specifiers
  enum_step enumerators keyword go = tagged w enumerators (λ tag. Enum keyword tag) go keyword

  abbrev pub word_first : (Bool → List Token → Specifiers × List Token) → Bool → Reader Specifiers
  word_first go seen [] = None
  word_first go seen (t ∷ ts) = word_step (sort (w t)) t go seen ts

  module _ (members : Reader Members) (enumerators : Reader Enumerators) where
    abbrev pub specifier_by : (Bool → List Token → Specifiers × List Token) → Bool → Sort → Token → Reader Specifiers
    specifier_by go seen StructWord t ts = struct_step members t (go true) ts
    specifier_by go seen EnumWord t ts = enum_step enumerators t (go true) ts
    specifier_by go seen TypeName t ts = name_step t go seen ts
    specifier_by go seen s t ts = word_step s t go seen ts

    -- a specifier (6.7), where a type is before it or not
    abbrev pub specifier_step : (Bool → List Token → Specifiers × List Token) → Bool → Reader Specifiers
    specifier_step go seen [] = None
    specifier_step go seen (t ∷ ts) = specifier_by go seen (sort (w t)) t ts

    abbrev pub specifiers_from : List Token → Specifiers × List Token
    specifiers_from ts = specifier_loop w members enumerators (length ts) false ts

  module _ (expr : Reader Expr) where
    -- after an enumerator's name, and what is after it, the others by `go` (6.7.2.2)
    abbrev pub enumerator_after : Token → Reader Enumerators → Reader Enumerators
    enumerator_after name go ts = reading.enumerator_value w expr go name ts

    -- an enumerator, and what is after it
    abbrev pub enumerator_step : Reader Enumerators → Reader Enumerators
    enumerator_step go [] = None
    enumerator_step go (t ∷ ts) = if fitting.is_ordinary (w t) then enumerator_after t go ts else None
