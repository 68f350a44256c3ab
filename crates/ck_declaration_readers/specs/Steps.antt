-- The grammar's readers of initialisers and declarations by their parts, over readers of what is inside.
use Rattle.std.specs.Prelude.{ℕ, zero, suc, List, [], ◌∷◌, length, Option, Some, None, codes, if◌then◌else◌}
use Rattle.ck_base.specs.declared.tokens.Token.{Token}
use Rattle.ck_grammar.specs.Readers.{Reader, ◌>>=◌, or_else, is_at, mark, identifier}
use Rattle.ck_grammar.specs.ReadingStatements.{designator_loop, designation, inits}
use Rattle.ck_grammar.specs.Statements.{Designators, Init, Inits, Declared, MoreDeclared, Declaration}
use Rattle.ck_grammar.specs.Statements.{DotName, AtIndex, Value, Plainly, Initialised, NoMoreDeclared}
use Rattle.ck_grammar.specs.Statements.{AndPlainly, AndInitialised, Bare, Declares}
use Rattle.ck_grammar.specs.Trees.{Expr, Specifiers, Declarator}
use Rattle.ck_grammar.specs.Words.{Word, is_text}

-- an assignment expression as an initialiser, where a token is left (C99 6.7.8)
abbrev pub value_after : Reader Expr → Reader Init
value_after value [] = None
value_after value (t ∷ ts) = do
  (e, ts) ← value (t ∷ ts)
  Some (Value e, ts)

module _ (w : Token → Word) where
  -- `.` name or `[` index `]` (6.7.8)
  abbrev pub designator_step : Reader Expr → Reader Designators → Reader Designators
  designator_step index go [] = None
  designator_step index go (t ∷ ts) =
      if is_text (codes ".") (w t)
      then (do
        (name, ts) ← identifier w ts
        (rest, ts) ← go ts
        Some (DotName t name rest, ts))
      else if is_text (codes "[") (w t)
      then (do
        (i, ts) ← index ts
        (closing, ts) ← mark w "]" ts
        (rest, ts) ← go ts
        Some (AtIndex t i closing rest, ts))
      else None

  -- `[` index `]`, where no `.` comes
  abbrev pub bracketed_step : Reader Expr → Reader Designators → Reader Designators
  bracketed_step index go ts = do
    (opening, ts) ← mark w "[" ts
    (i, ts) ← index ts
    (closing, ts) ← mark w "]" ts
    (rest, ts) ← go ts
    Some (AtIndex opening i closing rest, ts)

  -- designators and `=`
  abbrev pub designators_from : Reader Expr → Reader (Option Designators)
  designators_from index ts = do
    (designators, ts) ← designator_loop w index (length ts) ts
    Some (Some designators, ts)

  -- an initialiser in braces, maybe after designators (6.7.8)
  abbrev pub entry : Reader Expr → Reader Init → Reader (Option Designators × Init)
  entry index init ts = do
    (designators, ts) ← designation w index ts
    (i, ts) ← init ts
    Some ((designators, i), ts)

  -- the initialisers in braces
  abbrev pub inits_from : Reader Expr → Reader Init → Reader Inits
  inits_from index init ts = inits w index init (length ts) ts

  -- after a comma and a declarator, maybe `=` and an initialiser (6.7)
  abbrev pub declared_end : Reader Init → Token → Declarator → (List Token → MoreDeclared × List Token)
      → Reader MoreDeclared
  declared_end init comma d go ts =
      if is_at w "=" ts
      then (do
        (equals, ts) ← mark w "=" ts
        (i, ts) ← init ts
        let (rest, ts) = go ts
        Some (AndInitialised comma d equals i rest, ts))
      else (do
        let (rest, ts) = go ts
        Some (AndPlainly comma d rest, ts))

  module _ (declarator : Reader Declarator) (init : Reader Init) where
    -- a comma and a declarator, maybe with `=` and an initialiser
    abbrev pub declared_step : (List Token → MoreDeclared × List Token) → Reader MoreDeclared
    declared_step go ts = do
      (comma, ts) ← mark w "," ts
      (d, ts) ← declarator ts
      declared_end init comma d go ts

    abbrev pub declared_loop : ℕ → List Token → MoreDeclared × List Token
    declared_loop zero ts = (NoMoreDeclared, ts)
    declared_loop (suc fuel) ts = or_else (NoMoreDeclared, ts) (declared_step (declared_loop fuel) ts)

    -- further declarators of a declaration that declares no types, as many as come
    abbrev pub declared_from : List Token → MoreDeclared × List Token
    declared_from ts = declared_loop (length ts) ts

    -- what is after the first declarator of such a declaration
    abbrev pub declared_after : Reader Declared
    declared_after ts =
        if is_at w "=" ts
        then (do
          (equals, ts) ← mark w "=" ts
          (i, ts) ← init ts
          let (rest, ts) = declared_from ts
          Some (Initialised equals i rest, ts))
        else (do
          let (rest, ts) = declared_from ts
          Some (Plainly rest, ts))

    -- such a declaration after its specifiers and its first declarator
    abbrev pub declares_from : Specifiers → Declarator → Reader Declaration
    declares_from s d ts = do
      (rest, ts) ← declared_after ts
      (semicolon, ts) ← mark w ";" ts
      Some (Declares s d rest semicolon, ts)

    -- such a declaration after its specifiers, where no `;` comes
    abbrev pub names_from : Specifiers → Reader Declaration
    names_from s ts = do
      (d, ts) ← declarator ts
      declares_from s d ts

    -- such a declaration (6.7)
    abbrev pub declaration_from : Reader Specifiers → Reader Declaration
    declaration_from specifiers ts = do
      (s, ts) ← specifiers ts
      if is_at w ";" ts
          then (do
            (semicolon, ts) ← mark w ";" ts
            Some (Bare s semicolon, ts))
          else names_from s ts
