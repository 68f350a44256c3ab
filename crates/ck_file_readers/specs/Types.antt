-- What code answers that reads a comma and a declarator of a type and pushes them on a row: the name is a typedef name
-- for what comes after the declarator (C99 6.2.1). `old` and `new` are the row, as a function of what follows, before
-- and after.
use Rattle.std.specs.Prelude.{◌≡◌, ℕ, ◌≤◌, true, List, drop, length, Option, Some, None, Result, Ok, Err}
use Rattle.ck_base.specs.declared.refusals.OutOfMemory.{OutOfMemory}
use Rattle.ck_base.specs.declared.tokens.Token.{Token}
use Rattle.ck_file_readers.specs.Steps.{type_step}
use Rattle.ck_grammar.specs.Readers.{onto}
use Rattle.ck_grammar.specs.Statements.{MoreDeclared, AndPlainly}
use Rattle.ck_grammar.specs.StatementsFitting.{names_after}
use Rattle.ck_grammar.specs.Trees.{Declarator}
use Rattle.ck_readers.specs.SourceView.{SourceView}

module _ (n : ℕ) (old new : MoreDeclared → MoreDeclared) (one two : SourceView) (at : ℕ) where
  -- a declarator is read and pushed
  pub record IsTypeStep (next : ℕ) : Type 0 where
    pub comma : Token
    pub name : Declarator
    pub read : (go : List (List ℕ) → List Token → MoreDeclared × List Token)
        → type_step n one go (drop at one.tokens)
        ≡ Some (onto (AndPlainly comma name) (go two.typedefs (drop next one.tokens)))
    pub pushed : (rest : MoreDeclared) → new rest ≡ old (AndPlainly comma name rest)
    pub typedefs : two.typedefs ≡ names_after true one.bytes name one.typedefs
    pub within : at ≤ length one.tokens → next ≤ length one.tokens

  -- none is there, and all stays
  pub record NoTypeStep : Type 0 where
    pub none : (go : List (List ℕ) → List Token → MoreDeclared × List Token)
        → type_step n one go (drop at one.tokens) ≡ None
    pub stays : (rest : MoreDeclared) → new rest ≡ old rest
    pub typedefs : two.typedefs ≡ one.typedefs

  abbrev pub TypeStepBy : Option ℕ → Type 0
  TypeStepBy None = NoTypeStep
  TypeStepBy (Some next) = IsTypeStep next

  abbrev pub TypeStepAt : Result (Option ℕ) OutOfMemory → Type 0
  TypeStepAt (Ok next) = TypeStepBy next
  TypeStepAt (Err e) = Unit {0}
