-- A reader here, over the grammar's own readers of the parts, is the grammar's own reader (C99 6.7).
use Rattle.std.specs.Prelude.{◌≡◌, ℕ, List}
use Rattle.ck_base.specs.declared.tokens.Token.{Token}
use Rattle.ck_declaration_readers.specs.Steps.{declaration_from}
use Rattle.ck_grammar.specs.Fitting.{NewName}
use Rattle.ck_grammar.specs.Reading.{declarator_at, specifiers_at}
use Rattle.ck_grammar.specs.ReadingStatements.{declaration_at, init_at}
use Rattle.ck_grammar.specs.Specified.{InBlock}
use Rattle.ck_grammar.specs.Words.{word_of}

-- a declaration in a block: no type is declared there, so no typedef name comes
abbrev pub ReadsBlockDeclarations : Type 0
ReadsBlockDeclarations = (bytes : List ℕ) (typedefs : List (List ℕ)) (n : ℕ) (ts : List Token)
    → declaration_at bytes typedefs n InBlock ts
    ≡ declaration_from (word_of bytes typedefs) (declarator_at (word_of bytes typedefs) n NewName)
    (init_at (word_of bytes typedefs) n) (specifiers_at (word_of bytes typedefs) n InBlock) ts
