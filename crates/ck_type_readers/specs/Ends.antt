-- The end of a parameter list, maybe with a comma and `...` (C99 6.7.5.3).
use Rattle.std.specs.Prelude.{◌≡◌, ℕ, true, false, List, drop, Option, Some, None, MatchOption}
use Rattle.ck_base.specs.declared.tokens.Token.{Token}
use Rattle.ck_grammar.specs.Fitting.{is_void_alone}
use Rattle.ck_grammar.specs.ReadingTypes.{void_of}
use Rattle.ck_grammar.specs.Trees.{Specifiers, Declarator, MoreParams, VoidParams}
use Rattle.ck_grammar.specs.Words.{Word}
use Rattle.ck_readers.specs.Places.{IsRead, itself}
use Rattle.ck_type_readers.specs.Steps.{ellipsis}

-- the row as it is, the marks that come, and the place after them
pub record EndsAt {M : Type 0} (w : Token → Word) (tokens : List Token) (at : ℕ) (row : M)
    (found : (M × Option (Token × Token)) × ℕ) : Type 0 where
  pub same : found.0.0 ≡ row
  pub marks : MatchOption found.0.1 ((ellipsis w (drop at tokens) ≡ None) × (found.1 ≡ at))
      (λ marks. IsRead itself (ellipsis w) tokens at (marks, found.1))

-- these parameters are `void` alone, which is this token, or they aren't
abbrev pub VoidAlone : (Token → Word) → Specifiers → Declarator → MoreParams → Option Token → Type 0
VoidAlone w s d rest None = is_void_alone w s d rest ≡ false
VoidAlone w s d rest (Some t) = (is_void_alone w s d rest ≡ true) × (void_of s ≡ VoidParams t)
