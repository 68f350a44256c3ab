-- Where a file stops being of the form: its first token after which no file of the form goes on, or its end.
-- docs/REPORT.md, "The file that is read".
use Rattle.std.specs.Prelude.{◌≡◌, ◌<◌, ℕ, ◌+◌, List, ◌++◌, length, take}
use Rattle.ck_base.specs.declared.tokens.Token.{Token}
use Rattle.ck_cli.specs.FileForm.{FileForm, IsDeclared, Spells, spelling, texts_of, token_start}

-- some file of the form begins with these texts
pub record CanGoOn (texts : List (List ℕ)) : Type 0 where
  pub form : FileForm
  pub declared : IsDeclared form
  pub rest : List (List ℕ)
  pub spelled : texts ++ rest ≡ spelling form

-- tokens that are no file of the form stop being one at this offset
pub data IsStray (bytes : List ℕ) (tokens : List Token) : ℕ → Type 0 where
  -- a file of the form can go on after the first n tokens, and not after one more
  at_token : (n : ℕ) → n < length tokens → CanGoOn (texts_of bytes (take n tokens))
      → (CanGoOn (texts_of bytes (take (n + 1) tokens)) → ⊥) → IsStray bytes tokens (token_start tokens n)
  -- it can go on after all of them, and they are none: at the file's end
  at_end : CanGoOn (texts_of bytes tokens) → ((form : FileForm) → Spells form bytes tokens → ⊥)
      → IsStray bytes tokens (length bytes)
