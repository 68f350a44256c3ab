-- Typedef names as their list, each once, in the order in which they were added.
use Rattle.std.specs.Prelude.{ℕ, List, [], ◌∷◌, ◌++◌, if◌then◌else◌}
use Rattle.ck_base.specs.TokenText.{text_of}
use Rattle.ck_base.specs.declared.tokens.Token.{Token}
use Rattle.ck_grammar.specs.Words.{is_one_of}

-- the names and this one
abbrev pub with_name : List (List ℕ) → List ℕ → List (List ℕ)
with_name names name = if is_one_of names name then names else names ++ (name ∷ [])

-- the names and those of these tokens, the last one first
abbrev pub with_tokens : List ℕ → List Token → List (List ℕ) → List (List ℕ)
with_tokens bytes [] names = names
with_tokens bytes (t ∷ ts) names = with_tokens bytes ts (text_of bytes t ∷ names)
