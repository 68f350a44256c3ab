-- Small readers. A reader answers what it reads at the front of the tokens, and the tokens after it, or nothing.
use Rattle.std.specs.Prelude.{Bool, false, List, [], ◌∷◌, Option, Some, None, codes, if◌then◌else◌}
use Rattle.ck_base.specs.declared.tokens.Token.{Token}
use Rattle.ck_grammar.specs.Words.{Word, is_text, is_identifier}
use Prim.Native.String.{String}

abbrev pub Read : Type 0 → Type 0
Read A = Option (A × List Token)

abbrev pub Reader : Type 0 → Type 0
Reader A = List Token → Read A

-- one step after another, where each may read nothing
infixl 10 ◌>>=◌
abbrev pub ◌>>=◌ : {A B : Type 0} → Option A → (A → Option B) → Option B
None >>= go = None
Some x >>= go = go x

-- goes on where the test holds
infixl 10 ◌>>◌
abbrev pub ◌>>◌ : {B : Type 0} → Bool → Option B → Option B
test >> rest = if test then rest else None

-- what was read, or else this
abbrev pub or_else : {A : Type 0} → A → Option A → A
or_else x None = x
or_else x (Some y) = y

-- what was read, as a part of something else
abbrev pub onto : {A B : Type 0} → (A → B) → A × List Token → B × List Token
onto make x = (make x.0, x.1)

module _ (w : Token → Word) where
  -- a keyword or punctuator of this text comes first
  abbrev pub is_at : String → List Token → Bool
  is_at text [] = false
  is_at text (t ∷ ts) = is_text (codes text) (w t)

  -- the keyword or punctuator of this text
  abbrev pub mark : String → Reader Token
  mark text [] = None
  mark text (t ∷ ts) = if is_text (codes text) (w t) then Some (t, ts) else None

  -- an identifier, a typedef name too
  abbrev pub identifier : Reader Token
  identifier [] = None
  identifier (t ∷ ts) = if is_identifier (w t) then Some (t, ts) else None
