-- The first and the last of the tokens that a node is written with, if there are any: from the one to the other the
-- node has its span.
use Rattle.std.specs.Prelude.{◌≡◌, List, [], ◌∷◌, Option, None, Some}
use Rattle.ck_base.specs.declared.tokens.Token.{Token}

-- the first of these tokens
abbrev pub first : List Token → Option Token
first [] = None
first (token ∷ tokens) = Some token

-- the last of these tokens, and `before` where there are none
abbrev pub last_after : Option Token → List Token → Option Token
last_after before [] = before
last_after before (token ∷ tokens) = last_after (Some token) tokens

-- this token, or the other where there is none
abbrev pub or_else : Option Token → Option Token → Option Token
or_else None other = other
or_else (Some token) other = Some token

-- a token is the first that a node writes, whatever is after the node; a node of no tokens has none
abbrev pub IsFirst : Option Token → (List Token → List Token) → Type 0
IsFirst token write = (more : List Token) → first (write more) ≡ or_else token (first more)

-- a token is the last that a node writes, whatever is before and after the node; a node of no tokens has none
abbrev pub IsLast : Option Token → (List Token → List Token) → Type 0
IsLast token write = (before : Option Token) (more : List Token)
    → last_after before (write more) ≡ last_after (or_else token before) more
