-- What a token is written with: the bytes of its span.
use Rattle.std.specs.Prelude.{ℕ, List, slice_range}
use Rattle.ck_base.specs.declared.tokens.Token.{Token}

-- the text of a token of a file with these bytes
abbrev pub text_of : List ℕ → Token → List ℕ
text_of bytes t = slice_range bytes t.span.start t.span.end
