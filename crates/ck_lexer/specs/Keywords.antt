-- Keywords (C99 6.4.1), and the reserved words outside the subset (docs/LANGUAGE.md).
use Rattle.std.specs.Prelude.{ℕ, Bool, List, [], ◌∷◌, codes}
use Rattle.std.specs.List.{list_any}
use Rattle.std.specs.Str.{bytes_eq}

-- the keywords of the subset
abbrev pub keywords : List (List ℕ)
keywords =
    codes "auto" ∷ codes "break" ∷ codes "case" ∷ codes "char" ∷ codes "const" ∷ codes "continue" ∷ codes "default"
    ∷ codes "do" ∷ codes "else" ∷ codes "enum" ∷ codes "extern" ∷ codes "for" ∷ codes "goto" ∷ codes "if"
    ∷ codes "inline" ∷ codes "int" ∷ codes "long" ∷ codes "register" ∷ codes "restrict" ∷ codes "return"
    ∷ codes "short" ∷ codes "signed" ∷ codes "sizeof" ∷ codes "static" ∷ codes "struct" ∷ codes "switch"
    ∷ codes "typedef" ∷ codes "unsigned" ∷ codes "void" ∷ codes "volatile" ∷ codes "while" ∷ codes "_Bool" ∷ []

-- the other keywords of C99, and words that compilers reserve
abbrev pub reserved_words : List (List ℕ)
reserved_words =
    codes "float" ∷ codes "double" ∷ codes "union" ∷ codes "_Complex" ∷ codes "_Imaginary"
    ∷ codes "asm" ∷ codes "__asm" ∷ codes "__asm__" ∷ codes "__attribute" ∷ codes "__attribute__"
    ∷ codes "__extension__" ∷ codes "typeof" ∷ codes "__typeof__" ∷ []

unfoldable pub is_keyword : List ℕ → Bool
is_keyword text = list_any (bytes_eq text) keywords

unfoldable pub is_reserved_word : List ℕ → Bool
is_reserved_word text = list_any (bytes_eq text) reserved_words
