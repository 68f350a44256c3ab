-- Bytes as characters of ASCII, as C99 writes them.
use Rattle.std.specs.Prelude.{ℕ, ◌-◌, Bool, false, ◌||◌, ◌&&◌, ◌==◌, nat_le, List, [], ◌∷◌, codes, slice_index}
use Prim.Native.String.{String}

abbrev pub is_among : ℕ → List ℕ → Bool
is_among b [] = false
is_among b (c ∷ []) = b == c
is_among b (c ∷ d ∷ rest) = b == c || is_among b (d ∷ rest)

-- the byte is one of these characters
infix 60 ◌∈◌
abbrev pub ◌∈◌ : ℕ → String → Bool
b ∈ characters = is_among b (codes characters)

abbrev pub is_within : ℕ → List ℕ → Bool
is_within b (first ∷ last ∷ []) = nat_le first b && nat_le b last
is_within b _ = false

-- the byte is one of those from the first to the last of these two characters
infix 60 ◌∈range◌
abbrev pub ◌∈range◌ : ℕ → String → Bool
b ∈range ends = is_within b (codes ends)

-- how far a byte is after a character
infix 75 ◌after◌
abbrev pub ◌after◌ : ℕ → String → ℕ
b after first = b - slice_index (codes first) 0

abbrev pub is_digit : ℕ → Bool
is_digit b = b ∈range "09"

abbrev pub is_octal_digit : ℕ → Bool
is_octal_digit b = b ∈range "07"

abbrev pub is_hexadecimal_digit : ℕ → Bool
is_hexadecimal_digit b = b ∈range "09" || b ∈range "af" || b ∈range "AF"

-- \
abbrev pub backslash : ℕ
backslash = 92
