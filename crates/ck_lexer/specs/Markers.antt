-- Lines that begin with `#`: line markers and pragmas (docs/TOKENS.md, "Markers and pragmas"). A line is here without
-- its line feed, and begins at its `#`.
use Rattle.std.specs.Prelude.{◌≡◌, ◌≤◌, ◌<◌, ℕ, Bool, true, false, nat_eq, List, [], ◌∷◌, ◌++◌, length, drop, codes}
use Rattle.std.specs.List.{list_all, starts_with, prefix_len}
use Rattle.ck_base.specs.Characters.{◌∈range◌, is_digit}
use Rattle.ck_lexer.specs.Bytes.{is_blank, double_quote}
use Rattle.ck_base.specs.IntegerConstants.{value_of}
use Rattle.ck_lexer.specs.Preprocessing.{is_closed}

-- #
abbrev pub hash : ℕ
hash = 35

-- `#`, blanks, `pragma`, and anything
abbrev pub is_pragma_text : List ℕ → Bool
is_pragma_text text = starts_with nat_eq (drop (prefix_len is_blank text) text) (codes "pragma")

abbrev pub is_pragma : List ℕ → Bool
is_pragma [] = false
is_pragma (b ∷ text) = is_pragma_text text

abbrev pub is_flag : ℕ → Bool
is_flag b = b ∈range "14"

-- flags 1 to 4, each after one blank or more
pub data AreFlags : List ℕ → Type 0 where
  no_flag : AreFlags []
  one_more : (blanks : List ℕ) (b : ℕ) (flags : List ℕ) → 0 < length blanks → list_all is_blank blanks ≡ true
      → is_flag b ≡ true → AreFlags flags → AreFlags (blanks ++ b ∷ flags)

-- a line marker: `#`, blanks, a number of 1 to 9 digits, blanks, a name in double quotes, and flags
pub record IsMarker (line : List ℕ) (number : ℕ) (name : List ℕ) : Type 0 where
  pub before : List ℕ
  pub digits : List ℕ
  pub between : List ℕ
  pub flags : List ℕ
  pub text : line ≡ hash ∷ (before ++ (digits ++ (between ++ (double_quote ∷ (name ++ (double_quote ∷ flags))))))
  pub blanks_before : list_all is_blank before ≡ true
  pub all_digits : list_all is_digit digits ≡ true
  pub some_digits : 0 < length digits
  pub few_digits : length digits ≤ 9
  pub value : number ≡ value_of 10 digits
  pub blanks_between : list_all is_blank between ≡ true
  pub quoted : is_closed double_quote (name ++ double_quote ∷ []) ≡ true
  pub flagged : AreFlags flags
