-- How places come after one another: by declarations, each in the scopes that are open, and by scopes that open and
-- close (C99 6.2.1).
use Rattle.std.specs.Prelude.{◌≡◌, ℕ, ◌≤◌, ◌<◌, All, Bool, true, List, [], ◌∷◌, length, Some}
use Rattle.ck_base.specs.declared.tokens.Token.{Token}
use Rattle.ck_types.specs.IntegerTypes.{represents}
use Rattle.ck_types.specs.declared.integer_types.IntegerType.TheVariants.{Int}
use Rattle.ck_prog.specs.Declarations.{Meaning, Enumerator, Entry, Place, declaring, inside, outside}

-- 6.7.2.2: the value of an enumeration constant is one of `int`
abbrev pub is_fitting : Meaning → Bool
is_fitting (Enumerator (Some v)) = represents Int v
is_fitting _ = true

pub data ComesAfter : Place → Place → Type 0 where
  AtOnce : (p : Place) → ComesAfter p p
  AfterName :
      (p q : Place) (name : List ℕ) (at : Token) (m : Meaning) → ComesAfter p q → is_fitting m ≡ true →
      ComesAfter p (declaring q name at m)
  AfterScope : (p q r : Place) → ComesAfter p q → ComesAfter (inside q) r → ComesAfter p (outside q r)

-- each number is at most this one
abbrev pub AreAtMost : ℕ → List ℕ → Type 0
AreAtMost n [] = Unit {0}
AreAtMost n (m ∷ ms) = (m ≤ n) × AreAtMost n ms

-- each entry is in scopes that had opened before it
abbrev pub IsScoped : List Entry → Type 0
IsScoped [] = Unit {0}
IsScoped (e ∷ es) = AreAtMost (length es) e.scope × IsScoped es

-- the scopes of a place and of all entries before it had opened before
abbrev pub IsOrderly : Place → Type 0
IsOrderly p = IsScoped p.declared × AreAtMost (length p.declared) p.scope

-- each enumeration constant has a value of `int`
abbrev pub AreFitting : List Entry → Type 0
AreFitting [] = Unit {0}
AreFitting (e ∷ es) = (is_fitting e.meaning ≡ true) × AreFitting es

-- a file's bytes are bytes
abbrev pub AreBytes : List ℕ → Type 0
AreBytes = All (λ b. b < 256)
