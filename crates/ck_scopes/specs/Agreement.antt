-- When the declarations of an environment, and those of linkages, are the entries of a place of ck_prog, and what their
-- numbers are there. Names have equal bytes exactly where their numbers are equal.
use Rattle.std.specs.Prelude.{◌≡◌, ◌⊎◌, ℕ, Bool, true, false, ◌&&◌, ◌==◌, List, [], ◌∷◌, length, Option, Some, None}
use Rattle.std.specs.Prelude.{if◌then◌else◌}
use Rattle.std.specs.Str.{bytes_eq}
use Rattle.ck_prog.specs.Declarations.{Meaning, Entry, Place, is_ordinary, is_tag, latest, meant_in, tag_of_scope}
use Rattle.ck_prog.specs.Linking.{linkage_of, is_linked, is_external, are_one}
use Rattle.ck_prog.specs.Projects.{same_token, beside}
use Rattle.ck_tables.specs.NameList.{IsName, AreDistinct, Extends}
use Rattle.ck_scopes.specs.Environments.{Declared, Environment, meant, in_innermost}
use Rattle.ck_scopes.specs.Links.{LinkedName, Links, one_with}
use Rattle.ck_scopes.specs.declared.spaces.Space.{Space}
use Rattle.ck_scopes.specs.declared.spaces.Space.TheVariants.{Ordinary, Tag}

-- 6.2.3: a name with this meaning is looked up in the name space
abbrev pub is_in : Space → Meaning → Bool
is_in Ordinary m = is_ordinary m
is_in Tag m = is_tag m

-- 6.2.3: the name space in which it is looked up by scopes, if any
abbrev pub space_of : Meaning → Option Space
space_of m = if is_ordinary m then Some Ordinary else if is_tag m then Some Tag else None

-- the entry of a number: that before which so many are declared, the latest first
abbrev pub entry_at : List Entry → ℕ → Option Entry
entry_at [] n = None
entry_at (e ∷ es) n = if n == length es then Some e else entry_at es n

-- the entry of a number, where there is one
abbrev pub entry_of : List Entry → Option ℕ → Option Entry
entry_of es None = None
entry_of es (Some n) = entry_at es n

-- environments --------------------------------------------------------------------------------------------------------

-- a declaration over numbers is that of an entry
pub record IsEntry (names : List (List ℕ)) (e : Entry) (d : Declared) : Type 0 where
  pub file_is : d.file ≡ e.file
  pub scope_is : d.scope ≡ e.scope
  pub name_is : IsName names d.name e.name
  pub space_is : d.space ≡ space_of e.meaning

-- declarations over numbers are those of entries, one by one
abbrev pub AreEntries : List (List ℕ) → List Entry → List Declared → Type 0
AreEntries names [] [] = Unit {0}
AreEntries names [] (d ∷ ds) = ⊥
AreEntries names (e ∷ es) [] = ⊥
AreEntries names (e ∷ es) (d ∷ ds) = IsEntry names e d × AreEntries names es ds

-- an environment is that of a place
pub record IsPlace (names : List (List ℕ)) (p : Place) (v : Environment) : Type 0 where
  pub declared : AreEntries names p.declared v.declared
  pub file_is : v.file ≡ p.file
  pub scope_is : v.scope ≡ p.scope

-- 6.2.1: the entries of a name in the innermost scope alone
abbrev pub is_in_scope : Space → Place → List ℕ → Entry → Bool
is_in_scope space p bytes e =
    is_in space e.meaning && e.file == p.file && bytes_eq e.scope p.scope && bytes_eq e.name bytes

-- What a name means at a place is what its number means in the place's environment: of what is in sight, of what the
-- innermost scope declares, and as a tag there.
pub record MeansSame (p : Place) (v : Environment) (bytes : List ℕ) (name : ℕ) : Type 0 where
  pub in_sight : (space : Space) → meant_in (is_in space) p bytes ≡ entry_of p.declared (meant v space name)
  pub innermost :
      (space : Space) → latest (is_in_scope space p bytes) p.declared ≡ entry_of p.declared (in_innermost v space name)
  pub tag : tag_of_scope p bytes ≡ entry_of p.declared (in_innermost v Tag name)

abbrev pub MeaningsAgree : Type 0
MeaningsAgree =
    (names : List (List ℕ)) (p : Place) (v : Environment) (bytes : List ℕ) (name : ℕ) → AreDistinct names
    → IsPlace names p v → IsName names name bytes → MeansSame p v bytes name

-- linkages ------------------------------------------------------------------------------------------------------------

-- a declaration with linkage is that of an entry with a number
pub record IsLinkedEntry (names : List (List ℕ)) (number : ℕ) (e : Entry) (d : LinkedName) : Type 0 where
  pub entry_is : d.entry ≡ number
  pub file_is : d.file ≡ e.file
  pub name_is : IsName names d.name e.name
  pub linkage_is : d.linkage ≡ linkage_of e.meaning

-- declarations with linkage are those of entries, one by one; entries without linkage may be left out
abbrev pub AreLinked : List (List ℕ) → List Entry → List LinkedName → Type 0
AreLinked names [] [] = Unit {0}
AreLinked names [] (d ∷ ds) = ⊥
AreLinked names (e ∷ es) [] = (is_linked (linkage_of e.meaning) ≡ false) × AreLinked names es []
AreLinked names (e ∷ es) (d ∷ ds) =
    ((is_linked (linkage_of e.meaning) ≡ false) × AreLinked names es (d ∷ ds))
    ⊎ (IsLinkedEntry names (length es) e d × AreLinked names es ds)

-- none of these entries is at the token of this one
abbrev pub AreElsewhere : Entry → List Entry → Type 0
AreElsewhere e [] = Unit {0}
AreElsewhere e (d ∷ ds) = (same_token e.at d.at ≡ false) × AreElsewhere e ds

-- 6.2.2: of the entries before one with linkage, the latest that means the same object or function is that of the
-- number that linkages give
pub record IsOneWith (e : Entry) (es : List Entry) (v : Links) (name : ℕ) : Type 0 where
  pub latest_is : latest (are_one e) es ≡ entry_of es (one_with v name (is_external (linkage_of e.meaning)))
  pub beside_is :
      AreElsewhere e es
      → beside e (are_one e) es ≡ entry_of es (one_with v name (is_external (linkage_of e.meaning)))

abbrev pub LinksAgree : Type 0
LinksAgree =
    (names : List (List ℕ)) (es : List Entry) (v : Links) (e : Entry) (name : ℕ) → AreDistinct names
    → AreLinked names es v.declared → e.file ≡ v.file → IsName names name e.name
    → is_linked (linkage_of e.meaning) ≡ true → IsOneWith e es v name

-- names ---------------------------------------------------------------------------------------------------------------

-- what agrees still does when names have been added
pub record NamesMayBeAdded : Type 0 where
  pub entries :
      (names more : List (List ℕ)) → Extends names more → (es : List Entry) (ds : List Declared)
      → AreEntries names es ds → AreEntries more es ds
  pub linked :
      (names more : List (List ℕ)) → Extends names more → (es : List Entry) (ds : List LinkedName)
      → AreLinked names es ds → AreLinked more es ds
