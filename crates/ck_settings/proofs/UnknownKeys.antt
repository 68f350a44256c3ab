-- The unknown keys of a map whose keys ascend: the first one that is met is the first in byte order.
use Rattle.std.proofs.Common.{◌≡◌, ℕ, false, cond, List, [], ◌∷◌, map, Bor, String, Global, string_bytes, Less, refl}
use Rattle.std.proofs.Common.{sym, ap, ◌∙◌, Ok, Err, inl, inr}
use Rattle.std.proofs.lemmas.Bool.{cases_Bool}
use Rattle.std.specs.List.{list_any, AllByRecursion}
use Rattle.std.specs.List.Sorted.{IsStrictlySortedBy}
use Rattle.std.specs.Map.{keys_of}
use Rattle.std.specs.Str.{bytes_eq}
use Rattle.std.specs.String.{string_cmp}
use Rattle.toml.specs.View.{members_view}
use Rattle.toml.proofs.Views.{Entry}
use Rattle.ck_settings.specs.declared.errors.ReadSettingsError.{ReadSettingsError}
use Rattle.ck_settings.specs.declared.errors.ReadSettingsError.TheVariants as errors
use Rattle.ck_settings.specs.Faults.{is_among, unknown_keys, put_in_order, in_byte_order, unknown_fault}
use Rattle.ck_settings.specs.Documents.{IsFault, Fails}
use Rattle.ck_settings.specs.Reading.{only}

-- the keys that are none of these
abbrev pub unknown_of : List (List ℕ) → List (String Global) → List (List ℕ)
unknown_of known [] = []
unknown_of known (k ∷ ks) = cond (is_among known (string_bytes k)) (unknown_of known ks)
    (string_bytes k ∷ unknown_of known ks)

abbrev pub texts : List (Bor (List ℕ)) → List (List ℕ)
texts keys = map (λ k. k.now) keys

pub unknown_keys_of : (known : List (List ℕ)) (es : List Entry) → unknown_keys known (members_view es)
    ≡ unknown_of known (keys_of es)
unknown_keys_of known [] = refl
unknown_keys_of known (e ∷ es) = rw (unknown_keys_of known es)

pub is_among_texts : (keys : List (Bor (List ℕ))) (key : List ℕ) → is_among (texts keys) key
    ≡ list_any (λ k. bytes_eq k.now key) keys
is_among_texts [] key = refl
is_among_texts (k ∷ ks) key = rw (is_among_texts ks key)

put_before : (known : List (List ℕ)) (k : String Global) (ks : List (String Global)) →
    AllByRecursion (λ y. string_cmp k y ≡ Less) ks
    → put_in_order (string_bytes k) (unknown_of known ks) ≡ string_bytes k ∷ unknown_of known ks
put_before known k [] h = refl
put_before known k (l ∷ ks) h =
    elim (cases_Bool (is_among known (string_bytes l))) [
      | inl here ↦ rw here (put_before known k ks h.1)
      | inr not_here ↦ rw (not_here, h.0)
    ]

pub already_in_order : (known : List (List ℕ)) (ks : List (String Global)) → IsStrictlySortedBy string_cmp ks →
    in_byte_order (unknown_of known ks) ≡ unknown_of known ks
unfolding IsStrictlySortedBy
already_in_order known [] h = refl
already_in_order known (k ∷ ks) h =
    elim (cases_Bool (is_among known (string_bytes k))) [
      | inl here ↦ rw here (already_in_order known ks h.1)
      | inr not_here ↦ rw (not_here, already_in_order known ks h.1) (put_before known k ks h.0)
    ]

first_unknown : (known : List (List ℕ)) (key : String Global) (rest : List (String Global)) →
    is_among known (string_bytes key) ≡ false
    → unknown_of known (key ∷ rest) ≡ string_bytes key ∷ unknown_of known rest
first_unknown known key rest other = rw other refl

-- the key that stands first among those that are left, where it isn't known, is the fault
pub refused : (prefix : List ℕ) (keys : List (Bor (List ℕ))) (es : List Entry) (key : String Global)
    (rest : List (String Global)) (e : ReadSettingsError)
    → IsStrictlySortedBy string_cmp (keys_of es) → unknown_of (texts keys) (key ∷ rest)
    ≡ unknown_of (texts keys) (keys_of es)
    → list_any (λ k. bytes_eq k.now (string_bytes key)) keys ≡ false
    → IsFault e (unknown_fault prefix (string_bytes key)) → Fails e (only prefix (texts keys) (members_view es))
refused prefix keys es key rest errors.Memory sorted same other fault = tt
refused prefix keys es key rest (errors.Fault g) sorted same other fault =
    let all : in_byte_order (unknown_keys (texts keys) (members_view es))
    ≡ string_bytes key ∷ unknown_of (texts keys) rest =
    ap in_byte_order (unknown_keys_of (texts keys) es) ∙ already_in_order (texts keys) (keys_of es) sorted ∙ sym same
    ∙ first_unknown (texts keys) key rest (is_among_texts keys (string_bytes key) ∙ other) in
    rw all (ap Err fault)

-- where none is left, there is no fault
pub none_unknown : (prefix : List ℕ) (keys : List (Bor (List ℕ))) (es : List Entry)
    → [] ≡ unknown_of (texts keys) (keys_of es) → only prefix (texts keys) (members_view es) ≡ Ok (tt {0})
none_unknown prefix keys es none =
    let all : in_byte_order (unknown_keys (texts keys) (members_view es)) ≡ [] =
    ap in_byte_order (unknown_keys_of (texts keys) es ∙ sym none) in
    rw all refl
