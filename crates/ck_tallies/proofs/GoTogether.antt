-- Specifiers go together where their tally says so.
use Rattle.std.proofs.Common.{◌≡◌, ℕ, zero, suc, ◌+◌, ◌≤◌, ◌<◌, Bool, true, false, not, ◌&&◌, ◌||◌, List, refl, ap}
use Rattle.std.proofs.Common.{sym, ◌∙◌}
use Rattle.std.proofs.Common.{arith, add-zero, zero-add, one-add}
use Rattle.std.specs.Prelude.{◌==◌, nat_le, codes, if◌then◌else◌}
use Rattle.std.proofs.lemmas.Bool.{lt-leb, ne_eqb}
use Rattle.ck_base.specs.declared.tokens.Token.{Token}
use Rattle.ck_grammar.specs.Specified.{go_together, has_one_type as one_type_in, storage_fits, times, texts, count}
use Rattle.ck_grammar.specs.Specified.{is_storage, is_storage_word, is_inline, is_type_word, some_word, has_named}
use Rattle.ck_grammar.specs.Specified.{has_one_named, combinations, is_combination as is_row_of, one_if}
use Rattle.ck_grammar.specs.Trees.{Specifiers, NoSpecifiers, TypedefName, Tagged, Struct, Enum}
use Rattle.ck_grammar.specs.Trees as trees
use Rattle.ck_grammar.specs.Words.{Word, is_text, sort}
use Rattle.ck_tallies.specs.Tallies.{nothing, tallied, goes_together, has_one_type, one_type_by, is_combination}
use Rattle.ck_tallies.specs.Tallies.{class_fits}
use Rattle.ck_tallies.specs.Places.{place_word}
use Rattle.ck_tallies.specs.declared.places.Place.{Place}
use Rattle.ck_tallies.specs.declared.places.Place.TheVariants.{InType, InParameter, InBlock, InFile}
use Rattle.ck_tallies.specs.declared.tallies.Class.TheVariants as class
use Rattle.ck_tallies.specs.declared.tallies.Named.TheVariants as named
use Rattle.ck_tallies.proofs.Classes.{class_of, class_counted, count_text, count_storage, others}
use Rattle.ck_tallies.proofs.Combinations.{combination}
use Rattle.ck_tallies.proofs.Counts.{times_of, class_at}
use Rattle.ck_tallies.proofs.Flags.{typed_tallied, inline_tallied, named_tallied}
use Rattle.ck_tallies.proofs.Tallied.{base_of, base_counted, size_of, size_counted, sign_of, sign_counted}

-- one type by the parts of a tally
one_type_parts : (named_ one typed combined : Bool)
    → one_type_by (if named_ then (if one then named.One else named.Many) else named.Nothing) typed combined
    ≡ (if named_ then one && not typed else (typed && combined))
one_type_parts true true typed combined = refl
one_type_parts true false typed combined = refl
one_type_parts false one typed combined = refl

more_than_one : (n : ℕ) → 1 < n → nat_le n 1 ≡ false
more_than_one n h = lt-leb n 1 h

-- storage classes and `inline` by how many are `register`, `typedef` and others
abbrev fits_by : Place → (all register typedef_ : ℕ) → (some inline : Bool) → Bool
fits_by InType all register typedef_ some inline = not some && not inline
fits_by InParameter all register typedef_ some inline = nat_le all 1 && register == all && not inline
fits_by InBlock all register typedef_ some inline = nat_le all 1 && typedef_ == 0
fits_by InFile all register typedef_ some inline = nat_le all 1

-- with two storage classes or more
many_fit_not : (place : Place) (all register typedef_ : ℕ) (inline : Bool) → 1 < all
    → fits_by place all register typedef_ true inline ≡ false
many_fit_not InType all register typedef_ inline h = refl
many_fit_not InParameter all register typedef_ inline h = rw (more_than_one all h) refl
many_fit_not InBlock all register typedef_ inline h = rw (more_than_one all h) refl
many_fit_not InFile all register typedef_ inline h = more_than_one all h

no_class_fits : (place : Place) (inline : Bool)
    → class_fits place class.Nothing inline ≡ fits_by place 0 0 0 false inline
no_class_fits InType inline = refl
no_class_fits InParameter inline = refl
no_class_fits InBlock inline = refl
no_class_fits InFile inline = refl

register_fits : (place : Place) (inline : Bool)
    → class_fits place class.Register inline ≡ fits_by place 1 1 0 true inline
register_fits InType inline = refl
register_fits InParameter inline = refl
register_fits InBlock inline = refl
register_fits InFile inline = refl

typedef_fits : (place : Place) (inline : Bool)
    → class_fits place class.Typedef inline ≡ fits_by place 1 0 1 true inline
typedef_fits InType inline = refl
typedef_fits InParameter inline = refl
typedef_fits InBlock inline = refl
typedef_fits InFile inline = refl

other_fits : (place : Place) (inline : Bool) → class_fits place class.Other inline ≡ fits_by place 1 0 0 true inline
other_fits InType inline = refl
other_fits InParameter inline = refl
other_fits InBlock inline = refl
other_fits InFile inline = refl

many_fits : (place : Place) (all r t : ℕ) (some inline : Bool) → 1 < all → some ≡ not (all == 0)
    → class_fits place class.Many inline ≡ fits_by place all r t some inline
many_fits place all r t some inline h e =
    none place
    ∙ sym (rw (e ∙ ap not (ne_eqb all 0 (λ z. omega (arith, z)))) (many_fit_not place all r t inline h)) where
      none : (place : Place) → class_fits place class.Many inline ≡ false
      none InType = refl
      none InParameter = refl
      none InBlock = refl
      none InFile = refl

class_parts : (place : Place) (r t o : ℕ) (some inline : Bool) → some ≡ not (r + (t + o) == 0)
    → class_fits place (class_at (times_of r) (times_of t) (times_of o)) inline
    ≡ fits_by place (r + (t + o)) r t some inline
class_parts place zero zero zero some inline h = rw h (no_class_fits place inline)
class_parts place (suc zero) zero zero some inline h = rw h (register_fits place inline)
class_parts place zero (suc zero) zero some inline h = rw h (typedef_fits place inline)
class_parts place zero zero (suc zero) some inline h = rw h (other_fits place inline)
class_parts place zero zero (suc (suc zero)) some inline h = many_fits place _ _ _ some inline (omega arith) h
class_parts place zero (suc zero) (suc zero) some inline h = many_fits place _ _ _ some inline (omega arith) h
class_parts place zero (suc zero) (suc (suc zero)) some inline h = many_fits place _ _ _ some inline (omega arith) h
class_parts place zero (suc (suc zero)) o some inline h = many_fits place _ _ _ some inline (omega arith) h
class_parts place (suc zero) zero (suc zero) some inline h = many_fits place _ _ _ some inline (omega arith) h
class_parts place (suc zero) zero (suc (suc zero)) some inline h = many_fits place _ _ _ some inline (omega arith) h
class_parts place (suc zero) (suc zero) o some inline h = many_fits place _ _ _ some inline (omega arith) h
class_parts place (suc zero) (suc (suc zero)) o some inline h = many_fits place _ _ _ some inline (omega arith) h
class_parts place (suc (suc zero)) t o some inline h = many_fits place _ _ _ some inline (omega arith) h
class_parts place _ _ _ some inline h = many_fits place _ _ _ some inline (omega arith) h

-- some storage class is there where their number is not 0
some_storage : (w : Token → Word) (s : Specifiers)
    → some_word w is_storage s ≡ not (count w is_storage_word s == 0)
some_storage w NoSpecifiers = refl
some_storage w (trees.Word token rest) =
    or_more (is_storage (sort (w token))) (some_word w is_storage rest) (count w is_storage_word rest)
    (some_storage w rest) where
      or_more : (b c : Bool) (n : ℕ) → c ≡ not (n == 0) → (b || c) ≡ not (one_if b + n == 0)
      or_more true c n e = sym (ap not (ne_eqb (1 + n) 0 (λ z. omega (arith, z))))
      or_more false c n e = rw zero-add e
some_storage w (TypedefName token rest) = some_storage w rest
some_storage w (Tagged keyword tag rest) = some_storage w rest
some_storage w (Struct keyword tag opening m closing rest) = some_storage w rest
some_storage w (Enum keyword tag opening m closing rest) = some_storage w rest

module _ (w : Token → Word) (s : Specifiers) where
  abbrev often : List ℕ → ℕ
  often = times (texts w s)

  base_is : (tallied w nothing s).base ≡ base_of often
  base_is = simp add-zero at (base_counted w s nothing (λ text. 0) refl)

  size_is : (tallied w nothing s).size ≡ size_of often
  size_is = simp add-zero at (size_counted w s nothing (λ text. 0) refl)

  sign_is : (tallied w nothing s).sign ≡ sign_of often
  sign_is = simp add-zero at (sign_counted w s nothing (λ text. 0) refl)

  class_is : (tallied w nothing s).class ≡ class_of often
  class_is = simp add-zero at (class_counted w s nothing (λ text. 0) refl)

  combined : is_combination (tallied w nothing s).base (tallied w nothing s).size (tallied w nothing s).sign
      ≡ is_row_of combinations (texts w s)
  combined = rw (base_is, size_is, sign_is) (sym (combination (texts w s)))

  one_type : has_one_type (tallied w nothing s) ≡ one_type_in w s
  one_type =
      rw (named_tallied w s nothing refl, typed_tallied w s nothing, combined)
      (one_type_parts (has_named s) (has_one_named s) (some_word w is_type_word s)
      (is_row_of combinations (texts w s)))

  class_fitting : (place : Place)
      → class_fits place (tallied w nothing s).class (tallied w nothing s).inline
      ≡ fits_by place (count w is_storage_word s) (count w (is_text (codes "register")) s)
      (count w (is_text (codes "typedef")) s) (some_word w is_storage s) (some_word w is_inline s)
  class_fitting place =
      rw (class_is, inline_tallied w s nothing, count_text w (codes "register") s, count_text w (codes "typedef") s)
      (rw (count_storage w s) (class_parts place (often (codes "register")) (often (codes "typedef")) (others often)
      (some_word w is_storage s) (some_word w is_inline s)
      (some_storage w s ∙ ap (λ n. not (n == 0)) (count_storage w s))))

  fitting : (place : Place)
      → class_fits place (tallied w nothing s).class (tallied w nothing s).inline
      ≡ storage_fits w (place_word place) s
  fitting InType = class_fitting InType
  fitting InParameter = class_fitting InParameter
  fitting InBlock = class_fitting InBlock
  fitting InFile = class_fitting InFile

  pub told_together : (place : Place)
      → goes_together place (tallied w nothing s) ≡ go_together w (place_word place) s
  told_together place = rw (one_type, fitting place) refl
