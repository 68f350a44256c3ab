-- The combinations of type words (C99 6.7.2) by the parts of a tally.
use Rattle.std.proofs.Common.{◌≡◌, ℕ, zero, suc, ◌≤◌, Bool, true, false, ◌&&◌, ◌||◌, List, [], ◌∷◌, nat_eq, refl, ap}
use Rattle.std.proofs.Common.{sym, ◌∙◌}
use Rattle.std.proofs.Common.{arith}
use Rattle.std.specs.Prelude.{◌==◌, nat_le, codes}
use Rattle.std.proofs.lemmas.Bool.{and_parts, leb-true, ne_eqb}
use Rattle.ck_grammar.specs.Specified.{times, have_same_type_words, is_combination as is_row_of, combinations}
use Rattle.ck_tallies.specs.Tallies.{is_combination}
use Rattle.ck_tallies.proofs.Counts.{Times, Never, Once, Twice, Often, times_of, base_at, size_at, sign_at}

-- how often is as in a row
abbrev as_in : Times → ℕ → Bool
as_in Never k = 0 == k
as_in Once k = 1 == k
as_in Twice k = 2 == k
as_in Often k = false

as_in-times_of : (n k : ℕ) → k ≤ 2 → (n == k) ≡ as_in (times_of n) k
as_in-times_of zero k h = refl
as_in-times_of (suc zero) k h = refl
as_in-times_of (suc (suc zero)) k h = refl
as_in-times_of (suc (suc (suc n))) k h = ne_eqb (suc (suc (suc n))) k (λ e. absurd (omega (arith, e)))

-- `void` `char` `int` `_Bool`, `short` `long`, `signed` `unsigned` are as in a row
abbrev is_as : List (List ℕ) → Times → Times → Times → Times → Times → Times → Times → Times → Bool
is_as row v c i b s l g u =
    as_in v (times row (codes "void")) && (as_in c (times row (codes "char")) && (as_in i (times row (codes "int"))
    && (as_in b (times row (codes "_Bool")) && (as_in s (times row (codes "short"))
    && (as_in l (times row (codes "long"))
    && (as_in g (times row (codes "signed")) && (as_in u (times row (codes "unsigned")) && true)))))))

abbrev is_some : List (List (List ℕ)) → Times → Times → Times → Times → Times → Times → Times → Times → Bool
is_some [] v c i b s l g u = false
is_some (row ∷ rows) v c i b s l g u = is_as row v c i b s l g u || is_some rows v c i b s l g u

-- no word comes more than twice in a row
abbrev is_small : List (List ℕ) → Bool
is_small row =
    nat_le (times row (codes "void")) 2 && (nat_le (times row (codes "char")) 2 && (nat_le (times row (codes "int")) 2
    && (nat_le (times row (codes "_Bool")) 2 && (nat_le (times row (codes "short")) 2
    && (nat_le (times row (codes "long")) 2 && (nat_le (times row (codes "signed")) 2
    && nat_le (times row (codes "unsigned")) 2))))))

abbrev are_small : List (List (List ℕ)) → Bool
are_small [] = true
are_small (row ∷ rows) = is_small row && are_small rows

swap : (a b c : Bool) → (a && (b && c)) ≡ (b && (a && c))
swap true b c = refl
swap false true c = refl
swap false false c = refl

reorder : (v c s i l g u b : Bool)
    → (v && (c && (s && (i && (l && (g && (u && (b && true))))))))
    ≡ (v && (c && (i && (b && (s && (l && (g && (u && true))))))))
reorder v c s i l g u b =
    ap (λ x. v && (c && x)) (
    swap s i (l && (g && (u && (b && true))))
    ∙ ap (λ x. i && (s && (l && (g && x)))) (swap u b true)
    ∙ ap (λ x. i && (s && (l && x))) (swap g b (u && true))
    ∙ ap (λ x. i && (s && x)) (swap l b (g && (u && true)))
    ∙ ap (λ x. i && x) (swap s b (l && (g && (u && true))))
    )

module _ (texts : List (List ℕ)) where
  abbrev pub at : List ℕ → Times
  at text = times_of (times texts text)

  same : (row : List (List ℕ)) (text : List ℕ) → nat_le (times row text) 2 ≡ true
      → (times texts text == times row text) ≡ as_in (times_of (times texts text)) (times row text)
  same row text h = as_in-times_of (times texts text) (times row text) (leb-true (times row text) 2 h)

  small_parts : (a b c d e f g h : Bool) → (a && (b && (c && (d && (e && (f && (g && h))))))) ≡ true
      → (a ≡ true) × (b ≡ true) × (c ≡ true) × (d ≡ true) × (e ≡ true) × (f ≡ true) × (g ≡ true) × (h ≡ true)
  small_parts true true true true true true true true p = (refl, refl, refl, refl, refl, refl, refl, refl)
  small_parts _ _ _ _ _ _ _ _ p = absurd (cc)

  same_row : (row : List (List ℕ)) → is_small row ≡ true → have_same_type_words texts row
      ≡ is_as row (at (codes "void")) (at (codes "char")) (at (codes "int")) (at (codes "_Bool")) (at (codes "short"))
      (at (codes "long")) (at (codes "signed")) (at (codes "unsigned"))
  same_row row h =
      let p = small_parts _ _ _ _ _ _ _ _ h in
      rw (
        same row (codes "void") p.0,
        same row (codes "char") p.1,
        same row (codes "int") p.2,
        same row (codes "_Bool") p.3,
        same row (codes "short") p.4,
        same row (codes "long") p.5,
        same row (codes "signed") p.6,
        same row (codes "unsigned") p.7,
      ) (reorder
      (as_in (at (codes "void")) (times row (codes "void"))) (as_in (at (codes "char")) (times row (codes "char")))
      (as_in (at (codes "short")) (times row (codes "short"))) (as_in (at (codes "int")) (times row (codes "int")))
      (as_in (at (codes "long")) (times row (codes "long"))) (as_in (at (codes "signed")) (times row (codes "signed")))
      (as_in (at (codes "unsigned")) (times row (codes "unsigned")))
      (as_in (at (codes "_Bool")) (times row (codes "_Bool"))))

  some_row : (rows : List (List (List ℕ))) → are_small rows ≡ true → is_row_of rows texts
      ≡ is_some rows (at (codes "void")) (at (codes "char")) (at (codes "int")) (at (codes "_Bool"))
      (at (codes "short")) (at (codes "long")) (at (codes "signed")) (at (codes "unsigned"))
  some_row [] h = refl
  some_row (row ∷ rows) h =
      let p = and_parts (is_small row) (are_small rows) h in rw (same_row row p.0, some_row rows p.1) refl

table : (v c i b s l g u : Times)
    → is_some combinations v c i b s l g u ≡ is_combination (base_at v c i b) (size_at s l) (sign_at g u)
table Once Never Never Never Never Never Never Never = refl
table Once Never Never Never Never Never Once Never = refl
table Once Never Never Never Once Never Never Never = refl
table Never Never Never Once Never Never Never Never = refl
table Never Never Never Once Never Never Once Never = refl
table Never Never Never Once Once Never Never Never = refl
table Never Once Never Never Never Never Never Never = refl
table Never Once Never Never Never Never Once Never = refl
table Never Once Never Never Never Never Never Once = refl
table Never Once Never Never Once Never Never Never = refl
table Never Never Once Never Never Never Never Never = refl
table Never Never Once Never Never Never Once Never = refl
table Never Never Once Never Never Never Never Once = refl
table Never Never Once Never Once Never Never Never = refl
table Never Never Once Never Once Never Once Never = refl
table Never Never Once Never Once Never Never Once = refl
table Never Never Once Never Never Once Never Never = refl
table Never Never Once Never Never Once Once Never = refl
table Never Never Once Never Never Once Never Once = refl
table Never Never Once Never Never Twice Never Never = refl
table Never Never Once Never Never Twice Once Never = refl
table Never Never Once Never Never Twice Never Once = refl
table Never Never Never Never Never Never Never Never = refl
table Never Never Never Never Never Never Once Never = refl
table Never Never Never Never Never Never Never Once = refl
table Never Never Never Never Once Never Never Never = refl
table Never Never Never Never Once Never Once Never = refl
table Never Never Never Never Once Never Never Once = refl
table Never Never Never Never Never Once Never Never = refl
table Never Never Never Never Never Once Once Never = refl
table Never Never Never Never Never Once Never Once = refl
table Never Never Never Never Never Twice Never Never = refl
table Never Never Never Never Never Twice Once Never = refl
table Never Never Never Never Never Twice Never Once = refl
table _ _ _ _ _ _ _ _ = refl

-- type words are a combination where their tally says so
pub combination : (texts : List (List ℕ)) → is_row_of combinations texts
    ≡ is_combination (base_at (at texts (codes "void")) (at texts (codes "char")) (at texts (codes "int"))
    (at texts (codes "_Bool"))) (size_at (at texts (codes "short")) (at texts (codes "long")))
    (sign_at (at texts (codes "signed")) (at texts (codes "unsigned")))
combination texts = some_row texts combinations refl ∙ table _ _ _ _ _ _ _ _
