-- Calls and slots name lists, also when one more comes.
use Rattle.std.proofs.Common.{◌≡◌, ℕ, zero, suc, ◌<◌, ◌≤◌, List, [], ◌∷◌, ◌++◌, length, map, get_or, refl, ap, subst}
use Rattle.std.proofs.Common.{arith, sym, ◌∙◌}
use Rattle.std.specs.Prelude.{true, Vec, vec_items}
use Rattle.ck_base.specs.declared.spans.FnId.{FnId}
use Rattle.ck_tables.proofs.TableLemmas.{length-more}
use Rattle.ck_tables.specs.Tables.{nth}
use Rattle.ck_tables.specs.Targets.{table, number_at, all_within, AreWithin}
use Rattle.ck_tables.specs.declared.targets.ListId.{ListId}

pub within-last : (limit : ℕ) (ls : List ListId) (l : ListId) → all_within limit ls ≡ true → l.0 < limit
    → all_within limit (ls ++ (l ∷ [])) ≡ true
within-last limit [] l h less = grind (arith, less)
within-last limit (m ∷ ls) l h less = let rest = within-last limit ls l (grind arith) less in grind (arith, rest)

pub within-more : (k l : ℕ) (ls : List ListId) → k ≤ l → all_within k ls ≡ true → all_within l ls ≡ true
within-more k l [] most h = refl
within-more k l (m ∷ ls) most h = let rest = within-more k l ls most (grind arith) in grind (arith, rest)

pub within-at : (limit : ℕ) (ls : List ListId) (i : ℕ) (d : ListId) → i < length ls → all_within limit ls ≡ true
    → (get_or ls i d).0 < limit
within-at limit [] i d h all = grind arith
within-at limit (l ∷ ls) zero d h all = grind arith
within-at limit (l ∷ ls) (suc i) d h all = within-at limit ls i d (omega arith) (grind arith)

pub number-at : (ls : List ListId) (i : ℕ) (d : ListId) → i < length ls → number_at ls i ≡ (get_or ls i d).0
number-at [] i d h = grind arith
number-at (l ∷ ls) zero d h = refl
number-at (l ∷ ls) (suc i) d h = number-at ls i d (omega arith)

module _ {A : Type 0} where
  pub length-lists : (vs : List (Vec FnId A)) → length (map vec_items vs) ≡ length vs
  length-lists [] = refl
  length-lists (v ∷ vs) = ap suc (length-lists vs)

  pub lists-last : (vs : List (Vec FnId A)) (v : Vec FnId A)
      → map vec_items (vs ++ (v ∷ [])) ≡ map vec_items vs ++ (v.items ∷ [])
  lists-last [] v = refl
  lists-last (x ∷ vs) v = ap (λ ns. x.items ∷ ns) (lists-last vs v)

  pub list_at : (vs : List (Vec FnId A)) (i : ℕ) (d : Vec FnId A) → i < length vs
      → nth [] (map vec_items vs) i ≡ (get_or vs i d).items
  list_at [] i d h = grind arith
  list_at (v ∷ vs) zero d h = refl
  list_at (v ∷ vs) (suc i) d h = list_at vs i d (omega arith)

  -- one more list
  pub within_list : (vs ws : List (Vec FnId A)) (v : Vec FnId A) (calls slots : List ListId) → ws ≡ vs ++ (v ∷ [])
      → AreWithin (table vs calls slots) → AreWithin (table ws calls slots)
  within_list vs ws v calls slots is h =
      let a = length-lists vs in
      let b = length-lists (vs ++ (v ∷ [])) in
      let m = length-more vs (v ∷ []) in
      let k = length (map vec_items vs) in
      let l = length (map vec_items (vs ++ (v ∷ []))) in
      let most : k ≤ l = omega arith in
      subst (λ us. AreWithin (table us calls slots)) (sym is)
      (record { calls = within-more k l calls most h.calls; slots = within-more k l slots most h.slots })

  -- what is named is a list
  pub names_list : (vs : List (Vec FnId A)) (ls : List ListId) (i : ℕ) (l : ListId) → l ≡ get_or ls i l
      → i < length ls → all_within (length (map vec_items vs)) ls ≡ true → l.0 < length vs
  names_list vs ls i l is h all =
      let less = subst (λ m. m.0 < length (map vec_items vs)) (sym is)
      (within-at (length (map vec_items vs)) ls i l h all) in
      subst (λ k. l.0 < k) (length-lists vs) less

  pub reads_list : (vs : List (Vec FnId A)) (ls : List ListId) (i : ℕ) (l : ListId) (v : Vec FnId A) (xs : List FnId)
      → l ≡ get_or ls i l → i < length ls → l.0 < length vs → v ≡ get_or vs l.0 v → xs ≡ v.items
      → xs ≡ nth [] (map vec_items vs) (number_at ls i)
  reads_list vs ls i l v xs is h less at all =
      let e : number_at ls i ≡ l.0 = number-at ls i l h ∙ ap (λ m. m.0) (sym is) in
      all
      ∙ ap (λ u. u.items) at
      ∙ sym (list_at vs l.0 v less)
      ∙ ap (nth [] (map vec_items vs)) (sym e)

pub ruleset within = (within-last, length-lists, lists-last)
