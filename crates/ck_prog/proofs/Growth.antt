-- What is declared between a place and one that comes after it.
use Rattle.std.proofs.Common.{◌≡◌, ℕ, suc, ◌≤◌, List, [], ◌∷◌, ◌++◌, length, refl, ap, arith, subst, sym, ◌∙◌}
use Rattle.ck_prog.specs.Declarations.{Entry, Place, inside}
use Rattle.ck_prog.specs.Growing.{ComesAfter, AtOnce, AfterName, AfterScope, AreAtMost, IsOrderly}
use Rattle.ck_prog.specs.Growing.{AreFitting}
use Rattle.ck_prog.specs.Laws.{IsLonger}

-- each entry is in these scopes or inside of them
abbrev pub AreWithin : List ℕ → List Entry → Type 0
AreWithin scope [] = Unit {0}
AreWithin scope (e ∷ es) = ((inner : List ℕ) × (e.scope ≡ inner ++ scope)) × AreWithin scope es

pub record Added (p q : Place) : Type 0 where
  pub new : List Entry
  pub declared_is : q.declared ≡ new ++ p.declared
  pub scope_is : q.scope ≡ p.scope
  pub within : AreWithin p.scope new

assoc : (xs ys zs : List Entry) → xs ++ (ys ++ zs) ≡ (xs ++ ys) ++ zs
assoc [] ys zs = refl
assoc (x ∷ xs) ys zs = ap (λ r. x ∷ r) (assoc xs ys zs)

within_both : (scope : List ℕ) (xs ys : List Entry) → AreWithin scope xs → AreWithin scope ys
    → AreWithin scope (xs ++ ys)
within_both scope [] ys h k = k
within_both scope (x ∷ xs) ys h k = (h.0, within_both scope xs ys h.1 k)

append_assoc : (xs ys zs : List ℕ) → xs ++ (ys ++ zs) ≡ (xs ++ ys) ++ zs
append_assoc [] ys zs = refl
append_assoc (x ∷ xs) ys zs = ap (λ r. x ∷ r) (append_assoc xs ys zs)

within_outer : (n : ℕ) (scope : List ℕ) (es : List Entry) → AreWithin (n ∷ scope) es → AreWithin scope es
within_outer n scope [] h = h
within_outer n scope (e ∷ es) h =
    ((h.0.0 ++ n ∷ [], h.0.1 ∙ append_assoc h.0.0 (n ∷ []) scope), within_outer n scope es h.1)

same_file : (p q : Place) → ComesAfter p q → q.file ≡ p.file
same_file p q (AtOnce o) = refl
same_file p q (AfterName o r name at m c fit) = same_file p r c
same_file p q (AfterScope o r s c d) = same_file p r c

same_bytes : (p q : Place) → ComesAfter p q → q.bytes ≡ p.bytes
same_bytes p q (AtOnce o) = refl
same_bytes p q (AfterName o r name at m c fit) = same_bytes p r c
same_bytes p q (AfterScope o r s c d) = same_bytes p r c

pub added : (p q : Place) → ComesAfter p q → Added p q
added p q (AtOnce o) = record { new = []; declared_is = refl; scope_is = refl; within = tt }
added p q (AfterName o r name at m c fit) =
    let a = added p r c in
    let e : Entry = record { file = r.file; scope = r.scope; name = name; at = at; meaning = m } in
    record {
      new = e ∷ a.new;
      declared_is = ap (λ es. e ∷ es) a.declared_is;
      scope_is = a.scope_is;
      within = (([], a.scope_is), a.within);
    }
added p q (AfterScope o r s c d) =
    let a = added p r c in
    let b = added (inside r) s d in
    record {
      new = b.new ++ a.new;
      declared_is = b.declared_is ∙ ap (λ es. b.new ++ es) a.declared_is ∙ assoc b.new a.new p.declared;
      scope_is = a.scope_is;
      within = within_both p.scope b.new a.new
          (subst (λ scope. AreWithin scope b.new) a.scope_is (within_outer (length r.declared) r.scope b.new b.within))
          a.within;
    }

pub declarations_stay : (p q : Place) → ComesAfter p q → IsLonger p q
declarations_stay p q c =
    let a = added p q c in
    record {
      file_is = same_file p q c;
      bytes_are = same_bytes p q c;
      scope_is = a.scope_is;
      new = a.new;
      declared_is = a.declared_is;
    }

-- order ---------------------------------------------------------------------------------------------------------------

more_at_most : (n m : ℕ) (ks : List ℕ) → n ≤ m → AreAtMost n ks → AreAtMost m ks
more_at_most n m [] below h = tt
more_at_most n m (k ∷ ks) below h = (omega (arith, h.0, below), more_at_most n m ks below h.1)

longer : (xs ys : List Entry) → length ys ≤ length (xs ++ ys)
longer [] ys = omega arith
longer (x ∷ xs) ys = let h = longer xs ys in omega (arith, h)

pub stays_orderly : (p q : Place) → ComesAfter p q → IsOrderly p → IsOrderly q
stays_orderly p q (AtOnce o) h = h
stays_orderly p q (AfterName o r name at m c fit) h =
    let k = stays_orderly p r c h in
    ((k.1, k.0), more_at_most (length r.declared) (suc (length r.declared)) r.scope (omega arith) k.1)
stays_orderly p q (AfterScope o r s c d) h =
    let k = stays_orderly p r c h in
    let inner = stays_orderly (inside r) s d (k.0, (omega arith, k.1)) in
    let a = added (inside r) s d in
    let grown : length r.declared ≤ length s.declared =
    subst (λ es. length r.declared ≤ length es) (sym a.declared_is) (longer a.new r.declared) in
    (inner.0, more_at_most (length r.declared) (length s.declared) r.scope grown k.1)

-- values --------------------------------------------------------------------------------------------------------------

pub stays_fitting : (p q : Place) → ComesAfter p q → AreFitting p.declared → AreFitting q.declared
stays_fitting p q (AtOnce o) h = h
stays_fitting p q (AfterName o r name at m c fit) h = (fit, stays_fitting p r c h)
stays_fitting p q (AfterScope o r s c d) h = stays_fitting (inside r) s d (stays_fitting p r c h)
