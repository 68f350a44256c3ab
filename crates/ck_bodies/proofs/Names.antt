-- Labels that are found by the numbers of their names.
use Rattle.std.proofs.Common.{◌≡◌, ◌<◌, ◌+◌, ℕ, zero, suc, Bool, true, false, List, [], ◌∷◌, length, map, drop}
use Rattle.std.proofs.Common.{refl, sym, ap, subst, ◌∙◌, arith}
use Rattle.std.specs.Prelude.{Option, Some, None, cond, slice_get, nat_eq, if◌then◌else◌}
use Rattle.std.specs.Cmp.Lexicographic.{bytes_decides}
use Rattle.std.specs.Str.{bytes_eq}
use Rattle.ck_points.specs.Labels.{Labelled, labelled}
use Rattle.ck_points.specs.Places.{Place, before}
use Rattle.ck_tables.specs.NameList.{AreDistinct}
use Rattle.ck_tables.specs.Program.{read, name_of, readings}
use Rattle.ck_tables.specs.declared.facts.NameId.{NameId}
use Rattle.ck_tables.specs.declared.program.Linked.{Linked}
use Rattle.ck_bodies.specs.Noting.{plain_noted, plain_notes, named_before, named, place_of, place_in, Finds}
use Rattle.ck_bodies.specs.declared.notes.Note.{Note}
use Rattle.ck_bodies.specs.declared.notes.Noted.{Noted}
use Rattle.ck_bodies.specs.declared.notes.Noted.TheVariants as made

get-read : (names : List (List ℕ)) (i : ℕ) → i < length names →
    slice_get names i ≡ Some (read [] (λ n. n) names i)
get-read [] i h = absurd (omega arith)
get-read (x ∷ names) zero h = refl
get-read (x ∷ names) (suc i) h = get-read names i (omega arith)

agree : (b c : Bool) → (b ≡ true → c ≡ true) → (c ≡ true → b ≡ true) → b ≡ c
agree true c f g = sym (f refl)
agree false true f g = g refl
agree false false f g = refl

-- names are equal where their numbers are
same_names : (names : List (List ℕ)) (i j : ℕ) → AreDistinct names → i < length names → j < length names →
    nat_eq i j ≡ bytes_eq (read [] (λ n. n) names i) (read [] (λ n. n) names j)
same_names names i j distinct hi hj =
    let a = read [] (λ n. n) names i in
    let b = read [] (λ n. n) names j in
    agree (nat_eq i j) (bytes_eq a b)
    (λ h. let same : i ≡ j = grind (arith, h) in (bytes_decides a b).1 (ap (read [] (λ n. n) names) same))
    (λ h.
    let equal : a ≡ b = (bytes_decides a b).0 h in
    let same : i ≡ j =
    distinct i j a (get-read names i hi) (get-read names j hj ∙ ap (λ n. Some n) (sym equal)) in
    grind (arith, same))

module _ (l : Linked) (all : List Note) where
  pub finds-none : (found : ℕ → Option ℕ) → ((q : ℕ) → found q ≡ None) → Finds l all [] found
  finds-none found none = record { place = λ q h elsewhere. ap (λ x. place_in all x elsewhere) (none q) }

  -- a note of something else finds nothing
  pub finds-other : (n : Note) (later : List Note) (found : ℕ → Option ℕ) →
      ((p : Place) (ls : List Labelled) → named_before (plain_noted (readings l) n.noted) p ls ≡ ls) →
      Finds l all later found → Finds l all (n ∷ later) found
  finds-other n later found other finds =
      record {
        place = λ q h elsewhere.
            finds.place q h elsewhere
            ∙ ap (λ ls. labelled (name_of l q) ls elsewhere)
            (sym (other (before n.path.items) (named (plain_notes l later))));
      }

  either : (b c : Bool) (at : ℕ) (rest : Option ℕ) (elsewhere p z : Place) → b ≡ c →
      place_of (slice_get all at) elsewhere ≡ p → place_in all rest elsewhere ≡ z →
      place_in all (cond b (Some at) rest) elsewhere ≡ (if c then p else z)
  either true true at rest elsewhere p z same first second = first
  either false false at rest elsewhere p z same first second = second
  either true false at rest elsewhere p z same first second = absurd (cc)
  either false true at rest elsewhere p z same first second = absurd (cc)

  -- a label is the first of its name
  pub finds-label : (at : ℕ) (n : Note) (name : NameId) (later : List Note) (found new : ℕ → Option ℕ) →
      slice_get all at ≡ Some n → n.noted ≡ made.Label name → name.0 < length l.names → AreDistinct l.names →
      ((q : ℕ) → new q ≡ cond (nat_eq name.0 q) (Some at) (found q)) → Finds l all later found →
      Finds l all (n ∷ later) new
  finds-label at n name later found new there label known distinct is finds =
      record {
        place = λ q h elsewhere.
            let own = before n.path.items in
            let rest = named (plain_notes l later) in
            ap (λ x. place_in all x elsewhere) (is q)
            ∙ either (nat_eq name.0 q) (bytes_eq (name_of l name.0) (name_of l q)) at (found q) elsewhere own
            (labelled (name_of l q) rest elsewhere) (same_names l.names name.0 q distinct known h)
            (ap (λ x. place_of x elsewhere) there) (finds.place q h elsewhere)
            ∙ ap (λ x. labelled (name_of l q) (named_before (plain_noted (readings l) x) own rest) elsewhere)
            (sym label);
      }
