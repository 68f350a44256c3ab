-- The exits of a path are found from the greatest on.
use Rattle.std.proofs.Common.{◌≡◌, ℕ, zero, suc, ◌<◌, ◌⊎◌, Bool, true, false, List, [], ◌∷◌, Some, length, slice_get}
use Rattle.std.proofs.Common.{take, get_or, refl, sym, ap, ◌∙◌, subst, inl, inr, arith}
use Rattle.std.specs.Prelude.{Option}
use Rattle.std.specs.BTreeSet.{BTreeSet}
use Rattle.std.proofs.lemmas.Bool.{cases_lt}
use Rattle.std.proofs.lemmas.Option.{same_Some, slice_get_within, slice_get-get_or, get_or_from_slice_get}
use Rattle.ck_graph.specs.declared.entries.Root.{Root}
use Rattle.ck_graph.specs.Flow.{Flow}
use Rattle.ck_paths.specs.declared.found.Place.{Place}
use Rattle.ck_paths.specs.Justified.{AreJustified}
use Rattle.ck_paths.specs.Citing.{Cites, IsListed, AreAscending, IsAtExit, AreExitsFor, IsIn, AddsExit, AddsCited}
use Rattle.ck_paths.specs.Citing.{TakesGreatest, GoesBack, WalkedBack, ArePending}
use Rattle.ck_paths.proofs.Lists.{take-get}
use Rattle.ck_paths.proofs.Citations.{cited-exit, cited-below}

-- one step back
pub walked-more : (places : List Place) (on : Bool) (n at b : ℕ) (exit : Option ℕ) (old mid new : BTreeSet ℕ) →
    WalkedBack places on n at old mid → GoesBack places on at b exit → AddsExit exit mid new →
    WalkedBack places on n b old new
walked-more places on n at b exit old mid new walked back adds = record {
  kept = λ x h. adds.kept x (walked.kept x h);
  up = λ x h. walked.up x (back.up x h);
  down = λ x h. elim (walked.down x h) [
    | inl there ↦ inl (adds.kept x there)
    | inr on_way ↦ elim (back.down x on_way) [
      | inl here ↦ inl (adds.added x here)
      | inr further ↦ inr further
    ]
  ];
  only = λ x h. elim (adds.only x h) [
    | inl before ↦ walked.only x before
    | inr here ↦ inr (walked.up x (back.here x here))
  ];
}

pub cited-all : (places : List Place) (on : Bool) (n at : ℕ) (old new : BTreeSet ℕ) →
    WalkedBack places on n at old new → ((x : ℕ) → Cites places on at x → ⊥) → AddsCited places on n old new
cited-all places on n at old new walked none = record {
  kept = walked.kept;
  added = λ x h. elim (walked.down x h) as (λ _. IsIn new x) [
    | inl there ↦ there
    | inr further ↦
        absurd (none x further)
  ];
  only = walked.only;
}

listed-cons : (y : ℕ) (xs : List ℕ) (x : ℕ) → IsListed xs x → IsListed (y ∷ xs) x
listed-cons y xs x h = (suc h.0, h.1)

listed-cases : (y : ℕ) (xs : List ℕ) (x : ℕ) → IsListed (y ∷ xs) x → (y ≡ x) ⊎ IsListed xs x
listed-cases y xs x (zero, is) = let same : y ≡ x = cc in inl same
listed-cases y xs x (suc s, is) = inr (s, is)

ascending-cons : (y : ℕ) (xs : List ℕ) → ((e : ℕ) → IsListed xs e → y < e) → AreAscending xs → AreAscending (y ∷ xs)
ascending-cons y xs below up zero zero less within = absurd (omega (arith, less))
ascending-cons y xs below up zero (suc j) less within = below (get_or xs j 0)
    (j, slice_get-get_or xs j 0 (omega (arith, within)))
ascending-cons y xs below up (suc i) zero less within = absurd (omega (arith, less))
ascending-cons y xs below up (suc i) (suc j) less within = up i j (omega (arith, less)) (omega (arith, within))

-- the way back from a place cites the exit, or one of these exits does
abbrev IsCitedBy : List Place → ℕ → List ℕ → ℕ → Type 0
IsCitedBy places n taken x =
    Cites places true n x ⊎ ((e : ℕ) × IsListed taken e × Cites places false e x)

-- the greatest of the set is taken out, and what it cites comes in
pub pending-more : (flow : Flow) (roots : List Root) (places : List Place) (n exit : ℕ) (taken : List ℕ)
    (old mid new : BTreeSet ℕ) → AreJustified flow roots places → ArePending flow places n taken old →
    TakesGreatest exit old mid → AddsCited places false exit mid new → ArePending flow places n (exit ∷ taken) new
pending-more flow roots places n exit taken old mid new all p takes adds = record {
  ascending = ascending-cons exit taken (λ e h. p.below exit e takes.was h) p.ascending;
  below = λ x e h there. elim (listed-cases exit taken e there) [
    | inl same ↦ subst (λ (q : ℕ). x < q) same (lower x h)
    | inr later ↦ omega (arith, lower x h, p.below exit e takes.was later)
  ];
  cites = λ x h. elim (p.cites x h) [
    | inl there ↦ inl (listed-cons exit taken x there)
    | inr waits ↦ on x waits
  ];
  closed = λ e x there h. elim (listed-cases exit taken e there) [
    | inl same ↦ inr (adds.added x (subst (λ (q : ℕ). Cites places false q x) (sym same) h))
    | inr later ↦ elim (p.closed e x later h) [
      | inl done ↦ inl (listed-cons exit taken x done)
      | inr waits ↦ on x waits
    ]
  ];
  cited = λ x h. elim h [
    | inl there ↦ elim (listed-cases exit taken x there) [
      | inl same ↦ subst (IsCitedBy places n (exit ∷ taken)) same (again exit (p.cited exit (inr takes.was)))
      | inr later ↦ again x (p.cited x (inl later))
    ]
    | inr waits ↦ elim (adds.only x waits) [
      | inl before ↦ again x (p.cited x (inr (takes.only x before)))
      | inr here ↦ inr (exit, (0, refl), here)
    ]
  ];
} where
  lower : (x : ℕ) → IsIn new x → x < exit
  lower x h = elim (adds.only x h) [
    | inl before ↦ takes.below x before
    | inr here ↦ cited-below flow roots places all false exit x here
  ]

  on : (x : ℕ) → IsIn old x → IsListed (exit ∷ taken) x ⊎ IsIn new x
  on x h = elim (takes.kept x h) [
    | inl same ↦ inl (0, ap Some (sym same))
    | inr still ↦ inr (adds.kept x still)
  ]

  again : (x : ℕ) → IsCitedBy places n taken x → IsCitedBy places n (exit ∷ taken) x
  again x (inl direct) = inl direct
  again x (inr through) = inr (through.0, listed-cons exit taken through.0 through.1, through.2)

-- a lower number is at a lower place
listed-before : (xs : List ℕ) (s e x : ℕ) → AreAscending xs → slice_get xs s ≡ Some e → IsListed xs x → x < e →
    IsListed (take s xs) x
listed-before xs s e x up at there less =
    let d : ℕ = 0 in
    let e_is : get_or xs s 0 ≡ e = get_or_from_slice_get xs s e 0 at in
    let x_is : get_or xs there.0 0 ≡ x = get_or_from_slice_get xs there.0 x 0 there.1 in
    elim (cases_lt there.0 s) [
      | inl before ↦ (there.0, take-get xs s there.0 x before there.1)
      | inr after ↦ elim (cases_lt s there.0) [
        | inl later ↦ absurd (omega (
          arith,
          less,
          e_is,
          x_is,
          up s there.0 later
              (slice_get_within xs there.0 x there.1),
        ))
        | inr same ↦
            let number : there.0 ≡ s = omega (arith, after, same) in
            let one : x ≡ e = same_Some x e (sym there.1 ∙ (ap (slice_get xs) number ∙ at)) in
            absurd (omega (arith, less, one))
      ]
    ]

pub exits-whole : (flow : Flow) (roots : List Root) (places : List Place) (n : ℕ) (taken : List ℕ)
    (pending : BTreeSet ℕ) → AreJustified flow roots places → ArePending flow places n taken pending →
    ((x : ℕ) → IsIn pending x → ⊥) → length taken < 4294967296 → AreExitsFor flow places n taken
exits-whole flow roots places n taken pending all p none few = record {
  few = few;
  ascending = p.ascending;
  there = λ x h. elim (p.cited x (inl h)) [
    | inl direct ↦ cited-exit flow roots places all true n x direct
    | inr through ↦ cited-exit flow roots places all false through.0 x through.2
  ];
  closed = λ s e x at h.
      listed-before taken s e x p.ascending at (done x (p.closed e x (s, at) h))
      (cited-below flow roots places all false e x h);
  cites = λ x h. done x (p.cites x h);
  cited = λ x h. p.cited x (inl h);
} where
  done : (x : ℕ) → IsListed taken x ⊎ IsIn pending x → IsListed taken x
  done x (inl there) = there
  done x (inr waits) = absurd (none x waits)

-- what waits is the number of a place
pub pending-there : (flow : Flow) (roots : List Root) (places : List Place) (n x : ℕ) (taken : List ℕ)
    (pending : BTreeSet ℕ) → AreJustified flow roots places → ArePending flow places n taken pending → IsIn pending x →
    x < length places
pending-there flow roots places n x taken pending all p waits =
    let within = λ (e : IsAtExit flow places x). slice_get_within places x e.place e.at in
    elim (p.cited x (inr waits)) [
      | inl direct ↦ within (cited-exit flow roots places all true n x direct)
      | inr through ↦ within (cited-exit flow roots places all false through.0 x through.2)
    ]

-- at first what the way back from the place cites waits
pub pending-first : (flow : Flow) (places : List Place) (n : ℕ) (old new : BTreeSet ℕ) →
    ((x : ℕ) → IsIn old x → ⊥) → AddsCited places true n old new → ArePending flow places n [] new
pending-first flow places n old new none adds = record {
  ascending = λ i j less within. absurd (omega (arith, within));
  below = λ x e waits listed. absurd (cc);
  cites = λ x h. inr (adds.added x h);
  closed = λ e x listed. absurd (cc);
  cited = λ x h. elim h [
    | inl listed ↦ absurd (cc)
    | inr waits ↦ elim (adds.only x waits) [ inl before ↦ absurd (none x before) | inr cites ↦ inl cites ]
  ];
}
