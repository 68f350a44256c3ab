-- The finished segments, as they are found one after the other.
use Rattle.std.proofs.Common.{◌≡◌, ◌<◌, ◌+◌, ◌++◌, ℕ, List, [], ◌∷◌, Some, length, map, get_or, slice_get, take, sym}
use Rattle.std.proofs.Common.{ap, ◌∙◌, subst, inl, inr, arith}
use Rattle.std.proofs.lemmas.Bool.{cases_lt}
use Rattle.std.proofs.lemmas.List.{map-append}
use Rattle.std.proofs.lemmas.Option.{slice_get-get_or, slice_get_within, get_or_from_slice_get}
use Rattle.ck_graph.specs.Flow.{Flow}
use Rattle.ck_segments.specs.declared.segments.Segment.{Segment}
use Rattle.ck_segments.specs.Plain.{PlainSegment, segment_of}
use Rattle.ck_paths.specs.declared.found.Place.{Place}
use Rattle.ck_paths.specs.Citing.{AreAscending}
use Rattle.ck_paths.specs.Tracing.{IsSegmentTo}
use Rattle.ck_paths.proofs.Lists.{at-append, at-last, get-take}

pub ascending-take : (exits : List ℕ) (s : ℕ) → AreAscending exits → AreAscending (take s exits)
ascending-take exits s up i j less within =
    let part : List ℕ = take s exits in
    let at_j = get-take exits s j (get_or part j 0) (slice_get-get_or part j 0 within) in
    let at_i = get-take exits s i (get_or part i 0) (slice_get-get_or part i 0 (omega (arith, less, within))) in
    omega (
      arith,
      up i j less (slice_get_within exits j (get_or part j 0) at_j.1),
      get_or_from_slice_get exits i (get_or part i 0) 0 at_i.1,
      get_or_from_slice_get exits j (get_or part j 0) 0 at_j.1,
    )

-- the segment of this number leads to the exit of this number
abbrev pub IsThere : Flow → List Place → List ℕ → List PlainSegment → ℕ → ℕ → Type 0
IsThere flow places exits segments k x =
    (segment : PlainSegment) × (slice_get segments k ≡ Some segment) × (entry : ℕ) ×
    IsSegmentTo flow places (take k exits) entry x segment

module _ (flow : Flow) (places : List Place) (exits : List ℕ) where
  pub segments-each : (s : ℕ) (old : List PlainSegment) (segment : PlainSegment) (entry : ℕ) → s < length exits →
      IsSegmentTo flow places (take s exits) entry (get_or exits s 0) segment → length old ≡ s →
      ((k x : ℕ) → k < s → slice_get exits k ≡ Some x → IsThere flow places exits old k x) →
      (k x : ℕ) → k < s + 1 → slice_get exits k ≡ Some x → IsThere flow places exits (old ++ segment ∷ []) k x
  segments-each s old segment entry within leads same each k x below at = elim (cases_lt k s) [
    | inl earlier ↦
        let was = each k x earlier at in
        (was.0, at-append old (segment ∷ []) k was.0 was.1, was.2, was.3)
    | inr last ↦
        let number : s ≡ k = omega (arith, last, below) in
        let exit : get_or exits s 0 ≡ x =
        ap (λ (n : ℕ). get_or exits n 0) number ∙ get_or_from_slice_get exits k x 0 at in
        let there : slice_get (old ++ segment ∷ []) k ≡ Some segment =
        ap (slice_get (old ++ segment ∷ [])) (sym number ∙ sym same) ∙ at-last old segment in (
          segment,
          there,
          entry,
          subst (λ (n : ℕ). IsSegmentTo flow places (take n exits) entry x segment) number
              (subst (λ (y : ℕ). IsSegmentTo flow places (take s exits) entry y segment) exit leads),
        )
  ]

  pub segments-grow : (old new : List Segment) (segment : Segment) → new ≡ old ++ segment ∷ [] →
      map segment_of new ≡ map segment_of old ++ segment_of segment ∷ []
  segments-grow old new segment items =
      ap (λ (xs : List Segment). map segment_of xs) items ∙ map-append segment_of old (segment ∷ [])
