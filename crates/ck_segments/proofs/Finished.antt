-- What the finished segments expand to, and that they lead through their functions.
use Rattle.std.proofs.Common.{◌≡◌, ℕ, suc, cond, false, List, [], ◌∷◌, ◌++◌, Some, length, slice_get, take, refl, sym}
use Rattle.std.proofs.Common.{ap, ◌∙◌, subst, append_assoc, inl, inr, arith, length-append}
use Rattle.std.specs.Prelude.{slice_index_or}
use Rattle.std.specs.List.{All}
use Rattle.std.proofs.lemmas.List.Elements.{All-head, All-tail}
use Rattle.ck_graph.specs.Flow.{Flow}
use Rattle.ck_graph.specs.Faults.{IsSound}
use Rattle.ck_graph.specs.Walk.{Move}
use Rattle.ck_graph.specs.Steps.{first_of, exit_of}
use Rattle.ck_graph.specs.MatchedPath.{IsMatchedPath}
use Rattle.ck_segments.specs.declared.segments.Step.{Step}
use Rattle.ck_segments.specs.declared.segments.Step.TheVariants.{Edge, Call, Enter}
use Rattle.ck_segments.specs.Plain.{PlainSegment}
use Rattle.ck_segments.specs.Expansion.{steps_moves, goes_in, is_unfinished, expand_from}
use Rattle.ck_segments.specs.Form.{StaysWithin}
use Rattle.ck_segments.specs.Runs.{Through, RunsThrough}
use Rattle.ck_segments.proofs.Lists.{append-none, at-push, index-last}
use Rattle.ck_segments.proofs.Expanding.{AreReal, real-more, path-steps}

-- the moves of each segment, after those of lower numbers
abbrev pub lower_of : List (List Move) → List PlainSegment → List (List Move)
lower_of lower [] = lower
lower_of lower (segment ∷ rest) = lower_of (lower ++ steps_moves lower segment.steps ∷ []) rest

pub goes_in-stays : (any : List PlainSegment) (steps : List Step) → All (StaysWithin any) steps → goes_in steps ≡ false
goes_in-stays any [] stays = refl
goes_in-stays any (Enter target ∷ steps) stays =
    absurd (All-head (StaysWithin any) (Enter target) steps stays)
goes_in-stays any (Edge k ∷ steps) stays = goes_in-stays any steps (All-tail (StaysWithin any) (Edge k) steps stays)
goes_in-stays any (Call target segment ∷ steps) stays =
    goes_in-stays any steps (All-tail (StaysWithin any) (Call target segment) steps stays)

-- a list that isn't empty
abbrev pub IsSomething : List PlainSegment → Type 0
IsSomething [] = ⊥
IsSomething (segment ∷ rest) = Unit {0}

is_unfinished-before : (segment : PlainSegment) (rest unfinished : List PlainSegment) → IsSomething unfinished →
    is_unfinished segment (rest ++ unfinished) ≡ goes_in segment.steps
is_unfinished-before segment [] [] some = absurd some
is_unfinished-before segment [] (u ∷ us) some = refl
is_unfinished-before segment (next ∷ rest) us some = refl

-- finished segments expand to nothing, and are there for those after them
pub expand-finished : (lower : List (List Move)) (finished unfinished : List PlainSegment) → IsSomething unfinished →
    ((n : ℕ) (segment : PlainSegment) → slice_get finished n ≡ Some segment → goes_in segment.steps ≡ false) →
    expand_from lower (finished ++ unfinished) ≡ expand_from (lower_of lower finished) unfinished
expand-finished lower [] us some all = refl
expand-finished lower (segment ∷ rest) us some all =
    let moves : List Move = steps_moves lower segment.steps in
    ap (λ b. cond b moves [] ++ expand_from (lower ++ moves ∷ []) (rest ++ us))
    (is_unfinished-before segment rest us some ∙ all 0 segment refl) ∙
    expand-finished (lower ++ moves ∷ []) rest us some (λ n s is. all (suc n) s is)

module _ (flow : Flow) (sound : IsSound flow) where
  -- one more segment leads through its function
  real-push : (through : List Through) (lower : List (List Move)) (any : List PlainSegment) (segment : PlainSegment)
      (does : Through) → length through ≡ length lower → AreReal flow through lower →
      All (StaysWithin any) segment.steps → RunsThrough flow through segment does →
      AreReal flow (through ++ does ∷ []) (lower ++ steps_moves lower segment.steps ∷ [])
  real-push through lower any segment does same real stays runs =
      let moves : List Move = steps_moves lower segment.steps in
      let path : IsMatchedPath flow (first_of flow segment.function.0) does.entered moves
      (exit_of flow segment.function.0) does.left =
      path-steps flow sound through lower any segment.steps (first_of flow segment.function.0) does.entered
      (exit_of flow segment.function.0) does.left real stays runs.steps in
      let own : IsMatchedPath flow (first_of flow does.function.0) does.entered moves (exit_of flow does.function.0)
      does.left =
      subst (λ f. IsMatchedPath flow (first_of flow f.0) does.entered moves (exit_of flow f.0) does.left)
      runs.function path in
      record {
        few = omega (arith, same, length-append through (does ∷ []), length-append lower (moves ∷ []));
        paths = λ n d is. elim (at-push through does n d is) [
          | inl before ↦ (real-more flow through lower (moves ∷ []) real).paths n d before
          | inr last ↦
              subst (λ (e : Through). IsMatchedPath flow (first_of flow e.function.0) e.entered
              (slice_index_or (lower ++ moves ∷ []) n []) (exit_of flow e.function.0) e.left) last.1
              (subst (λ m. IsMatchedPath flow (first_of flow does.function.0) does.entered m
              (exit_of flow does.function.0) does.left)
              (sym (index-last lower moves []) ∙ ap (λ k. slice_index_or (lower ++ moves ∷ []) k [])
              (sym (last.0 ∙ same))) own)
        ];
      }

  -- all finished segments lead through their functions. `before` and `lower` are what those before them do
  pub real-finished : (before through : List Through) (lower : List (List Move)) (finished : List PlainSegment) →
      length before ≡ length lower → length through ≡ length finished → AreReal flow before lower →
      ((n : ℕ) (segment : PlainSegment) → slice_get finished n ≡ Some segment →
      (any : List PlainSegment) × All (StaysWithin any) segment.steps) →
      ((n : ℕ) (segment : PlainSegment) (does : Through) → slice_get finished n ≡ Some segment →
      slice_get through n ≡ Some does → RunsThrough flow (before ++ take n through) segment does) →
      AreReal flow (before ++ through) (lower_of lower finished)
  real-finished before [] lower [] same long real stays runs =
      subst (λ ts. AreReal flow ts lower) (sym (append-none before)) real
  real-finished before [] lower (s ∷ rest) same long real stays runs = absurd (omega (arith, long))
  real-finished before (t ∷ more) lower [] same long real stays runs = absurd (omega (arith, long))
  real-finished before (t ∷ more) lower (s ∷ rest) same long real stays runs =
      let moves : List Move = steps_moves lower s.steps in
      let first : RunsThrough flow before s t = subst (λ ts. RunsThrough flow ts s t) (append-none before)
      (runs 0 s t refl refl) in
      let here : AreReal flow (before ++ t ∷ []) (lower ++ moves ∷ []) =
      real-push before lower (stays 0 s refl).0 s t same real (stays 0 s refl).1 first in
      subst (λ ts. AreReal flow ts (lower_of (lower ++ moves ∷ []) rest)) (append_assoc before (t ∷ []) more)
      (real-finished (before ++ t ∷ []) more (lower ++ moves ∷ []) rest
      (omega (arith, same, length-append before (t ∷ []), length-append lower (moves ∷ []))) (omega (arith, long)) here
      (λ n segment is. stays (suc n) segment is)
      (λ n segment does is at. subst (λ ts. RunsThrough flow ts segment does)
      (sym (append_assoc before (t ∷ []) (take n more))) (runs (suc n) segment does is at)))
