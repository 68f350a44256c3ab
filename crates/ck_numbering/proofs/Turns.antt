-- A graph of the drafts that are numbered so far, and of all of them.
use Rattle.std.proofs.Common.{◌≡◌, refl, sym, ◌∙◌, ap, subst, arith}
use Rattle.std.specs.Prelude.{◌<◌, ◌≤◌, ◌+◌, ℕ, suc, zero, List, ◌∷◌, [], length, map, take}
use Rattle.std.specs.Prelude.{slice_get}
use Rattle.std.specs.Prelude.{Option, None, Some, Vec}
use Rattle.std.specs.Iterator.{Yields}
use Rattle.std.specs.List.{sum_by}
use Rattle.std.specs.List.Sorted.{IsPermutation}
use Rattle.std.proofs.lemmas.List.{length-map, take-map, map-id}
use Rattle.std.proofs.lemmas.Iterator.{YieldsList}
use Rattle.std.proofs.lemmas.Iterator.Consumers.{YieldsList-turn, YieldsList-so_far, YieldsList-end}
use Rattle.std.proofs.lemmas.List.Sorted.{length_permutation}
use Rattle.std.proofs.lemmas.List.Sums.{sum_by-cons}
use Rattle.std.specs.Option.{option_map}
use Rattle.std.proofs.lemmas.Option.{slice_get-map, slice_get_within, slice_get_read}
use Rattle.ck_drafts.specs.Drafts.{PlainDraft, AreDrafts, point_drafted, plain_draft}
use Rattle.ck_drafts.specs.declared.drafts.Draft.{Draft}
use Rattle.ck_graph.specs.Flow.{Flow, point_count, function_count}
use Rattle.ck_points.specs.Functions.{points}
use Rattle.ck_points.specs.Graphs.{Program, IsGraph, most_points}
use Rattle.ck_points.specs.Laws.{EdgesStay, PlacesDiffer}
use Rattle.ck_prog.specs.TypedBodies.{TypedFunction}
use Rattle.ck_numbering.specs.Closed.{AreClosed}
use Rattle.ck_numbering.specs.Numberable.{AreNumberable}
use Rattle.ck_numbering.specs.Numbered.{IsBuilt, plain_drafts}
use Rattle.ck_numbering.proofs.Closing.{closed}
use Rattle.ck_numbering.proofs.GraphsSoFar.{graph_so_far}
use Rattle.ck_numbering.proofs.ListLemmas.{slice_get-below, slice_get-from_map}
use Rattle.ck_numbering.proofs.Sums.{point_count-built, kept_sum, same_sums}

-- an iterator over a list that is moved: what came so far, and what comes now
pub turn : {S X : Type 0} {steps : S → Option X → S → Type 0} {s : S} {all : List X}
    → YieldsList steps (λ x. x) s all → (xs : List X) (t : S) → Yields steps s xs t
    → (r : Option X) (u : S) (x : X) → r ≡ Some x → steps t r u
    → (xs ≡ take (length xs) all) × (slice_get all (length xs) ≡ Some x)
turn {all = all} road xs t yielded r u x is step =
    let here = YieldsList-turn road xs t yielded r u x is step in (
      sym (map-id xs) ∙ YieldsList-so_far road xs t yielded,
      slice_get_read all (length all) (length xs) x refl here.0 here.1,
    )

-- and all, where nothing came
pub ended : {S X : Type 0} {steps : S → Option X → S → Type 0} {s : S} {all : List X}
    → YieldsList steps (λ x. x) s all → (xs : List X) (t : S) → Yields steps s xs t → (r : Option X) (u : S)
    → r ≡ None → steps t r u → xs ≡ all
ended road xs t yielded r u none step = sym (map-id xs) ∙ (YieldsList-end road xs t yielded r u none step).0

-- the sum of those before a place, and of what is there
sum_to : (all : List (List PlainDraft)) (k : ℕ) (ds : List PlainDraft) → slice_get all k ≡ Some ds
    → sum_by length (take k all) + length ds ≤ sum_by length all
sum_to [] k ds is = absurd (cc)
sum_to (es ∷ all) zero ds is =
    let same : es ≡ ds = cc in omega (arith, ap length same, sum_by-cons length es all)
sum_to (es ∷ all) (suc k) ds is =
    let rest = sum_to all k ds is in
    omega (arith, rest, sum_by-cons length es all, sum_by-cons length es (take k all))

module _ {A : Type 0} (all : List (Vec Draft A)) where
  drafted_at : (p : Program) → AreDrafts p all → (i : ℕ) (f : TypedFunction) (ds : List PlainDraft)
      → slice_get p.functions i ≡ Some f → slice_get (map plain_drafts all) i ≡ Some ds
      → IsPermutation (map (point_drafted p i f) (points f)) ds
  drafted_at p drafts i f ds is there =
      let (v, own, e) = slice_get-from_map plain_drafts all i ds there in
      subst (IsPermutation (map (point_drafted p i f) (points f))) e (drafts.each i f v is own)

  long : (p : Program) → AreDrafts p all → length (map plain_drafts all) ≡ length p.functions
  long p drafts = length-map all plain_drafts ∙ drafts.functions

  pub graph : (flow : Flow) → IsBuilt (map plain_drafts all) flow → (p : Program) → AreDrafts p all
      → IsGraph p flow
  graph flow built p drafts =
      let many = long p drafts in
      let so_far = graph_so_far p (map plain_drafts all) flow built
      (record { few = omega (arith, many); each = drafted_at p drafts }) in
      let g = so_far.1 in
      let low : (i : ℕ) → i < length p.functions → i < function_count flow =
      λ i less. omega (arith, less, so_far.0, many) in
      record {
        ordered = g.ordered;
        own = g.own;
        whole = λ i f is d listed. g.whole i f (low i (slice_get_within p.functions i f is)) is d listed;
        functions = so_far.0 ∙ many;
        ends = λ i less. g.ends i (low i less);
      }

  module _ (n : AreNumberable all) where
    pub sum_kept : sum_by length (map plain_drafts all) ≤ most_points
    sum_kept =
        let fs = n.program.functions in
        let same = same_sums fs (map plain_drafts all) (long n.program n.drafted)
        (λ i f ds is there.
        length_permutation _ ds (drafted_at n.program n.drafted i f ds is there)
        ∙ length-map (points f) (point_drafted n.program i f)) in
        let sum = kept_sum 0 fs (omega arith) n.kept in
        omega (arith, same, sum)

    -- what is next, after the first ones
    module _ (flow : Flow) (done : List (Vec Draft A)) (next : Vec Draft A) (first : done ≡ take (length done) all)
        (there : slice_get all (length done) ≡ Some next) (built : IsBuilt (map plain_drafts done) flow) where
      pub room : point_count flow + length next.items ≤ most_points
      room =
          let here : slice_get (map plain_drafts all) (length done) ≡ Some (plain_drafts next) =
          slice_get-map plain_drafts all (length done) ∙ ap (option_map plain_drafts) there in
          let sum = sum_to (map plain_drafts all) (length done) (plain_drafts next) here in
          let same : take (length done) (map plain_drafts all) ≡ map plain_drafts done =
          take-map plain_drafts (length done) all ∙ ap (map plain_drafts) (sym first) in
          let whole = sum_by length (map plain_drafts all) in
          let before : sum_by length (map plain_drafts done) + length (plain_drafts next) ≤ whole =
          subst (λ ds. sum_by length ds + length (plain_drafts next) ≤ whole) same sum in
          let count = (point_count-built (map plain_drafts done) flow built).0 in
          omega (arith, before, count, sum_kept, length-map next.items plain_draft)

      pub next_closed : EdgesStay → PlacesDiffer → AreClosed (plain_drafts next)
      next_closed stay differ =
          let p = n.program in
          let low = slice_get_within all (length done) next there in
          let many = n.drafted.functions in
          let (f, is) = slice_get-below p.functions (length done) (omega (arith, low, many)) in
          closed stay differ p (length done) f (plain_drafts next) (n.drafted.each (length done) f next is there)
