-- The work as it grows.
use Rattle.std.proofs.Common.{◌≡◌, ◌⊎◌, ℕ, ◌+◌, ◌<◌, ◌≤◌, List, Some, length, slice_get, refl, ◌∙◌, subst, inl, inr}
use Rattle.std.proofs.Common.{arith, sym, ap, get_or}
use Rattle.std.specs.List.{Contains}
use Rattle.std.proofs.lemmas.Bool.{cases_lt}
use Rattle.std.proofs.lemmas.Option.{slice_get_within, slice_get-get_or}
use Rattle.ck_rows.specs.declared.rows.Rows.{Rows}
use Rattle.ck_reaching.specs.declared.known.Known.{Known}
use Rattle.ck_reaching.specs.declared.work.Work.{Work}
use Rattle.ck_reaching.specs.Sets.{Has}
use Rattle.ck_reaching.specs.Reached.{Holds, set_at}
use Rattle.ck_reaching.specs.Indices.{numbers_at, AddsNumber}
use Rattle.ck_reaching.specs.Known.{Gains, IsGain}
use Rattle.ck_reaching.specs.Work.{IsShaped, Grows, HasEdge, AddsEdge, IsSpread}
use Rattle.ck_reaching.proofs.KnownLemmas.{Gains-none, Gains-then}

abbrev pub work : Known → List (List ℕ) → List Rows → Work
work known edges scratch = record { known = known; edges = edges; scratch = scratch }

-- the shape stays where the sizes do
pub IsShaped-after : (old new : Work) → IsShaped old → Gains old.known new.known → length new.edges ≡ length old.edges →
    length new.scratch ≡ length old.scratch →
    ((from to : ℕ) → HasEdge new.edges from to → to < length new.edges) → IsShaped new
IsShaped-after old new shaped gains edges scratch inside = record {
  count = gains.sizes.count ∙ (shaped.count ∙ sym edges);
  sets = λ c below. gains.sizes.sets c ∙ (shaped.sets c (omega (arith, below, edges)) ∙ sym scratch);
  listed = gains.size ∙ (shaped.listed ∙ sym edges);
  inside = inside;
}

pub Grows-none : (w : Work) → IsShaped w → Grows w w
Grows-none w shaped = record {
  shaped = shaped;
  cells = refl;
  width = refl;
  gains = Gains-none w.known;
  edges = λ from to e. e;
  passed = λ from to e. inl e;
}

pub Grows-then : (old mid new : Work) → Grows old mid → Grows mid new → Grows old new
Grows-then old mid new first then = record {
  shaped = then.shaped;
  cells = then.cells ∙ first.cells;
  width = then.width ∙ first.width;
  gains = Gains-then old.known mid.known new.known first.gains then.gains;
  edges = λ from to e. then.edges from to (first.edges from to e);
  passed = λ from to e. elim (then.passed from to e) [
    | inl m ↦ elim (first.passed from to m) [
      | inl o ↦ inl o
      | inr p ↦ inr (λ f h. then.gains.kept to f (p f h))
    ]
    | inr p ↦ inr (λ f h. p f (first.gains.kept from f h))
  ];
}

-- an edge is added, and what was known at its start is added at its end
pub AddsEdge-from : (from to : ℕ) (old : Work) (known : Known) (edges : List (List ℕ)) (scratch : List Rows) →
    IsShaped old → from < length old.edges → to < length old.edges → AddsNumber from to old.edges edges →
    scratch ≡ set_at old.known.reached from → IsGain to scratch old.known known →
    AddsEdge from to old (work known edges scratch)
AddsEdge-from from to old known edges scratch shaped from_below to_below adds copied gain =
    let wide : length scratch ≡ length old.scratch = ap length copied ∙ shaped.sets from from_below in
    let given = λ (f : ℕ) (h : Holds old.known.reached from f). subst (λ s. Has s f) (sym copied) h in
    let edge = λ (a b : ℕ) (e : HasEdge edges a b). (adds.exactly a b).0 e in
    record {
      grows = record {
        shaped = IsShaped-after old (work known edges scratch) shaped gain.gains adds.size wide
            (λ a b e. elim (edge a b e) [
              | inl o ↦ omega (arith, adds.size, shaped.inside a b o)
              | inr x ↦ omega (arith, adds.size, x.1, to_below)
            ]);
        cells = adds.size;
        width = wide;
        gains = gain.gains;
        edges = λ a b e. (adds.exactly a b).1 (inl e);
        passed = λ a b e. elim (edge a b e) [
          | inl o ↦ inl o
          | inr x ↦ inr (λ f h. subst (λ q. Holds known.reached q f) (sym x.1)
              (gain.added f (given f (subst (λ q. Holds old.known.reached q f) x.0 h))))
        ];
      };
      there = (adds.exactly from to).1 (inr (refl, refl));
      only_edges = edge;
      only = λ c f h. elim (gain.only c f h) [
        | inl o ↦ inl o
        | inr x ↦ inr (x.0, subst (λ s. Has s f) copied x.1)
      ];
    }

-- the first n edges of a cell were passed along
pub record IsSpreadBelow (tos : List ℕ) (n : ℕ) (given : List Rows) (old new : Known) : Type 0 where
  pub gains : Gains old new
  pub passed : (k to f : ℕ) → k < n → slice_get tos k ≡ Some to → Has given f → Holds new.reached to f
  pub only : (c f : ℕ) → Holds new.reached c f →
      Holds old.reached c f ⊎ ((k : ℕ) × (slice_get tos k ≡ Some c) × Has given f)

pub spread-none : (tos : List ℕ) (given : List Rows) (k : Known) → IsSpreadBelow tos 0 given k k
spread-none tos given k = record {
  gains = Gains-none k;
  passed = λ j to f below. absurd (omega arith);
  only = λ c f h. inl h;
}

pub spread-more : (tos : List ℕ) (n to : ℕ) (given : List Rows) (old mid new : Known) → slice_get tos n ≡ Some to →
    IsSpreadBelow tos n given old mid → IsGain to given mid new → IsSpreadBelow tos (n + 1) given old new
spread-more tos n to given old mid new at first gain = record {
  gains = Gains-then old mid new first.gains gain.gains;
  passed = λ k q f below is h. elim (cases_lt k n) [
    | inl before ↦ gain.gains.kept q f (first.passed k q f before is h)
    | inr past ↦
        let e : k ≡ n = omega (arith, past, below) in
        let read : Some q ≡ Some to = sym is ∙ (ap (slice_get tos) e ∙ at) in
        let same : q ≡ to = cc in
        subst (λ x. Holds new.reached x f) (sym same) (gain.added f h)
  ];
  only = λ c f h. elim (gain.only c f h) [
    | inl m ↦ first.only c f m
    | inr x ↦ inr (n, at ∙ ap Some (sym x.0), x.1)
  ];
}

-- what is at a place of a list is in the list
pub contains-at : {X : Type 0} (xs : List X) (k : ℕ) (x : X) → slice_get xs k ≡ Some x → Contains xs x
contains-at xs k x is =
    let within = slice_get_within xs k x is in
    let read : Some (get_or xs k x) ≡ Some x = sym (slice_get-get_or xs k x within) ∙ is in
    let same : get_or xs k x ≡ x = cc in
    (k, within, same)

-- all edges of the cell were passed along
pub IsSpread-from : (cell n : ℕ) (old : Work) (known : Known) (tos : List ℕ) (scratch : List Rows) → IsShaped old →
    cell < length old.edges → length tos ≤ n → tos ≡ numbers_at old.edges cell →
    scratch ≡ set_at old.known.reached cell → IsSpreadBelow tos n scratch old.known known →
    IsSpread cell old (work known old.edges scratch)
IsSpread-from cell n old known tos scratch shaped below all are copied is =
    let wide : length scratch ≡ length old.scratch = ap length copied ∙ shaped.sets cell below in
    record {
      grows = record {
        shaped = IsShaped-after old (work known old.edges scratch) shaped is.gains refl wide shaped.inside;
        cells = refl;
        width = wide;
        gains = is.gains;
        edges = λ a b e. e;
        passed = λ a b e. inl e;
      };
      same = refl;
      passed = λ to f e h.
          let there : Contains tos to = subst (λ xs. Contains xs to) (sym are) e in
          is.passed there.0 to f (omega (arith, all, there.1))
          (slice_get-get_or tos there.0 to there.1 ∙ ap Some there.2) (subst (λ s. Has s f) (sym copied) h);
      only = λ c f h. elim (is.only c f h) [
        | inl o ↦ inl o
        | inr x ↦ inr (
          subst (λ xs. Contains xs c) are (contains-at tos x.0 c x.1),
          subst (λ s. Has s f) copied x.2,
        )
      ];
    }
