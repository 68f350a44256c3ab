-- One step towards a literal's closing quote.
use Rattle.std.proofs.Common.{◌≡◌, ℕ, ◌+◌, ◌<◌, ◌≤◌, Bool, true, false, List, [], ◌∷◌, length, drop, Option, Some, None}
use Rattle.std.proofs.Common.{◌⊎◌, inl, inr, ap, sym, ◌∙◌, refl, arith, ⊎_elim}
use Rattle.std.specs.Prelude.{if◌then◌else◌, ◌==◌}
use Rattle.std.proofs.lemmas.List.{drop-drop}
use Rattle.ck_base.specs.Characters.{backslash}
use Rattle.ck_lexer.specs.Bytes.{is_line_feed}
use Rattle.ck_lexer.specs.Scanning.{closing, literal_step, moved_by}
use Rattle.ck_lexer.specs.declared.literals.Step.{Step}
use Rattle.ck_lexer.specs.declared.literals.Step.TheVariants.{On, Closed, Broken}

abbrev stepping : Bool → Bool → Bool → Bool → Step
stepping escape feed quote end = if escape then (if feed then Broken else On 2) else
    (if quote then Closed else (if end then Broken else On 1))

abbrev closes : Bool → Bool → Bool → Bool → Option ℕ → Option ℕ → Option ℕ
closes escape feed quote end two one = if escape then (if feed then None else two) else
    (if quote then Some 1 else (if end then None else one))

-- what each step means, whatever the tests are
on_one : (escape feed quote end : Bool) (k : ℕ) (two one : Option ℕ) → stepping escape feed quote end ≡ On k
    → ((k ≡ 2) × (closes escape feed quote end two one ≡ two)) ⊎
    ((k ≡ 1) × (closes escape feed quote end two one ≡ one))
on_one true true quote end k two one h = absurd (cc)
on_one true false quote end k two one h = inl (cc, refl)
on_one false feed true end k two one h = absurd (cc)
on_one false feed false true k two one h = absurd (cc)
on_one false feed false false k two one h = inr (cc, refl)

closed_one : (escape feed quote end : Bool) (two one : Option ℕ) → stepping escape feed quote end ≡ Closed
    → closes escape feed quote end two one ≡ Some 1
closed_one true true quote end two one h = absurd (cc)
closed_one true false quote end two one h = absurd (cc)
closed_one false feed true end two one h = refl
closed_one false feed false true two one h = absurd (cc)
closed_one false feed false false two one h = absurd (cc)

broken_one : (escape feed quote end : Bool) (two one : Option ℕ) → stepping escape feed quote end ≡ Broken
    → closes escape feed quote end two one ≡ None
broken_one true true quote end two one h = refl
broken_one true false quote end two one h = absurd (cc)
broken_one false feed true end two one h = absurd (cc)
broken_one false feed false true two one h = refl
broken_one false feed false false two one h = absurd (cc)

last_on : (quote : Bool) (k : ℕ) → (if quote then Closed else Broken) ≡ On k → ⊥
last_on true k h = cc
last_on false k h = cc

abbrev last_closing : Bool → Option ℕ
last_closing quote = if quote then Some 1 else None

last_closed : (quote : Bool) → (if quote then Closed else Broken) ≡ Closed → last_closing quote ≡ Some 1
last_closed true h = refl
last_closed false h = absurd (cc)

last_broken : (quote : Bool) → (if quote then Closed else Broken) ≡ Broken → last_closing quote ≡ None
last_broken true h = absurd (cc)
last_broken false h = refl

pub record GoesOn (mark : ℕ) (rest : List ℕ) (k : ℕ) : Type 0 where
  pub some : 0 < k
  pub fits : k ≤ length rest
  pub onward : closing mark rest ≡ moved_by k (closing mark (drop k rest))

pub closing-on : (mark : ℕ) (rest : List ℕ) (k : ℕ) → literal_step mark rest ≡ On k → GoesOn mark rest k
closing-on mark [] k h = absurd (cc)
closing-on mark (b ∷ []) k h = absurd (last_on (b == mark) k h)
closing-on mark (b ∷ c ∷ text) k h =
    let two = moved_by 2 (closing mark text) in
    let one = moved_by 1 (closing mark (c ∷ text)) in
    ⊎_elim
    (λ (w : (k ≡ 2) × (closing mark (b ∷ c ∷ text) ≡ two)). record
    { some = omega arith; fits = omega arith; onward = rw w.0 w.1 })
    (λ (w : (k ≡ 1) × (closing mark (b ∷ c ∷ text) ≡ one)). record
    { some = omega arith; fits = omega arith; onward = rw w.0 w.1 })
    (on_one (b == backslash) (is_line_feed c) (b == mark) (is_line_feed b) k two one h)

pub closing-closed : (mark : ℕ) (rest : List ℕ) → literal_step mark rest ≡ Closed → closing mark rest ≡ Some 1
closing-closed mark [] h = absurd (cc)
closing-closed mark (b ∷ []) h = last_closed (b == mark) h
closing-closed mark (b ∷ c ∷ text) h = closed_one (b == backslash) (is_line_feed c) (b == mark) (is_line_feed b) _ _ h

pub closing-broken : (mark : ℕ) (rest : List ℕ) → literal_step mark rest ≡ Broken → closing mark rest ≡ None
closing-broken mark [] h = refl
closing-broken mark (b ∷ []) h = last_broken (b == mark) h
closing-broken mark (b ∷ c ∷ text) h = broken_one (b == backslash) (is_line_feed c) (b == mark) (is_line_feed b) _ _ h

moved-twice : (o : Option ℕ) (a b : ℕ) → moved_by b (moved_by a o) ≡ moved_by (b + a) o
moved-twice None a b = refl
moved-twice (Some n) a b = ap Some (omega arith)

-- in the midst of a literal
pub closing-more : (mark : ℕ) (text rest : List ℕ) (at k : ℕ) → rest ≡ drop at text → literal_step mark rest ≡ On k
    → moved_by (at + k) (closing mark (drop (at + k) text)) ≡ moved_by at (closing mark (drop at text))
closing-more mark text rest at k same h =
    let on = closing-on mark rest k h in
    sym (ap (λ r. moved_by at (closing mark r)) (sym same) ∙ ap (moved_by at) on.onward
    ∙ moved-twice (closing mark (drop k rest)) k at ∙ ap (λ r. moved_by (at + k) (closing mark r))
    (ap (drop k) same ∙ drop-drop k at text))

pub closing-end : (mark : ℕ) (text rest : List ℕ) (at : ℕ) → rest ≡ drop at text → literal_step mark rest ≡ Closed
    → moved_by at (closing mark (drop at text)) ≡ Some (at + 1)
closing-end mark text rest at same h = ap (λ r. moved_by at (closing mark r)) (sym same)
    ∙ ap (moved_by at) (closing-closed mark rest h) ∙ ap Some (omega arith)

pub closing-none : (mark : ℕ) (text rest : List ℕ) (at : ℕ) → rest ≡ drop at text → literal_step mark rest ≡ Broken
    → moved_by at (closing mark (drop at text)) ≡ None
closing-none mark text rest at same h = ap (λ r. moved_by at (closing mark r)) (sym same)
    ∙ ap (moved_by at) (closing-broken mark rest h)

pub closing-start : (mark : ℕ) (text : List ℕ) → moved_by 0 (closing mark text) ≡ closing mark text
closing-start mark text = none_moved (closing mark text) where
  none_moved : (o : Option ℕ) → moved_by 0 o ≡ o
  none_moved None = refl
  none_moved (Some n) = ap Some (omega arith)
