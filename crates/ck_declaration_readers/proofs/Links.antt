-- A loop that pushes elements on a row that has to end somewhere, against a reader that goes by how many tokens are
-- left.
use Rattle.std.proofs.Common.{◌≡◌, ℕ, zero, suc, ◌+◌, ◌-◌, ◌<◌, ◌≤◌, List, length, drop, refl, ap, subst, sym, ◌∙◌}
use Rattle.std.proofs.Common.{length-drop}
use Rattle.std.specs.Prelude.{Option, Some, None, Result, Ok, Err}
use Rattle.ck_base.specs.declared.refusals.OutOfMemory.{OutOfMemory}
use Rattle.ck_base.specs.declared.tokens.Token.{Token}
use Rattle.ck_grammar.specs.Readers.{Read, Reader}
use Rattle.ck_readers.proofs.Loops.{fuel_step, fuel_end}
use Rattle.ck_declaration_readers.specs.Rows.{IsLink, LinkAt, LinkBy}
use Rattle.ck_readers.specs.Places.{after}

as_it_is : {B : Type 0} (row : B → B) → ((rest : B) → row rest ≡ rest) → (answer : Read B) → answer ≡ after row answer
as_it_is row empty None = refl
as_it_is row empty (Some x) = ap (λ t. Some (t, x.1)) (sym (empty x.0))

-- an element that is pushed
pub after_push : {B : Type 0} (old new one : B → B) → ((rest : B) → new rest ≡ old (one rest)) → (answer : Read B)
    → after old (after one answer) ≡ after new answer
after_push old new one h None = refl
after_push old new one h (Some x) = ap (λ t. Some (t, x.1)) (sym (h x.0))

module _ {B : Type 0} (loop : ℕ → Reader B) where
  -- what is read from the start is what the row has, and then what is read from here
  pub record Linked (row : B → B) (tokens : List Token) (at here fuel : ℕ) : Type 0 where
    pub read : loop (length (drop at tokens)) (drop at tokens) ≡ after row (loop fuel (drop here tokens))
    pub within : at ≤ length tokens → here ≤ length tokens

  pub linked_start : (row : B → B) (tokens : List Token) (at : ℕ) → ((rest : B) → row rest ≡ rest)
      → Linked row tokens at at (length tokens - at)
  linked_start row tokens at empty = record {
    read = ap (λ n. loop n (drop at tokens)) (length-drop at tokens) ∙ as_it_is row empty _;
    within = λ h. h;
  }

  module _ (row : B → B) (tokens : List Token) (at here step end : ℕ) where
    -- as many elements as there are tokens, and more come
    pub linked_end : end ≤ step → end ≡ length tokens → Linked row tokens at here (length tokens - step)
        → ((ts : List Token) → loop zero ts ≡ None) → loop (length (drop at tokens)) (drop at tokens) ≡ None
    linked_end over is far stops =
        far.read
        ∙ ap (λ n. after row (loop n (drop here tokens))) (fuel_end (length tokens) step end over is)
        ∙ ap (after row) (stops (drop here tokens))

    module _ (more : step < end) (is : end ≡ length tokens)
        (far : Linked row tokens at here (length tokens - step)) where
      rest_is : loop (length (drop at tokens)) (drop at tokens)
          ≡ after row (loop (suc (length tokens - (step + 1))) (drop here tokens))
      rest_is =
          far.read
          ∙ ap (λ n. after row (loop n (drop here tokens))) (fuel_step (length tokens) step end more is)

      -- an element is here, and then others
      pub linked_step : (new : B → B) (next : ℕ)
          → ((fuel : ℕ) → after row (loop (suc fuel) (drop here tokens)) ≡ after new (loop fuel (drop next tokens)))
          → (here ≤ length tokens → next ≤ length tokens) → Linked new tokens at next (length tokens - (step + 1))
      linked_step new next one inside = record {
        read = rest_is ∙ one (length tokens - (step + 1));
        within = λ h. inside (far.within h);
      }

      -- no element is here
      pub linked_none : ((fuel : ℕ) → loop (suc fuel) (drop here tokens) ≡ None)
          → loop (length (drop at tokens)) (drop at tokens) ≡ None
      linked_none none = rest_is ∙ ap (after row) (none (length tokens - (step + 1)))

      -- the end is here
      pub linked_last : (x : B) (rest : List Token)
          → ((fuel : ℕ) → loop (suc fuel) (drop here tokens) ≡ Some (x, rest))
          → loop (length (drop at tokens)) (drop at tokens) ≡ Some (row x, rest)
      linked_last x rest last = rest_is ∙ ap (after row) (last (length tokens - (step + 1)))

-- a link by cases, where the case is known
pub link_none : {B : Type 0} (old new : B → B) (by : Reader B → Reader B) (tokens : List Token) (at : ℕ)
    (found : Option ℕ) → found ≡ None → LinkBy old new by tokens at found → (go : Reader B)
    → by go (drop at tokens) ≡ None
link_none old new by tokens at found is h = subst (LinkBy old new by tokens at) is h

pub link_some : {B : Type 0} (old new : B → B) (by : Reader B → Reader B) (tokens : List Token) (at : ℕ)
    (found : Option ℕ) (next : ℕ) → found ≡ Some next → LinkBy old new by tokens at found
    → IsLink old new by tokens at next
link_some old new by tokens at found next is h = subst (LinkBy old new by tokens at) is h

-- a link that goes on as another from a later place on
pub link_from : {B : Type 0} (old new : B → B) (one other : Reader B → Reader B) (tokens : List Token) (at from : ℕ)
    → (at ≤ length tokens → from ≤ length tokens)
    → ((go : Reader B) → one go (drop at tokens) ≡ other go (drop from tokens))
    → (answer : Result (Option ℕ) OutOfMemory) → LinkAt old new other tokens from answer
    → LinkAt old new one tokens at answer
link_from old new one other tokens at from within e (Ok None) h = λ go. e go ∙ h go
link_from old new one other tokens at from within e (Ok (Some next)) h = record {
  read = λ go. ap (after old) (e go) ∙ h.read go;
  within = λ i. h.within (within i);
}
link_from old new one other tokens at from within e (Err error) h = h

-- an element that is read and pushed
pub link_pushed : {B : Type 0} (old new one : B → B) (by : Reader B → Reader B) (tokens : List Token) (at next : ℕ)
    → ((go : Reader B) → by go (drop at tokens) ≡ after one (go (drop next tokens)))
    → ((rest : B) → new rest ≡ old (one rest)) → (at ≤ length tokens → next ≤ length tokens)
    → IsLink old new by tokens at next
link_pushed old new one by tokens at next read push within = record {
  read = λ go. ap (after old) (read go) ∙ after_push old new one push (go (drop next tokens));
  within = within;
}
