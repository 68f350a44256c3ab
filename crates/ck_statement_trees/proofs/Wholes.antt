-- From what a part reads to what the whole reads.
use Rattle.std.proofs.Common.{◌≡◌, ℕ, ◌≤◌, List, length, drop, ap, sym, ◌∙◌}
use Rattle.std.specs.Prelude.{Option, Some, None, Result, Ok, Err}
use Rattle.ck_base.specs.declared.refusals.OutOfMemory.{OutOfMemory}
use Rattle.ck_base.specs.declared.tokens.Token.{Token}
use Rattle.ck_grammar.specs.Readers.{Reader, onto}
use Rattle.ck_readers.specs.Places.{ReadAt, StepAt, IsRead, IsStep, after}

-- a reader that goes on as another from a later place on
pub read_from : {X B : Type 0} (view : X → B) (one other : Reader B) (tokens : List Token) (at from : ℕ)
    → (at ≤ length tokens → from ≤ length tokens) → one (drop at tokens) ≡ other (drop from tokens)
    → (answer : Result (Option (X × ℕ)) OutOfMemory) → ReadAt view other tokens from answer
    → ReadAt view one tokens at answer
read_from view one other tokens at from within e (Ok None) h = e ∙ h
read_from view one other tokens at from within e (Ok (Some found)) h =
    record { read = e ∙ h.read; within = λ i. h.within (within i) }
read_from view one other tokens at from within e (Err error) h = h

-- a tree that is made of what was read
pub made_read : {X B : Type 0} (view : X → B) (tree : X) (whole : B) (tokens : List Token) (at : ℕ)
    → view tree ≡ whole → IsRead view (λ ts. Some (whole, ts)) tokens at (tree, at)
made_read view tree whole tokens at made = record {
  read = ap (λ t. Some (t, drop at tokens)) (sym made);
  within = λ h. h;
}

-- the same of a step of a loop
pub step_from : {B : Type 0} (old new : B → B) (one other : (List Token → B × List Token) → Reader B)
    (tokens : List Token) (at from : ℕ) → (at ≤ length tokens → from ≤ length tokens)
    → ((go : List Token → B × List Token) → one go (drop at tokens) ≡ other go (drop from tokens))
    → (answer : Result (Option ℕ) OutOfMemory) → StepAt old new other tokens from answer
    → StepAt old new one tokens at answer
step_from old new one other tokens at from within e (Ok None) h = record {
  none = λ go. e go ∙ h.none go;
  stays = h.stays;
}
step_from old new one other tokens at from within e (Ok (Some next)) h = record {
  read = λ go. ap (after old) (e go) ∙ h.read go;
  within = λ i. h.within (within i);
}
step_from old new one other tokens at from within e (Err error) h = h

-- an element that is read and pushed
pub pushed : {B : Type 0} (old new one : B → B) (by : (List Token → B × List Token) → Reader B) (tokens : List Token)
    (at next : ℕ)
    → ((go : List Token → B × List Token) → by go (drop at tokens) ≡ Some (onto one (go (drop next tokens))))
    → ((rest : B) → new rest ≡ old (one rest)) → (at ≤ length tokens → next ≤ length tokens)
    → IsStep old new by tokens at next
pushed old new one by tokens at next read push within = record {
  read = λ go. ap (after old) (read go)
      ∙ ap (λ b. Some (b, (go (drop next tokens)).1)) (sym (push (go (drop next tokens)).0));
  within = within;
}
