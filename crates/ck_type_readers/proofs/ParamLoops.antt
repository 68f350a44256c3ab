-- The loop over further parameters.
use Rattle.std.proofs.Common.{◌≡◌, ℕ, suc, ◌+◌, ◌-◌, ◌<◌, Bool, true, false, List, [], ◌∷◌, length, drop}
use Rattle.std.proofs.Common.{refl, ap, sym}
use Rattle.std.proofs.Common.{◌∙◌, arith, inl, inr}
use Rattle.std.specs.Prelude.{Option, Some, None, MatchOption, codes, if◌then◌else◌}
use Rattle.std.specs.Str.{bytes_eq}
use Rattle.std.proofs.lemmas.Bool.{cases_Bool}
use Rattle.std.proofs.lemmas.Slice.Eq.{bytes_eq-Decides}
use Rattle.ck_base.specs.declared.tokens.Token.{Token}
use Rattle.ck_grammar.specs.Readers.{Read, Reader, ◌>>=◌, or_else, onto, mark}
use Rattle.ck_grammar.specs.ReadingTypes.{begins_with, more_loop}
use Rattle.ck_grammar.specs.Trees as plain
use Rattle.ck_grammar.specs.Words.{Word, Ordinary, Typedef, Number, String, Fixed, is_text, sort, begins_specifiers}
use Rattle.ck_readers.proofs.Loops.{IsLoop, SoFar}
use Rattle.ck_readers.specs.Places.{after, itself, IsRead, IsStep, NoStep, IsRow}
use Rattle.ck_type_readers.proofs.Loops.{stops_here}
use Rattle.ck_type_readers.specs.Steps.{ellipsis, param_step, more_step}
use Rattle.ck_type_readers.specs.Views.{more_ended}

-- a step that may fail where a longer one goes on
module _ {X B : Type 0} (test : X → Bool) (first second : X → Option B) where
  first_kept : (x : X) (b : Bool) (y : B) → (if b then first x else None) ≡ Some y
      → (if b then first x else second x) ≡ Some y
  first_kept x true y h = h
  first_kept x false y h = absurd (cc)

  kept : (m : Option X) (y : B) → (m >>= (λ x. if test x then first x else None)) ≡ Some y
      → (m >>= (λ x. if test x then first x else second x)) ≡ Some y
  kept None y h = h
  kept (Some x) y h = first_kept x (test x) y h

  neither_here : (x : X) (b : Bool) → (if b then first x else None) ≡ None → second x ≡ None
      → (if b then first x else second x) ≡ None
  neither_here x true h k = h
  neither_here x false h k = k

  neither : (m : Option X) → (m >>= (λ x. if test x then first x else None)) ≡ None → (m >>= second) ≡ None
      → (m >>= (λ x. if test x then first x else second x)) ≡ None
  neither None h k = refl
  neither (Some x) h k = neither_here x (test x) h k

  second_there : (m : Option X) (y : B) → ((x : X) → m ≡ Some x → second x ≡ Some y → test x ≡ false)
      → (m >>= second) ≡ Some y → (m >>= (λ x. if test x then first x else second x)) ≡ Some y
  second_there None y tells h = h
  second_there (Some x) y tells h = rw (tells x refl h) h

dots_word : (word : Word) (t : Token) (ts : List Token) (x : Token × List Token)
    → (if is_text (codes "...") word then Some (t, ts) else None) ≡ Some x → begins_specifiers (sort word) ≡ false
dots_word (Fixed other) t ts x h =
    elim (cases_Bool (bytes_eq other (codes "..."))) [
      | inl e ↦ let same : other ≡ codes "..." = (bytes_eq-Decides other (codes "...")).0 e in rw same refl
      | inr n ↦ absurd (let f : None ≡ Some x = rw n at h in cc)
    ]
dots_word Ordinary t ts x h = refl
dots_word Typedef t ts x h = absurd (cc)
dots_word Number t ts x h = refl
dots_word String t ts x h = refl

-- no parameter begins with `...`
dots_begin_none : (w : Token → Word) (ts : List Token) (x : Token × List Token) → mark w "..." ts ≡ Some x
    → begins_with w begins_specifiers ts ≡ false
dots_begin_none w [] x h = refl
dots_begin_none w (t ∷ ts) x h = dots_word (w t) t ts x h

module _ (w : Token → Word) (of : Reader plain.Specifiers) (inner : Reader plain.Declarator) where
  -- a comma and then a parameter, where one begins
  param : (List Token → plain.MoreParams × List Token) → Token × List Token → Read plain.MoreParams
  param go x = do
    (s, ts) ← of x.1
    (d, ts) ← inner ts
    let (rest, ts) = go ts
    Some (plain.More x.0 s d rest, ts)

  dots : Token × List Token → Read plain.MoreParams
  dots x = do
    (dots, ts) ← mark w "..." x.1
    Some (plain.Ellipsis x.0 dots, ts)

  param_kept : (go : List Token → plain.MoreParams × List Token) (ts : List Token) (y : plain.MoreParams × List Token)
      → param_step w of inner go ts ≡ Some y → more_step w of inner go ts ≡ Some y
  unfolding param dots
  param_kept go ts y h = kept (λ x. begins_with w begins_specifiers x.1) (param go) dots (mark w "," ts) y h

  same_after : {B : Type 0} (old : B → B) (one other : Read B) (all : B × List Token)
      → ((y : B × List Token) → one ≡ Some y → other ≡ Some y) → after old one ≡ Some all → after old other ≡ Some all
  same_after old None other all h e = absurd (cc)
  same_after old (Some y) other all h e = rw (h y refl) e

  pub more_param : {old new : plain.MoreParams → plain.MoreParams} {tokens : List Token} {at next : ℕ}
      → IsStep old new (param_step w of inner) tokens at next → IsStep old new (more_step w of inner) tokens at next
  more_param {old} {new} {tokens} {at} {next} step = record {
    read = λ go. same_after old _ _ _ (param_kept go (drop at tokens)) (step.read go);
    within = step.within;
  }

  -- the end of parameters that a comma and `...` are
  to_end : Read (Token × Token) → Read plain.MoreParams
  to_end None = None
  to_end (Some y) = Some (plain.Ellipsis y.0.0 y.0.1, y.1)

  dots_read : (x : Token × List Token) (m : Read Token)
      → (m >>= (λ d. Some (plain.Ellipsis x.0 d.0, d.1))) ≡ to_end (m >>= (λ d. Some ((x.0, d.0), d.1)))
  unfolding to_end
  dots_read x None = refl
  dots_read x (Some d) = refl

  dots_after : (m : Read Token)
      → (m >>= dots) ≡ to_end (m >>= (λ x. mark w "..." x.1 >>= (λ d. Some ((x.0, d.0), d.1))))
  unfolding to_end dots
  dots_after None = refl
  dots_after (Some x) = dots_read x (mark w "..." x.1)

  dots_tell : (x : Token × List Token) (y : plain.MoreParams × List Token) (m : Read Token) → mark w "..." x.1 ≡ m
      → (m >>= (λ d. Some (plain.Ellipsis x.0 d.0, d.1))) ≡ Some y → begins_with w begins_specifiers x.1 ≡ false
  dots_tell x y None e h = absurd (cc)
  dots_tell x y (Some d) e h = dots_begin_none w x.1 d e

  dots_more : (go : List Token → plain.MoreParams × List Token) (ts : List Token) (y : (Token × Token) × List Token)
      → ellipsis w ts ≡ Some y → more_step w of inner go ts ≡ Some (plain.Ellipsis y.0.0 y.0.1, y.1)
  unfolding param dots to_end
  dots_more go ts y h =
      second_there (λ x. begins_with w begins_specifiers x.1) (param go) dots (mark w "," ts) _
      (λ x e k. dots_tell x _ (mark w "..." x.1) refl k) (dots_after (mark w "," ts) ∙ ap to_end h)

  none_more : (go : List Token → plain.MoreParams × List Token) (ts : List Token) → param_step w of inner go ts ≡ None
      → ellipsis w ts ≡ None → more_step w of inner go ts ≡ None
  unfolding param dots to_end
  none_more go ts h k =
      neither (λ x. begins_with w begins_specifiers x.1) (param go) dots (mark w "," ts) h
      (dots_after (mark w "," ts) ∙ ap to_end k)

  pub no_more : {old new : plain.MoreParams → plain.MoreParams} {tokens : List Token} {at : ℕ}
      → NoStep old new (param_step w of inner) tokens at → ellipsis w (drop at tokens) ≡ None
      → NoStep old new (more_step w of inner) tokens at
  no_more {old} {new} {tokens} {at} step k = record {
    none = λ go. none_more go (drop at tokens) (step.none go) k;
    stays = step.stays;
  }

  pub more_go : IsLoop plain.NoMore (more_step w of inner) (more_loop w of inner)
  more_go = record { stops = λ ts. refl; goes = λ fuel ts. refl }

  pub no_end : {R : Type 0} (row : R → plain.MoreParams → plain.MoreParams) {x : R} {tokens : List Token}
      {at here : ℕ} → IsRow (λ y. row y plain.NoMore) (λ ts. more_loop w of inner (length ts) ts) tokens at (x, here)
      → IsRow (more_ended row) (λ ts. more_loop w of inner (length ts) ts) tokens at ((x, None), here)
  no_end row is = record { read = is.read; within = is.within }

  -- a loop that no further parameter goes on
  module _ {R : Type 0} (row : R → plain.MoreParams → plain.MoreParams) (x : R)
      {old : plain.MoreParams → plain.MoreParams} {tokens : List Token} {at here step end : ℕ} (more : step < end)
      (is : end ≡ length tokens)
      (far : SoFar plain.NoMore (more_step w of inner) (more_loop w of inner) old tokens at here (length tokens - step))
      (none : NoStep old (row x) (param_step w of inner) tokens here) where
    dots_end : (marks : Token × Token) (next : ℕ) → IsRead itself (ellipsis w) tokens here (marks, next)
        → IsRow (more_ended row) (λ ts. more_loop w of inner (length ts) ts) tokens at ((x, Some marks), next)
    dots_end marks next read =
        let e : length tokens - step ≡ suc (length tokens - (step + 1)) = omega arith in
        let f = rw e at far in
        record {
          read =
              f.read
              ∙ ap (λ r. onto old (or_else (plain.NoMore, drop here tokens) r))
              (dots_more (more_loop w of inner (length tokens - (step + 1))) (drop here tokens) _ read.read)
              ∙ ap (λ t. (t, drop next tokens)) (sym (none.stays (plain.Ellipsis marks.0 marks.1)));
          within = λ h. read.within (f.within h);
        }

    pub more_ends : (y : R) (marks : Option (Token × Token)) (next : ℕ) → y ≡ x
        → MatchOption marks ((ellipsis w (drop here tokens) ≡ None) × (next ≡ here))
        (λ both. IsRead itself (ellipsis w) tokens here (both, next))
        → IsRow (more_ended row) (λ ts. more_loop w of inner (length ts) ts) tokens at ((y, marks), next)
    more_ends y None next same end_ =
        rw (same, end_.1) (no_end row (stops_here row x more_go more is far (no_more none end_.0)))
    more_ends y (Some both) next same end_ = rw same (dots_end both next end_)
