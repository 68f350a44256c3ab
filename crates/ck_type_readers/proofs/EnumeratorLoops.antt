-- The loop over enumerators.
use Rattle.std.proofs.Common.{◌≡◌, ℕ, zero, suc, ◌+◌, ◌-◌, ◌<◌, ◌≤◌, Bool, true, false, List, [], ◌∷◌, length, drop}
use Rattle.std.proofs.Common.{refl, ap, sym}
use Rattle.std.proofs.Common.{◌∙◌, arith, length-drop}
use Rattle.std.specs.Prelude.{Option, Some, None, Result, Ok, Err, codes, if◌then◌else◌}
use Rattle.ck_base.specs.declared.refusals.OutOfMemory.{OutOfMemory}
use Rattle.ck_base.specs.declared.tokens.Token.{Token}
use Rattle.ck_grammar.specs.Readers.{Read, Reader, ◌>>=◌, mark}
use Rattle.ck_grammar.specs.ReadingTypes as reading
use Rattle.ck_grammar.specs.ReadingTypes.{enumerator_end, is_name}
use Rattle.ck_grammar.specs.Trees.{Expr, Enumerators, LastOne, LastValued, One, Valued}
use Rattle.ck_grammar.specs.Fitting.{NewName, is_ordinary}
use Rattle.ck_grammar.specs.Words.{Word, is_text, sort}
use Rattle.ck_grammar.specs.declared.classes.Sort.{Sort}
use Rattle.ck_readers.proofs.Loops.{fuel_step}
use Rattle.ck_readers.specs.Places.{after, itself, IsRead, IsTold}
use Rattle.ck_type_readers.proofs.Names.{takes_sort-is}
use Rattle.ck_type_readers.proofs.Readings.{taken_if}
use Rattle.ck_type_readers.specs.Enumerating.{IsEnumerator, EnumeratorAt}
use Rattle.ck_type_readers.specs.Steps.{enumerator_after, enumerator_step, enumerators_from}
use Rattle.ck_type_readers.specs.Views.{is_plain}

abbrev then_one : (Enumerators → Enumerators) → Enumerators × List Token → Read Enumerators
then_one make x = Some (make x.0, x.1)

then_before : (make : Enumerators → Enumerators) (answer : Read Enumerators)
    → (answer >>= then_one make) ≡ after make answer
then_before make None = refl
then_before make (Some x) = refl

after_push : (old new one : Enumerators → Enumerators) → ((rest : Enumerators) → new rest ≡ old (one rest))
    → (answer : Read Enumerators) → after old (after one answer) ≡ after new answer
after_push old new one h None = refl
after_push old new one h (Some x) = ap (λ t. Some (t, x.1)) (sym (h x.0))

module _ (w : Token → Word) (go : Reader Enumerators) (last : Option Token → Enumerators)
    (next : Token → Enumerators → Enumerators) where
  -- no comma comes
  end_plain : (ts : List Token) → mark w "," ts ≡ None → enumerator_end w go last next ts ≡ Some (last None, ts)
  end_plain [] h = refl
  end_plain (t ∷ ts) h = by_comma (is_text (codes ",") (w t)) h where
    by_comma : (b : Bool) → taken_if b t ts ≡ None
        → (if b then (if is_name w ts then (go ts >>= then_one (next t)) else Some (last (Some t), ts))
        else Some (last None, t ∷ ts)) ≡ Some (last None, t ∷ ts)
    by_comma true h = absurd (cc)
    by_comma false h = refl

  -- a comma comes, and what is after it
  end_comma : (ts : List Token) (x : Token × List Token) → mark w "," ts ≡ Some x
      → enumerator_end w go last next ts
      ≡ (if is_name w x.1 then after (next x.0) (go x.1) else Some (last (Some x.0), x.1))
  end_comma [] x h = absurd (cc)
  end_comma (t ∷ ts) x h = by_comma (is_text (codes ",") (w t)) h where
    by_comma : (b : Bool) → taken_if b t ts ≡ Some x
        → (if b then (if is_name w ts then (go ts >>= then_one (next t)) else Some (last (Some t), ts))
        else Some (last None, t ∷ ts))
        ≡ (if is_name w x.1 then after (next x.0) (go x.1) else Some (last (Some x.0), x.1))
    by_comma true h =
        let e : (t, ts) ≡ x = cc in
        let same_token : t ≡ x.0 = ap (λ y. y.0) e in
        let same_rest : ts ≡ x.1 = ap (λ y. y.1) e in
        rw (same_token, same_rest, then_before (next x.0) (go x.1)) refl
    by_comma false h = absurd (cc)

  end_last : (ts : List Token) (x : Token × List Token) → mark w "," ts ≡ Some x → is_name w x.1 ≡ false
      → enumerator_end w go last next ts ≡ Some (last (Some x.0), x.1)
  end_last ts x h name = end_comma ts x h ∙ rw name refl

  end_more : (ts : List Token) (x : Token × List Token) → mark w "," ts ≡ Some x → is_name w x.1 ≡ true
      → enumerator_end w go last next ts ≡ after (next x.0) (go x.1)
  end_more ts x h name = end_comma ts x h ∙ rw name refl

-- an enumerator's word after it is one, whatever the functions
module _ (w : Token → Word) (go : Reader Enumerators) {last last' : Option Token → Enumerators}
    {next next' : Token → Enumerators → Enumerators} (lasts : (c : Option Token) → last c ≡ last' c)
    (nexts : (t : Token) (rest : Enumerators) → next t rest ≡ next' t rest) where
  then_same : (t : Token) (answer : Read Enumerators)
      → (answer >>= then_one (next t)) ≡ (answer >>= then_one (next' t))
  then_same t None = refl
  then_same t (Some x) = ap (λ s. Some (s, x.1)) (nexts t x.0)

  comma_same : (a b : Bool) (t : Token) (ts : List Token)
      → (if a then (if b then (go ts >>= then_one (next t)) else Some (last (Some t), ts))
      else Some (last None, t ∷ ts))
      ≡ (if a then (if b then (go ts >>= then_one (next' t)) else Some (last' (Some t), ts))
      else Some (last' None, t ∷ ts))
  comma_same true true t ts = then_same t (go ts)
  comma_same true false t ts = ap (λ s. Some (s, ts)) (lasts (Some t))
  comma_same false b t ts = ap (λ s. Some (s, t ∷ ts)) (lasts None)

  end_same : (ts : List Token) → enumerator_end w go last next ts ≡ enumerator_end w go last' next' ts
  end_same [] = ap (λ s. Some (s, [])) (lasts None)
  end_same (t ∷ ts) = comma_same (is_text (codes ",") (w t)) (is_name w ts) t ts

-- what is after an enumerator's name
module _ (w : Token → Word) (value : Reader Expr) (name : Token) (go : Reader Enumerators) where
  pub value_ends : (ts : List Token) → ts ≡ [] → enumerator_after w value name go ts ≡ None
  value_ends ts e = rw e refl

  abbrev value_by : Bool → Token → List Token → Read Enumerators
  value_by b t ts =
      if b then (value ts >>= (λ x. enumerator_end w go (LastValued name t x.0) (Valued name t x.0) x.1))
      else enumerator_end w go (LastOne name) (One name) (t ∷ ts)

  plain_by : (b : Bool) (t : Token) (ts : List Token) → taken_if b t ts ≡ None
      → value_by b t ts ≡ enumerator_end w go (LastOne name) (One name) (t ∷ ts)
  plain_by true t ts h = absurd (cc)
  plain_by false t ts h = refl

  plain_here : (ts : List Token) (t : Token) (more : List Token) → ts ≡ t ∷ more → mark w "=" ts ≡ None
      → enumerator_after w value name go ts ≡ enumerator_end w go (LastOne name) (One name) ts
  plain_here [] t more e h = absurd (cc)
  plain_here (u ∷ ts) t more e h = plain_by (is_text (codes "=") (w u)) u ts h

  valued_by : (b : Bool) (t : Token) (ts : List Token) (x : Token × List Token)
      → taken_if b t ts ≡ Some x
      → value_by b t ts ≡ (value x.1 >>= (λ y. enumerator_end w go (LastValued name x.0 y.0) (Valued name x.0 y.0) y.1))
  valued_by true t ts x h = let e : (t, ts) ≡ x = cc in rw (← e) refl
  valued_by false t ts x h = absurd (cc)

  valued_here : (ts : List Token) (x : Token × List Token) → mark w "=" ts ≡ Some x
      → enumerator_after w value name go ts
      ≡ (value x.1 >>= (λ y. enumerator_end w go (LastValued name x.0 y.0) (Valued name x.0 y.0) y.1))
  valued_here [] x h = absurd (cc)
  valued_here (t ∷ ts) x h = valued_by (is_text (codes "=") (w t)) t ts x h

module _ (w : Token → Word) (value : Reader Expr) (name : Token) {X : Type 0}
    (last : X → Option Token → Enumerators) (before : X → Token → Enumerators → Enumerators) {tokens : List Token}
    {at : ℕ} (one : X) where
  pub plain_read : {C : Type 0} {question : Token → C} {found : Token × C × ℕ} → IsTold question tokens at found
      → mark w "=" (drop at tokens) ≡ None → ((c : Option Token) → last one c ≡ LastOne name c)
      → ((t : Token) (rest : Enumerators) → before one t rest ≡ One name t rest)
      → IsEnumerator last before w (enumerator_after w value name) tokens at (one, at)
  plain_read is none lasts befores = record {
    read = λ go. plain_here w value name go (drop at tokens) _ _ is.token none
        ∙ sym (end_same w go lasts befores (drop at tokens));
    within = λ h. h;
  }

  pub valued_read : {equals : Token × ℕ} {E : Type 0} {tree : E → Expr} {read : E × ℕ}
      → IsRead itself (mark w "=") tokens at equals → IsRead tree value tokens equals.1 read
      → ((c : Option Token) → last one c ≡ LastValued name equals.0 (tree read.0) c)
      → ((t : Token) (rest : Enumerators) → before one t rest ≡ Valued name equals.0 (tree read.0) t rest)
      → IsEnumerator last before w (enumerator_after w value name) tokens at (one, read.1)
  valued_read {equals} {tree = tree} {read = read} there inside lasts befores = record {
    read = λ go. valued_here w value name go (drop at tokens) _ there.read ∙ rw inside.read refl
        ∙ sym (end_same w go lasts befores (drop read.1 tokens));
    within = λ h. inside.within (there.within h);
  }

-- no value comes after `=`
pub no_value : (w : Token → Word) (value : Reader Expr) (name : Token) {tokens : List Token} {at : ℕ}
    {equals : Token × ℕ} → IsRead itself (mark w "=") tokens at equals → value (drop equals.1 tokens) ≡ None
    → (go : Reader Enumerators) → enumerator_after w value name go (drop at tokens) ≡ None
no_value w value name {tokens} {at} there inside go =
    valued_here w value name go (drop at tokens) _ there.read ∙ rw inside refl

-- an enumerator's name, and what is after it
module _ (w : Token → Word) (value : Reader Expr) {tokens : List Token} {at : ℕ} {found : Token × Sort × ℕ}
    (is : IsTold (λ t. sort (w t)) tokens at found) where
  name_known : (b : Bool) → is_plain found.1 ≡ b → is_ordinary (w found.0) ≡ b
  name_known b h = sym (takes_sort-is NewName (w found.0)) ∙ ap is_plain (sym is.told) ∙ h

  pub no_name_here : is_plain found.1 ≡ false → (go : Reader Enumerators)
      → enumerator_step w value go (drop at tokens) ≡ None
  no_name_here h go = rw (is.token, name_known false h) refl

  named_go : is_plain found.1 ≡ true → (go : Reader Enumerators)
      → enumerator_step w value go (drop at tokens) ≡ enumerator_after w value found.0 go (drop found.2 tokens)
  named_go h go = rw (is.token, name_known true h) refl

  pub named_here : {X : Type 0} (last : X → Option Token → Enumerators)
      (before : X → Token → Enumerators → Enumerators) → is_plain found.1 ≡ true
      → (result : Result (Option (X × ℕ)) OutOfMemory)
      → EnumeratorAt last before w (enumerator_after w value found.0) tokens found.2 result
      → EnumeratorAt last before w (enumerator_step w value) tokens at result
  named_here last before h (Err e) read = tt
  named_here last before h (Ok None) none = λ go. named_go h go ∙ none go
  named_here last before h (Ok (Some x)) one = record {
    read = λ go. named_go h go ∙ one.read go;
    within = λ h. one.within is.within;
  }

module _ (w : Token → Word) (value : Reader Expr) where
  goes : (fuel : ℕ) (ts : List Token)
      → reading.enumerators w value (suc fuel) ts ≡ enumerator_step w value (reading.enumerators w value fuel) ts
  goes fuel [] = refl
  goes fuel (t ∷ ts) = refl

  -- what is read from the start is what the row has, and then what is read from here
  pub record SoFar (row : Enumerators → Enumerators) (tokens : List Token) (at here fuel : ℕ) : Type 0 where
    pub read : enumerators_from w value (drop at tokens)
        ≡ after row (reading.enumerators w value fuel (drop here tokens))
    pub within : at ≤ length tokens → here ≤ length tokens

  as_it_is : (row : Enumerators → Enumerators) → ((rest : Enumerators) → row rest ≡ rest)
      → (answer : Read Enumerators) → answer ≡ after row answer
  as_it_is row empty None = refl
  as_it_is row empty (Some x) = ap (λ t. Some (t, x.1)) (sym (empty x.0))

  pub starts : (row : Enumerators → Enumerators) (tokens : List Token) (at : ℕ)
      → ((rest : Enumerators) → row rest ≡ rest) → SoFar row tokens at at (length tokens - at)
  starts row tokens at empty = record {
    read =
        ap (λ n. reading.enumerators w value n (drop at tokens)) (length-drop at tokens) ∙ as_it_is row empty _;
    within = λ h. h;
  }

  -- as many enumerators as there are tokens, and more come
  pub none_left : {row : Enumerators → Enumerators} {tokens : List Token} {at here step end : ℕ} → end ≤ step
      → end ≡ length tokens → SoFar row tokens at here (length tokens - step)
      → enumerators_from w value (drop at tokens) ≡ None
  none_left {row} {tokens} {at} {here} {step} over is far =
      let e : length tokens - step ≡ zero = omega arith in
      let f = rw e at far in f.read

  module _ {X : Type 0} (last : X → Option Token → Enumerators) (before : X → Token → Enumerators → Enumerators)
      {row : Enumerators → Enumerators} {tokens : List Token} {at here step end : ℕ} where
    -- no enumerator is here
    pub none_here : step < end → end ≡ length tokens → SoFar row tokens at here (length tokens - step)
        → ((go : Reader Enumerators) → enumerator_step w value go (drop here tokens) ≡ None)
        → enumerators_from w value (drop at tokens) ≡ None
    none_here more is far none =
        far.read ∙ ap (λ n. after row (reading.enumerators w value n (drop here tokens)))
        (fuel_step (length tokens) step end more is)
        ∙ ap (after row) (goes (length tokens - (step + 1)) (drop here tokens) ∙ none _)

    one_here : step < end → end ≡ length tokens → SoFar row tokens at here (length tokens - step)
        → {found : X × ℕ} → IsEnumerator last before w (enumerator_step w value) tokens here found
        → enumerators_from w value (drop at tokens)
        ≡ after row (enumerator_end w (reading.enumerators w value (length tokens - (step + 1))) (last found.0)
        (before found.0) (drop found.1 tokens))
    one_here more is far {found} one =
        far.read ∙ ap (λ n. after row (reading.enumerators w value n (drop here tokens)))
        (fuel_step (length tokens) step end more is)
        ∙ ap (after row) (goes (length tokens - (step + 1)) (drop here tokens) ∙ one.read _)

    -- the last one, without a comma
    pub last_plain : {Y : Type 0} (view : Y → Enumerators) (tree : Y) {found : X × ℕ} → step < end
        → end ≡ length tokens → SoFar row tokens at here (length tokens - step)
        → IsEnumerator last before w (enumerator_step w value) tokens here found
        → mark w "," (drop found.1 tokens) ≡ None → view tree ≡ row (last found.0 None)
        → IsRead view (enumerators_from w value) tokens at (tree, found.1)
    last_plain view tree {found} more is far one comma made = record {
      read =
          one_here more is far one ∙ ap (after row) (end_plain w _ (last found.0) (before found.0) _ comma)
          ∙ ap (λ t. Some (t, drop found.1 tokens)) (sym made);
      within = λ h. one.within (far.within h);
    }

    -- the last one, with a comma
    pub last_comma : {Y : Type 0} (view : Y → Enumerators) (tree : Y) {found : X × ℕ} {comma : Token × ℕ}
        → step < end → end ≡ length tokens → SoFar row tokens at here (length tokens - step)
        → IsEnumerator last before w (enumerator_step w value) tokens here found
        → IsRead itself (mark w ",") tokens found.1 comma → is_name w (drop comma.1 tokens) ≡ false
        → view tree ≡ row (last found.0 (Some comma.0))
        → IsRead view (enumerators_from w value) tokens at (tree, comma.1)
    last_comma view tree {found} {comma} more is far one there name made = record {
      read =
          one_here more is far one
          ∙ ap (after row)
          (end_last w _ (last found.0) (before found.0) _ (comma.0, drop comma.1 tokens) there.read name)
          ∙ ap (λ t. Some (t, drop comma.1 tokens)) (sym made);
      within = λ h. there.within (one.within (far.within h));
    }

    -- another one, with others after its comma
    pub goes_on : {new : Enumerators → Enumerators} {found : X × ℕ} {comma : Token × ℕ} → step < end
        → end ≡ length tokens → SoFar row tokens at here (length tokens - step)
        → IsEnumerator last before w (enumerator_step w value) tokens here found
        → IsRead itself (mark w ",") tokens found.1 comma → is_name w (drop comma.1 tokens) ≡ true
        → ((rest : Enumerators) → new rest ≡ row (before found.0 comma.0 rest))
        → SoFar new tokens at comma.1 (length tokens - (step + 1))
    goes_on {new} {found} {comma} more is far one there name pushed = record {
      read =
          one_here more is far one
          ∙ ap (after row)
          (end_more w _ (last found.0) (before found.0) _ (comma.0, drop comma.1 tokens) there.read name)
          ∙ after_push row new (before found.0 comma.0) pushed _;
      within = λ h. there.within (one.within (far.within h));
    }
