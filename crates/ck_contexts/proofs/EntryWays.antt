-- What each kind of synthetic function does on the ways through its steps.
use Rattle.std.proofs.Common.{◌≡◌, ℕ, zero, suc, ◌+◌, ◌*◌, ◌≤◌, true, false, List, [], ◌∷◌, ◌++◌, Some, length}
use Rattle.std.proofs.Common.{slice_get}
use Rattle.std.proofs.Common.{refl, sym, ap, ◌∙◌, subst, arith}
use Rattle.std.specs.List.{All, Contains, flat_map}
use Rattle.ck_base.specs.declared.spans.FnId.{FnId}
use Rattle.ck_contexts.specs.declared.contexts.Context.{Context}
use Rattle.ck_contexts.specs.declared.contexts.Context.TheVariants.{Main, Thread, Vector, Callback, Timer}
use Rattle.ck_contexts.specs.declared.steps.Step.{Step}
use Rattle.ck_contexts.specs.declared.steps.Step.TheVariants.{Call, Pick}
use Rattle.ck_contexts.specs.Synthetic as steps
use Rattle.ck_contexts.specs.Actions as done
use Rattle.ck_contexts.specs.Actions.{Action, Acts, Calls, CallAny, alone, unlocked, AreDone}
use Rattle.ck_contexts.proofs.StepLemmas.{length-calls, length-unlocked_calls, length-callback, length-locked_callback}
use Rattle.ck_contexts.proofs.StepLemmas.{length-timer}
use Rattle.ck_contexts.proofs.StepWays.{Goes, at_end, by_act, by_call, act-next, call-next, end-next, any-from, any-to}

-- a step of a list that is joined of others
slice_get-append : (xs ys : List Step) (k : ℕ) → slice_get (xs ++ ys) (length xs + k) ≡ slice_get ys k
slice_get-append [] ys k = ap (slice_get ys) (omega arith)
slice_get-append (x ∷ xs) ys k =
    let at : length (x ∷ xs) + k ≡ suc (length xs + k) = omega arith in
    ap (slice_get (x ∷ (xs ++ ys))) at ∙ slice_get-append xs ys k

slice_get-append_left : (xs ys : List Step) (k : ℕ) (s : Step) → slice_get xs k ≡ Some s
    → slice_get (xs ++ ys) k ≡ Some s
slice_get-append_left [] ys k s is = absurd (cc)
slice_get-append_left (x ∷ xs) ys zero s is = is
slice_get-append_left (x ∷ xs) ys (suc k) s is = slice_get-append_left xs ys k s is

module _ (head parts end : List Step) where
  part-at : (p k : ℕ) (s : Step) → p ≡ length head + k → slice_get parts k ≡ Some s
      → slice_get (head ++ (parts ++ end)) p ≡ Some s
  part-at p k s at is =
      ap (slice_get (head ++ (parts ++ end))) at
      ∙ (slice_get-append head (parts ++ end) k ∙ slice_get-append_left parts end k s is)

  end-at : (p j : ℕ) → p ≡ length head + (length parts + j) → slice_get (head ++ (parts ++ end)) p ≡ slice_get end j
  end-at p j at =
      ap (slice_get (head ++ (parts ++ end))) at
      ∙ (slice_get-append head (parts ++ end) (length parts + j) ∙ slice_get-append parts end j)

-- the parts of the k-th function
calls-at : (number next k : ℕ) (fs : List FnId) (f : FnId) → slice_get fs k ≡ Some f
    → slice_get (steps.calls number fs next) k ≡ Some (Call (number + k) f next)
calls-at number next k [] f is = absurd (cc)
calls-at number next zero (g ∷ fs) f is =
    let same : g ≡ f = cc in
    ap (λ f. Some (Call number f next)) same ∙ ap (λ n. Some (Call n f next)) (omega arith)
calls-at number next (suc k) (g ∷ fs) f is =
    calls-at (number + 1) next k fs f is ∙ ap (λ n. Some (Call n f next)) (omega arith)

-- the three steps of a part
unlocked-at : (place number next k : ℕ) (fs : List FnId) (f : FnId) → slice_get fs k ≡ Some f
    → (slice_get (steps.unlocked_calls place number fs next) (3 * k) ≡ Some (steps.unlock (place + 3 * k + 1)))
    × (slice_get (steps.unlocked_calls place number fs next) (3 * k + 1)
    ≡ Some (Call (number + k) f (place + 3 * k + 2)))
    × (slice_get (steps.unlocked_calls place number fs next) (3 * k + 2) ≡ Some (steps.lock next))
unlocked-at place number next k [] f is = absurd (cc)
unlocked-at place number next zero (g ∷ fs) f is =
    let same : g ≡ f = cc in
    let ss : List Step = steps.unlocked_calls place number (g ∷ fs) next in
    let zeroth : 3 * 0 ≡ 0 = omega arith in
    let first : 3 * 0 + 1 ≡ 1 = omega arith in
    let second : 3 * 0 + 2 ≡ 2 = omega arith in (
      ap (slice_get ss) zeroth ∙ ap (λ n. Some (steps.unlock n)) (omega arith),
      ap (slice_get ss) first ∙ (ap (λ f. Some (Call number f (place + 2))) same
          ∙ (ap (λ n. Some (Call n f (place + 2))) (omega arith)
          ∙ ap (λ n. Some (Call (number + 0) f n)) (omega arith))),
      ap (slice_get ss) second,
    )
unlocked-at place number next (suc k) (g ∷ fs) f is =
    let ss : List Step = steps.unlocked_calls place number (g ∷ fs) next in
    let rest = unlocked-at (place + 3) (number + 1) next k fs f is in
    let zeroth : 3 * suc k ≡ suc (suc (suc (3 * k))) = omega arith in
    let first : 3 * suc k + 1 ≡ suc (suc (suc (3 * k + 1))) = omega arith in
    let second : 3 * suc k + 2 ≡ suc (suc (suc (3 * k + 2))) = omega arith in (
      ap (slice_get ss) zeroth ∙ (rest.0 ∙ ap (λ n. Some (steps.unlock n)) (omega arith)),
      ap (slice_get ss) first ∙ (rest.1 ∙ (ap (λ n. Some (Call n f (place + 3 + 3 * k + 2))) (omega arith)
          ∙ ap (λ n. Some (Call (number + suc k) f n)) (omega arith))),
      ap (slice_get ss) second ∙ rest.2,
    )

-- the ends of handlers
module _ (ss : List Step) (p q r : ℕ) (ends : slice_get ss p ≡ Some (steps.epilogue q))
    (returns : slice_get ss q ≡ Some (steps.handler_return r)) (past : length ss ≤ r)
  where
    close-from : (actions : List Action) → Goes ss p actions → actions ≡ done.epilogue ∷ done.handler_return ∷ []
    close-from actions goes =
        let one = act-next ss p _ _ q actions ends goes in
        let two = act-next ss q _ _ r one.0 returns one.2 in
        let none = end-next ss r two.0 past two.2 in
        one.1 ∙ (ap (λ t. done.epilogue ∷ t) two.1 ∙ ap (λ t. done.epilogue ∷ done.handler_return ∷ t) none)

    close-to : Goes ss p (done.epilogue ∷ done.handler_return ∷ [])
    close-to =
        by_act p _ _ q (done.handler_return ∷ []) ends (by_act q _ _ r [] returns (at_end r past))

-- what is unlocked before it ends
module _ (ss : List Step) (o p q r : ℕ) (unlocks : slice_get ss o ≡ Some (steps.unlock p))
    (ends : slice_get ss p ≡ Some (steps.epilogue q)) (returns : slice_get ss q ≡ Some (steps.handler_return r))
    (past : length ss ≤ r)
  where
    unlock-from : (actions : List Action) → Goes ss o actions
        → actions ≡ done.unlock ∷ done.epilogue ∷ done.handler_return ∷ []
    unlock-from actions goes =
        let one = act-next ss o _ _ p actions unlocks goes in
        one.1 ∙ ap (λ t. done.unlock ∷ t) (close-from ss p q r ends returns past one.0 one.2)

    unlock-to : Goes ss o (done.unlock ∷ done.epilogue ∷ done.handler_return ∷ [])
    unlock-to =
        by_act o _ _ p (done.epilogue ∷ done.handler_return ∷ []) unlocks (close-to ss p q r ends returns past)

-- the parts of a callback: after a head that ends with the pick at m
module _ (head end : List Step) (m after number : ℕ) (fs : List FnId) (last : List Action)
    (pick : slice_get (head ++ (steps.calls number fs m ++ end)) m ≡ Some (Pick after (length head) 1 (length fs)))
  where
    abbrev called : List Step
    called = head ++ (steps.calls number fs m ++ end)

    part-calls : (k : ℕ) (f : FnId) → slice_get fs k ≡ Some f
        → slice_get called (length head + 1 * k) ≡ Some (Call (number + k) f m)
    part-calls k f is =
        part-at head (steps.calls number fs m) end (length head + 1 * k) k (Call (number + k) f m) (omega arith)
        (calls-at number m k fs f is)

    calls-from : ((actions : List Action) → Goes called after actions → actions ≡ last) → (actions : List Action)
        → Goes called m actions → (cs : List FnId) × All (Contains fs) cs × (actions ≡ flat_map alone cs ++ last)
    calls-from out actions goes =
        any-from called m after (length head) 1 fs alone last pick (λ f. omega arith)
        (λ k f more is goes. call-next called (length head + 1 * k) (number + k) f m more (part-calls k f is) goes)
        out actions goes

    calls-to : Goes called after last → (cs : List FnId) → All (Contains fs) cs
        → Goes called m (flat_map alone cs ++ last)
    calls-to out cs own =
        any-to called m after (length head) 1 fs alone last pick
        (λ k f rest is goes. by_call (length head + 1 * k) (number + k) f m rest (part-calls k f is) goes) out cs own

module _ (number : ℕ) (fs : List FnId) where
  -- a callback
  abbrev open_end : List Step
  open_end = steps.epilogue (2 + length fs + 1) ∷ steps.handler_return (2 + length fs + 2) ∷ []

  abbrev open_head : List Step
  open_head = steps.prologue 1 ∷ Pick (2 + length fs) 2 1 (length fs) ∷ []

  open-at : (j : ℕ) → slice_get (steps.callback number fs) (2 + length fs + j) ≡ slice_get open_end j
  open-at j =
      end-at open_head (steps.calls number fs 1) open_end (2 + length fs + j) j
      (omega (arith, length-calls number fs 1))

  open-ends : slice_get (steps.callback number fs) (2 + length fs) ≡ Some (steps.epilogue (2 + length fs + 1))
  open-ends =
      let at : 2 + length fs ≡ 2 + length fs + 0 = omega arith in
      ap (slice_get (steps.callback number fs)) at ∙ open-at 0

  open-past : length (steps.callback number fs) ≤ 2 + length fs + 2
  open-past = omega (arith, length-callback number fs)

  callback-from : (actions : List Action) → Goes (steps.callback number fs) 0 actions
      → CallAny (done.prologue ∷ []) alone (done.epilogue ∷ done.handler_return ∷ []) fs actions
  callback-from actions goes =
      let one = act-next (steps.callback number fs) 0 _ _ 1 actions refl goes in
      let any =
      calls-from open_head open_end 1 (2 + length fs) number fs (done.epilogue ∷ done.handler_return ∷ []) refl
      (λ more goes. close-from (steps.callback number fs) (2 + length fs) _ _ open-ends (open-at 1) open-past more goes)
      one.0 one.2 in
      record { called = any.0; own = any.1; is = one.1 ∙ ap (λ t. done.prologue ∷ t) any.2 }

  callback-to : (actions : List Action)
      → CallAny (done.prologue ∷ []) alone (done.epilogue ∷ done.handler_return ∷ []) fs actions
      → Goes (steps.callback number fs) 0 actions
  callback-to actions any =
      let last : List Action = done.epilogue ∷ done.handler_return ∷ [] in
      subst (λ t. Goes (steps.callback number fs) 0 t) (sym any.is)
      (by_act 0 _ _ 1 (flat_map alone any.called ++ last) refl
      (calls-to open_head open_end 1 (2 + length fs) number fs last refl
      (close-to (steps.callback number fs) (2 + length fs) _ _ open-ends (open-at 1) open-past) any.called any.own))

  -- a locked callback
  abbrev locked_end : ℕ → List Step
  locked_end after =
      steps.unlock (after + 1) ∷ steps.epilogue (after + 2) ∷ steps.handler_return (after + 3) ∷ []

  abbrev locked_last : List Action
  locked_last = done.unlock ∷ done.epilogue ∷ done.handler_return ∷ []

  abbrev locked_head : List Step
  locked_head = steps.prologue 1 ∷ steps.lock 2 ∷ Pick (3 + length fs) 3 1 (length fs) ∷ []

  locked-at : (j : ℕ)
      → slice_get (steps.locked_callback number fs) (3 + length fs + j) ≡ slice_get (locked_end (3 + length fs)) j
  locked-at j =
      end-at locked_head (steps.calls number fs 2) (locked_end (3 + length fs)) (3 + length fs + j) j
      (omega (arith, length-calls number fs 2))

  locked-ends : slice_get (steps.locked_callback number fs) (3 + length fs) ≡ Some (steps.unlock (3 + length fs + 1))
  locked-ends =
      let at : 3 + length fs ≡ 3 + length fs + 0 = omega arith in
      ap (slice_get (steps.locked_callback number fs)) at ∙ locked-at 0

  locked-past : length (steps.locked_callback number fs) ≤ 3 + length fs + 3
  locked-past = omega (arith, length-locked_callback number fs)

  locked-from : (actions : List Action) → Goes (steps.locked_callback number fs) 0 actions
      → CallAny (done.prologue ∷ done.lock ∷ []) alone locked_last fs actions
  locked-from actions goes =
      let ss : List Step = steps.locked_callback number fs in
      let one = act-next ss 0 _ _ 1 actions refl goes in
      let two = act-next ss 1 _ _ 2 one.0 refl one.2 in
      let any =
      calls-from locked_head (locked_end (3 + length fs)) 2 (3 + length fs) number fs locked_last refl
      (λ more goes. unlock-from ss (3 + length fs) _ _ _ locked-ends (locked-at 1) (locked-at 2) locked-past more goes)
      two.0 two.2 in
      record {
        called = any.0;
        own = any.1;
        is = one.1 ∙ (ap (λ t. done.prologue ∷ t) two.1 ∙ ap (λ t. done.prologue ∷ done.lock ∷ t) any.2);
      }

  locked-to : (actions : List Action) → CallAny (done.prologue ∷ done.lock ∷ []) alone locked_last fs actions
      → Goes (steps.locked_callback number fs) 0 actions
  locked-to actions any =
      let ss : List Step = steps.locked_callback number fs in
      subst (λ t. Goes ss 0 t) (sym any.is)
      (by_act 0 _ _ 1 (done.lock ∷ (flat_map alone any.called ++ locked_last)) refl
      (by_act 1 _ _ 2 (flat_map alone any.called ++ locked_last) refl
      (calls-to locked_head (locked_end (3 + length fs)) 2 (3 + length fs) number fs locked_last refl
      (unlock-to ss (3 + length fs) _ _ _ locked-ends (locked-at 1) (locked-at 2) locked-past) any.called any.own)))

  -- the timer
  abbrev timer_head : List Step
  timer_head = steps.prologue 1 ∷ steps.lock 2 ∷ Pick (3 + 3 * length fs) 3 3 (length fs) ∷ []

  timer-at : (j : ℕ)
      → slice_get (steps.timer number fs) (3 + 3 * length fs + j) ≡ slice_get (locked_end (3 + 3 * length fs)) j
  timer-at j =
      end-at timer_head (steps.unlocked_calls 3 number fs 2) (locked_end (3 + 3 * length fs)) (3 + 3 * length fs + j) j
      (omega (arith, length-unlocked_calls 3 number fs 2))

  timer-ends : slice_get (steps.timer number fs) (3 + 3 * length fs) ≡ Some (steps.unlock (3 + 3 * length fs + 1))
  timer-ends =
      let at : 3 + 3 * length fs ≡ 3 + 3 * length fs + 0 = omega arith in
      ap (slice_get (steps.timer number fs)) at ∙ timer-at 0

  timer-past : length (steps.timer number fs) ≤ 3 + 3 * length fs + 3
  timer-past = omega (arith, length-timer number fs)

  timer-part : (j k : ℕ) (s : Step) → slice_get (steps.unlocked_calls 3 number fs 2) (3 * k + j) ≡ Some s
      → slice_get (steps.timer number fs) (3 + 3 * k + j) ≡ Some s
  timer-part j k s is =
      part-at timer_head (steps.unlocked_calls 3 number fs 2) (locked_end (3 + 3 * length fs)) (3 + 3 * k + j)
      (3 * k + j) s (omega arith) is

  timer-unlocks : (k : ℕ) (f : FnId) → slice_get fs k ≡ Some f
      → slice_get (steps.timer number fs) (3 + 3 * k) ≡ Some (steps.unlock (3 + 3 * k + 1))
  timer-unlocks k f is =
      part-at timer_head (steps.unlocked_calls 3 number fs 2) (locked_end (3 + 3 * length fs)) (3 + 3 * k) (3 * k)
      (steps.unlock (3 + 3 * k + 1)) refl (unlocked-at 3 number 2 k fs f is).0

  timer-body : (k : ℕ) (f : FnId) (actions : List Action) → slice_get fs k ≡ Some f
      → Goes (steps.timer number fs) (3 + 3 * k) actions
      → (rest : List Action) × (actions ≡ unlocked f ++ rest) × Goes (steps.timer number fs) 2 rest
  timer-body k f actions is goes =
      let ss : List Step = steps.timer number fs in
      let part = unlocked-at 3 number 2 k fs f is in
      let one = act-next ss (3 + 3 * k) _ _ (3 + 3 * k + 1) actions (timer-unlocks k f is) goes in
      let two = call-next ss (3 + 3 * k + 1) (number + k) f (3 + 3 * k + 2) one.0
      (timer-part 1 k (Call (number + k) f (3 + 3 * k + 2)) part.1) one.2 in
      let three = act-next ss (3 + 3 * k + 2) _ _ 2 two.0 (timer-part 2 k (steps.lock 2) part.2) two.2 in
      (three.0, one.1 ∙ (ap (λ t. done.unlock ∷ t) two.1 ∙ ap (λ t. done.unlock ∷ Calls f ∷ t) three.1), three.2)

  timer-goes : (k : ℕ) (f : FnId) (rest : List Action) → slice_get fs k ≡ Some f → Goes (steps.timer number fs) 2 rest
      → Goes (steps.timer number fs) (3 + 3 * k) (unlocked f ++ rest)
  timer-goes k f rest is goes =
      let part = unlocked-at 3 number 2 k fs f is in
      by_act (3 + 3 * k) _ _ (3 + 3 * k + 1) (Calls f ∷ done.lock ∷ rest) (timer-unlocks k f is)
      (by_call (3 + 3 * k + 1) (number + k) f (3 + 3 * k + 2) (done.lock ∷ rest)
      (timer-part 1 k (Call (number + k) f (3 + 3 * k + 2)) part.1)
      (by_act (3 + 3 * k + 2) _ _ 2 rest (timer-part 2 k (steps.lock 2) part.2) goes))

  timer-from : (actions : List Action) → Goes (steps.timer number fs) 0 actions
      → CallAny (done.prologue ∷ done.lock ∷ []) unlocked locked_last fs actions
  timer-from actions goes =
      let ss : List Step = steps.timer number fs in
      let one = act-next ss 0 _ _ 1 actions refl goes in
      let two = act-next ss 1 _ _ 2 one.0 refl one.2 in
      let any =
      any-from ss 2 (3 + 3 * length fs) 3 3 fs unlocked locked_last refl (λ f. omega arith) timer-body
      (λ more goes. unlock-from ss (3 + 3 * length fs) _ _ _ timer-ends (timer-at 1) (timer-at 2) timer-past more goes)
      two.0 two.2 in
      record {
        called = any.0;
        own = any.1;
        is = one.1 ∙ (ap (λ t. done.prologue ∷ t) two.1 ∙ ap (λ t. done.prologue ∷ done.lock ∷ t) any.2);
      }

  timer-to : (actions : List Action) → CallAny (done.prologue ∷ done.lock ∷ []) unlocked locked_last fs actions
      → Goes (steps.timer number fs) 0 actions
  timer-to actions any =
      let ss : List Step = steps.timer number fs in
      subst (λ t. Goes ss 0 t) (sym any.is)
      (by_act 0 _ _ 1 (done.lock ∷ (flat_map unlocked any.called ++ locked_last)) refl
      (by_act 1 _ _ 2 (flat_map unlocked any.called ++ locked_last) refl
      (any-to ss 2 (3 + 3 * length fs) 3 3 fs unlocked locked_last refl timer-goes
      (unlock-to ss (3 + 3 * length fs) _ _ _ timer-ends (timer-at 1) (timer-at 2) timer-past) any.called any.own)))

-- one call, and then an act or none
main-from : (number : ℕ) (f : FnId) (actions : List Action) → Goes (steps.main number f) 0 actions
    → actions ≡ Calls f ∷ []
main-from number f actions goes =
    let one = call-next (steps.main number f) 0 number f 1 actions refl goes in
    one.1 ∙ ap (λ t. Calls f ∷ t) (end-next (steps.main number f) 1 one.0 (omega arith) one.2)

main-to : (number : ℕ) (f : FnId) → Goes (steps.main number f) 0 (Calls f ∷ [])
main-to number f = by_call 0 number f 1 [] refl (at_end 1 (omega arith))

thread-from : (number : ℕ) (f : FnId) (actions : List Action) → Goes (steps.thread number f) 0 actions
    → actions ≡ Calls f ∷ done.thread_return ∷ []
thread-from number f actions goes =
    let ss : List Step = steps.thread number f in
    let one = call-next ss 0 number f 1 actions refl goes in
    let two = act-next ss 1 _ _ 2 one.0 refl one.2 in
    one.1 ∙ (ap (λ t. Calls f ∷ t) two.1 ∙ ap (λ t. Calls f ∷ done.thread_return ∷ t)
    (end-next ss 2 two.0 (omega arith) two.2))

thread-to : (number : ℕ) (f : FnId) → Goes (steps.thread number f) 0 (Calls f ∷ done.thread_return ∷ [])
thread-to number f =
    by_call 0 number f 1 (done.thread_return ∷ []) refl (by_act 1 _ _ 2 [] refl (at_end 2 (omega arith)))

vector-from : (number : ℕ) (f : FnId) (actions : List Action) → Goes (steps.vector number f) 0 actions
    → actions ≡ Calls f ∷ done.handler_return ∷ []
vector-from number f actions goes =
    let ss : List Step = steps.vector number f in
    let one = call-next ss 0 number f 1 actions refl goes in
    let two = act-next ss 1 _ _ 2 one.0 refl one.2 in
    one.1 ∙ (ap (λ t. Calls f ∷ t) two.1 ∙ ap (λ t. Calls f ∷ done.handler_return ∷ t)
    (end-next ss 2 two.0 (omega arith) two.2))

vector-to : (number : ℕ) (f : FnId) → Goes (steps.vector number f) 0 (Calls f ∷ done.handler_return ∷ [])
vector-to number f =
    by_call 0 number f 1 (done.handler_return ∷ []) refl (by_act 1 _ _ 2 [] refl (at_end 2 (omega arith)))

-- the ways through the steps round a context
pub done-from : (number : ℕ) (c : Context) (actions : List Action) → Goes (steps.steps number c) 0 actions
    → AreDone c actions
done-from number (Main f) actions goes = main-from number f.function actions goes
done-from number (Thread f) actions goes = thread-from number f.function actions goes
done-from number (Vector f fast) actions goes = vector-from number f.function actions goes
done-from number (Callback fs true) actions goes = locked-from number fs.items actions goes
done-from number (Callback fs false) actions goes = callback-from number fs.items actions goes
done-from number (Timer fs) actions goes = timer-from number fs.items actions goes

pub done-to : (number : ℕ) (c : Context) (actions : List Action) → AreDone c actions
    → Goes (steps.steps number c) 0 actions
done-to number (Main f) actions is =
    subst (λ t. Goes (steps.main number f.function) 0 t) (sym is) (main-to number f.function)
done-to number (Thread f) actions is =
    subst (λ t. Goes (steps.thread number f.function) 0 t) (sym is) (thread-to number f.function)
done-to number (Vector f fast) actions is =
    subst (λ t. Goes (steps.vector number f.function) 0 t) (sym is) (vector-to number f.function)
done-to number (Callback fs true) actions any = locked-to number fs.items actions any
done-to number (Callback fs false) actions any = callback-to number fs.items actions any
done-to number (Timer fs) actions any = timer-to number fs.items actions any
