-- The steps round a context lead to points of its function, and call what the context runs.
use Rattle.std.proofs.Common.{ℕ, ◌+◌, ◌*◌, ◌≤◌, true, false, List, [], ◌∷◌, ◌++◌, length}
use Rattle.std.proofs.Common.{arith}
use Rattle.std.specs.List.{All, Contains}
use Rattle.std.proofs.lemmas.List.Elements.{All-nil, All-cons, All-head, All-tail, All-append, All-weaker}
use Rattle.std.proofs.lemmas.List.Elements.{All-contains_itself}
use Rattle.ck_base.specs.declared.spans.FnId.{FnId}
use Rattle.ck_contexts.specs.declared.contexts.Context.{Context}
use Rattle.ck_contexts.specs.declared.contexts.Context.TheVariants.{Main, Thread, Vector, Callback, Timer}
use Rattle.ck_contexts.specs.declared.placing.Placing.{Placing}
use Rattle.ck_contexts.specs.declared.steps.Step.{Step}
use Rattle.ck_contexts.specs.declared.steps.Step.TheVariants.{Act, Call, Pick}
use Rattle.ck_contexts.specs.Synthetic.{prologue, epilogue, lock, unlock, handler_return, thread_return, calls}
use Rattle.ck_contexts.specs.Synthetic.{unlocked_calls, callback, locked_callback, timer, steps, functions_of}
use Rattle.ck_contexts.specs.Within.{LeadsWithin}
use Rattle.ck_contexts.proofs.StepLemmas.{length-callback, length-locked_callback, length-timer}

-- a call is of one of these functions
abbrev pub CallsOneOf : List FnId → Step → Type 0
CallsOneOf fs (Act op name next) = Unit {0}
CallsOneOf fs (Call number f next) = Contains fs f
CallsOneOf fs (Pick after part size functions) = Unit {0}

-- a pick is of fewer functions than the function has points
abbrev pub PicksFew : Placing → Step → Type 0
PicksFew at (Act op name next) = Unit {0}
PicksFew at (Call number f next) = Unit {0}
PicksFew at (Pick after part size functions) = at.first + functions ≤ at.exit

pub record IsInner (at : Placing) (fs : List FnId) (s : Step) : Type 0 where
  pub leads : LeadsWithin at s
  pub calls : CallsOneOf fs s
  pub picks : PicksFew at s

module _ (at : Placing) (all : List FnId) where
  act-inner : (s : Step) (ss : List Step) → LeadsWithin at s → CallsOneOf all s → PicksFew at s
      → All (IsInner at all) ss → All (IsInner at all) (s ∷ ss)
  act-inner s ss leads calls picks rest =
      All-cons (IsInner at all) s ss (record { leads = leads; calls = calls; picks = picks }) rest

  -- the end of a handler, and of what is locked in it
  end-inner : (after : ℕ) → at.first + (after + 2) ≤ at.exit
      → All (IsInner at all) (epilogue (after + 1) ∷ handler_return (after + 2) ∷ [])
  end-inner after fits =
      act-inner (epilogue (after + 1)) (handler_return (after + 2) ∷ []) (omega arith) tt tt
      (act-inner (handler_return (after + 2)) [] (omega arith) tt tt (All-nil (IsInner at all)))

  unlocked-inner : (after : ℕ) → at.first + (after + 3) ≤ at.exit
      → All (IsInner at all) (unlock (after + 1) ∷ epilogue (after + 2) ∷ handler_return (after + 3) ∷ [])
  unlocked-inner after fits =
      act-inner (unlock (after + 1)) (epilogue (after + 2) ∷ handler_return (after + 3) ∷ []) (omega arith) tt tt
      (act-inner (epilogue (after + 2)) (handler_return (after + 3) ∷ []) (omega arith) tt tt
      (act-inner (handler_return (after + 3)) [] (omega arith) tt tt (All-nil (IsInner at all))))

  -- the begin of what is locked
  locked-inner : (ss : List Step) → at.first + 2 ≤ at.exit → All (IsInner at all) ss
      → All (IsInner at all) (prologue 1 ∷ lock 2 ∷ ss)
  locked-inner ss fits rest =
      act-inner (prologue 1) (lock 2 ∷ ss) (omega arith) tt tt (act-inner (lock 2) ss fits tt tt rest)

  pick-inner : (after part size n : ℕ) (ss : List Step) → at.first + after ≤ at.exit
      → at.first + (part + size * n) ≤ at.exit → at.first + n ≤ at.exit → All (IsInner at all) ss
      → All (IsInner at all) (Pick after part size n ∷ ss)
  pick-inner after part size n ss on parts few rest = act-inner (Pick after part size n) ss (on, parts) tt few rest

  calls-inner : (number next : ℕ) (fs : List FnId) → at.first + next ≤ at.exit → All (Contains all) fs
      → All (IsInner at all) (calls number fs next)
  calls-inner number next [] leads own = All-nil (IsInner at all)
  calls-inner number next (f ∷ fs) leads own =
      act-inner (Call number f next) (calls (number + 1) fs next) leads (All-head (Contains all) f fs own) tt
      (calls-inner (number + 1) next fs leads (All-tail (Contains all) f fs own))

  unlocked_calls-inner : (place number next : ℕ) (fs : List FnId) → at.first + next ≤ at.exit
      → at.first + (place + 3 * length fs) ≤ at.exit → All (Contains all) fs
      → All (IsInner at all) (unlocked_calls place number fs next)
  unlocked_calls-inner place number next [] leads fits own = All-nil (IsInner at all)
  unlocked_calls-inner place number next (f ∷ fs) leads fits own =
      let rest : List Step = unlocked_calls (place + 3) (number + 1) fs next in
      act-inner (unlock (place + 1)) (Call number f (place + 2) ∷ lock next ∷ rest) (omega arith) tt tt
      (act-inner (Call number f (place + 2)) (lock next ∷ rest) (omega arith) (All-head (Contains all) f fs own) tt
      (act-inner (lock next) rest leads tt tt
      (unlocked_calls-inner (place + 3) (number + 1) next fs leads (omega arith)
      (All-tail (Contains all) f fs own))))

  callback-inner : (number : ℕ) (fs : List FnId) → at.first + length (callback number fs) ≤ at.exit
      → All (Contains all) fs → All (IsInner at all) (callback number fs)
  callback-inner number fs fits own =
      let few = length-callback number fs in
      let after : ℕ = 2 + length fs in
      let end : List Step = epilogue (after + 1) ∷ handler_return (after + 2) ∷ [] in
      act-inner (prologue 1) (Pick after 2 1 (length fs) ∷ (calls number fs 1 ++ end)) (omega arith) tt tt
      (pick-inner after 2 1 (length fs) (calls number fs 1 ++ end) (omega arith) (omega arith) (omega arith)
      (All-append (IsInner at all) (calls number fs 1) end (calls-inner number 1 fs (omega arith) own)
      (end-inner after (omega arith))))

  locked_callback-inner : (number : ℕ) (fs : List FnId) → at.first + length (locked_callback number fs) ≤ at.exit
      → All (Contains all) fs → All (IsInner at all) (locked_callback number fs)
  locked_callback-inner number fs fits own =
      let few = length-locked_callback number fs in
      let after : ℕ = 3 + length fs in
      let end : List Step = unlock (after + 1) ∷ epilogue (after + 2) ∷ handler_return (after + 3) ∷ [] in
      locked-inner (Pick after 3 1 (length fs) ∷ (calls number fs 2 ++ end)) (omega arith)
      (pick-inner after 3 1 (length fs) (calls number fs 2 ++ end) (omega arith) (omega arith) (omega arith)
      (All-append (IsInner at all) (calls number fs 2) end (calls-inner number 2 fs (omega arith) own)
      (unlocked-inner after (omega arith))))

  timer-inner : (number : ℕ) (fs : List FnId) → at.first + length (timer number fs) ≤ at.exit
      → All (Contains all) fs → All (IsInner at all) (timer number fs)
  timer-inner number fs fits own =
      let few = length-timer number fs in
      let after : ℕ = 3 + 3 * length fs in
      let end : List Step = unlock (after + 1) ∷ epilogue (after + 2) ∷ handler_return (after + 3) ∷ [] in
      locked-inner (Pick after 3 3 (length fs) ∷ (unlocked_calls 3 number fs 2 ++ end)) (omega arith)
      (pick-inner after 3 3 (length fs) (unlocked_calls 3 number fs 2 ++ end) (omega arith) (omega arith) (omega arith)
      (All-append (IsInner at all) (unlocked_calls 3 number fs 2) end
      (unlocked_calls-inner 3 number 2 fs (omega arith) (omega arith) own) (unlocked-inner after (omega arith))))

-- the call of the one function, and what is after it
call-inner : (at : Placing) (number : ℕ) (f : FnId) (ss : List Step) → at.first + 1 ≤ at.exit
    → All (IsInner at (f ∷ [])) ss → All (IsInner at (f ∷ [])) (Call number f 1 ∷ ss)
call-inner at number f ss fits rest =
    act-inner at (f ∷ []) (Call number f 1) ss fits
    (All-head (Contains (f ∷ [])) f [] (All-contains_itself (f ∷ []))) tt rest

pub steps-inner : (at : Placing) (number : ℕ) (c : Context) → at.first + length (steps number c) ≤ at.exit
    → All (IsInner at (functions_of c)) (steps number c)
steps-inner at number (Main f) fits =
    call-inner at number f.function [] (omega arith) (All-nil (IsInner at (f.function ∷ [])))
steps-inner at number (Thread f) fits =
    call-inner at number f.function (thread_return 2 ∷ []) (omega arith)
    (act-inner at (f.function ∷ []) (thread_return 2) [] (omega arith) tt tt (All-nil (IsInner at (f.function ∷ []))))
steps-inner at number (Vector f fast) fits =
    call-inner at number f.function (handler_return 2 ∷ []) (omega arith)
    (act-inner at (f.function ∷ []) (handler_return 2) [] (omega arith) tt tt (All-nil (IsInner at (f.function ∷ []))))
steps-inner at number (Callback fs true) fits =
    locked_callback-inner at fs.items number fs.items fits (All-contains_itself fs.items)
steps-inner at number (Callback fs false) fits =
    callback-inner at fs.items number fs.items fits (All-contains_itself fs.items)
steps-inner at number (Timer fs) fits =
    timer-inner at fs.items number fs.items fits (All-contains_itself fs.items)

pub steps-lead : (at : Placing) (number : ℕ) (c : Context) → at.first + length (steps number c) ≤ at.exit
    → All (LeadsWithin at) (steps number c)
steps-lead at number c fits =
    All-weaker (IsInner at (functions_of c)) (LeadsWithin at) (λ s inner. inner.leads) (steps number c)
    (steps-inner at number c fits)
