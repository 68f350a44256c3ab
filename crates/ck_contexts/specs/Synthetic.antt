-- The synthetic functions: what happens before and after the functions that an entry point of the project runs
-- (docs/FLOW.md, "Entries"). Each is a list of steps, one a line; a step becomes a point of the graph. The places in a
-- list count from 0, each step says to which places it leads, and the place after the last step is the exit.
use Rattle.std.specs.Prelude.{ℕ, ◌+◌, ◌*◌, if◌then◌else◌, List, [], ◌∷◌, ◌++◌, length}
use Rattle.ck_base.specs.declared.ops.Op.TheVariants.{Prologue, Epilogue, LockIsr, UnlockIsr, ExitNormal}
use Rattle.ck_base.specs.declared.ops.Op.TheVariants.{HandlerReturn}
use Rattle.ck_base.specs.declared.refusals.Spot.{Spot}
use Rattle.ck_base.specs.declared.refusals.Spot.TheVariants.{Nowhere}
use Rattle.ck_base.specs.declared.spans.FnId.{FnId}
use Rattle.ck_base.specs.declared.states.State.{State}
use Rattle.ck_base.specs.declared.states.State.TheVariants.{TI, TN, HB, FF}
use Rattle.ck_graph.specs.declared.points.ActName.TheVariants.{Kernel, Return, ThreadReturn}
use Rattle.ck_kernel.specs.KernelTable.{row_numbered}
use Rattle.ck_contexts.specs.declared.contexts.Context.{Context}
use Rattle.ck_contexts.specs.declared.contexts.Context.TheVariants.{Main, Thread, Vector, Callback, Timer}
use Rattle.ck_contexts.specs.declared.steps.Step.{Step}
use Rattle.ck_contexts.specs.declared.steps.Step.TheVariants.{Act, Call, Pick}

-- the kernel's acts round what it calls, by their rows in docs/KERNEL.md; each leads to a place
abbrev pub lock : ℕ → Step
lock next = Act LockIsr (Kernel (row_numbered 6)) next

abbrev pub unlock : ℕ → Step
unlock next = Act UnlockIsr (Kernel (row_numbered 7)) next

abbrev pub prologue : ℕ → Step
prologue next = Act Prologue (Kernel (row_numbered 8)) next

abbrev pub epilogue : ℕ → Step
epilogue next = Act Epilogue (Kernel (row_numbered 9)) next

abbrev pub handler_return : ℕ → Step
handler_return next = Act HandlerReturn Return next

abbrev pub thread_return : ℕ → Step
thread_return next = Act ExitNormal ThreadReturn next

-- the calls of these functions, each of which leads to a place; the numbers of calls go on from the first's
abbrev pub calls : ℕ → List FnId → ℕ → List Step
calls number [] next = []
calls number (f ∷ fs) next = Call number f next ∷ calls (number + 1) fs next

-- the calls of these functions, each unlocked before and locked after, from this place of the function on
abbrev pub unlocked_calls : ℕ → ℕ → List FnId → ℕ → List Step
unlocked_calls place number [] next = []
unlocked_calls place number (f ∷ fs) next =
    unlock (place + 1) ∷
    Call number f (place + 2) ∷
    lock next ∷
    unlocked_calls (place + 3) (number + 1) fs next

-- the function is called
abbrev pub main : ℕ → FnId → List Step
main number f =
    Call number f 1 ∷
    []

-- the function is called, and its return ends the thread
abbrev pub thread : ℕ → FnId → List Step
thread number f =
    Call number f 1 ∷
    thread_return 2 ∷
    []

-- the function is called, and returns from the interrupt
abbrev pub vector : ℕ → FnId → List Step
vector number f =
    Call number f 1 ∷
    handler_return 2 ∷
    []

-- between the prologue and the epilogue any list of the functions is called, from the pick and back to it
abbrev pub callback : ℕ → List FnId → List Step
callback number fs =
    let after = 2 + length fs in
    prologue 1 ∷
    Pick after 2 1 (length fs) ∷
    (calls number fs 1 ++
    (epilogue (after + 1) ∷
    handler_return (after + 2) ∷
    []))

-- all of them are called in one critical section
abbrev pub locked_callback : ℕ → List FnId → List Step
locked_callback number fs =
    let after = 3 + length fs in
    prologue 1 ∷
    lock 2 ∷
    Pick after 3 1 (length fs) ∷
    (calls number fs 2 ++
    (unlock (after + 1) ∷
    epilogue (after + 2) ∷
    handler_return (after + 3) ∷
    []))

-- the kernel holds the lock, and gives it up for each call
abbrev pub timer : ℕ → List FnId → List Step
timer number fs =
    let after = 3 + 3 * length fs in
    prologue 1 ∷
    lock 2 ∷
    Pick after 3 3 (length fs) ∷
    (unlocked_calls 3 number fs 2 ++
    (unlock (after + 1) ∷
    epilogue (after + 2) ∷
    handler_return (after + 3) ∷
    []))

-- the steps round a context; the number is that of the first call
abbrev pub steps : ℕ → Context → List Step
steps number (Main f) = main number f.function
steps number (Thread f) = thread number f.function
steps number (Vector f fast) = vector number f.function
steps number (Callback functions locked) =
    if locked then locked_callback number functions.items else callback number functions.items
steps number (Timer functions) = timer number functions.items

-- the functions that a context runs
abbrev pub functions_of : Context → List FnId
functions_of (Main f) = f.function ∷ []
functions_of (Thread f) = f.function ∷ []
functions_of (Vector f fast) = f.function ∷ []
functions_of (Callback functions locked) = functions.items
functions_of (Timer functions) = functions.items

-- the place in the text of all points round a context
abbrev pub site_of : Context → Spot
site_of (Main f) = f.name
site_of (Thread f) = f.name
site_of (Vector f fast) = f.name
site_of (Callback functions locked) = Nowhere
site_of (Timer functions) = Nowhere

-- the state in which a context starts
abbrev pub start_of : Context → State
start_of (Main f) = TI
start_of (Thread f) = TN
start_of (Vector f fast) = if fast then FF else HB
start_of (Callback functions locked) = HB
start_of (Timer functions) = HB
