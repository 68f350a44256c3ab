-- What the synthetic functions do, in the words of docs/FLOW.md ("Entries"): which acts they make and which functions
-- they call, one after the other, on the ways from their first point to their exit.
use Rattle.std.specs.Prelude.{◌≡◌, ◌↔◌, ℕ, ◌+◌, true, false, List, [], ◌∷◌, ◌++◌, Some, All, Contains}
use Rattle.std.specs.Prelude.{slice_get}
use Rattle.std.specs.List.{flat_map}
use Rattle.ck_base.specs.declared.ops.Op.{Op}
use Rattle.ck_base.specs.declared.ops.Op.TheVariants.{Prologue, Epilogue, LockIsr, UnlockIsr, ExitNormal}
use Rattle.ck_base.specs.declared.ops.Op.TheVariants.{HandlerReturn}
use Rattle.ck_base.specs.declared.spans.FnId.{FnId}
use Rattle.ck_graph.specs.declared.points.ActName.{ActName}
use Rattle.ck_graph.specs.declared.points.ActName.TheVariants.{Kernel, Return, ThreadReturn}
use Rattle.ck_graph.specs.declared.points.Edge.{Edge}
use Rattle.ck_graph.specs.declared.points.PointKind.TheVariants.{Plain, Act, Call, Exit}
use Rattle.ck_graph.specs.Flow.{Flow, point_at, function_count}
use Rattle.ck_graph.specs.Steps.{kind_at, first_of, HasEdge}
use Rattle.ck_kernel.specs.KernelTable.{row_numbered}
use Rattle.ck_contexts.specs.declared.contexts.Context.{Context}
use Rattle.ck_contexts.specs.declared.contexts.Context.TheVariants.{Main, Thread, Vector, Callback, Timer}
use Rattle.ck_contexts.specs.Extended.{extended}

pub data Action : Type 0 where
  Acts : Op → ActName → Action
  Calls : FnId → Action

-- along edges, a way from a point to the exit does these actions; each function that is called returns
pub data Does (flow : Flow) : ℕ → List Action → Type 0 where
  ends : (p : ℕ) → kind_at flow p ≡ Exit → Does flow p []
  passes :
      (p k : ℕ) (e : Edge) (actions : List Action) → kind_at flow p ≡ Plain → HasEdge flow p k e →
      Does flow e.to.0 actions → Does flow p actions
  acts :
      (p : ℕ) (op : Op) (name : ActName) (e : Edge) (actions : List Action) → kind_at flow p ≡ Act op name →
      HasEdge flow p 0 e → Does flow e.to.0 actions → Does flow p (Acts op name ∷ actions)
  calls :
      (p number : ℕ) (f : FnId) (e : Edge) (actions : List Action) → kind_at flow p ≡ Call number →
      Contains (point_at flow p).targets f → HasEdge flow p 0 e → Does flow e.to.0 actions →
      Does flow p (Calls f ∷ actions)

-- the kernel's acts round what it calls, by their rows in docs/KERNEL.md
abbrev pub lock : Action
lock = Acts LockIsr (Kernel (row_numbered 6))

abbrev pub unlock : Action
unlock = Acts UnlockIsr (Kernel (row_numbered 7))

abbrev pub prologue : Action
prologue = Acts Prologue (Kernel (row_numbered 8))

abbrev pub epilogue : Action
epilogue = Acts Epilogue (Kernel (row_numbered 9))

abbrev pub handler_return : Action
handler_return = Acts HandlerReturn Return

abbrev pub thread_return : Action
thread_return = Acts ExitNormal ThreadReturn

-- between what comes first and what comes last, any list of these functions is called, each with what is round its call
pub record CallAny (first : List Action) (around : FnId → List Action) (last : List Action) (fs : List FnId)
    (actions : List Action) : Type 0
  where
    pub called : List FnId
    pub own : All (Contains fs) called
    pub is : actions ≡ first ++ (flat_map around called ++ last)

-- the call alone, and the call outside the critical section
abbrev pub alone : FnId → List Action
alone f = Calls f ∷ []

abbrev pub unlocked : FnId → List Action
unlocked f = unlock ∷ Calls f ∷ lock ∷ []

-- what is done round a context
abbrev pub AreDone : Context → List Action → Type 0
AreDone (Main f) actions = actions ≡ Calls f.function ∷ []
AreDone (Thread f) actions = actions ≡ Calls f.function ∷ thread_return ∷ []
AreDone (Vector f fast) actions = actions ≡ Calls f.function ∷ handler_return ∷ []
AreDone (Callback fs false) actions =
    CallAny (prologue ∷ []) alone (epilogue ∷ handler_return ∷ []) fs.items actions
AreDone (Callback fs true) actions =
    CallAny (prologue ∷ lock ∷ []) alone (unlock ∷ epilogue ∷ handler_return ∷ []) fs.items actions
AreDone (Timer fs) actions =
    CallAny (prologue ∷ lock ∷ []) unlocked (unlock ∷ epilogue ∷ handler_return ∷ []) fs.items actions

-- in the whole graph, the ways through the synthetic function of each context, which are numbered in their order, do
-- exactly that
abbrev pub EntriesDo : Type 0
EntriesDo =
    (number : ℕ) (flow : Flow) (contexts : List Context) (k : ℕ) (context : Context) (actions : List Action) →
    slice_get contexts k ≡ Some context →
    let whole = extended number flow contexts in
    Does whole (first_of whole (function_count flow + k)) actions ↔ AreDone context actions
