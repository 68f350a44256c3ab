-- Each kind of synthetic function with no, one and two functions, drawn by hand from docs/FLOW.md ("Entries"), and the
-- graph of two of them. The drawings are for the function 3, whose points begin at 10 and whose calls begin at 7.
use Rattle.std.proofs.Common.{◌≡◌, ℕ, List, [], ◌∷◌, map, length, ◌+◌, refl}
use Rattle.ck_base.specs.declared.ops.Op.TheVariants.{Prologue, Epilogue, LockIsr, UnlockIsr, ExitNormal}
use Rattle.ck_base.specs.declared.ops.Op.TheVariants.{HandlerReturn}
use Rattle.ck_base.specs.declared.refusals.Spot.TheVariants.{Nowhere, File}
use Rattle.ck_base.specs.declared.spans.FnId.{FnId}
use Rattle.ck_graph.specs.declared.points.ActName.TheVariants.{Kernel, Return, ThreadReturn}
use Rattle.ck_graph.specs.declared.points.Edge.{Edge}
use Rattle.ck_graph.specs.declared.points.Label.{Label}
use Rattle.ck_graph.specs.declared.points.Label.TheVariants.{Plain, Pick}
use Rattle.ck_graph.specs.declared.points.PointKind.{PointKind}
use Rattle.ck_graph.specs.declared.points.PointKind.TheVariants as kind
use Rattle.ck_graph.specs.Flow.{Flow, Point}
use Rattle.ck_contexts.specs.declared.contexts.Context.TheVariants.{Main, Thread}
use Rattle.ck_contexts.specs.declared.placing.Placing.{Placing}
use Rattle.ck_contexts.specs.declared.steps.Step.{Step}
use Rattle.ck_contexts.specs.Extended.{points_from, extended}
use Rattle.ck_contexts.specs.Synthetic.{main, thread, vector, callback, locked_callback, timer}

-- a point of a drawing: what happens there, where it leads, and which functions it may enter
record Row : Type 0 where
  kind : PointKind
  ways : List Edge
  targets : List FnId

abbrev number : ℕ → FnId
number n = record { 0 = n }

abbrev to : ℕ → Label → Edge
to point label = record { to = record { 0 = point }; label = label }

abbrev act : PointKind → ℕ → Row
act kind next = record { kind = kind; ways = to next Plain ∷ []; targets = [] }

abbrev call : ℕ → ℕ → ℕ → Row
call n f next = record { kind = kind.Call n; ways = to next Plain ∷ []; targets = number f ∷ [] }

abbrev pick : List Edge → Row
pick ways = record { kind = kind.Plain; ways = ways; targets = [] }

abbrev exit : Row
exit = record { kind = kind.Exit; ways = []; targets = [] }

abbrev prologue : PointKind
prologue = kind.Act Prologue (Kernel (record { 0 = 8 }))

abbrev epilogue : PointKind
epilogue = kind.Act Epilogue (Kernel (record { 0 = 9 }))

abbrev lock : PointKind
lock = kind.Act LockIsr (Kernel (record { 0 = 6 }))

abbrev unlock : PointKind
unlock = kind.Act UnlockIsr (Kernel (record { 0 = 7 }))

abbrev handler_return : PointKind
handler_return = kind.Act HandlerReturn Return

abbrev seen : Point → Row
seen point = record { kind = point.kind; ways = point.edges; targets = point.targets }

abbrev at : List Step → Placing
at ss = record { function = number 3; first = 10; exit = 10 + length ss; site = Nowhere }

-- the points of these steps, from 10 on, are those of the drawing
abbrev IsDrawn : List Step → List Row → Type 0
IsDrawn ss rows = map seen (points_from (at ss) 0 ss) ≡ rows

main_drawn : IsDrawn (main 7 (number 4))
    (call 7 4 11 ∷
    exit ∷ [])
main_drawn = refl

thread_drawn : IsDrawn (thread 7 (number 4))
    (call 7 4 11 ∷
    act (kind.Act ExitNormal ThreadReturn) 12 ∷
    exit ∷ [])
thread_drawn = refl

vector_drawn : IsDrawn (vector 7 (number 4))
    (call 7 4 11 ∷
    act handler_return 12 ∷
    exit ∷ [])
vector_drawn = refl

-- callbacks
none_called : IsDrawn (callback 7 [])
    (act prologue 11 ∷
    pick (to 12 (Pick 0) ∷ []) ∷
    act epilogue 13 ∷
    act handler_return 14 ∷
    exit ∷ [])
none_called = refl

one_called : IsDrawn (callback 7 (number 4 ∷ []))
    (act prologue 11 ∷
    pick (to 13 (Pick 0) ∷ to 12 (Pick 1) ∷ []) ∷
    call 7 4 11 ∷
    act epilogue 14 ∷
    act handler_return 15 ∷
    exit ∷ [])
one_called = refl

two_called : IsDrawn (callback 7 (number 4 ∷ number 6 ∷ []))
    (act prologue 11 ∷
    pick (to 14 (Pick 0) ∷ to 12 (Pick 1) ∷ to 13 (Pick 2) ∷ []) ∷
    call 7 4 11 ∷
    call 8 6 11 ∷
    act epilogue 15 ∷
    act handler_return 16 ∷
    exit ∷ [])
two_called = refl

-- locked callbacks
none_called_locked : IsDrawn (locked_callback 7 [])
    (act prologue 11 ∷
    act lock 12 ∷
    pick (to 13 (Pick 0) ∷ []) ∷
    act unlock 14 ∷
    act epilogue 15 ∷
    act handler_return 16 ∷
    exit ∷ [])
none_called_locked = refl

one_called_locked : IsDrawn (locked_callback 7 (number 4 ∷ []))
    (act prologue 11 ∷
    act lock 12 ∷
    pick (to 14 (Pick 0) ∷ to 13 (Pick 1) ∷ []) ∷
    call 7 4 12 ∷
    act unlock 15 ∷
    act epilogue 16 ∷
    act handler_return 17 ∷
    exit ∷ [])
one_called_locked = refl

two_called_locked : IsDrawn (locked_callback 7 (number 4 ∷ number 6 ∷ []))
    (act prologue 11 ∷
    act lock 12 ∷
    pick (to 15 (Pick 0) ∷ to 13 (Pick 1) ∷ to 14 (Pick 2) ∷ []) ∷
    call 7 4 12 ∷
    call 8 6 12 ∷
    act unlock 16 ∷
    act epilogue 17 ∷
    act handler_return 18 ∷
    exit ∷ [])
two_called_locked = refl

-- timers
none_timed : IsDrawn (timer 7 [])
    (act prologue 11 ∷
    act lock 12 ∷
    pick (to 13 (Pick 0) ∷ []) ∷
    act unlock 14 ∷
    act epilogue 15 ∷
    act handler_return 16 ∷
    exit ∷ [])
none_timed = refl

one_timed : IsDrawn (timer 7 (number 4 ∷ []))
    (act prologue 11 ∷
    act lock 12 ∷
    pick (to 16 (Pick 0) ∷ to 13 (Pick 1) ∷ []) ∷
    act unlock 14 ∷
    call 7 4 15 ∷
    act lock 12 ∷
    act unlock 17 ∷
    act epilogue 18 ∷
    act handler_return 19 ∷
    exit ∷ [])
one_timed = refl

two_timed : IsDrawn (timer 7 (number 4 ∷ number 6 ∷ []))
    (act prologue 11 ∷
    act lock 12 ∷
    pick (to 19 (Pick 0) ∷ to 13 (Pick 1) ∷ to 16 (Pick 2) ∷ []) ∷
    act unlock 14 ∷
    call 7 4 15 ∷
    act lock 12 ∷
    act unlock 17 ∷
    call 8 6 18 ∷
    act lock 12 ∷
    act unlock 20 ∷
    act epilogue 21 ∷
    act handler_return 22 ∷
    exit ∷ [])
two_timed = refl

-- a graph of one function, whose one point is its exit, with `main` and a thread that run it
abbrev point : PointKind → ℕ → ℕ → List Edge → List FnId → Point
point kind function place edges targets = record {
  kind = kind;
  function = number function;
  site = File function;
  path = place ∷ [];
  order = [];
  side = 1;
  edges = edges;
  targets = targets;
}

abbrev alone : Flow
alone = record {
  points = point kind.Exit 0 0 [] [] ∷ [];
  functions = record { first = record { 0 = 0 }; exit = record { 0 = 0 } } ∷ [];
}

both : extended 5 alone
    (Main (record { function = number 0; name = File 1 }) ∷ Thread (record { function = number 0; name = File 2 }) ∷ [])
    ≡ record {
      points =
          point kind.Exit 0 0 [] [] ∷
          point (kind.Call 5) 1 0 (to 2 Plain ∷ []) (number 0 ∷ []) ∷
          point kind.Exit 1 1 [] [] ∷
          point (kind.Call 6) 2 0 (to 4 Plain ∷ []) (number 0 ∷ []) ∷
          point (kind.Act ExitNormal ThreadReturn) 2 1 (to 5 Plain ∷ []) [] ∷
          point kind.Exit 2 2 [] [] ∷
          [];
      functions =
          record { first = record { 0 = 0 }; exit = record { 0 = 0 } } ∷
          record { first = record { 0 = 1 }; exit = record { 0 = 2 } } ∷
          record { first = record { 0 = 3 }; exit = record { 0 = 5 } } ∷
          [];
    }
both = refl
