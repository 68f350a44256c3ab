-- Worked examples, computed on the definitions: a lock in one branch, a helper that is called in two states, and
-- recursion. Each program's `main` is function 0, and a synthetic function calls it.
use Rattle.std.proofs.Common.{◌≡◌, ℕ, List, [], ◌∷◌, Option, Some, None, refl}
use Rattle.ck_base.specs.declared.spans.FnId.{FnId}
use Rattle.ck_base.specs.declared.refusals.Spot.TheVariants.{Nowhere}
use Rattle.ck_base.specs.declared.ops.Op.{Op}
use Rattle.ck_base.specs.declared.ops.Op.TheVariants.{Init, Lock, Unlock}
use Rattle.ck_base.specs.declared.states.State.TheVariants.{TI, TN, TL}
use Rattle.ck_base.specs.declared.states.Kind.{Kind}
use Rattle.ck_base.specs.declared.states.Kind.TheVariants.{Sv}
use Rattle.ck_graph.specs.declared.points.Edge.{Edge}
use Rattle.ck_graph.specs.declared.points.Label.TheVariants as label
use Rattle.ck_graph.specs.declared.points.ActName.TheVariants as name
use Rattle.ck_graph.specs.declared.points.PointKind.{PointKind}
use Rattle.ck_graph.specs.declared.points.PointKind.TheVariants.{Plain, Act, Call, Exit}
use Rattle.ck_graph.specs.declared.points.FunctionPart.{FunctionPart}
use Rattle.ck_graph.specs.declared.entries.Entry.TheVariants as entry
use Rattle.ck_graph.specs.declared.entries.Root.{Root}
use Rattle.ck_graph.specs.Flow.{Flow, Point, point_at, function_at}
use Rattle.ck_graph.specs.Walk.{Configuration, TakeEdge, EnterTarget, ReturnToCaller, walk}
use Rattle.ck_graph.specs.Forbidden.{alarm_in}

abbrev function : ℕ → FnId
function n = record { 0 = n }

abbrev edges_to : List ℕ → List Edge
edges_to [] = []
edges_to (n ∷ rest) = record { to = record { 0 = n }; label = label.Plain } ∷ edges_to rest

abbrev point : PointKind → ℕ → List ℕ → List FnId → Point
point kind owner to targets = record {
  kind = kind;
  function = function owner;
  site = Nowhere;
  path = [];
  order = [];
  side = 0;
  edges = edges_to to;
  targets = targets;
}

abbrev act_of : Op → PointKind
act_of op = Act op (name.Outside 0)

abbrev ends : ℕ → ℕ → FunctionPart
ends first exit = record { first = record { 0 = first }; exit = record { 0 = exit } }

abbrev main_root : ℕ → Root
main_root n = record { entry = entry.Main; function = function n; start = TI }

-- the alarm of the configuration that a walk reaches
abbrev alarm_after : Flow → Option Configuration → Option (Option Kind)
alarm_after flow None = None
alarm_after flow (Some c) = Some (alarm_in (point_at flow c.top.point).kind c.state)

-- a lock in one branch: Init; a test that goes to Lock or past it; Unlock
one_branch : Flow
one_branch = record {
  points =
      point (act_of Init) 0 (1 ∷ []) [] ∷ point Plain 0 (2 ∷ 3 ∷ []) [] ∷ point (act_of Lock) 0 (3 ∷ []) [] ∷
      point (act_of Unlock) 0 (4 ∷ []) [] ∷ point Exit 0 [] [] ∷
      point (Call 0) 1 (6 ∷ []) (function 0 ∷ []) ∷ point Exit 1 [] [] ∷ [];
  functions = ends 0 4 ∷ ends 5 6 ∷ [];
}

-- past the lock, Unlock in TN is SV#5
past_the_lock : alarm_after one_branch (walk one_branch (main_root 1) (EnterTarget 0 ∷ TakeEdge 0 ∷ TakeEdge 1 ∷ []))
    ≡ Some (Some (Sv 5))
unfolding one_branch point_at function_at
past_the_lock = refl

-- through the lock, the walk ends back in the synthetic function, at its exit, in TN
through_the_lock : walk one_branch (main_root 1)
    (EnterTarget 0 ∷ TakeEdge 0 ∷ TakeEdge 0 ∷ TakeEdge 0 ∷ TakeEdge 0 ∷ ReturnToCaller ∷ [])
    ≡ Some (record { top = record { point = 6; entered = TI }; below = []; state = TN })
unfolding one_branch point_at function_at
through_the_lock = refl

-- a helper in two states: Init; helper; Lock; helper; Unlock
helper_twice : Flow
helper_twice = record {
  points =
      point (act_of Init) 0 (1 ∷ []) [] ∷ point (Call 0) 0 (2 ∷ []) (function 1 ∷ []) ∷
      point (act_of Lock) 0 (3 ∷ []) [] ∷
      point (Call 1) 0 (4 ∷ []) (function 1 ∷ []) ∷ point (act_of Unlock) 0 (5 ∷ []) [] ∷ point Exit 0 [] [] ∷
      point Plain 1 (7 ∷ []) [] ∷ point Exit 1 [] [] ∷
      point (Call 2) 2 (9 ∷ []) (function 0 ∷ []) ∷ point Exit 2 [] [] ∷ [];
  functions = ends 0 5 ∷ ends 6 7 ∷ ends 8 9 ∷ [];
}

-- the second call's helper is entered in TL and returns to the second call alone
second_helper : walk helper_twice (main_root 2)
    (EnterTarget 0 ∷ TakeEdge 0 ∷ EnterTarget 1 ∷ TakeEdge 0 ∷ ReturnToCaller ∷
    TakeEdge 0 ∷ EnterTarget 1 ∷ TakeEdge 0 ∷ [])
    ≡ Some (record {
      top = record { point = 7; entered = TL };
      below = record { point = 3; entered = TI } ∷ record { point = 8; entered = TI } ∷ [];
      state = TL;
    })
unfolding helper_twice point_at function_at
second_helper = refl

after_the_second_helper : walk helper_twice (main_root 2)
    (EnterTarget 0 ∷ TakeEdge 0 ∷ EnterTarget 1 ∷ TakeEdge 0 ∷ ReturnToCaller ∷
    TakeEdge 0 ∷ EnterTarget 1 ∷ TakeEdge 0 ∷ ReturnToCaller ∷ [])
    ≡ Some (record {
      top = record { point = 4; entered = TI };
      below = record { point = 8; entered = TI } ∷ [];
      state = TL;
    })
unfolding helper_twice point_at function_at
after_the_second_helper = refl

-- recursion: `down` calls itself or unlocks; `main` is Init; Lock; down; Unlock
recursive : Flow
recursive = record {
  points =
      point (act_of Init) 0 (1 ∷ []) [] ∷ point (act_of Lock) 0 (2 ∷ []) [] ∷
      point (Call 0) 0 (3 ∷ []) (function 1 ∷ []) ∷
      point (act_of Unlock) 0 (4 ∷ []) [] ∷ point Exit 0 [] [] ∷
      point Plain 1 (6 ∷ 7 ∷ []) [] ∷ point (Call 1) 1 (8 ∷ []) (function 1 ∷ []) ∷
      point (act_of Unlock) 1 (8 ∷ []) [] ∷ point Exit 1 [] [] ∷
      point (Call 2) 2 (10 ∷ []) (function 0 ∷ []) ∷ point Exit 2 [] [] ∷ [];
  functions = ends 0 4 ∷ ends 5 8 ∷ ends 9 10 ∷ [];
}

-- two calls deep, `down` unlocks and returns twice, and the unlock of `main` is SV#5
after_recursion : alarm_after recursive (walk recursive (main_root 2)
    (EnterTarget 0 ∷ TakeEdge 0 ∷ TakeEdge 0 ∷ EnterTarget 1 ∷ TakeEdge 0 ∷ EnterTarget 1 ∷ TakeEdge 1 ∷ TakeEdge 0 ∷
    ReturnToCaller ∷ ReturnToCaller ∷ []))
    ≡ Some (Some (Sv 5))
unfolding recursive point_at function_at
after_recursion = refl

-- an exit without a frame below has no move, and neither has an edge that isn't there
no_move_at_the_end : walk recursive (main_root 1) (TakeEdge 1 ∷ [])
    ≡ Some (record { top = record { point = 7; entered = TI }; below = []; state = TI })
unfolding recursive point_at function_at
no_move_at_the_end = refl

no_third_edge : walk recursive (main_root 1) (TakeEdge 2 ∷ []) ≡ None
unfolding recursive point_at function_at
no_third_edge = refl
