-- Which graphs, roots and priority numbers the laws speak of: those that the settings of a project give.
use Rattle.std.specs.Prelude.{◌≡◌, ◌≤◌, ℕ, true, List, Some, slice_get, Contains}
use Rattle.ck_base.specs.declared.ops.Op.{Op}
use Rattle.ck_base.specs.declared.states.State.TheVariants.{TI, TN}
use Rattle.ck_graph.specs.declared.points.Edge.{Edge}
use Rattle.ck_graph.specs.declared.points.PointKind.TheVariants.{Act}
use Rattle.ck_graph.specs.declared.points.ActName.{ActName}
use Rattle.ck_graph.specs.declared.entries.Root.{Root}
use Rattle.ck_graph.specs.Flow.{Flow}
use Rattle.ck_graph.specs.Steps.{kind_at, HasEdge}
use Rattle.ck_sound.specs.SystemStates.{entry_state}
use Rattle.ck_stacks.specs.BareStacks.{Numbers, is_thread_entry, is_handler_entry, is_fast_root}

-- a thread starts in TN, a fast handler in FF and any other in HB
pub record IsRoot (numbers : Numbers) (number : ℕ) (root : Root) : Type 0 where
  pub thread : is_thread_entry root.entry ≡ true → root.start ≡ TN
  pub handler : is_handler_entry root.entry ≡ true → root.start ≡ entry_state (is_fast_root numbers number)

pub record IsProject (flow : Flow) (roots : List Root) (numbers : Numbers) (main : Root) : Type 0 where
  -- main is a root, and starts in TI
  pub main_listed : Contains roots main
  pub main_start : main.start ≡ TI
  pub each_root : (number : ℕ) (root : Root) → slice_get roots number ≡ Some root → IsRoot numbers number root
  -- priority numbers are at most 255
  pub in_range : (number : ℕ) → numbers.priority number ≤ 255
  -- each act has its edge, as in every graph without a fault (`act-edges` of proofs/SoundGraphs.antt)
  pub act_edges :
      (point : ℕ) (op : Op) (name : ActName) → kind_at flow point ≡ Act op name →
      (edge : Edge) × HasEdge flow point 0 edge
