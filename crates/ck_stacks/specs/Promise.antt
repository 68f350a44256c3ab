-- The two laws on bare stacks: where no walk meets an alarm, no run of threads and nested interrupts halts badly, and
-- each stack is that of a walk from its root, in the state that the kernel's part of the world says.
use Rattle.std.specs.Prelude.{◌≡◌, Bool, List, [], ◌∷◌, Option, Some, None, Contains}
use Rattle.ck_base.specs.declared.states.State.{State}
use Rattle.ck_base.specs.Counters.{status_of}
use Rattle.ck_graph.specs.declared.entries.Root.{Root}
use Rattle.ck_graph.specs.Flow.{Flow}
use Rattle.ck_graph.specs.Walk.{Configuration, Reaches}
use Rattle.ck_graph.specs.Forbidden.{AreAlarms}
use Rattle.ck_sound.specs.Laws.{IsSoundWorld}
use Rattle.ck_sound.specs.World.{World, Event, after, first_world, IsNoBadHalt}
use Rattle.ck_stacks.specs.BareStacks.{Stack, NoMemory, stack_of, start_of, Numbers, bare_stacks}
use Rattle.ck_stacks.specs.Projects.{IsProject}

-- main's stack, alone
abbrev pub start_world : Flow → Root → World NoMemory Stack
start_world flow main = first_world (record {}) (start_of flow main)

-- the world after a list of events
abbrev pub world_after : Flow → List Root → Numbers → Root → List Event → World NoMemory Stack
world_after flow roots numbers main events = after (bare_stacks flow roots numbers) (start_world flow main) events

-- Where the alarm set is empty, no list of events halts the machine with SV#1 to SV#11 or ORDER.
abbrev pub NoBadHalt : Type 0
NoBadHalt =
    (flow : Flow) (roots : List Root) (numbers : Numbers) (main : Root) →
    IsProject flow roots numbers main → AreAlarms flow roots [] → (events : List Event) →
    IsNoBadHalt (world_after flow roots numbers main events).stop

-- where a status pair is open, its status is the kept one
abbrev pub KeepsStatus : Option Bool → Option Bool → Type 0
KeepsStatus None kept = Unit {0}
KeepsStatus (Some locked) kept = kept ≡ Some locked

-- the root of this stack is one of the roots, and a walk from it reaches a configuration with the points of this stack,
-- in this state
pub record Covered (flow : Flow) (roots : List Root) (stack : Stack) (state : State) : Type 0 where
  pub listed : Contains roots stack.root
  pub c : Configuration
  pub reached : Reaches flow (stack.root ∷ []) c
  pub stack_is : stack_of stack.root stack.status c ≡ stack
  pub state_is : c.state ≡ state
  pub status_is : KeepsStatus (status_of c.state) stack.status

abbrev pub Within : NoMemory → Type 0
Within memory = Unit {0}

abbrev pub Covers : Flow → List Root → NoMemory → Stack → State → Type 0
Covers flow roots memory stack state = Covered flow roots stack state

-- Where the alarm set is empty, after every list of events each stack is covered by a walk from its root, and
-- the kernel's part of the world is as the states of these walks say.
abbrev pub StaysSound : Type 0
StaysSound =
    (flow : Flow) (roots : List Root) (numbers : Numbers) (main : Root) →
    IsProject flow roots numbers main → AreAlarms flow roots [] → (events : List Event) →
    IsSoundWorld numbers.kernel_priority Within (Covers flow roots) (world_after flow roots numbers main events)
