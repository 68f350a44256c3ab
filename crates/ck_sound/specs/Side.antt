-- The C side: what the machine needs to know of C, as functions of a memory and of the stack of one context.
use Rattle.std.specs.Prelude.{ℕ, Bool, List, Option}
use Rattle.ck_base.specs.declared.ops.Op.{Op}
use Rattle.ck_sound.specs.declared.kernel.Source.{Source}
use Rattle.ck_sound.specs.declared.stops.Undefined.{Undefined}
use Rattle.ck_sound.specs.Kernel.{Request}

-- where a stack is: at an act, at the exit of its lowest frame, or elsewhere
pub data Place : Type 0 where
  AtAct : Op → Place
  AtEnd : Place
  Between : Place

-- what a move of C gives
pub data Moved (M C : Type 0) : Type 0 where
  MovesTo : M → C → Moved M C
  MoveFails : Undefined → Moved M C

-- what an act asks of the kernel, with the choices that are left
pub data Asked (C : Type 0) : Type 0 where
  Asks : Request C → List ℕ → Asked C
  AskFails : Undefined → Asked C

-- a handler, and the stack with which it begins
pub record Handler (C : Type 0) : Type 0 where
  pub source : Source
  pub stack : C

-- Where a stack is, one move of it, what its act asks, the effect of an act that is done on memory and stack, the
-- handlers by the numbers of their roots, and the top frame with a status that it keeps: true stands for "locked".
pub record Side (M C : Type 0) : Type 0 where
  pub place : C → Place
  pub moved : M → C → List ℕ → Moved M C
  pub asked : M → C → List ℕ → Asked C
  pub finished : M → C → List ℕ → M × C
  pub handler : ℕ → Option (Handler C)
  pub keeps : C → Bool → C
