-- The status that a stack keeps is that of its open pair, after each act that is allowed.
use Rattle.std.proofs.Common.{◌≡◌, ℕ, zero, suc, Bool, true, false, List, Option, Some, refl, arith}
use Rattle.ck_base.specs.declared.ops.Op.{Op}
use Rattle.ck_base.specs.declared.ops.Op.TheVariants.{Init, GetStatus, RestoreStatus}
use Rattle.ck_base.specs.declared.states.State.{State}
use Rattle.ck_base.specs.declared.states.State.TheVariants.{TI, TN, TL, TP, HO, HL, XL, NL, NP, OX, ON}
use Rattle.ck_base.specs.Act.{act}
use Rattle.ck_base.specs.Counters.{status_of}
use Rattle.ck_graph.specs.declared.entries.Root.{Root}
use Rattle.ck_graph.specs.Flow.{Flow}
use Rattle.ck_sound.specs.Sound.{LockOf}
use Rattle.ck_sound.specs.SystemStates.{IsNext, after_outcome}
use Rattle.ck_sound.specs.World.{kept_by}
use Rattle.ck_stacks.specs.BareStacks.{Stack, Numbers, bare_stacks}
use Rattle.ck_stacks.specs.Promise.{KeepsStatus}

-- the status that a stack keeps after an act at a lock_cnt
abbrev pub status_kept : Op → ℕ → Option Bool → Option Bool
status_kept GetStatus zero status = Some false
status_kept GetStatus (suc lock) status = Some true
status_kept _ lock status = status

pub kept-is : (flow : Flow) (roots : List Root) (numbers : Numbers) (op : Op) (lock : ℕ) (stack : Stack) →
    kept_by (bare_stacks flow roots numbers) op lock stack ≡ record stack { status = status_kept op lock stack.status }
kept-is flow roots numbers GetStatus zero stack = refl
kept-is flow roots numbers GetStatus (suc lock) stack = refl
kept-is flow roots numbers _ lock stack = refl

pub keeps-status : (op : Op) (s : State) (lock : ℕ) (kept : Option Bool) → LockOf op s lock → IsNext (act op s) →
    KeepsStatus (status_of s) kept → KeepsStatus (status_of (after_outcome (act op s) s)) (status_kept op lock kept)
keeps-status GetStatus TN zero kept l n h = refl
keeps-status GetStatus HO zero kept l n h = refl
keeps-status GetStatus TL (suc lock) kept l n h = refl
keeps-status GetStatus TP (suc lock) kept l n h = refl
keeps-status GetStatus HL (suc lock) kept l n h = refl
keeps-status GetStatus TN (suc lock) kept l n h = absurd (cc)
keeps-status GetStatus HO (suc lock) kept l n h = absurd (cc)
keeps-status GetStatus TL zero kept l n h = absurd (cc)
keeps-status GetStatus TP zero kept l n h = absurd (cc)
keeps-status GetStatus HL zero kept l n h = absurd (cc)
keeps-status GetStatus _ lock kept l n h = absurd n
keeps-status RestoreStatus XL lock kept l n h = tt
keeps-status RestoreStatus NL lock kept l n h = tt
keeps-status RestoreStatus NP lock kept l n h = tt
keeps-status RestoreStatus OX lock kept l n h = tt
keeps-status RestoreStatus ON lock kept l n h = tt
keeps-status RestoreStatus _ lock kept l n h = absurd n
keeps-status Init TI lock kept l n h = h
keeps-status _ _ lock kept l n h = first_of (assumption, cc, grind (arith))
