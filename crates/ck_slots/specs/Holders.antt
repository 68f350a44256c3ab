-- What holds function pointers: slots, and what the kernel starts as functions of threads and of timers.
use Rattle.std.specs.Prelude.{ℕ, Bool, true, false, ◌&&◌, ◌==◌, List, Option, Some}
use Rattle.std.specs.Option.{option_map}
use Rattle.ck_prog.specs.Declarations.{Entry, Meaning, Member, MemberOf}
use Rattle.ck_prog.specs.Slots.{Slot, earliest, slot_at, slot_of_entry}
use Rattle.ck_types.specs.Types.{same_struct}

pub data Holder : Type 0 where
  -- the slot that the name in this file, at this offset, declares first
  InSlot : ℕ → ℕ → Holder
  ThreadSink : Holder
  TimerSink : Holder

abbrev pub same_holder : Holder → Holder → Bool
same_holder (InSlot file start) (InSlot other at) = file == other && start == at
same_holder ThreadSink ThreadSink = true
same_holder TimerSink TimerSink = true
same_holder _ _ = false

abbrev pub of_slot : Slot → Holder
of_slot s = InSlot s.at.span.file s.at.span.start

-- of a thing that has a slot, if it has one
abbrev pub holder : Option Slot → Option Holder
holder s = option_map of_slot s

abbrev pub same_offset : Option ℕ → Option ℕ → Bool
same_offset (Some n) (Some m) = n == m
same_offset _ _ = false

-- 6.7.2.1: a struct has no two members at one offset
abbrev pub declares_member : MemberOf → Meaning → Bool
declares_member m (Member d) = same_struct m.of d.of && same_offset m.offset d.offset
declares_member m _ = false

-- the slot of a member, where `all` are the declarations of the project
abbrev pub slot_of_member_meant : List Entry → MemberOf → Option Slot
slot_of_member_meant all m =
    let first = earliest (λ d. declares_member m d.meaning) all in slot_at (slot_of_entry first) first
