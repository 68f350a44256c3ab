-- Laws about what reaches what, so that a list of facts that was worked out is shown to be all of them.
use Rattle.std.specs.Prelude.{◌≡◌, ℕ, List, true, Option}
use Rattle.ck_slots.specs.Givens.{TypedProject}
use Rattle.ck_slots.specs.Holders.{Holder}
use Rattle.ck_slots.specs.Listed.{Reached, is_among, is_closed, is_justified, is_listed, targets}
use Rattle.ck_slots.specs.Origins.{Origin}
use Rattle.ck_slots.specs.Reaching.{Reaches, IsTarget}
use Rattle.ck_types.specs.Types.{CType}

-- a closed list has all that reaches a holder
abbrev pub ClosedListsCover : Type 0
ClosedListsCover =
    (p : TypedProject) (known : List Reached) → is_closed p known ≡ true → (n : ℕ) (h : Holder) → Reaches p n h →
    is_listed known n h ≡ true

-- what a justified list has reaches its holder
abbrev pub JustifiedListsReach : Type 0
JustifiedListsReach =
    (p : TypedProject) (known : List Reached) → is_justified p known ≡ true → (n : ℕ) (h : Holder) →
    is_listed known n h ≡ true → Reaches p n h

-- the targets by a closed list are all targets; those by a justified list are targets
abbrev pub ClosedListsHaveTargets : Type 0
ClosedListsHaveTargets =
    (p : TypedProject) (known : List Reached) → is_closed p known ≡ true → (type : Option CType) (called : Origin)
    (m : ℕ) → IsTarget p type called m → is_among m (targets p known type called) ≡ true

abbrev pub JustifiedListsHaveTargets : Type 0
JustifiedListsHaveTargets =
    (p : TypedProject) (known : List Reached) → is_justified p known ≡ true → (type : Option CType)
    (called : Origin) (m : ℕ) → is_among m (targets p known type called) ≡ true → IsTarget p type called m
