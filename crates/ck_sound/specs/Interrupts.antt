-- Interrupts: which handler may begin.
use Rattle.std.specs.Prelude.{ℕ, ◌==◌, Bool, true, false, not, ◌&&◌, nat_lt, List, [], ◌∷◌}
use Rattle.ck_sound.specs.declared.kernel.Phase.{Phase}
use Rattle.ck_sound.specs.declared.kernel.Phase.TheVariants as in_phase
use Rattle.ck_sound.specs.declared.kernel.Source.{Source}
use Rattle.ck_sound.specs.Kernel.{Kernel}

-- its priority number is below the top handler's, if there is one
abbrev pub is_below_top : ℕ → List Source → Bool
is_below_top priority [] = true
is_below_top priority (h ∷ handlers) = nat_lt priority h.priority

-- the phase is Normal, or Suspended for a fast one
abbrev pub phase_allows : Bool → Phase → Bool
phase_allows fast in_phase.Normal = true
phase_allows fast in_phase.Suspended = fast
phase_allows fast _ = false

-- for a regular one, lock_cnt is 0 and `leaving` isn't set
abbrev pub section_allows : Bool → Kernel → Bool
section_allows true k = true
section_allows false k = (k.lock_cnt == 0) && not k.leaving

abbrev pub may_enter : Source → Kernel → Bool
may_enter source k =
    is_below_top source.priority k.handlers && (phase_allows source.fast k.phase && section_allows source.fast k)

-- the handler is on top
abbrev pub entered : Source → Kernel → Kernel
entered source k = record k { handlers = source ∷ k.handlers }
