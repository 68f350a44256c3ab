-- Wakes: which of the waiting threads become ready.
use Rattle.std.specs.Prelude.{ℕ, zero, suc, ◌%◌, Bool, false, ◌||◌, List, slice_set}
use Rattle.ck_sound.specs.declared.threads.Thread.{Thread}
use Rattle.ck_sound.specs.declared.threads.ThreadStatus.{ThreadStatus}
use Rattle.ck_sound.specs.declared.threads.ThreadStatus.TheVariants.{Ready, Waiting}
use Rattle.ck_sound.specs.Choices.{first, later}
use Rattle.ck_sound.specs.Threads.{thread_at, waits, is_above, count, nth_place}

-- a waiting thread becomes ready
abbrev pub woken_status : ThreadStatus → ThreadStatus
woken_status Waiting = Ready
woken_status status = status

abbrev pub woken : Thread → Thread
woken t = record t { status = woken_status t.status }

-- what wakes leave: the threads, the choices that are left, and whether one that was woken is above a given priority
pub record Woken : Type 0 where
  pub threads : List Thread
  pub choices : List ℕ
  pub above : Bool

-- one choice among those that still wait
abbrev pub waiting_place : List Thread → ℕ → ℕ
waiting_place threads choice = nth_place waits threads (choice % count waits threads)

-- so many threads are woken, each by a choice
unfoldable pub wake_each : ℕ → ℕ → List Thread → List ℕ → Bool → Woken
wake_each priority zero threads choices above = record { threads = threads; choices = choices; above = above }
wake_each priority (suc n) threads choices above =
    let place = waiting_place threads (first choices) in
    let t = woken (thread_at threads place) in
    wake_each priority n (slice_set threads place t) (later choices) (above || is_above priority t)

-- A choice among 0 to n, for the n threads that wait, says how many are woken. Then each is a choice among those that
-- still wait.
unfoldable pub wake : ℕ → List Thread → List ℕ → Woken
wake priority threads choices =
    wake_each priority (first choices % suc (count waits threads)) threads (later choices) false
