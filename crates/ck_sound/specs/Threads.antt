-- Threads in a list, in the order of their creation; a thread's number is its place there, from 0.
use Rattle.std.specs.Prelude.{ℕ, zero, suc, ◌==◌, Bool, true, false, not, ◌&&◌, ◌||◌, if◌then◌else◌, nat_lt, List, []}
use Rattle.std.specs.Prelude.{◌∷◌, slice_index_or}
use Rattle.ck_sound.specs.declared.threads.Thread.{Thread}
use Rattle.ck_sound.specs.declared.threads.ThreadStatus.{ThreadStatus}
use Rattle.ck_sound.specs.declared.threads.ThreadStatus.TheVariants.{Ready, Waiting, Ended}
use Rattle.ck_sound.specs.declared.threads.Left.TheVariants.{New}

-- what a place past the last thread is read as
abbrev pub no_thread : Thread
no_thread = record { priority = 0; status = Ended; left = New }

abbrev pub thread_at : List Thread → ℕ → Thread
thread_at threads place = slice_index_or threads place no_thread

abbrev pub is_ready : ThreadStatus → Bool
is_ready Ready = true
is_ready _ = false

abbrev pub is_waiting : ThreadStatus → Bool
is_waiting Waiting = true
is_waiting _ = false

abbrev pub waits : Thread → Bool
waits t = is_waiting t.status

-- the thread is ready, and above this priority
abbrev pub is_above : ℕ → Thread → Bool
is_above priority t = is_ready t.status && nat_lt priority t.priority

-- some ready thread is above this priority
unfoldable pub ready_above : List Thread → ℕ → Bool
ready_above [] priority = false
ready_above (t ∷ threads) priority = is_above priority t || ready_above threads priority

-- the thread is ready, and no ready one is above it
abbrev pub is_best : List Thread → Thread → Bool
is_best threads t = is_ready t.status && not (ready_above threads t.priority)

-- the thread is ready, with this priority
abbrev pub is_equal : ℕ → Thread → Bool
is_equal priority t = is_ready t.status && (t.priority == priority)

-- some ready thread has this priority
abbrev pub some_equal : List Thread → ℕ → Bool
some_equal [] priority = false
some_equal (t ∷ threads) priority = is_equal priority t || some_equal threads priority

-- how many threads pass a test
unfoldable pub count : (Thread → Bool) → List Thread → ℕ
count test [] = 0
count test (t ∷ threads) = if test t then suc (count test threads) else count test threads

-- the number of the n-th thread that passes a test, from 0
unfoldable pub nth_place : (Thread → Bool) → List Thread → ℕ → ℕ
nth_place test [] n = 0
nth_place test (t ∷ threads) zero = if test t then 0 else suc (nth_place test threads zero)
nth_place test (t ∷ threads) (suc n) =
    if test t then suc (nth_place test threads n) else suc (nth_place test threads (suc n))
