-- A sink in memory: what it shows, how much it takes, and when a write fails.
use Rattle.std.specs.Prelude.{ℕ, ◌<◌, ◌-◌, ◌≡◌, ◌⊎◌, List, length, min}
use Rattle.ck_io.specs.FaultPlan.{FailsNext}
use Rattle.ck_io.specs.declared.memory_sink.MemorySink.{MemorySink}

-- the bytes that it took so far
abbrev pub sink_taken : MemorySink → List ℕ
sink_taken sink = sink.bytes.items

-- how many bytes it takes in all
abbrev pub sink_capacity : MemorySink → ℕ
sink_capacity sink = sink.capacity

-- how many bytes it takes at one write
abbrev pub sink_most : MemorySink → ℕ
sink_most sink = sink.most

-- the numbers of the writes that fail, counted from 1
abbrev pub sink_fail : MemorySink → List ℕ
sink_fail sink = sink.plan.fail.items

-- how many writes were made so far
abbrev pub sink_calls : MemorySink → ℕ
sink_calls sink = sink.plan.calls

-- how many writes failed so far
abbrev pub sink_faults : MemorySink → ℕ
sink_faults sink = sink.plan.faults

-- how many more bytes it takes
abbrev pub room_left : MemorySink → ℕ
room_left sink = sink_capacity sink - length (sink_taken sink)

-- how many bytes of a piece of this length it takes at a write that doesn't fail
abbrev pub takes_of : MemorySink → ℕ → ℕ
takes_of sink piece = min piece (min (sink_most sink) (room_left sink))

-- a write of a piece of this length fails: by its number, or since the piece isn't empty and no room is left
abbrev pub WriteFails : MemorySink → ℕ → Type 0
WriteFails sink piece = FailsNext (sink_fail sink) (sink_calls sink) ⊎ ((0 < piece) × (room_left sink ≡ 0))
