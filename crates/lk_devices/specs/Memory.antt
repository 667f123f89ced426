-- Devices in memory.
use Rattle.std.specs.Prelude.{ℕ, ◌+◌, ◌-◌, ◌^◌, ◌++◌, ◌==◌, min, List, [], length, take, not, ◌&&◌, if◌then◌else◌}

-- a device in memory: the bytes that it has left or took, the most that one call moves, the numbers of the calls that
-- fail, the number of the next call, and the faults so far
pub record MemoryState : Type 0 where
  pub bytes : List ℕ
  pub most : ℕ
  pub failing : List ℕ
  pub next_call : ℕ
  pub faults : ℕ

-- one that was not called yet
abbrev pub fresh : List ℕ → ℕ → List ℕ → MemoryState
fresh bytes most failing = record { bytes = bytes; most = most; failing = failing; next_call = 0; faults = 0 }

-- the device after a call: calls have numbers from 0 on, and all past the greatest `u64` have that one
abbrev pub called : MemoryState → MemoryState
called device = record device { next_call = min (device.next_call + 1) (2 ^ 64 - 1) }

-- after a call that failed
abbrev pub after_fault : MemoryState → MemoryState
after_fault device = record (called device) { faults = device.faults + 1 }

-- after a call that left it these bytes
abbrev pub with_bytes : MemoryState → List ℕ → MemoryState
with_bytes device bytes = record (called device) { bytes = bytes }

-- how many bytes one read gives into so much room
abbrev pub read_count : MemoryState → ℕ → ℕ
read_count source room = min (min source.most room) (length source.bytes)

-- a sink in memory, and how many bytes it has room for in all
pub record MemorySinkState : Type 0 where
  pub device : MemoryState
  pub room : ℕ

-- one that took nothing yet
abbrev pub empty_sink : ℕ → ℕ → List ℕ → MemorySinkState
empty_sink room most failing = record { device = fresh [] most failing; room = room }

-- how many bytes one write takes of so many: no more than the room that is left
abbrev pub write_count : MemorySinkState → ℕ → ℕ
write_count sink size = min (min sink.device.most size) (sink.room - length sink.device.bytes)

-- the sink after a write that took n bytes of a piece; to take none of some is a fault
abbrev pub after_write : MemoryState → ℕ → List ℕ → MemoryState
after_write device n piece =
    record (with_bytes device (device.bytes ++ take n piece)) {
      faults = (if (n == 0) && not (length piece == 0) then device.faults + 1 else device.faults);
    }
