-- Where something stands in the file and in memory.
use Rattle.std.specs.Prelude.{ℕ, ◌+◌, ◌^◌, ◌<◌, Bool, List, nat_lt}
use Rattle.std.specs.List.{slice_index_or}

-- a range of the file and one of memory, the alignment, and where it is loaded from
pub record Record : Type 0 where
  pub file_size : ℕ
  pub mem_size : ℕ
  pub alignment : ℕ
  pub file_offset : ℕ
  pub mem_offset : ℕ
  pub lma_offset : ℕ

abbrev pub file_end : Record → ℕ
file_end r = r.file_offset + r.file_size

abbrev pub mem_end : Record → ℕ
mem_end r = r.mem_offset + r.mem_size

-- whether what stands there has bytes in memory
abbrev pub is_filled : Record → Bool
is_filled r = nat_lt 0 r.mem_size

-- whether it has bytes in the file
abbrev pub has_file_bytes : Record → Bool
has_file_bytes r = nat_lt 0 r.file_size

-- both ends are below 2^64
pub record Fits (r : Record) : Type 0 where
  pub file : file_end r < 2 ^ 64
  pub mem : mem_end r < 2 ^ 64

-- nothing, at the start of all
abbrev pub nowhere : Record
nowhere = record { file_size = 0; mem_size = 0; alignment = 1; file_offset = 0; mem_offset = 0; lma_offset = 0 }

-- the record with this number, nowhere where there is none
abbrev pub record_at : List Record → ℕ → Record
record_at records p = slice_index_or records p nowhere
