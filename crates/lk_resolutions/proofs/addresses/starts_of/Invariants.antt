use Rattle.std.proofs.Common.{◌≡◌, ◌++◌, ◌+◌, ◌^◌, ◌<◌, ℕ, drop, map, vec_len}
use Rattle.std.specs.Prelude.{slice_index}
use Rattle.lk_expressions.specs.Records.{record_at}
use Rattle.lk_resolutions.proofs.addresses.starts_of.Given as goal

-- the starts so far, followed by those that are left, are all; those so far have room behind them
abbrev pub invariant-loop-part : goal.invariant-loop-part
invariant-loop-part l = record {
  all : l.starts.items ++ map (λ r. r.mem_offset) (drop l.part-index l.parts) ≡ map (λ r. r.mem_offset) l.parts;
  count : vec_len l.starts ≡ l.part-index;
  fit : (p : ℕ) → p < l.part-index → slice_index l.starts.items p + (record_at l.parts p).mem_size < 2 ^ 64;
}
