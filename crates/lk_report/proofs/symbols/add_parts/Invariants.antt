use Rattle.std.proofs.Common.{◌≡◌, ◌++◌, ◌+◌, ◌-◌, ◌<◌, ◌≤◌, ℕ, length}
use Rattle.std.specs.Prelude.{string_bytes, vec_len, slice_index_or}
use Rattle.lk_report.specs.Report.{each, symbol_text}
use Rattle.lk_report.specs.SymbolParts.{IsMade, lines_from, part_start}
use Rattle.lk_report.proofs.symbols.add_parts.Given as goal

-- the lines from the next part on are to follow what is written, and the parts that are left are those
abbrev pub invariant-loop-part : goal.invariant-loop-part
invariant-loop-part l = record {
  few : l.part-iterator.rest.len ≤ vec_len l.fn.parts;
  written : string_bytes l.text ++ lines_from l.resolutions (part_start (length l.resolutions) (vec_len l.fn.parts) (vec_len l.fn.parts - l.part-iterator.rest.len)) ≡ string_bytes l.initial.text ++ each symbol_text 0 l.resolutions;
  ready : (k : ℕ) (d : _) → k < l.part-iterator.rest.len → IsMade l.resolutions (vec_len l.fn.parts) (vec_len l.fn.parts - l.part-iterator.rest.len + k) (slice_index_or l.part-iterator.rest.items k d);
}
