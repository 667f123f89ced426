use Rattle.std.proofs.Common.{◌≡◌, length, map}
use Rattle.std.specs.Prelude.{string_bytes}
use Rattle.lk_layout.specs.Layouts.{emitted_count, is_told_singleton}
use Rattle.lk_link.specs.Walks.{input_of}
use Rattle.lk_report.proofs.SingleLines.{AreWritten}
use Rattle.lk_report.proofs.singles.write_singles.Given as goal

-- the lines so far are written, and the next singleton gets the index behind those
abbrev pub invariant-loop-input : goal.invariant-loop-input
invariant-loop-input l = record {
  written : AreWritten (is_told_singleton l.link l.layout) (emitted_count l.layout) (map input_of l.yielded) (string_bytes l.initial.text) (string_bytes l.text) l.index;
  number : l.number ≡ length l.yielded;
}
