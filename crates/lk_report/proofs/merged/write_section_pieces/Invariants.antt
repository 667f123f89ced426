use Rattle.std.proofs.Common.{◌≡◌, ◌++◌, drop}
use Rattle.std.specs.Prelude.{string_bytes}
use Rattle.lk_report.specs.MergedLines.{lines_from}
use Rattle.lk_report.proofs.PieceLines.{pieces_in}
use Rattle.lk_report.proofs.merged.write_section_pieces.Given as goal

-- the text so far, followed by the lines of the buckets that are left, is the whole
abbrev pub invariant-loop-bucket : goal.invariant-loop-bucket
invariant-loop-bucket l =
    string_bytes l.text ++ lines_from l.number l.address (pieces_in (drop l.bucket-index l.bucket-items)) ≡ string_bytes l.initial.text ++ lines_from l.number l.start (pieces_in l.bucket-items)
