use Rattle.std.proofs.Common.{◌≡◌, ◌++◌, drop, map}
use Rattle.std.specs.Prelude.{string_bytes}
use Rattle.lk_merge.specs.Buckets.{piece_of}
use Rattle.lk_report.specs.MergedLines.{behind_all, lines_from}
use Rattle.lk_report.proofs.merged.write_strings.Given as goal

-- the text so far, followed by the lines of the strings that are left, is the whole; and they end where all end
abbrev pub invariant-loop-string : goal.invariant-loop-string
invariant-loop-string l =
    (string_bytes l.text ++ lines_from l.number l.address (map piece_of (drop l.string-index l.strings)) ≡ string_bytes l.initial.text ++ lines_from l.number l.start (map piece_of l.strings))
    × (behind_all l.address (map piece_of (drop l.string-index l.strings)) ≡ behind_all l.start (map piece_of l.strings))
