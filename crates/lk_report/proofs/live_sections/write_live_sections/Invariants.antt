use Rattle.std.proofs.Common.{◌≡◌, ◌++◌, map}
use Rattle.std.specs.Prelude.{string_bytes}
use Rattle.std.specs.List.{flat_map}
use Rattle.lk_link.specs.Walks.{file_of}
use Rattle.lk_report.specs.LiveLines.{file_lines}
use Rattle.lk_report.proofs.live_sections.write_live_sections.Given as goal

-- the lines of the files so far are written
abbrev pub invariant-loop-file : goal.invariant-loop-file
invariant-loop-file l = string_bytes l.text ≡ string_bytes l.initial.text ++ flat_map (file_lines l.link l.layout) (map file_of l.yielded)
