use Rattle.std.proofs.Common.{◌≡◌, ◌≤◌, length, take}
use Rattle.std.specs.Prelude.{string_bytes}
use Rattle.std.specs.List.{flat_map}
use Rattle.lk_link.specs.Inputs.{group_files}
use Rattle.lk_report.specs.LiveLines.{file_lines}
use Rattle.lk_report.proofs.live_sections.group_text.Given as goal

-- the lines of the files so far
abbrev pub invariant-loop-index : goal.invariant-loop-index
invariant-loop-index l = record {
  made : string_bytes l.text ≡ flat_map (file_lines l.link l.layout) (group_files l.group 0 (take l.index l.files));
  within : l.index ≤ length l.files;
}
