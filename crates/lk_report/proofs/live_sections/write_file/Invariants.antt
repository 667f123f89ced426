use Rattle.std.proofs.Common.{◌≡◌, ◌++◌, ◌≤◌, length, map, take}
use Rattle.std.specs.Prelude.{string_bytes}
use Rattle.std.specs.List.{enumerate_from, flat_map}
use Rattle.lk_link.specs.Inputs.{input_number, numbered_section}
use Rattle.lk_report.specs.LiveLines.{input_text}
use Rattle.lk_report.proofs.live_sections.write_file.Given as goal

-- the lines of the sections so far are written
abbrev pub invariant-loop-index : goal.invariant-loop-index
invariant-loop-index l = record {
  written : string_bytes l.text ≡ string_bytes l.initial.text
      ++ flat_map (λ x. input_text l.link l.layout (input_number l.link.groups x.file x.index, x)) (map (numbered_section l.file.id) (enumerate_from 0 (take l.index l.sections)));
  within : l.index ≤ length l.sections;
}
