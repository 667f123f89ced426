use Rattle.std.proofs.Common.{◌≡◌, ◌≤◌, drop}
use Rattle.std.specs.Prelude.{option_copied}
use Rattle.lk_map.specs.Cutting.{parts_left}
use Rattle.lk_map.specs.Reading.{behind, values_of, words_of}
use Rattle.lk_map.specs.Values.{shown}
use Rattle.lk_map.proofs.lines.Values.take_all.Given as goal

abbrev pub invariant-loop-field : goal.invariant-loop-field
invariant-loop-field l =
    (l.self.count ≤ l.field-index) ×
    (behind (shown l.self) (values_of (drop l.field-index l.fields) (parts_left 32 (option_copied l.rest))) ≡ values_of l.fields (words_of l.line))
