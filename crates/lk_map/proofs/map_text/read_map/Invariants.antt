use Rattle.std.proofs.Common.{◌≡◌, ◌+◌, ◌≤◌, length}
use Rattle.lk_map.specs.Reading.{lines_from, map_of}
use Rattle.lk_map.specs.Written.{parts_of}
use Rattle.lk_map.proofs.Reading.{told_by}
use Rattle.lk_map.proofs.map_text.read_map.Given as goal

abbrev pub invariant-lines : goal.invariant-lines
invariant-lines l =
    (told_by l.map.sections.items l.map.segments.items l.line (lines_from l.line l.before (parts_of l.rest)) ≡ map_of l.text) ×
    (l.line + length l.rest ≤ length l.text + 1)

abbrev pub decreases-lines : goal.decreases-lines
decreases-lines l = length l.rest
