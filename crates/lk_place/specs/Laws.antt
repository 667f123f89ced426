-- A law of placement: what it keeps apart in the file.
use Rattle.std.specs.Prelude.{List}
use Rattle.lk_place.specs.declared.cursors.Cursors.{Cursors}
use Rattle.lk_place.specs.Placement.{IsPlaced}
use Rattle.lk_place.specs.Ranges.{FileIsDisjoint}
use Rattle.lk_expressions.specs.Records.{Record}
use Rattle.lk_place.specs.Setting.{IsReady, Setting}

-- whatever the plan, no two parts share a byte of the file, also where an event is refused
abbrev pub FileRangesAreDisjoint : Type 0
FileRangesAreDisjoint = (setting : Setting) (states : List Cursors) (records : List Record)
    → IsReady setting → IsPlaced setting states records → FileIsDisjoint records
