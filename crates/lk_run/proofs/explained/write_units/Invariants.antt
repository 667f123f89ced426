use Rattle.std.proofs.Common.{◌≡◌, ◌++◌, take}
use Rattle.std.specs.Prelude.{string_bytes}
use Rattle.std.specs.List.{flat_map}
use Rattle.lk_run.specs.WhyTexts.{unit_line}
use Rattle.lk_run.proofs.explained.write_units.Given as goal

-- the lines of the units so far are written
abbrev pub invariant-loop-unit : goal.invariant-loop-unit
invariant-loop-unit l = string_bytes l.text ≡ string_bytes l.initial.text ++ flat_map unit_line (take l.unit-index l.units)
