use Rattle.std.proofs.Common.{◌≡◌, drop}
use Rattle.lk_map.specs.Reading.{line_among, line_of, words_of}
use Rattle.lk_map.proofs.lines.read_line.Given as goal

abbrev pub invariant-loop-form : goal.invariant-loop-form
invariant-loop-form l = line_among (drop l.form-index l.form-items) (words_of l.line) ≡ line_of l.line
