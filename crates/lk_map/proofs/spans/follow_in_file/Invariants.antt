use Rattle.std.proofs.Common.{take}
use Rattle.lk_map.specs.Spans.{counts_in_file, file_spans}
use Rattle.lk_map.proofs.Following.{AreApartBy, Decides}
use Rattle.lk_map.proofs.Goodness.{file_span}
use Rattle.lk_map.proofs.spans.follow_in_file.Given as goal

abbrev pub invariant-loop-section : goal.invariant-loop-section
invariant-loop-section l = AreApartBy (file_spans (take l.section-index l.sections)) l.end × Decides counts_in_file file_span l.sections l.end l.section-index
