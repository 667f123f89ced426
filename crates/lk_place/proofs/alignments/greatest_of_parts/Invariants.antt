use Rattle.std.proofs.Common.{◌≡◌, ◌+◌, drop}
use Rattle.std.specs.List.{enumerate_from}
use Rattle.lk_place.specs.Alignments.{filled_alignments, greatest_of}
use Rattle.lk_place.proofs.alignments.greatest_of_parts.Given as goal

-- the greatest so far and of what is left is the greatest of all
abbrev pub invariant-loop-part : goal.invariant-loop-part
invariant-loop-part l = record {
  number : l.number ≡ l.fn.first + l.part-index;
  greatest : greatest_of l.greatest (filled_alignments l.sizes (enumerate_from l.number (drop l.part-index l.parts)))
      ≡ greatest_of l.fn.least (filled_alignments l.sizes (enumerate_from l.fn.first l.parts));
}
