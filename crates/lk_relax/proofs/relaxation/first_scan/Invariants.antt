use Rattle.std.proofs.Common.{◌≡◌, ℕ, filter, length, map}
use Rattle.std.specs.List.{enumerate_from}
use Rattle.lk_link.specs.Inputs.{Input}
use Rattle.lk_link.specs.Walks.{input_of}
use Rattle.lk_relax.specs.RelaxationWords.{can_shrink_by}
use Rattle.lk_relax.proofs.relaxation.first_scan.Given as goal

-- those of the sections so far that can lose bytes
abbrev pub invariant-loop-input : goal.invariant-loop-input
invariant-loop-input l = record {
  count : l.number ≡ length l.yielded;
  scan : l.scan.items ≡ map (λ (q : ℕ × Input). (q.1.file, q.1.index)) (filter (λ (q : ℕ × Input). can_shrink_by l.live.marks (q.0, q.1.section)) (enumerate_from 0 (map input_of l.yielded)));
}
