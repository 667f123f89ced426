use Rattle.std.proofs.Common.{◌≡◌, ℕ, ◌+◌, ◌<◌, length, take}
use Rattle.std.specs.Prelude.{if◌then◌else◌, nat_lt, sum_by}
use Rattle.lk_place.specs.FileRange.{ran_on}
use Rattle.lk_expressions.specs.Records.{record_at}
use Rattle.lk_place.proofs.file_range.assign_section_file_range.Given as goal

-- the parts so far stand one behind the other, and those that are left are as they were
abbrev pub invariant-loop-number : goal.invariant-loop-number
invariant-loop-number l = record {
  end : l.end ≡ l.fn.start + sum_by (λ r. r.file_size) (take l.number l.initial.parts);
  done : (p : ℕ) → p < length l.initial.parts → record_at l.parts p ≡ (if nat_lt p l.number then ran_on l.fn.start l.initial.parts p else record_at l.initial.parts p);
}
