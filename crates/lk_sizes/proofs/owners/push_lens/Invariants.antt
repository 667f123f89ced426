use Rattle.std.proofs.Common.{◌≡◌, ◌++◌, replicate}
use Rattle.lk_sizes.proofs.owners.push_lens.Given as goal

-- the length once for each part so far
abbrev pub invariant-loop-part : goal.invariant-loop-part
invariant-loop-part l = l.lens.items ≡ l.initial.lens.items ++ replicate l._part-index l.len
