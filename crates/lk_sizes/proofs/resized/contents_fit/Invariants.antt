use Rattle.std.proofs.Common.{ℕ, ◌<◌, ◌^◌, get_or}
use Rattle.lk_sizes.specs.declared.owners.PartContents.{PartContents}
use Rattle.lk_sizes.proofs.resized.contents_fit.Given as goal

-- those so far are
abbrev pub invariant-loop-part : goal.invariant-loop-part
invariant-loop-part l = (k : ℕ) (d : PartContents) → k < l.part-index → (get_or l.contents k d).bytes < 2 ^ 64
