use Rattle.std.proofs.Common.{◌≡◌, ℕ, List, take}
use Rattle.lk_link.specs.declared.ids.FileId.{FileId}
use Rattle.lk_relax.specs.PassWords.{IsFound, deleted_by, standing_with}
use Rattle.lk_relax.specs.Scan.{PassState}
use Rattle.lk_relax.proofs.passes.delete_found.Given as goal

-- what is deleted so far
abbrev pub invariant-loop-one : goal.invariant-loop-one
invariant-loop-one l = (by : PassState) (scan : List (FileId × ℕ)) → IsFound l.link l.initial.deltas.items by scan l.found → l.deltas.items ≡ deleted_by (standing_with l.link l.initial.deltas.items by) (take l.one-index scan)
