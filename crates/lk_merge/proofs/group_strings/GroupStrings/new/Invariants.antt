use Rattle.std.proofs.Common.{◌≡◌, ℕ, [], Some, Vec, Global, length}
use Rattle.std.specs.List.{slice_get}
use Rattle.lk_merge.specs.declared.string.MergeString.{MergeString}
use Rattle.lk_merge.proofs.group_strings.GroupStrings.new.Given as goal

-- so many lists, all of them empty
abbrev pub invariant-loop : goal.invariant-loop
invariant-loop l = (length l.buckets.items ≡ l.counter) × ((b : ℕ) (found : Vec MergeString Global) → slice_get l.buckets.items b ≡ Some found → found.items ≡ [])
