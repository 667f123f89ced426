use Rattle.std.proofs.Common.{◌≡◌, length, vec_len}
use Rattle.lk_sizes.proofs.Emitting.{ArePrimaries}
use Rattle.lk_sizes.proofs.header.mark_primaries.Given as goal

-- the marks that the sections so far set
abbrev pub invariant-loop-number : goal.invariant-loop-number
invariant-loop-number l = record {
  count : vec_len l.marks ≡ length l.sections;
  marks : ArePrimaries l.sections l.kept l.number l.marks.items;
}
