use Rattle.std.specs.List.{range_with_len}
use Rattle.std.proofs.Common.{◌≡◌}
use Rattle.lk_link.proofs.names.places.Given as goal

abbrev pub invariant-loop-place : goal.invariant-loop-place
invariant-loop-place l = l.all.items ≡ range_with_len 0 l.place
