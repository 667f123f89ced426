use Rattle.std.proofs.Common.{◌≡◌, ◌<◌, ◌^◌, map, take}
use Rattle.std.specs.List.{sum_by}
use Rattle.lk_sizes.proofs.Fitting.{as_contents}
use Rattle.lk_sizes.proofs.owners.sum_up.Given as goal

abbrev pub invariant-loop-part : goal.invariant-loop-part
invariant-loop-part l = record {
  contents : l.contents.items ≡ map as_contents (take l.part l.totals);
  summed : l.sum ≡ sum_by (λ t. t.bytes) (take l.part l.totals);
  fits : l.sum < 2 ^ 64;
}
