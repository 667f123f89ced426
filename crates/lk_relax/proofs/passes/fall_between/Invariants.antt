use Rattle.std.proofs.Common.{◌≡◌, ◌-◌, ◌^◌, length, map, min, sum_by}
use Rattle.std.specs.Option.{option_map_or}
use Rattle.lk_link.specs.Inputs.{Input}
use Rattle.lk_link.specs.Walks.{input_of}
use Rattle.lk_sizes.specs.Harvest.{capacity_by}
use Rattle.lk_sizes.specs.Owners.{own_sizes}
use Rattle.lk_relax.proofs.passes.fall_between.Given as goal

-- by how many bytes the capacities of the sections so far fall
abbrev pub invariant-loop-input : goal.invariant-loop-input
invariant-loop-input l = record {
  count : l.number ≡ length l.yielded;
  sum : min l.fall (2 ^ 64) ≡ min (sum_by (λ (x : Input). capacity_by l.link (option_map_or (λ s. s.now) l.before (own_sizes l.link)) x - capacity_by l.link l.after x) (map input_of l.yielded)) (2 ^ 64);
}
