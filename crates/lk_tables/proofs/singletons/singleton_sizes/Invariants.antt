use Rattle.std.proofs.Common.{◌≡◌, ◌-◌, ◌^◌, if◌then◌else◌, map, min, sum_by}
use Rattle.std.specs.List.{count_by}
use Rattle.lk_link.specs.Walks.{input_of}
use Rattle.lk_live.specs.Slots.{is_singleton}
use Rattle.lk_tables.specs.Singletons.{input_name_bytes}
use Rattle.lk_tables.proofs.singletons.singleton_sizes.Given as goal

-- those so far, and their names
abbrev pub invariant-loop-input : goal.invariant-loop-input
invariant-loop-input l =
    (l.count ≡ min (count_by (λ x. is_singleton l.link x.section) (map input_of l.yielded)) (2 ^ 32 - 1))
    × (l.bytes ≡ min (sum_by (λ x. if is_singleton l.link x.section then input_name_bytes x else 0) (map input_of l.yielded)) (2 ^ 64 - 1))
