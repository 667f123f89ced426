use Rattle.std.proofs.Common.{◌≡◌, map}
use Rattle.std.specs.List.{range_with_len}
use Rattle.lk_sizes.proofs.ImageStarts.{start_by}
use Rattle.lk_sizes.proofs.images.image_addresses.Given as goal

-- the addresses of the images of the sections so far
abbrev pub invariant-loop-number : goal.invariant-loop-number
invariant-loop-number l = l.addresses.items ≡ map (start_by l.link.plan.sections l.contents l.starts) (range_with_len 0 l.number)
