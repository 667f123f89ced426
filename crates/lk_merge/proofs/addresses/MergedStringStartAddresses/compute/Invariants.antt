use Rattle.std.proofs.Common.{◌≡◌, ◌++◌, drop}
use Rattle.std.specs.List.{enumerate_from, flat_map}
use Rattle.lk_merge.specs.Addresses.{start_addresses}
use Rattle.lk_merge.specs.Hash.{fnv64}
use Rattle.lk_merge.proofs.AddressLemmas.{addresses_in}
use Rattle.lk_merge.proofs.addresses.MergedStringStartAddresses.compute.Given as goal

-- the addresses so far, followed by those of the sections that are left, are all
abbrev pub invariant-loop-number : goal.invariant-loop-number
invariant-loop-number l = l.addresses.items ++ flat_map (addresses_in l.starts) (enumerate_from l.number (drop l.number l.merged)) ≡ start_addresses fnv64 l.merged l.starts
