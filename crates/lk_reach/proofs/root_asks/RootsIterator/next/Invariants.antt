use Rattle.std.proofs.Common.{◌≡◌, [], All, length}
use Rattle.std.specs.List.{flat_map}
use Rattle.lk_link.specs.WellFormed.{IsWellFormed}
use Rattle.lk_reach.specs.Askers.{IsFileOf}
use Rattle.lk_reach.specs.Units.{file_roots}
use Rattle.lk_reach.proofs.root_asks.RootsIterator.next.Given as goal

-- files of which nothing is left were passed over
abbrev pub invariant-loop-file : goal.invariant-loop-file
invariant-loop-file l =
    (l.self-inside.own ≡ [])
    × (flat_map (file_roots l.self-inside.link.now) l.self-inside.files ≡ l.fn.self)
    × IsWellFormed l.self-inside.link.now
    × All (IsFileOf l.self-inside.link.now) l.self-inside.files

abbrev pub decreases-loop-file : goal.decreases-loop-file
decreases-loop-file l = length l.self-inside.files
