use Rattle.std.proofs.Common.{◌+◌, ◌<◌, ◌≤◌, drop, length}
use Rattle.lk_reach.specs.Marks.{asking}
use Rattle.lk_explain.specs.Searching.{IsLevel, unfound}
use Rattle.lk_explain.specs.Sharing.{AreShared}
use Rattle.lk_explain.proofs.search.Search.over.Given as goal

-- all units up to the distance are found, and those from the start on are the level at it
abbrev pub invariant-loop-start : goal.invariant-loop-start
invariant-loop-start l =
    IsLevel (asking l.link) (drop l.start l.search.found.items) l.distance l.search.distances.items l.search.askers.items × (0 < l.distance) × (l.start ≤ length l.search.found.items)
    × AreShared l.link l.shared l.search

-- a unit that isn't found can still come into a level, once
abbrev pub decreases-loop-start : goal.decreases-loop-start
decreases-loop-start l = unfound l.search.distances.items + length (drop l.start l.search.found.items)
