use Rattle.std.proofs.Common.{◌-◌, ◌≤◌, drop, take}
use Rattle.lk_reach.specs.Marks.{asking}
use Rattle.lk_explain.specs.Searching.{Takes, asks_of}
use Rattle.lk_explain.specs.Sharing.{AreShared}
use Rattle.lk_explain.proofs.search.Search.take_level.Given as goal

-- what the units so far ask for was taken
abbrev pub invariant-loop-place : goal.invariant-loop-place
invariant-loop-place l =
    Takes (asking l.level.link.now) l.level.distance (asks_of (asking l.level.link.now) (take (l.place - l.level.start) (drop l.level.start l.fn.self.found.items))) l.fn.self l.self × AreShared l.level.link.now l.shared l.self × (l.level.start ≤ l.place)
