use Rattle.std.proofs.Common.{◌≡◌, true, map}
use Rattle.std.specs.List.{flat_map}
use Rattle.lk_link.specs.Walks.{file_of}
use Rattle.lk_reach.specs.Marks.{asking}
use Rattle.lk_reach.specs.Units.{file_roots, location_asks}
use Rattle.lk_explain.specs.Searching.{Takes, with_asker}
use Rattle.lk_explain.specs.Sharing.{AreFound}
use Rattle.lk_explain.proofs.search.Search.take_roots.Given as goal

-- what the files so far ask for was taken
abbrev pub invariant-loop-file : goal.invariant-loop-file
invariant-loop-file l =
    Takes (asking l.link) 1 (with_asker 0 (flat_map (file_roots l.link) (map file_of l.yielded))) l.fn.self l.self × (l.located ≡ true → AreFound l.link l.self (location_asks l.link))
