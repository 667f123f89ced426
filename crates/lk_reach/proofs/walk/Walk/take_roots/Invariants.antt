use Rattle.std.proofs.Common.{◌≡◌, true, map}
use Rattle.std.specs.List.{All, flat_map}
use Rattle.lk_link.specs.Walks.{file_of}
use Rattle.lk_reach.specs.Units.{file_roots, location_asks}
use Rattle.lk_reach.specs.Walking.{Adds, IsDone}
use Rattle.lk_reach.proofs.walk.Walk.take_roots.Given as goal

-- what the files so far ask for was taken
abbrev pub invariant-loop-file : goal.invariant-loop-file
invariant-loop-file l =
    Adds l.link (flat_map (file_roots l.link) (map file_of l.yielded)) l.fn.self l.self × (l.located ≡ true → All (IsDone l.link l.self) (location_asks l.link))
