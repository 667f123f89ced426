use Rattle.std.proofs.Common.{◌≤◌, length, map, take}
use Rattle.lk_link.specs.Walks.{input_of}
use Rattle.lk_ranks.specs.Ranks.{AreDistinct, AreNumbered, bytes_of}
use Rattle.lk_ranks.proofs.ranks.number_names.Given as goal

-- the names of the sections so far
abbrev pub invariant-loop-input : goal.invariant-loop-input
invariant-loop-input l = record {
  few : length l.names.keys ≤ l.input-index;
  distinct : AreDistinct (map bytes_of l.names.keys);
  numbered : AreNumbered (map bytes_of l.names.keys) l.numbers.items (map input_of (take l.input-index l.found));
}
