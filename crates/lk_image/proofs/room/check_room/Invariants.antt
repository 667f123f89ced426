use Rattle.std.proofs.Common.{◌≡◌, [], length, map}
use Rattle.std.specs.List.{enumerate_from, flat_map}
use Rattle.lk_link.specs.Walks.{input_of}
use Rattle.lk_image.specs.Refusals.{room_refusals_in}
use Rattle.lk_image.proofs.room.check_room.Given as goal

-- none of the sections so far has a relocation that lacks room
abbrev pub invariant-loop-input : goal.invariant-loop-input
invariant-loop-input l = record {
  none : flat_map (room_refusals_in l.link l.layout) (enumerate_from 0 (map input_of l.yielded)) ≡ [];
  number : l.number ≡ length l.yielded;
}
