use Rattle.std.proofs.Common.{arith, length-take}
use Rattle.lk_devices.proofs.Past.{stops_past}
use Rattle.lk_devices.proofs.transfer.read_all.Goals as goal

pub returns-then-count-room-clause-rest_unread : goal.returns-then-count-room-clause-rest_unread
returns-then-count-room-clause-rest_unread g c =
    λ is_too_long. stops_past _ _ _ _ _ c.args.limit c.loop-bytes.invariant.3 c.in_ok-count.ensures.bytes
    (grind (arith, length-take, c.loop-bytes.bytes.ok.0, c.in_ok-count.ensures.within))
