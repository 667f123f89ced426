use Rattle.std.proofs.Common.{◌≡◌, ◌<◌, ◌^◌, length}
use Rattle.lk_reach.specs.Units.{other_asks}
use Rattle.lk_reach.proofs.asks.MemberAsksIterator.next.Given as goal

-- only members that don't come along were passed over
abbrev pub invariant-loop-member : goal.invariant-loop-member
invariant-loop-member l =
    (other_asks l.self-inside.file l.self-inside.sections.now l.self-inside.own l.self-inside.members.now ≡ l.fn.self)
    × (length l.self-inside.sections.now < 2 ^ 32)

abbrev pub decreases-loop-member : goal.decreases-loop-member
decreases-loop-member l = length l.self-inside.members.now
