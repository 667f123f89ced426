use Rattle.std.proofs.Common.{◌≡◌, ◌++◌, drop, map}
use Rattle.std.specs.List.{enumerate_from}
use Rattle.lk_thunks.specs.Blocks.{user_of}
use Rattle.lk_thunks.proofs.blocks.push_users.Given as goal

-- the users so far, followed by those of the objects that are left, are all
abbrev pub invariant-loop-place : goal.invariant-loop-place
invariant-loop-place l =
    l.users.items ++ map (user_of l.number l.block) (enumerate_from l.place (drop l.place l.object-items)) ≡ l.initial.users.items ++ map (user_of l.number l.block) (enumerate_from 0 l.object-items)
