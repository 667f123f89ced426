use Rattle.std.proofs.Common.{◌≡◌, ◌++◌, drop}
use Rattle.lk_thunks.specs.Blocks.{assigned_from}
use Rattle.lk_thunks.proofs.blocks.assigned_of.Given as goal

-- the users so far, followed by those of the blocks that are left, are all
abbrev pub invariant-loop-number : goal.invariant-loop-number
invariant-loop-number l = l.users.items ++ assigned_from l.objects l.number (drop l.number l.blocks) ≡ assigned_from l.objects 0 l.blocks
