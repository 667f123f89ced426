use Rattle.std.proofs.Common.{[], ◌∷◌, ap, arith, length}
use Rattle.std.proofs.lemmas.List.{length-append}
use Rattle.lk_thunks.proofs.Users.{blocks_end, blocks_turn}
use Rattle.lk_thunks.proofs.blocks.thunk_blocks.Goals as goal

pub loop-first-preserved : goal.loop-first-preserved
loop-first-preserved c = (
  c.block_from-block.ensures.within,
  omega (arith, ap length c.push.ensures.items, length-append c.loop-first.blocks.items (c.block_from-block.result ∷ []), c.block_from-block.ensures.ahead, c.loop-first.invariant.1),
  blocks_turn c.args.range c.args.objects.now c.loop-first.first c.loop-first.blocks.items c.push.new.self.items _ c.block_from-block.result c.loop-first-test.true c.loop-first.invariant.1
      c.block_from-block.ensures.block c.in_ok-push.ensures.items c.loop-first.invariant.2,
)

pub returns-clause-blocks : goal.returns-clause-blocks
returns-clause-blocks c = blocks_end c.args.range c.args.objects.now c.loop-first.first c.loop-first.blocks.items _ c.loop-first-test.false c.loop-first.invariant.2
