use Rattle.std.proofs.Common.{sym, subst}
use Rattle.lk_sizes.specs.Owners.{Filling, in_link, with_thunks}
use Rattle.lk_sizes.specs.ThunkSums.{AreWithBlocks}
use Rattle.lk_sizes.proofs.ThunkBytes.{with_block_sums}
use Rattle.lk_sizes.proofs.blocks.add_blocks.Goals as goal

pub returns : goal.returns
returns c = λ given is.
    let link = c.args.link.now in
    let filling : Filling = with_thunks (in_link link given) c.args.thunk_owners.now in
    let totals : AreWithBlocks link c.args.thunk_owners.now c.args.contents.now c.deref.result.now
    = subst (AreWithBlocks link c.args.thunk_owners.now c.args.contents.now) (sym c.deref.ensures.value) c.in_ok-totals.ensures in
    c.sum_up.ensures filling (with_block_sums filling c.args.contents.now c.deref.result.now c.requires.thunks is totals)
