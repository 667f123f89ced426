use Rattle.std.proofs.Common.{sym, ap, add-one, arith, ◌∙◌}
use Rattle.std.specs.List.{slice_get}
use Rattle.lk_thunks.specs.Blocks.{thunk_blocks}
use Rattle.lk_thunks.proofs.Stretches.{chain_at, chain_covers, chain_next}
use Rattle.lk_thunks.proofs.UserLaws.{whole_chain}
use Rattle.lk_thunks.proofs.laws.blocks_are_stretches.Goals as goal

pub returns : goal.returns
returns c = record {
  each = λ range objects k b h. (chain_at objects 0 (thunk_blocks range objects) k b (whole_chain range objects) h).1;
  follow = λ range objects k b d h g.
      chain_next objects 0 (thunk_blocks range objects) k b d (whole_chain range objects) h (ap (slice_get (thunk_blocks range objects)) (sym (add-one k)) ∙ g);
  cover = λ range objects i lt.
      let in_one = chain_covers objects 0 (thunk_blocks range objects) i (whole_chain range objects) (omega arith) lt in
      (in_one.number, record { block = in_one.block; at = in_one.at; opened = in_one.opened; inside = in_one.inside });
}
