use Rattle.std.proofs.Common.{Option, ℕ, sym, subst}
use Rattle.lk_sizes.specs.Tables.{ArePassed, block_takers}
use Rattle.lk_sizes.proofs.addresses.place_block.Goals as goal

pub returns-in_ok-push-clause-moved : goal.returns-in_ok-push-clause-moved
returns-in_ok-push-clause-moved c = λ id.
    subst (λ (o : Option ℕ). ArePassed c.args.link.now c.args.next.now (block_takers c.args.link.now id o) c.take_block.new.next) (sym c.in-Some.is)
    (c.take_block.ensures.moved id)
