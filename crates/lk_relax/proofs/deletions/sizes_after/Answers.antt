use Rattle.std.proofs.Common.{length}
use Rattle.lk_link.specs.Walks.{input_of}
use Rattle.lk_reach.proofs.Numbered.{are_numbered}
use Rattle.lk_relax.proofs.InputsThere.{at_its_number, input_turn}
use Rattle.lk_relax.proofs.deletions.sizes_after.Goals as goal

pub inputs-input-items-requires : goal.inputs-input-items-requires
inputs-input-items-requires c = are_numbered c.args.link.now c.requires

pub size_after-requires-clause-there : goal.size_after-requires-clause-there
size_after-requires-clause-there c =
    at_its_number c.args.link.now (length c.loop-input.yielded) (input_of c.in-Some.input)
    (input_turn c.args.link.now c.into_iter-input-iterator.result c.loop-input.input-iterator c.next.new.self c.loop-input.yielded c.in-Some.input (cc) c.loop-input.yielded_by c.in-Some.ensures.steps)
