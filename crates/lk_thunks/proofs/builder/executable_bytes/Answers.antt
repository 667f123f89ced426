use Rattle.std.proofs.Common.{refl}
use Rattle.lk_link.specs.Walks.{input_of}
use Rattle.lk_reach.proofs.Numbered.{are_numbered}
use Rattle.lk_thunks.specs.Building.{code_bytes}
use Rattle.lk_thunks.proofs.Sums.{sum_turn}
use Rattle.lk_thunks.proofs.builder.executable_bytes.Goals as goal

pub inputs-input-items-requires : goal.inputs-input-items-requires
inputs-input-items-requires c = are_numbered c.args.link.now c.requires

pub loop-input-preserved : goal.loop-input-preserved
loop-input-preserved c =
    sum_turn code_bytes (input_of c.in-Some.input) c.loop-input.input-iterator c.next.new.self c.loop-input.total c.code_bytes.result c.saturating_add-total.result _ c.in-Some.ensures.steps
    (c.code_bytes.ensures (input_of c.in-Some.input) refl) c.saturating_add-total.ensures c.loop-input.invariant.0 c.loop-input.invariant.1
