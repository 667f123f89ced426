use Rattle.std.proofs.Common.{◌≡◌, ◌+◌, false, length, replicate, ap, ◌∙◌, arith}
use Rattle.lk_link.specs.Inputs.{all_inputs, input_count}
use Rattle.lk_link.proofs.InputLemmas.{inputs_follow}
use Rattle.lk_reach.specs.Marks.{all_units}
use Rattle.lk_reach.proofs.SymbolNumbers.{inputs_few, symbols_few}
use Rattle.lk_reach.proofs.UnitLemmas.{units_count}
use Rattle.lk_reach.proofs.walk.Walk.new.Goals as goal

pub overflow_add-symbols : goal.overflow_add-symbols
overflow_add-symbols c = omega (arith, inputs_few c.args.link.now c.requires, symbols_few c.args.link.now c.requires)

pub returns : goal.returns
returns c =
    let groups = c.args.link.now.groups in
    let inputs : length (all_inputs groups) ≡ input_count groups = inputs_follow.count groups in
    let count : c.symbol_count-symbols.result + c.input_count-inputs.result ≡ length (all_units groups)
    = omega (arith, units_count groups, inputs_few c.args.link.now c.requires, symbols_few c.args.link.now c.requires) in
    record { marks = c.in_ok-unmarked.ensures ∙ ap (λ n. replicate n false) count; words = c.in_ok-handed_in.ensures; stack = c.in_ok-with_capacity.ensures.items }
