use Rattle.std.proofs.Common.{◌≡◌, ◌+◌, length, replicate, ap, ◌∙◌, arith}
use Rattle.lk_link.specs.Inputs.{all_inputs, input_count}
use Rattle.lk_link.proofs.InputLemmas.{inputs_follow}
use Rattle.lk_reach.specs.Marks.{all_units}
use Rattle.lk_reach.proofs.SymbolNumbers.{inputs_few, symbols_few}
use Rattle.lk_reach.proofs.UnitLemmas.{units_count}
use Rattle.lk_explain.proofs.search.Search.new.Goals as goal

pub overflow_add-count : goal.overflow_add-count
overflow_add-count c = omega (arith, inputs_few c.args.link.now c.requires, symbols_few c.args.link.now c.requires)

pub returns : goal.returns
returns c =
    let groups = c.args.link.now.groups in
    let inputs : length (all_inputs groups) ≡ input_count groups = inputs_follow.count groups in
    let count : c.symbol_count.result + c.input_count.result ≡ length (all_units groups)
    = omega (arith, units_count groups, inputs_few c.args.link.now c.requires, symbols_few c.args.link.now c.requires) in
    record {
      distances = c.in_ok-zeros.ensures ∙ ap (λ n. replicate n 0) count;
      askers = c.in_ok-zeros-2.ensures ∙ ap (λ n. replicate n 0) count;
      found = c.in_ok-with_capacity.ensures.items;
    }
