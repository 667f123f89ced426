use Rattle.std.proofs.Common.{◌≡◌, false, length, replicate, ap, ◌∙◌, arith}
use Rattle.lk_link.specs.Inputs.{all_inputs, input_count}
use Rattle.lk_link.proofs.InputLemmas.{inputs_follow}
use Rattle.lk_reach.proofs.SymbolNumbers.{inputs_few}
use Rattle.lk_explain.proofs.shared.Shared.new.Goals as goal

pub returns : goal.returns
returns c =
    let groups = c.args.link.now.groups in
    let inputs : length (all_inputs groups) ≡ input_count groups = inputs_follow.count groups in
    let count : c.input_count.result ≡ length (all_inputs groups) = omega (arith, inputs, inputs_few c.args.link.now c.requires) in
    record {
      groups = c.in_ok-unmarked.ensures ∙ ap (λ n. replicate n false) count;
      symbols = c.in_ok-leaders_of.ensures;
    }
