use Rattle.std.proofs.Common.{List, length, sum_by, ap, arith, ◌∙◌}
use Rattle.std.specs.List.{concat}
use Rattle.std.proofs.lemmas.List.{take_all}
use Rattle.lk_merge.specs.Image.{all_pieces}
use Rattle.lk_merge.specs.Inputs.{padded_total}
use Rattle.lk_merge.specs.Pieces.{MergeInput}
use Rattle.lk_merge.proofs.Counting.{data_bytes, data_len, data_sum_fits}
use Rattle.lk_merge.proofs.section.MergedStringsSection.input_string_byte_size.Goals as goal

pub overflow_add-size : goal.overflow_add-size
overflow_add-size c =
    let ss = c.as_slice-input-items.result.now in
    let k = c.loop-input.input-index in
    let fits = data_sum_fits (padded_total c.self.inside.inputs) ss k c.input-item.result c.as_slice-input-items.ensures.places c.loop-input-test.true in
    let here = ap data_len c.input-item.is in
    omega (arith, fits, here, c.loop-input.invariant)

pub returns : goal.returns
returns c =
    let ss = c.as_slice-input-items.result.now in
    c.loop-input.invariant ∙ ap (sum_by data_len) (take_all c.loop-input.input-index ss c.loop-input-test.false)
    ∙ data_bytes ss c.self.inside.inputs c.as_slice-input-items.ensures.inputs c.self.invariant.terminated
    ∙ ap (λ (xs : List MergeInput). length (concat (all_pieces xs))) c.self.view_is
