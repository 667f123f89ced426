use Rattle.std.proofs.Common.{◌≡◌, ◌≢◌, ◌+◌, List, map, sym, ap, ◌∙◌, subst, inl, inr, arith}
use Rattle.lk_merge.specs.Groups.{IsGroupEnd}
use Rattle.lk_merge.specs.Inputs.{input_of, input_start, padded_len, padded_total}
use Rattle.lk_merge.specs.Pieces.{MergeInput}
use Rattle.lk_merge.proofs.Grouping.{end_at, end_behind, end_total, ends_by_total, found_input, found_start}
use Rattle.lk_merge.proofs.groups.group_end.Goals as goal

pub returns-then-size-total-clause-end : goal.returns-then-size-total-clause-end
returns-then-size-total-clause-end c =
    let xs : List MergeInput = map input_of c.args.inputs.now in
    let sum : c.args.total ≡ padded_total xs = c.requires.inputs.sum in
    subst (λ n. IsGroupEnd xs c.args.size c.args.start n) (sym sum) (end_total xs c.args.size c.args.start (omega (arith, sum, c.if-size-total.true)))

pub returns-then-input-clause-end : goal.returns-then-input-clause-end
returns-then-input-clause-end c =
    let xs : List MergeInput = map input_of c.args.inputs.now in
    let same = found_input c.args.total c.args.inputs.now c.requires.inputs (c.args.start + c.args.size) c.input_at.result c.input_at.ensures c.index-inputs-input_at.result c.index-inputs-input_at.is in
    end_at xs c.args.size c.args.start (c.args.start + c.args.size) c.input_at.result (omega arith) c.input_at.ensures (inl (ap (λ (x : MergeInput). x.strings) same ∙ c.if-input.true))

pub overflow_add-result : goal.overflow_add-result
overflow_add-result c =
    let xs : List MergeInput = map input_of c.args.inputs.now in
    let h = c.input_at.ensures in
    let same = found_input c.args.total c.args.inputs.now c.requires.inputs (c.args.start + c.args.size) c.input_at.result h c.index-inputs-input_at.result c.index-inputs-input_at.is in
    let begins = found_start c.args.total c.args.inputs.now c.requires.inputs (c.args.start + c.args.size) c.input_at.result h c.index-inputs-input_at.result c.index-inputs-input_at.is in
    let end = ends_by_total xs c.input_at.result h.input h.there in
    let len : padded_len h.input ≡ padded_len (input_of c.index-inputs-input_at.result) = ap padded_len same in
    omega (arith, begins, end, len, c.as_u64-first.ensures, c.padded_len.ensures, c.requires.inputs.sum, c.requires.inputs.fits)

pub returns-then-first-at-clause-end : goal.returns-then-first-at-clause-end
returns-then-first-at-clause-end c =
    let xs : List MergeInput = map input_of c.args.inputs.now in
    let h = c.input_at.ensures in
    let same = found_input c.args.total c.args.inputs.now c.requires.inputs (c.args.start + c.args.size) c.input_at.result h c.index-inputs-input_at.result c.index-inputs-input_at.is in
    let begins = found_start c.args.total c.args.inputs.now c.requires.inputs (c.args.start + c.args.size) c.input_at.result h c.index-inputs-input_at.result c.index-inputs-input_at.is in
    let len : padded_len h.input ≡ padded_len (input_of c.index-inputs-input_at.result) = ap padded_len same in
    let inside : input_start xs c.input_at.result ≢ c.args.start + c.args.size = λ here. absurd (omega (arith, here, begins, c.as_u64-first.ensures, c.if-first-at.true)) in
    let end : input_start xs c.input_at.result + padded_len h.input ≡ c.as_u64-first.result + c.padded_len.result = omega (arith, begins, len, c.as_u64-first.ensures, c.padded_len.ensures) in
    subst (λ n. IsGroupEnd xs c.args.size c.args.start n) end
    (end_behind xs c.args.size c.args.start (c.args.start + c.args.size) c.input_at.result (omega arith) h (ap (λ (x : MergeInput). x.strings) same ∙ c.if-input.false) inside)

pub returns-then-first-at-clause-further : goal.returns-then-first-at-clause-further
returns-then-first-at-clause-further c =
    let h = c.input_at.ensures in
    let same = found_input c.args.total c.args.inputs.now c.requires.inputs (c.args.start + c.args.size) c.input_at.result h c.index-inputs-input_at.result c.index-inputs-input_at.is in
    let begins = found_start c.args.total c.args.inputs.now c.requires.inputs (c.args.start + c.args.size) c.input_at.result h c.index-inputs-input_at.result c.index-inputs-input_at.is in
    let len : padded_len h.input ≡ padded_len (input_of c.index-inputs-input_at.result) = ap padded_len same in
    let below = h.below in
    omega (arith, begins, len, below, c.as_u64-first.ensures, c.padded_len.ensures)

pub returns-clause-end : goal.returns-clause-end
returns-clause-end c =
    let xs : List MergeInput = map input_of c.args.inputs.now in
    let h = c.input_at.ensures in
    let begins = found_start c.args.total c.args.inputs.now c.requires.inputs (c.args.start + c.args.size) c.input_at.result h c.index-inputs-input_at.result c.index-inputs-input_at.is in
    let from = h.from in
    let here : input_start xs c.input_at.result ≡ c.args.start + c.args.size = omega (arith, begins, from, c.as_u64-first.ensures, c.if-first-at.false) in
    end_at xs c.args.size c.args.start (c.args.start + c.args.size) c.input_at.result (omega arith) h (inr here)
