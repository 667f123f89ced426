use Rattle.std.proofs.Common.{◌≡◌, ◌≢◌, ℕ, ◌+◌, List, None, Some, sym, ap, ◌∙◌, arith}
use Rattle.lk_merge.specs.declared.inputs.StringMergeInputSection.{StringMergeInputSection}
use Rattle.lk_merge.specs.Hash.{fnv64}
use Rattle.lk_merge.specs.Inputs.{padded_total}
use Rattle.lk_merge.specs.Merging.{found_place}
use Rattle.lk_merge.specs.Pieces.{MergeInput}
use Rattle.lk_merge.proofs.FindingSteps.{behind_data, elsewhere, inside, no_entry, past_all, rising}
use Rattle.lk_merge.proofs.PlaceInInput.{apart}
use Rattle.lk_merge.proofs.section.find_string.Goals as goal

pub returns-then-start-total-clause-found : goal.returns-then-start-total-clause-found
returns-then-start-total-clause-found c =
    let i = c.section.inside in
    let m = c.section.invariant in
    let to : found_place fnv64 i.inputs c.as_u64-start.result c.args.offset ≡ found_place fnv64 c.args.section.now c.args.start c.args.offset
    = ap (λ (n : ℕ). found_place fnv64 i.inputs n c.args.offset) c.as_u64-start.ensures ∙ ap (λ (xs : List MergeInput). found_place fnv64 xs c.args.start c.args.offset) c.section.view_is in
    sym (past_all i.inputs i.buckets.items i.string_offsets m c.as_u64-start.result c.args.offset (omega (arith, c.if-start-total.true, c.total_input_size-total.ensures))) ∙ to

pub returns-then-as_u64-start-clause-found : goal.returns-then-as_u64-start-clause-found
returns-then-as_u64-start-clause-found c =
    let i = c.section.inside in
    let m = c.section.invariant in
    let sections : List StringMergeInputSection = c.as_slice-inputs.result.now in
    let s : StringMergeInputSection = c.index-inputs-input_at.result in
    let to : found_place fnv64 i.inputs c.as_u64-start.result c.args.offset ≡ found_place fnv64 c.args.section.now c.args.start c.args.offset
    = ap (λ (n : ℕ). found_place fnv64 i.inputs n c.args.offset) c.as_u64-start.ensures ∙ ap (λ (xs : List MergeInput). found_place fnv64 xs c.args.start c.args.offset) c.section.view_is in
    let differ : s.start_input_offset ≢ c.as_u64-start.result = λ same. c.if-as_u64-start.true (c.as_u64.ensures ∙ same) in
    sym (elsewhere i.inputs i.buckets.items i.string_offsets m (padded_total i.inputs) sections c.as_slice-inputs.ensures.inputs c.as_slice-inputs.ensures.places c.as_u64-start.result c.args.offset c.input_at.result c.input_at.ensures s c.index-inputs-input_at.is differ) ∙ to

pub returns-then-offset-input-clause-found : goal.returns-then-offset-input-clause-found
returns-then-offset-input-clause-found c =
    let i = c.section.inside in
    let m = c.section.invariant in
    let sections : List StringMergeInputSection = c.as_slice-inputs.result.now in
    let s : StringMergeInputSection = c.index-inputs-input_at.result in
    let to : found_place fnv64 i.inputs c.as_u64-start.result c.args.offset ≡ found_place fnv64 c.args.section.now c.args.start c.args.offset
    = ap (λ (n : ℕ). found_place fnv64 i.inputs n c.args.offset) c.as_u64-start.ensures ∙ ap (λ (xs : List MergeInput). found_place fnv64 xs c.args.start c.args.offset) c.section.view_is in
    sym (behind_data i.inputs i.buckets.items i.string_offsets m (padded_total i.inputs) sections c.as_slice-inputs.ensures.inputs c.as_slice-inputs.ensures.places c.as_u64-start.result c.args.offset c.input_at.result c.input_at.ensures s c.index-inputs-input_at.is c.if-offset-input.true) ∙ to

pub last_at-requires : goal.last_at-requires
last_at-requires c =
    let i = c.section.inside in
    let m = c.section.invariant in
    (_, m.offsets, rising i.inputs i.buckets.items i.string_offsets m)

pub returns-in_err-piece-clause-found : goal.returns-in_err-piece-clause-found
returns-in_err-piece-clause-found c =
    let i = c.section.inside in
    let m = c.section.invariant in
    let sections : List StringMergeInputSection = c.as_slice-inputs.result.now in
    let s : StringMergeInputSection = c.index-inputs-input_at.result in
    let begins : s.start_input_offset ≡ c.as_u64-start.result = sym c.as_u64.ensures ∙ c.if-as_u64-start.false in
    let to : found_place fnv64 i.inputs c.as_u64-start.result c.args.offset ≡ found_place fnv64 c.args.section.now c.args.start c.args.offset
    = ap (λ (n : ℕ). found_place fnv64 i.inputs n c.args.offset) c.as_u64-start.ensures ∙ ap (λ (xs : List MergeInput). found_place fnv64 xs c.args.start c.args.offset) c.section.view_is in
    c.from_residual.ensures ∙ sym (no_entry i.inputs i.buckets.items i.string_offsets m (padded_total i.inputs) sections c.as_slice-inputs.ensures.inputs c.as_slice-inputs.ensures.places c.as_u64-start.result c.args.offset c.input_at.result c.input_at.ensures s c.index-inputs-input_at.is begins c.if-offset-input.false (c.in_err-piece.ensures _ m.offsets (rising i.inputs i.buckets.items i.string_offsets m))) ∙ to

pub overflow_sub-at : goal.overflow_sub-at
overflow_sub-at c =
    let i = c.section.inside in
    let m = c.section.invariant in
    let sections : List StringMergeInputSection = c.as_slice-inputs.result.now in
    let s : StringMergeInputSection = c.index-inputs-input_at.result in
    let begins : s.start_input_offset ≡ c.as_u64-start.result = sym c.as_u64.ensures ∙ c.if-as_u64-start.false in
    (inside i.inputs i.buckets.items i.string_offsets m (padded_total i.inputs) sections c.as_slice-inputs.ensures.inputs c.as_slice-inputs.ensures.places c.as_u64-start.result c.args.offset c.input_at.result c.input_at.ensures s c.index-inputs-input_at.is begins c.if-offset-input.false c.in_ok-piece.piece (c.in_ok-piece.ensures _ m.offsets (rising i.inputs i.buckets.items i.string_offsets m))).1

pub plus-requires : goal.plus-requires
plus-requires c =
    let i = c.section.inside in
    let m = c.section.invariant in
    let sections : List StringMergeInputSection = c.as_slice-inputs.result.now in
    let s : StringMergeInputSection = c.index-inputs-input_at.result in
    let begins : s.start_input_offset ≡ c.as_u64-start.result = sym c.as_u64.ensures ∙ c.if-as_u64-start.false in
    (inside i.inputs i.buckets.items i.string_offsets m (padded_total i.inputs) sections c.as_slice-inputs.ensures.inputs c.as_slice-inputs.ensures.places c.as_u64-start.result c.args.offset c.input_at.result c.input_at.ensures s c.index-inputs-input_at.is begins c.if-offset-input.false c.in_ok-piece.piece (c.in_ok-piece.ensures _ m.offsets (rising i.inputs i.buckets.items i.string_offsets m))).2

pub returns-clause-found : goal.returns-clause-found
returns-clause-found c =
    let i = c.section.inside in
    let m = c.section.invariant in
    let sections : List StringMergeInputSection = c.as_slice-inputs.result.now in
    let s : StringMergeInputSection = c.index-inputs-input_at.result in
    let begins : s.start_input_offset ≡ c.as_u64-start.result = sym c.as_u64.ensures ∙ c.if-as_u64-start.false in
    let to : found_place fnv64 i.inputs c.as_u64-start.result c.args.offset ≡ found_place fnv64 c.args.section.now c.args.start c.args.offset
    = ap (λ (n : ℕ). found_place fnv64 i.inputs n c.args.offset) c.as_u64-start.ensures ∙ ap (λ (xs : List MergeInput). found_place fnv64 xs c.args.start c.args.offset) c.section.view_is in
    ap (λ (n : ℕ). Some n) c.plus.ensures ∙ sym (inside i.inputs i.buckets.items i.string_offsets m (padded_total i.inputs) sections c.as_slice-inputs.ensures.inputs c.as_slice-inputs.ensures.places c.as_u64-start.result c.args.offset c.input_at.result c.input_at.ensures s c.index-inputs-input_at.is begins c.if-offset-input.false c.in_ok-piece.piece (c.in_ok-piece.ensures _ m.offsets (rising i.inputs i.buckets.items i.string_offsets m))).0 ∙ to

pub returns-then-start-total-clause-apart : goal.returns-then-start-total-clause-apart
returns-then-start-total-clause-apart c =
    apart c.section.inside.inputs c.args.section.now c.section.inside.buckets.items c.section.inside.string_offsets c.section.invariant c.section.view_is c.args.start c.args.offset None
    (returns-then-start-total-clause-found c)

pub returns-then-as_u64-start-clause-apart : goal.returns-then-as_u64-start-clause-apart
returns-then-as_u64-start-clause-apart c =
    apart c.section.inside.inputs c.args.section.now c.section.inside.buckets.items c.section.inside.string_offsets c.section.invariant c.section.view_is c.args.start c.args.offset None
    (returns-then-as_u64-start-clause-found c)

pub returns-then-offset-input-clause-apart : goal.returns-then-offset-input-clause-apart
returns-then-offset-input-clause-apart c =
    apart c.section.inside.inputs c.args.section.now c.section.inside.buckets.items c.section.inside.string_offsets c.section.invariant c.section.view_is c.args.start c.args.offset None
    (returns-then-offset-input-clause-found c)

pub returns-in_err-piece-clause-apart : goal.returns-in_err-piece-clause-apart
returns-in_err-piece-clause-apart c =
    apart c.section.inside.inputs c.args.section.now c.section.inside.buckets.items c.section.inside.string_offsets c.section.invariant c.section.view_is c.args.start c.args.offset c.from_residual.result
    (returns-in_err-piece-clause-found c)

pub returns-clause-apart : goal.returns-clause-apart
returns-clause-apart c =
    apart c.section.inside.inputs c.args.section.now c.section.inside.buckets.items c.section.inside.string_offsets c.section.invariant c.section.view_is c.args.start c.args.offset (Some c.plus.result)
    (returns-clause-found c)
