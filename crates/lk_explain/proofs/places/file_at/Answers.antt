use Rattle.std.proofs.Common.{◌≡◌, ℕ, ◌+◌, ◌-◌, ◌/◌, ◌<◌, ◌≤◌, length, sym, ap, ◌∙◌, arith}
use Rattle.std.specs.List.{slice_get}
use Rattle.std.proofs.lemmas.List.{length-map}
use Rattle.std.proofs.lemmas.Option.{slice_get_past}
use Rattle.lk_link.specs.Inputs.{Input, all_inputs, input_count}
use Rattle.lk_link.proofs.InputLemmas.{inputs_follow}
use Rattle.lk_reach.specs.Walking.{files_of_inputs}
use Rattle.lk_reach.proofs.SymbolNumbers.{inputs_few}
use Rattle.lk_explain.specs.Sharing.{files_of}
use Rattle.lk_explain.proofs.PlaceLemmas.{file_read, last_start, starts_before, starts_behind}
use Rattle.lk_explain.proofs.places.file_at.Goals as goal

pub returns-then-place-input_count : goal.returns-then-place-input_count
returns-then-place-input_count c =
    let groups = c.args.link.now.groups in
    let count : length (all_inputs groups) ≡ input_count groups = inputs_follow.count groups in
    let past : length (files_of_inputs c.args.link.now) ≤ c.args.place
    = omega (arith, count, length-map (all_inputs groups) (λ (x : Input). x.file), inputs_few c.args.link.now c.requires.well_formed, c.input_count.ensures, c.if-place-input_count.true) in
    sym (slice_get_past (files_of_inputs c.args.link.now) c.args.place past)

pub loop-low-preserved-then-starts_by : goal.loop-low-preserved-then-starts_by
loop-low-preserved-then-starts_by c =
    let inv = c.loop-low.invariant in
    let middle : ℕ = c.loop-low.low + (c.loop-low.high - c.loop-low.low) / 2 in
    let below : middle < c.loop-low.high = omega (arith, c.loop-low-test.true) in
    let within : middle < length c.args.files.now = omega (arith, below, inv.1) in (
      omega (arith, below),
      inv.1,
      starts_before c.args.link.now c.args.place middle _ (sym c.starts_by.ensures ∙ c.if-starts_by.true) (file_read c.args.link.now c.args.files.now middle _ c.requires.files within),
      inv.3,
    )

pub loop-low-preserved : goal.loop-low-preserved
loop-low-preserved c =
    let inv = c.loop-low.invariant in
    let middle : ℕ = c.loop-low.low + (c.loop-low.high - c.loop-low.low) / 2 in
    let below : middle < c.loop-low.high = omega (arith, c.loop-low-test.true) in
    let within : middle < length c.args.files.now = omega (arith, below, inv.1) in (
      omega arith,
      omega (arith, within),
      inv.2,
      λ k le lt. starts_behind c.args.link.now c.args.place middle _ (sym c.starts_by.ensures ∙ c.if-starts_by.false) (file_read c.args.link.now c.args.files.now middle _ c.requires.files within) k le,
    )

pub returns : goal.returns
returns c =
    let link = c.args.link.now in
    let inv = c.loop-low.invariant in
    let low : ℕ = c.loop-low.low in
    let count : c.args.place < input_count link.groups = omega (arith, inputs_few link c.requires.well_formed, c.input_count.ensures, c.if-place-input_count.false) in
    let same : length c.args.files.now ≡ length (files_of link) = ap length c.requires.files in
    let last = last_start link c.args.place low count inv.2 (λ k le lt. inv.3 k (omega (arith, le, c.loop-low-test.false)) (omega (arith, lt, same))) in
    let place : c.in_ok-last.last ≡ low - 1 = omega (arith, last.some, c.in_ok-last.ensures) in
    let within : c.in_ok-last.last < length c.args.files.now = omega (arith, place, last.some, inv.0, inv.1) in
    sym (file_read link c.args.files.now c.in_ok-last.last _ c.requires.files within) ∙ ap (slice_get (files_of link)) place ∙ last.there ∙ sym last.of
