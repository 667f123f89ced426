use Rattle.std.proofs.Common.{◌≡◌, ◌-◌, ◌^◌, ◌∙◌, arith, rules, sym, suc}
use Rattle.lk_deltas.specs.DeltaWords.{ranges_of}
use Rattle.lk_deltas.proofs.DeltaLemmas.{few_before, last_tells, none_starts, ranges_rise}
use Rattle.lk_deltas.proofs.deltas.deleted_before.Goals as goal

pub returns-then-count-eq0-clause-bytes : goal.returns-then-count-eq0-clause-bytes
returns-then-count-eq0-clause-bytes c =
    let none : c.count_before-count.result ≡ 0 = search rules in
    sym (none_starts 0 0 c.args.offset c.args.deltas.now c.requires (sym c.count_before-count.ensures.count ∙ none))

pub overflow_sub-offset : goal.overflow_sub-offset
overflow_sub-offset c =
    let n = c.count_before-count.result in
    let some : n ≡ suc (n - 1) = search rules in
    let told = last_tells 0 0 c.args.offset c.args.deltas.now (n - 1) (record { range = (0, 0); before = 0 }) c.requires (sym c.count_before-count.ensures.count ∙ some) in
    omega (arith, told.0)

pub overflow_add-result : goal.overflow_add-result
overflow_add-result c =
    let ds = c.args.deltas.now in
    let n = c.count_before-count.result in
    let some : n ≡ suc (n - 1) = search rules in
    let told = last_tells 0 0 c.args.offset ds (n - 1) (record { range = (0, 0); before = 0 }) c.requires (sym c.count_before-count.ensures.count ∙ some) in
    omega (arith, told.1, c.min.ensures, few_before 0 (2 ^ 64 - 1) c.args.offset (ranges_of ds) (ranges_rise 0 0 ds c.requires), c.ranges.offset.fits)

pub returns-clause-bytes : goal.returns-clause-bytes
returns-clause-bytes c =
    let n = c.count_before-count.result in
    let some : n ≡ suc (n - 1) = search rules in
    let told = last_tells 0 0 c.args.offset c.args.deltas.now (n - 1) (record { range = (0, 0); before = 0 }) c.requires (sym c.count_before-count.ensures.count ∙ some) in
    omega (arith, told.1, c.min.ensures)

pub returns-clause-inside : goal.returns-clause-inside
returns-clause-inside c =
    let ds = c.args.deltas.now in
    let n = c.count_before-count.result in
    let some : n ≡ suc (n - 1) = search rules in
    let told = last_tells 0 0 c.args.offset ds (n - 1) (record { range = (0, 0); before = 0 }) c.requires (sym c.count_before-count.ensures.count ∙ some) in
    omega (arith, told.1, c.min.ensures, few_before 0 (2 ^ 64 - 1) c.args.offset (ranges_of ds) (ranges_rise 0 0 ds c.requires))
