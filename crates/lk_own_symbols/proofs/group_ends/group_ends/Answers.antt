use Rattle.std.proofs.Common.{◌≡◌, ◌∙◌, ap, arith, ℕ, ◌+◌, ◌<◌, ◌≤◌, List, drop, length, Some}
use Rattle.std.specs.Prelude.{if◌then◌else◌, max, slice_get, slice_index}
use Rattle.std.specs.List.{enumerate_from, slice_index_or}
use Rattle.std.proofs.lemmas.List.{get_or_default}
use Rattle.lk_link.specs.declared.plan.PlanSection.{PlanSection}
use Rattle.lk_link.proofs.Numbers.{made_of_or}
use Rattle.lk_expressions.specs.Records.{Record, mem_end, nowhere, record_at}
use Rattle.lk_place.specs.Secondaries.{is_secondary_to}
use Rattle.lk_own_symbols.specs.Edges.{group_end}
use Rattle.lk_own_symbols.proofs.GroupEnds.{if_primary, none_left, primary_below, raised, raised_more, read_there, written_back}
use Rattle.lk_own_symbols.proofs.group_ends.group_ends.Goals as goal

pub raise_primary-requires : goal.raise_primary-requires
raise_primary-requires c =
    let sections : List PlanSection = c.args.link.now.plan.sections in
    let section : PlanSection = c.section-item.result in
    let here : slice_get sections c.loop-number.number ≡ Some section =
    read_there sections c.as_slice-section-items.result.now c.loop-number.number section c.as_slice-section-items.ensures c.loop-number-test.true c.section-item.is in
    let count : length c.as_mut_slice.result.now ≡ length sections = omega (arith, c.requires.each, c.loop-number.invariant.count, ap length c.as_mut_slice.ensures.value) in
    if_primary (λ p. p < length c.as_mut_slice.result.now) section.primary (λ p some.
    let below : p < length sections = primary_below sections section c.loop-number.number p c.requires.well_formed.sections here some in
    omega (arith, below, count))

-- a record that is read at its number
same_record : (records : List Record) (n : ℕ) (r : Record) → n < length records → r ≡ slice_index_or records n r → r ≡ record_at records n
same_record records n r below is = is ∙ get_or_default records n r nowhere below

pub loop-number-preserved : goal.loop-number-preserved
loop-number-preserved c =
    let sections : List PlanSection = c.args.link.now.plan.sections in
    let records : List Record = c.args.sections.now in
    let n : ℕ = c.loop-number.number in
    let section : PlanSection = c.section-item.result in
    let here : slice_get sections n ≡ Some section =
    read_there sections c.as_slice-section-items.result.now n section c.as_slice-section-items.ensures c.loop-number-test.true c.section-item.is in
    let new : List ℕ = c.raise_primary.new.ends in
    let old : List ℕ = c.loop-number.ends.items in
    let held : List ℕ = c.as_mut_slice.result.now in
    let all : c.loop-number.ends.len ≡ length new = omega (arith, c.raise_primary.auto.ends, c.as_mut_slice.ensures.len) in
    let same : length new ≡ length old = omega (arith, c.raise_primary.auto.ends, ap length c.as_mut_slice.ensures.value) in
    let written : _ ≡ new = written_back c.loop-number.ends.len new old all in
    let one : c.mem_end.result ≡ mem_end (record_at records n)
    = c.mem_end.ensures ∙ ap mem_end (same_record records n c.index-sections-number.result (omega (arith, c.requires.each, c.loop-number-test.true, ap length c.as_slice-section-items.ensures)) c.index-sections-number.is) in
    record {
      count = ap length written ∙ same ∙ c.loop-number.invariant.count;
      each = λ s below.
          ap (λ (ends : List ℕ). raised records s (slice_index ends s) (enumerate_from (n + 1) (drop (n + 1) sections))) written
          ∙ raised_more sections records section n s (slice_index old s) (slice_index new s) here
          (c.raise_primary.ensures s
          ∙ ap (λ (m : ℕ). if is_secondary_to s section then max (slice_index held s) m else slice_index held s) one
          ∙ ap (λ (ends : List ℕ). if is_secondary_to s section then max (slice_index ends s) (mem_end (record_at records n)) else slice_index ends s) c.as_mut_slice.ensures.value)
          ∙ c.loop-number.invariant.each s below;
    }

pub returns : goal.returns
returns c =
    let sections : List PlanSection = c.args.link.now.plan.sections in
    let records : List Record = c.args.sections.now in
    let ends : List ℕ = c.loop-number.ends.items in
    let count : length ends ≡ length sections = omega (arith, c.requires.each, c.loop-number.invariant.count) in
    let far : length sections ≤ c.loop-number.number = omega (arith, c.loop-number-test.false, ap length c.as_slice-section-items.ensures) in
    made_of_or (group_end sections records) 0 ends sections count (λ s below.
    none_left sections records c.loop-number.number s (slice_index ends s) far
    ∙ c.loop-number.invariant.each s (omega (arith, below, c.requires.each)))
