use Rattle.std.proofs.Common.{◌≡◌, ℕ, refl, Option, Result, Ok, Err, ◌+◌, ◌<◌, true, false, List, Some, length, ap, sym, ◌∙◌, arith}
use Rattle.std.specs.Prelude.{IfErr, IsErrAnd, slice_get}
use Rattle.std.specs.List.{slice_index_or}
use Rattle.std.proofs.lemmas.List.{get_or_default}
use Rattle.lk_link.specs.declared.plan.PlanSection.{PlanSection}
use Rattle.lk_link.proofs.Numbers.{made_of_or}
use Rattle.lk_expressions.specs.Records.{Record, nowhere, record_at}
use Rattle.lk_place.specs.Secondaries.{is_fitting, joined, joined_among, merge_refusal, merged_among}
use Rattle.lk_place.specs.Segments.{Refuses}
use Rattle.lk_place.specs.declared.error.PlaceError.{PlaceError}
use Rattle.lk_place.specs.SecondariesSoFar.{joined_to, merged_so_far}
use Rattle.lk_place.proofs.Computing.{written_back}
use Rattle.lk_place.proofs.SecondaryLaws.{Goes, if_primary, joined_is, left_more, merged_all, merged_more, of_primary, primary_below, primary_first, refused_here}
use Rattle.lk_place.proofs.WalkSteps.{read_there}
use Rattle.lk_place.proofs.secondaries.merge_secondary_parts.Goals as goal

-- a record that is read at its number
same_record : (records : List Record) (n : ℕ) (r : Record) → n < length records → r ≡ slice_index_or records n r → r ≡ record_at records n
same_record records n r below is = is ∙ get_or_default records n r nowhere below

pub merge_section-requires-clause-primary : goal.merge_section-requires-clause-primary
merge_section-requires-clause-primary c =
    let here : slice_get c.args.link.now.plan.sections c.loop-number.number ≡ Some c.section-item.result =
    read_there c.args.link.now.plan.sections c.as_slice-section-items.result.now c.loop-number.number c.section-item.result c.as_slice-section-items.ensures c.loop-number-test.true c.section-item.is in
    let count : length c.as_mut_slice.result.now ≡ length c.args.link.now.plan.sections = omega (arith, c.requires.each, c.loop-number.invariant.count, ap length c.as_mut_slice.ensures.value) in
    if_primary (λ p. p < length c.as_mut_slice.result.now) c.section-item.result.primary (λ p some.
    let below : p < length c.args.link.now.plan.sections =
    primary_below c.args.link.now.plan.sections c.section-item.result c.loop-number.number p c.requires.well_formed.sections here some in
    omega (arith, below, count))

-- a refusal that is handed on
handed_on : {T : Type 0} (o : Option PlaceError) (result : Result T PlaceError) (e : PlaceError) → IsErrAnd result (λ x. x ≡ e) → o ≡ Some e → IfErr result (λ x. Refuses x o)
handed_on o (Ok x) e is at = tt
handed_on o (Err x) e is at = λ _. at ∙ ap (λ (y : PlaceError). Some y) (sym is)

-- what each section spans now
each_now : (sections : List PlanSection) (records old held : List Record) (n : ℕ) → length records ≡ length sections → held ≡ old
    → ((s : ℕ) → s < length records → record_at old s ≡ merged_so_far sections records n s)
    → (t : ℕ) → t < length sections → Goes sections records n t (record_at held t)
each_now sections records old held n count same each t below = ap (λ rs. record_at rs t) same ∙ each t (omega (arith, count))

pub returns-in_err-merge_section-clause-refusal : goal.returns-in_err-merge_section-clause-refusal
returns-in_err-merge_section-clause-refusal c =
    let sections : List PlanSection = c.args.link.now.plan.sections in
    let records : List Record = c.args.sections.now in
    let n : ℕ = c.loop-number.number in
    let section : PlanSection = c.section-item.result in
    let held : List Record = c.as_mut_slice.result.now in
    let here : slice_get sections n ≡ Some section =
    read_there sections c.as_slice-section-items.result.now n section c.as_slice-section-items.ensures c.loop-number-test.true c.section-item.is in
    let each : (t : ℕ) → t < length sections → Goes sections records n t (record_at held t) =
    each_now sections records c.loop-number.merged.items held n c.requires.each c.as_mut_slice.ensures.value c.loop-number.invariant.each in
    let one : c.index-sections-number.result ≡ record_at records n = same_record records n c.index-sections-number.result (omega (arith, c.requires.each, ap length c.as_slice-section-items.ensures)) c.index-sections-number.is in
    let refusal = c.in_err-merge_section.ensures.refusal in
    let p = refusal.0 in
    let long : is_fitting (joined_among sections records (n + 1) p) ≡ false =
    ap is_fitting (sym (ap (joined section (record_at held p)) one ∙ joined_is sections records held section n p c.requires.well_formed.sections here refusal.1 each)) ∙ refusal.3 in
    let first : merge_refusal sections records ≡ Some c.in_err-merge_section.field-0.0 =
    refused_here sections records section n p here refusal.1 long c.loop-number.invariant.left ∙ ap (λ (e : PlaceError). Some e) (sym refusal.2) in
    handed_on (merge_refusal sections records) c.from_residual-in_err-merge_section.result c.in_err-merge_section.field-0.0 (c.from_residual-in_err-merge_section.ensures.1) first

pub loop-number-preserved : goal.loop-number-preserved
loop-number-preserved c =
    let sections : List PlanSection = c.args.link.now.plan.sections in
    let records : List Record = c.args.sections.now in
    let n : ℕ = c.loop-number.number in
    let section : PlanSection = c.section-item.result in
    let held : List Record = c.as_mut_slice.result.now in
    let here : slice_get sections n ≡ Some section =
    read_there sections c.as_slice-section-items.result.now n section c.as_slice-section-items.ensures c.loop-number-test.true c.section-item.is in
    let new : List Record = c.merge_section.new.merged in
    let all : c.loop-number.merged.len ≡ length new = omega (arith, c.merge_section.auto.merged, c.as_mut_slice.ensures.len) in
    let same : length new ≡ length c.loop-number.merged.items = omega (arith, c.merge_section.auto.merged, ap length c.as_mut_slice.ensures.value) in
    let written : _ ≡ new = written_back c.loop-number.merged.len new c.loop-number.merged.items all in
    let each : (t : ℕ) → t < length sections → Goes sections records n t (record_at held t) =
    each_now sections records c.loop-number.merged.items held n c.requires.each c.as_mut_slice.ensures.value c.loop-number.invariant.each in
    let one : c.index-sections-number.result ≡ record_at records n = same_record records n c.index-sections-number.result (omega (arith, c.requires.each, ap length c.as_slice-section-items.ensures)) c.index-sections-number.is in
    record {
      count = ap length written ∙ same ∙ c.loop-number.invariant.count;
      each = λ s below.
          ap (λ rs. record_at rs s) written
          ∙ c.in_ok-merge_section.ensures.joined s
          ∙ ap (λ r. joined_to section.primary section n r held s) one
          ∙ merged_more section.primary sections records held section n s here refl
          (λ p some. primary_first sections section n p c.requires.well_formed.sections here some)
          (λ p some. primary_below sections section n p c.requires.well_formed.sections here some)
          each (omega (arith, below, c.requires.each));
      left = sym (left_more sections records section n here (λ p some.
          ap is_fitting (sym (ap (joined section (record_at held p)) one ∙ joined_is sections records held section n p c.requires.well_formed.sections here some each))
          ∙ of_primary (λ q. is_fitting (joined section (record_at held q) c.index-sections-number.result) ≡ true) section.primary p c.in_ok-merge_section.ensures.fits some))
          ∙ c.loop-number.invariant.left;
    }

pub returns-clause-merged : goal.returns-clause-merged
returns-clause-merged c =
    let sections : List PlanSection = c.args.link.now.plan.sections in
    let records : List Record = c.args.sections.now in
    let count : length c.loop-number.merged.items ≡ length sections = omega (arith, c.requires.each, c.loop-number.invariant.count) in
    let all : c.loop-number.number ≡ length sections = omega (arith, ap length c.as_slice-section-items.ensures) in
    made_of_or (merged_among sections records (length sections)) nowhere c.loop-number.merged.items sections count (λ s below.
    c.loop-number.invariant.each s (omega (arith, c.requires.each)) ∙ merged_all sections records c.loop-number.number s all below)
