use Rattle.std.proofs.Common.{ℕ, ◌≡◌, ◌+◌, ap, ◌∙◌, arith, cond, ◌<◌}
use Rattle.std.specs.Prelude.{◌==◌}
use Rattle.lk_link.specs.Parts.{first_part}
use Rattle.lk_link.proofs.PartNumbers.{first_part-suc}
use Rattle.lk_place.specs.Placement.{next_end, record_by}
use Rattle.lk_expressions.specs.Records.{Record, record_at}
use Rattle.lk_place.specs.Setting.{part_count, part_number}
use Rattle.lk_place.specs.Walk.{setting_in}
use Rattle.lk_place.proofs.SectionEnds.{given_below, handed_on, part_placed, part_recorded, part_refused, parts_end}
use Rattle.lk_place.proofs.Tables.{range_grows}
use Rattle.lk_place.proofs.walk.Walk.place_parts.Goals as goal

pub returns-in_err-cursors-clause-ends : goal.returns-in_err-cursors-clause-ends
returns-in_err-cursors-clause-ends g c =
    let setting = setting_in g.P.Platform.segment_start c.args.self.now in
    let s = c.args.placing.now.section in
    let count : ℕ = part_count setting.plan.sections s in
    let p : ℕ = c.part_range-first.result.0 + c.loop-place.place in
    let next : first_part setting.plan.sections (c.as_usize.result + 1) ≡ first_part setting.plan.sections (s + 1) = ap (λ (n : ℕ). first_part setting.plan.sections (n + 1)) c.as_usize.ensures in
    let here : first_part setting.plan.sections c.as_usize.result ≡ first_part setting.plan.sections s = ap (first_part setting.plan.sections) c.as_usize.ensures in
    let less : c.loop-place.place < count = omega (arith, next, here, first_part-suc setting.plan.sections s c.requires.in_range) in
    let at : p ≡ part_number setting.plan.sections s c.loop-place.place = omega (arith, here) in
    handed_on c.from_residual.result _ c.in_err-cursors.field-0.0 c.from_residual.ensures.1
    (part_refused setting s c.args.placing.now.begin c.loop-place.cursors c.loop-place.place count p c.in_err-cursors.field-0.0 c.loop-place.invariant.ends less at c.in_err-cursors.ensures.ends)

pub loop-place-preserved : goal.loop-place-preserved
loop-place-preserved g c =
    let setting = setting_in g.P.Platform.segment_start c.args.self.now in
    let s = c.args.placing.now.section in
    let begin = c.args.placing.now.begin in
    let first : ℕ = first_part setting.plan.sections s in
    let place : ℕ = c.loop-place.place in
    let p : ℕ = c.part_range-first.result.0 + place in
    let here : first_part setting.plan.sections c.as_usize.result ≡ first = ap (first_part setting.plan.sections) c.as_usize.ensures in
    let at : p ≡ part_number setting.plan.sections s place = omega (arith, here) in
    record {
      ends = part_placed setting s begin c.loop-place.cursors c.in_ok-cursors.cursors place p c.loop-place.invariant.ends at c.in_ok-cursors.ensures.ends;
      records = range_grows (record_at c.place_next.new.records) (record_at c.loop-place.records) (record_at c.args.records.now) (record_by setting s begin) first place p at
          (λ q. c.in_ok-cursors.ensures.records q ∙ ap (λ (r : Record). cond (q == p) r (record_at c.loop-place.records q)) (part_recorded setting s begin c.loop-place.cursors place p c.loop-place.invariant.ends at))
          c.loop-place.invariant.records;
      fits = given_below (next_end setting s p c.loop-place.cursors) c.in_ok-cursors.cursors c.in_ok-cursors.ensures.ends;
    }

pub returns-clause-ends : goal.returns-clause-ends
returns-clause-ends g c =
    let setting = setting_in g.P.Platform.segment_start c.args.self.now in
    let s = c.args.placing.now.section in
    let count : ℕ = part_count setting.plan.sections s in
    let next : first_part setting.plan.sections (c.as_usize.result + 1) ≡ first_part setting.plan.sections (s + 1) = ap (λ (n : ℕ). first_part setting.plan.sections (n + 1)) c.as_usize.ensures in
    let here : first_part setting.plan.sections c.as_usize.result ≡ first_part setting.plan.sections s = ap (first_part setting.plan.sections) c.as_usize.ensures in
    let all : c.loop-place.place ≡ count = omega (arith, next, here, first_part-suc setting.plan.sections s c.requires.in_range) in
    parts_end setting s c.args.placing.now.begin c.loop-place.cursors c.loop-place.place count c.loop-place.invariant.ends all c.loop-place.invariant.fits
