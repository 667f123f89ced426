use Rattle.std.proofs.Common.{◌≡◌, ℕ, List, length, Ok, Err, ap, ◌∙◌, arith}
use Rattle.lk_link.specs.declared.plan.Region.{Region}
use Rattle.lk_place.specs.Regions.{regions_of}
use Rattle.lk_place.proofs.RegionLaws.{all_regions, one_region, region_refused, region_told}
use Rattle.lk_place.proofs.regions.evaluate_regions.Goals as goal

pub returns-in_err-region_of : goal.returns-in_err-region_of
returns-in_err-region_of c =
    let regions : List Region = c.as_slice-regions.result.now in
    let refused : Err c.in_err-region_of.field-0.0 ≡ regions_of regions =
    region_refused regions c.loop-number.number c.index-regions-number.result c.loop-number.values.items c.in_err-region_of.field-0.0
    c.loop-number.invariant c.loop-number-test.true c.index-regions-number.is c.in_err-region_of.ensures in
    region_told c.from_residual-in_err-region_of.result c.in_err-region_of.field-0.0 c.args.link.now.plan.regions c.from_residual-in_err-region_of.ensures.1 (refused ∙ ap regions_of c.as_slice-regions.ensures)

pub loop-number-preserved : goal.loop-number-preserved
loop-number-preserved c =
    one_region c.as_slice-regions.result.now c.loop-number.number c.index-regions-number.result c.loop-number.values.items c.push.new.self.items c.in_ok-region_of.field-0
    c.loop-number.invariant c.loop-number-test.true c.index-regions-number.is c.in_ok-region_of.ensures c.in_ok-push.ensures.items

pub returns : goal.returns
returns c =
    let regions : List Region = c.as_slice-regions.result.now in
    let all : c.loop-number.number ≡ length regions = omega (arith, c.loop-number-test.false) in
    ap (λ (vs : List (ℕ × ℕ)). Ok vs) c.from_vec.ensures
    ∙ all_regions regions c.loop-number.number c.loop-number.values.items c.loop-number.invariant all
    ∙ ap regions_of c.as_slice-regions.ensures
