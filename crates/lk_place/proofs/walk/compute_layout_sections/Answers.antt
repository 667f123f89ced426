use Rattle.std.proofs.Common.{◌≡◌, ◌∙◌, ◌++◌, ◌∷◌, [], ℕ, arith, List, length, sym, ap}
use Rattle.lk_link.specs.Parts.{all_parts}
use Rattle.lk_link.specs.Target.{platform_target}
use Rattle.lk_expressions.specs.Records.{Record, record_at}
use Rattle.lk_place.specs.Segments.{section_records}
use Rattle.lk_place.specs.Setting.{IsReady, Setting, setting_of}
use Rattle.lk_place.specs.Walk.{counters_after}
use Rattle.lk_place.proofs.Beginnings.{few_regions}
use Rattle.lk_place.proofs.Computing.{based_at, begins, begins_at, refused_answer, unbegun_answer, walked_placed, written_back}
use Rattle.lk_place.proofs.RegionNames.{own_names}
use Rattle.lk_place.proofs.SectionRegions.{origins_are, origins_count}
use Rattle.lk_place.proofs.ShallowLinks.{shallow_link}
use Rattle.lk_place.proofs.AtHand.{evaluable_events, evaluable_loads}
use Rattle.lk_place.proofs.walk.compute_layout_sections.Goals as goal

pub begin-requires-clause-shallow : goal.begin-requires-clause-shallow
begin-requires-clause-shallow g c = shallow_link c.args.link.now c.requires.well_formed

pub walk-requires-clause-walked : goal.walk-requires-clause-walked
walk-requires-clause-walked g c = evaluable_events c.args.link.now (shallow_link c.args.link.now c.requires.well_formed)

pub walk-requires-clause-loads : goal.walk-requires-clause-loads
walk-requires-clause-loads g c = evaluable_loads c.args.link.now (shallow_link c.args.link.now c.requires.well_formed)

pub walk-requires-clause-starts : goal.walk-requires-clause-starts
walk-requires-clause-starts g c =
    let setting : Setting = setting_of c.args.link.now (platform_target (g.P.Platform.segment_start c.args.platform.now)) c.args.sizes.now c.args.headers c.args.positions.now in
    begins_at setting c.in_ok-beginning.beginning c.in_ok-beginning.ensures

pub regions_of_sections-requires : goal.regions_of_sections-requires
regions_of_sections-requires g c = record {
  few = few_regions c.args.link.now c.requires.well_formed;
  own = own_names c.args.link.now.plan.regions c.in_ok-beginning.beginning.regions c.in_ok-beginning.ensures.regions;
}

pub walk-requires-clause-regions : goal.walk-requires-clause-regions
walk-requires-clause-regions g c =
    let setting : Setting = setting_of c.args.link.now (platform_target (g.P.Platform.segment_start c.args.platform.now)) c.args.sizes.now c.args.headers c.args.positions.now in
    origins_count setting c.deref_mut-2.result.now c.in_ok-goes_on.goes_on.items c.as_slice.result.now c.in_ok-beginning.beginning.regions c.deref_mut-2.ensures.value c.in_ok-goes_on.ensures c.as_slice.ensures c.in_ok-beginning.ensures.regions

pub walk-requires-clause-origins : goal.walk-requires-clause-origins
walk-requires-clause-origins g c r =
    let setting : Setting = setting_of c.args.link.now (platform_target (g.P.Platform.segment_start c.args.platform.now)) c.args.sizes.now c.args.headers c.args.positions.now in
    origins_are setting c.deref_mut-2.result.now c.in_ok-goes_on.goes_on.items c.as_slice.result.now c.in_ok-beginning.beginning.regions c.deref_mut-2.ensures.value c.in_ok-goes_on.ensures c.as_slice.ensures
    c.in_ok-beginning.ensures.regions r

pub returns-in_err-beginning : goal.returns-in_err-beginning
returns-in_err-beginning g c =
    let setting : Setting = setting_of c.args.link.now (platform_target (g.P.Platform.segment_start c.args.platform.now)) c.args.sizes.now c.args.headers c.args.positions.now in
    unbegun_answer setting c.from_residual.result c.in_err-beginning.field-0.0 c.from_residual.ensures.1 c.in_err-beginning.ensures

pub returns-in_err-walk : goal.returns-in_err-walk
returns-in_err-walk g c =
    let setting : Setting = setting_of c.args.link.now (platform_target (g.P.Platform.segment_start c.args.platform.now)) c.args.sizes.now c.args.headers c.args.positions.now in
    let ready : IsReady setting = record { events = c.requires.well_formed.events; sections = c.requires.well_formed.sections; sizes = c.requires.each } in
    refused_answer setting c.from_residual-in_err-walk.result c.in_err-walk.field-0.0 ready (begins setting c.in_ok-beginning.beginning c.in_ok-beginning.ensures) c.from_residual-in_err-walk.ensures.1 _ _ _ c.in_err-walk.ensures

pub returns : goal.returns
returns g c =
    let setting : Setting = setting_of c.args.link.now (platform_target (g.P.Platform.segment_start c.args.platform.now)) c.args.sizes.now c.args.headers c.args.positions.now in
    let ready : IsReady setting = record { events = c.requires.well_formed.events; sections = c.requires.well_formed.sections; sizes = c.requires.each } in
    let parts : List Record = c.walk.new.records in
    let all : c.in_ok-parts.parts.len ≡ length parts = omega (arith, c.walk.auto.records, c.deref_mut.ensures.len) in
    let made : c.from_vec.result ≡ parts = c.from_vec.ensures ∙ written_back c.in_ok-parts.parts.len parts c.in_ok-parts.parts.items all in
    let spans : c.from_vec-2.result ≡ section_records c.args.link.now.plan.sections c.from_vec.result =
    c.from_vec-2.ensures ∙ c.in_ok-sections.ensures ∙ ap (section_records c.args.link.now.plan.sections) (c.deref-4.ensures.value ∙ sym c.from_vec.ensures) in
    let count : length c.from_vec.result ≡ length (all_parts c.args.link.now.plan.sections) = ap length made ∙ omega (arith, c.walk.auto.records, ap length c.deref_mut.ensures.value, c.in_ok-parts.ensures.count, c.requires.each) in
    walked_placed setting c.from_vec.result c.from_vec-2.result c.from_vec-3.result c.in_ok-beginning.beginning.base ready (begins setting c.in_ok-beginning.beginning c.in_ok-beginning.ensures) count c.in_ok-walk.ensures.0 (λ p. ap (λ (rs : List Record). record_at rs p) made ∙ c.in_ok-walk.ensures.1 p) spans
    (based_at setting c.in_ok-beginning.beginning c.in_ok-beginning.ensures)
    (c.from_vec-3.ensures ∙ c.in_ok-walk.ensures.2
    ∙ ap (λ (ns : List ℕ). ns ++ counters_after setting) (c.in_ok-push.ensures.items ∙ ap (λ (ns : List ℕ). ns ++ (c.in_ok-beginning.beginning.base ∷ [])) c.in_ok-counters.ensures.items))
