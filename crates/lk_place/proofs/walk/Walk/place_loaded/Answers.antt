use Rattle.std.proofs.Common.{◌≡◌, ◌∙◌, ℕ, List, ap}
use Rattle.std.proofs.lemmas.Option.{slice_get_within}
use Rattle.lk_link.specs.declared.plan.OrderEvent.TheVariants.{Section}
use Rattle.lk_link.specs.PlanSections.{section_at}
use Rattle.lk_place.specs.declared.cursors.Cursors.{Cursors}
use Rattle.lk_place.specs.PlacedBefore.{standing_before}
use Rattle.lk_place.specs.Placement.{load_by, load_given, section_left, section_overflow}
use Rattle.lk_expressions.specs.Records.{Record}
use Rattle.lk_place.specs.Setting.{Setting}
use Rattle.lk_place.specs.Walk.{setting_in}
use Rattle.lk_place.proofs.Loading.{load_known, loads_passed, loads_refused, loads_written, placed_is}
use Rattle.lk_place.proofs.walk.Walk.place_loaded.Goals as goal

pub number_behind-next-requires : goal.number_behind-next-requires
number_behind-next-requires g c = slice_get_within c.args.self.now.link.now.plan.events c.args.event (Section c.args.section) c.requires.here

pub returns-in_err-load-clause-ends : goal.returns-in_err-load-clause-ends
returns-in_err-load-clause-ends g c =
    let setting : Setting = setting_in g.P.Platform.segment_start c.args.self.now in
    let s : ℕ = c.args.section in
    let from : Cursors = c.args.from in
    let behind : Cursors = c.in_ok-behind.behind in
    let old : List Record = c.args.records.now in
    let mid : List Record = c.place_section.new.records in
    let placed = placed_is (section_overflow setting s from) behind (section_left setting s from) c.in_ok-behind.ensures.ends in
    let given : load_by setting s (standing_before setting.plan mid c.number_behind-next.result) behind (section_at setting.plan.sections s).at ≡ load_given setting (standing_before setting.plan old c.args.event) s from =
    ap (λ (n : ℕ). load_by setting s (standing_before setting.plan mid n) behind (section_at setting.plan.sections s).at) c.number_behind-next.ensures
    ∙ load_known setting c.args.event s from behind old mid c.requires.walkable.ready c.requires.here c.requires.each (c.place_section.auto.records ∙ c.requires.each) c.in_ok-behind.ensures.records placed.1 in
    loads_refused (section_overflow setting s from) (load_given setting (standing_before setting.plan old c.args.event) s from) c.from_residual-in_err-load.result c.in_err-load.field-0.0 (section_left setting s from)
    placed.0 (c.in_err-load.ensures ∙ given) c.from_residual-in_err-load.ensures.1

pub returns-clause-ends : goal.returns-clause-ends
returns-clause-ends g c =
    let setting : Setting = setting_in g.P.Platform.segment_start c.args.self.now in
    let s : ℕ = c.args.section in
    let from : Cursors = c.args.from in
    let behind : Cursors = c.in_ok-behind.behind in
    let old : List Record = c.args.records.now in
    let mid : List Record = c.place_section.new.records in
    let placed = placed_is (section_overflow setting s from) behind (section_left setting s from) c.in_ok-behind.ensures.ends in
    let given : load_by setting s (standing_before setting.plan mid c.number_behind-next.result) behind (section_at setting.plan.sections s).at ≡ load_given setting (standing_before setting.plan old c.args.event) s from =
    ap (λ (n : ℕ). load_by setting s (standing_before setting.plan mid n) behind (section_at setting.plan.sections s).at) c.number_behind-next.ensures
    ∙ load_known setting c.args.event s from behind old mid c.requires.walkable.ready c.requires.here c.requires.each (c.place_section.auto.records ∙ c.requires.each) c.in_ok-behind.ensures.records placed.1 in
    loads_passed (section_overflow setting s from) (load_given setting (standing_before setting.plan old c.args.event) s from) c.in_ok-load.load behind (section_left setting s from)
    placed.0 (c.in_ok-load.ensures ∙ given) placed.1

pub returns-clause-records : goal.returns-clause-records
returns-clause-records g c =
    let setting : Setting = setting_in g.P.Platform.segment_start c.args.self.now in
    let s : ℕ = c.args.section in
    let from : Cursors = c.args.from in
    let behind : Cursors = c.in_ok-behind.behind in
    let old : List Record = c.args.records.now in
    let mid : List Record = c.place_section.new.records in
    let placed = placed_is (section_overflow setting s from) behind (section_left setting s from) c.in_ok-behind.ensures.ends in
    let given : load_by setting s (standing_before setting.plan mid c.number_behind-next.result) behind (section_at setting.plan.sections s).at ≡ load_given setting (standing_before setting.plan old c.args.event) s from =
    ap (λ (n : ℕ). load_by setting s (standing_before setting.plan mid n) behind (section_at setting.plan.sections s).at) c.number_behind-next.ensures
    ∙ load_known setting c.args.event s from behind old mid c.requires.walkable.ready c.requires.here c.requires.each (c.place_section.auto.records ∙ c.requires.each) c.in_ok-behind.ensures.records placed.1 in
    loads_written setting (standing_before setting.plan old c.args.event) s from c.in_ok-load.load old mid c.load_parts.new.records (c.in_ok-load.ensures ∙ given) c.in_ok-behind.ensures.records c.load_parts.ensures
