use Rattle.std.proofs.Common.{◌≡◌, ◌++◌, ℕ, ◌∙◌, Some, ap, arith, length, refl, subst}
use Rattle.std.specs.Prelude.{slice_get}
use Rattle.std.specs.Option.{option_map_or}
use Rattle.lk_link.specs.Inside.{placed_section}
use Rattle.lk_link.specs.PlanSections.{is_thread_local}
use Rattle.lk_place.specs.declared.cursors.Cursors.{Cursors}
use Rattle.lk_expressions.specs.Records.{record_at}
use Rattle.lk_place.specs.Start.{first_cursors}
use Rattle.lk_place.specs.Walk.{AllPass, counters_after, record_after, setting_in}
use Rattle.lk_place.proofs.Knowing.{known_table, recorded_as, tried_as, went_as}
use Rattle.lk_place.proofs.WalkSteps.{IsTried, counters_all, counters_on, cursors_first, goes_on, goes_on_first, passes_on, read_there, record_first, records_on, regions_on, run_next, starts_at, stops, walk_refused}
use Rattle.lk_place.proofs.walk.Walk.walk.Goals as goal

pub loop-number-init : goal.loop-number-init
loop-number-init g c =
    let setting = setting_in g.P.Platform.segment_start c.args.self.now in
    record {
      ends = starts_at setting (first_cursors c.args.base) c.requires.starts ∙ cursors_first setting;
      records = λ p. c.requires.nothing p ∙ record_first setting p;
      pass = λ k below. absurd (omega arith);
      run = refl;
      each = c.requires.each;
      goes_on = λ r. c.requires.origins r ∙ goes_on_first setting r;
      regions = c.requires.regions;
      counters = refl;
    }

pub carry_out-end-requires-clause-in_range : goal.carry_out-end-requires-clause-in_range
carry_out-end-requires-clause-in_range g c =
    let here : slice_get c.args.self.now.link.now.plan.events c.loop-number.number ≡ Some c.event-item.result =
    read_there c.args.self.now.link.now.plan.events c.as_slice-event-items.result.now c.loop-number.number c.event-item.result c.as_slice-event-items.ensures c.loop-number-test.true c.event-item.is in
    c.requires.walkable.ready.events.in_range c.loop-number.number c.event-item.result here

pub carry_out-end-requires-clause-here : goal.carry_out-end-requires-clause-here
carry_out-end-requires-clause-here g c =
    read_there c.args.self.now.link.now.plan.events c.as_slice-event-items.result.now c.loop-number.number c.event-item.result c.as_slice-event-items.ensures c.loop-number-test.true c.event-item.is

pub carry_out-end-requires-clause-walked : goal.carry_out-end-requires-clause-walked
carry_out-end-requires-clause-walked g c =
    let here : slice_get c.args.self.now.link.now.plan.events c.loop-number.number ≡ Some c.event-item.result =
    read_there c.args.self.now.link.now.plan.events c.as_slice-event-items.result.now c.loop-number.number c.event-item.result c.as_slice-event-items.ensures c.loop-number-test.true c.event-item.is in
    c.requires.walked c.loop-number.number c.event-item.result here

pub carry_out-end-requires-clause-run : goal.carry_out-end-requires-clause-run
carry_out-end-requires-clause-run g c = c.loop-number.invariant.run

pub carry_out-end-requires-clause-each : goal.carry_out-end-requires-clause-each
carry_out-end-requires-clause-each g c = c.loop-number.invariant.each

pub carry_out-end-requires-clause-regions : goal.carry_out-end-requires-clause-regions
carry_out-end-requires-clause-regions g c = c.loop-number.invariant.regions

pub returns-in_err-cursors : goal.returns-in_err-cursors
returns-in_err-cursors g c =
    let setting = setting_in g.P.Platform.segment_start c.args.self.now in
    let here : slice_get setting.plan.events c.loop-number.number ≡ Some c.event-item.result =
    read_there c.args.self.now.link.now.plan.events c.as_slice-event-items.result.now c.loop-number.number c.event-item.result c.as_slice-event-items.ensures c.loop-number-test.true c.event-item.is in
    let tried : IsTried setting c.loop-number.number c.event-item.result c.loop-number.cursors c.carry_out-end.result = record {
      here = here;
      so_far = c.loop-number.invariant.ends;
      gave = tried_as setting c.loop-number.number c.event-item.result c.loop-number.cursors c.carry_out-end.result (known_table setting c.loop-number.number c.loop-number.records c.loop-number.goes_on c.loop-number.invariant.each c.loop-number.invariant.records c.loop-number.invariant.goes_on) c.carry_out-end.ensures.ends;
      before = c.loop-number.invariant.pass;
    } in
    walk_refused setting c.from_residual.result c.in_err-cursors.field-0.0 c.carry_out-end.new.records c.args.counters.now.items c.loop-number.counters.items c.from_residual.ensures.1
    (stops setting c.loop-number.number c.event-item.result c.loop-number.cursors c.carry_out-end.result c.in_err-cursors.field-0.0 tried c.in_err-cursors.ensures)

pub loop-number-preserved : goal.loop-number-preserved
loop-number-preserved g c =
    let setting = setting_in g.P.Platform.segment_start c.args.self.now in
    let k : ℕ = c.loop-number.number in
    let to : Cursors = c.in_ok-cursors.cursors in
    let here : slice_get setting.plan.events k ≡ Some c.event-item.result =
    read_there c.args.self.now.link.now.plan.events c.as_slice-event-items.result.now c.loop-number.number c.event-item.result c.as_slice-event-items.ensures c.loop-number-test.true c.event-item.is in
    let tried : IsTried setting k c.event-item.result c.loop-number.cursors c.carry_out-end.result = record {
      here = here;
      so_far = c.loop-number.invariant.ends;
      gave = tried_as setting c.loop-number.number c.event-item.result c.loop-number.cursors c.carry_out-end.result (known_table setting c.loop-number.number c.loop-number.records c.loop-number.goes_on c.loop-number.invariant.each c.loop-number.invariant.records c.loop-number.invariant.goes_on) c.carry_out-end.ensures.ends;
      before = c.loop-number.invariant.pass;
    } in
    record {
      ends = goes_on setting k c.event-item.result c.loop-number.cursors to c.carry_out-end.result tried c.in_ok-cursors.ensures;
      records = records_on setting k c.event-item.result c.loop-number.cursors to c.carry_out-end.result (record_at c.loop-number.records) (record_at c.carry_out-end.new.records) tried c.in_ok-cursors.ensures
          (recorded_as setting k c.event-item.result c.loop-number.cursors c.carry_out-end.result (record_at c.loop-number.records) (record_at c.carry_out-end.new.records)
          (known_table setting k c.loop-number.records c.loop-number.goes_on c.loop-number.invariant.each c.loop-number.invariant.records c.loop-number.invariant.goes_on) c.carry_out-end.ensures.records) c.loop-number.invariant.records;
      pass = passes_on setting k c.event-item.result c.loop-number.cursors to c.carry_out-end.result tried c.in_ok-cursors.ensures;
      run =
          c.in_run_behind-in_run.ensures
          ∙ ap (option_map_or (is_thread_local setting.plan) (placed_section c.event-item.result)) c.loop-number.invariant.run
          ∙ run_next setting.plan k c.event-item.result here;
      each = c.carry_out-end.auto.records ∙ c.loop-number.invariant.each;
      goes_on = regions_on setting k c.event-item.result c.loop-number.cursors to c.carry_out-end.result c.loop-number.goes_on c.carry_out-end.new.goes_on tried c.in_ok-cursors.ensures
          (went_as setting k c.event-item.result c.loop-number.cursors c.carry_out-end.result c.loop-number.goes_on c.carry_out-end.new.goes_on
          (known_table setting k c.loop-number.records c.loop-number.goes_on c.loop-number.invariant.each c.loop-number.invariant.records c.loop-number.invariant.goes_on) c.carry_out-end.ensures.goes_on) c.loop-number.invariant.goes_on;
      regions = c.carry_out-end.auto.goes_on ∙ c.loop-number.invariant.regions;
      counters = counters_on setting k c.event-item.result to c.loop-number.counters.items c.tell_counter.new.counters.items (c.args.counters.now.items ++ counters_after setting) here
          (goes_on setting k c.event-item.result c.loop-number.cursors to c.carry_out-end.result tried c.in_ok-cursors.ensures) c.in_ok-tell_counter.ensures c.loop-number.invariant.counters;
    }

pub returns : goal.returns
returns g c =
    let setting = setting_in g.P.Platform.segment_start c.args.self.now in
    let last : c.loop-number.number ≡ length setting.plan.events = omega (arith, c.loop-number-test.false, c.loop-number.auto.number-end, ap length c.as_slice-event-items.ensures) in (
      subst (AllPass setting) last c.loop-number.invariant.pass,
      λ p. c.loop-number.invariant.records p ∙ ap (λ (k : ℕ). record_after setting k p) last,
      counters_all setting c.loop-number.number c.loop-number.counters.items (c.args.counters.now.items ++ counters_after setting) last c.loop-number.invariant.counters,
    )
