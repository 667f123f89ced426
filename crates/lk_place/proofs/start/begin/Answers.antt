use Rattle.std.proofs.Common.{◌≡◌, Ok, Err, ap, sym, ◌∙◌}
use Rattle.lk_link.proofs.Powers.{alignment-pos}
use Rattle.lk_link.specs.declared.fault.Place.TheVariants.{Base}
use Rattle.lk_place.specs.declared.error.PlaceError.TheVariants.{Expression}
use Rattle.lk_place.specs.Base.{first_memory}
use Rattle.lk_place.specs.Start.{begun_memory, constants_by}
use Rattle.lk_place.proofs.Beginnings.{based, begun_refused, few_regions, memory_given}
use Rattle.lk_place.proofs.start.begin.Goals as goal

pub evaluate_regions-requires-clause-few : goal.evaluate_regions-requires-clause-few
evaluate_regions-requires-clause-few c = few_regions c.args.link.now c.requires.well_formed

pub begin_memory-requires : goal.begin_memory-requires
begin_memory-requires c = alignment-pos c.args.link.now.plan.page c.requires.well_formed.page

pub returns-in-Err : goal.returns-in-Err
returns-in-Err c =
    let link = c.args.link.now in
    memory_given link.plan link.groups c.args.headers c.in_ok-regions.regions c.as_slice.result.now c.as_slice-2.result.now
    c.in_ok-constants.constants.items c.deref.result.now (Err (Expression Base c.in-Err.cause))
    c.in_ok-regions.ensures c.as_slice.ensures c.in_ok-constants.ensures c.as_slice-2.ensures c.deref.ensures.value
    (ap (first_memory link.plan c.args.headers) (sym c.in-Err.is ∙ c.base_value.ensures))

pub returns-in_err-memory : goal.returns-in_err-memory
returns-in_err-memory c =
    let link = c.args.link.now in
    let given : begun_memory link.plan link.groups c.args.headers ≡ Err c.in_err-memory.field-0.0 =
    memory_given link.plan link.groups c.args.headers c.in_ok-regions.regions c.as_slice.result.now c.as_slice-2.result.now
    c.in_ok-constants.constants.items c.deref.result.now (Err c.in_err-memory.field-0.0)
    c.in_ok-regions.ensures c.as_slice.ensures c.in_ok-constants.ensures c.as_slice-2.ensures c.deref.ensures.value
    (c.in_err-memory.ensures ∙ ap (first_memory link.plan c.args.headers) (sym c.in-Ok.is ∙ c.base_value.ensures)) in
    begun_refused link.plan link.groups c.args.headers c.from_residual-in_err-memory.result c.in_err-memory.field-0.0 c.from_residual-in_err-memory.ensures.1 given

pub returns : goal.returns
returns c =
    let link = c.args.link.now in
    record {
      regions = sym c.in_ok-regions.ensures;
      constants = λ some. c.in_ok-constants.ensures some ∙ ap (constants_by link.groups c.args.headers) c.as_slice.ensures;
      base = based link.plan link.groups c.args.headers c.in_ok-regions.regions c.as_slice.result.now c.as_slice-2.result.now
          c.in_ok-constants.constants.items c.deref.result.now (Ok c.in-Ok.base)
          c.as_slice.ensures c.in_ok-constants.ensures c.as_slice-2.ensures c.deref.ensures.value (sym c.in-Ok.is ∙ c.base_value.ensures);
      memory = memory_given link.plan link.groups c.args.headers c.in_ok-regions.regions c.as_slice.result.now c.as_slice-2.result.now
          c.in_ok-constants.constants.items c.deref.result.now (Ok c.in_ok-memory.memory)
          c.in_ok-regions.ensures c.as_slice.ensures c.in_ok-constants.ensures c.as_slice-2.ensures c.deref.ensures.value
          (c.in_ok-memory.ensures ∙ ap (first_memory link.plan c.args.headers) (sym c.in-Ok.is ∙ c.base_value.ensures));
    }
