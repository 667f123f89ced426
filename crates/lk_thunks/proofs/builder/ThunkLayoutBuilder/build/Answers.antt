use Rattle.std.proofs.Common.{◌≡◌, filter, length, arith, ap, ◌∙◌}
use Rattle.lk_thunks.specs.Ranges.{has_bytes, planned_objects}
use Rattle.lk_thunks.proofs.Sums.{objects_few}
use Rattle.lk_thunks.proofs.builder.ThunkLayoutBuilder.build.Goals as goal

pub thunk_sets-requires-clause-few : goal.thunk_sets-requires-clause-few
thunk_sets-requires-clause-few c =
    let link = c.args.link.now in
    let live = c.args.live.now in
    let objects : c.in_ok-objects.objects.items ≡ planned_objects link live c.args.start = c.in_ok-objects.ensures ∙ ap (filter has_bytes) (c.deref.ensures.value ∙ c.in_ok-ranges.ensures) in
    omega (arith, ap length objects, objects_few link live c.args.start c.requires.good, c.in_ok-blocks.ensures.few, ap length c.deref-2.ensures.value, ap length c.deref-5.ensures.value)

pub assigned_of-requires : goal.assigned_of-requires
assigned_of-requires c =
    let link = c.args.link.now in
    let live = c.args.live.now in
    let objects : c.in_ok-objects.objects.items ≡ planned_objects link live c.args.start = c.in_ok-objects.ensures ∙ ap (filter has_bytes) (c.deref.ensures.value ∙ c.in_ok-ranges.ensures) in
    omega (arith, ap length objects, objects_few link live c.args.start c.requires.good, c.in_ok-blocks.ensures.few, ap length c.deref-2.ensures.value, ap length c.deref-8.ensures.value)
