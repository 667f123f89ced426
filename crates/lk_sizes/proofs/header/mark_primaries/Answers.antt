use Rattle.std.proofs.Common.{◌≡◌, ◌+◌, Bool, List, length, drop, refl, ap, sym, ◌∙◌, subst, arith, rules}
use Rattle.std.proofs.lemmas.List.{take_at}
use Rattle.lk_link.specs.PlanSections.{primary_of}
use Rattle.lk_sizes.proofs.Emitting.{ArePrimaries, one_primary, primaries_end}
use Rattle.lk_sizes.proofs.header.mark_primaries.Goals as goal
use Rattle.lk_link.specs.Marks.{is_marked}

pub loop-number-preserved : goal.loop-number-preserved
loop-number-preserved c =
    let new = c.set_mark.new.marks in
    let long : length new ≡ c.loop-number.marks.len = search rules in
    let taken = take_at new (drop (length new) c.loop-number.marks.items) c.loop-number.marks.len long in
    let sections = c.args.sections.now in
    let kept = c.args.kept.now in
    let step = rw c.deref_mut.ensures.value at c.set_mark.ensures in
    let here : c.as_usize.result ≡ primary_of sections c.loop-number.number = c.as_usize.ensures ∙ c.primary_of-primary.ensures ∙ ap (primary_of sections) c.from_u32.ensures in
    let count : length c.loop-number.marks.items ≡ length sections = search rules in
    record {
      count = search rules;
      marks = subst (λ (ms : List Bool). ArePrimaries sections kept (c.loop-number.number + 1) ms) (sym taken)
          (one_primary sections kept c.loop-number.marks.items new c.loop-number.number c.as_usize.result (is_marked kept c.loop-number.number) c.loop-number.invariant.marks (omega arith) here refl count step);
    }

pub returns-clause-marks : goal.returns-clause-marks
returns-clause-marks c = primaries_end c.args.sections.now c.args.kept.now c.loop-number.number c.loop-number.marks.items c.loop-number.invariant.marks (omega arith)
