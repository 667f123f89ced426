use Rattle.std.proofs.Common.{ap, sym, ◌∙◌, subst}
use Rattle.std.specs.List.{All}
use Rattle.lk_link.specs.Marks.{is_marked}
use Rattle.lk_reach.specs.declared.units.Unit.TheVariants.{Sec}
use Rattle.lk_reach.specs.Marks.{IsInside}
use Rattle.lk_reach.specs.Units.{asked_members, asked_references, follows}
use Rattle.lk_reach.specs.Walking.{Adds, AreTaken}
use Rattle.lk_reach.proofs.GroupLemmas.{adds_references, place_within, taken_first, taken_more}
use Rattle.lk_reach.proofs.MarkLemmas.{all_right}
use Rattle.lk_reach.proofs.UnitLemmas.{asks_are_inside}
use Rattle.lk_reach.proofs.walk.Walk.take_member.Goals as goal

pub take_all-requires-clause-inside : goal.take_all-requires-clause-inside
take_all-requires-clause-inside c =
    let link = c.args.link.now in
    let inside = asks_are_inside.by_unit link (Sec c.args.file c.args.index) c.requires.well_formed in
    subst (All (IsInside link.groups)) (sym c.section_references.ensures)
    (all_right (IsInside link.groups) (asked_members link c.args.file c.args.index) (asked_references link c.args.file c.args.index) inside)

pub returns-then-is_marked : goal.returns-then-is_marked
returns-then-is_marked c =
    let link = c.args.link.now in
    let old = c.args.self.now in
    let new = c.take_all.new.self in
    let adds : Adds link (asked_references link c.args.file c.args.index) old new = subst (λ xs. Adds link xs old new) c.section_references.ensures c.in_ok-take_all.ensures in
    let all = adds_references link c.args.taken.now.items old new c.args.file c.args.index c.args.place c.requires.taken c.requires.place (ap (λ ms. is_marked ms c.args.place) (sym c.as_slice.ensures.value) ∙ sym c.is_marked.ensures ∙ c.if-is_marked.true) adds in
    (all, taken_more link c.args.taken.now.items (follows link (Sec c.args.file c.args.index)) old new c.requires.taken all)

pub take_all-requires-2-clause-inside : goal.take_all-requires-2-clause-inside
take_all-requires-2-clause-inside c =
    let link = c.args.link.now in
    subst (All (IsInside link.groups)) (sym c.successors.ensures) (asks_are_inside.by_unit link (Sec c.args.file c.args.index) c.requires.well_formed)

pub set_mark-requires : goal.set_mark-requires
set_mark-requires c = place_within c.args.link.now c.args.taken.now.items c.args.self.now.marks.items c.args.file c.args.index c.args.place c.requires.taken c.requires.place

pub returns : goal.returns
returns c =
    let link = c.args.link.now in
    let old = c.args.self.now in
    let new = c.take_all-2.new.self in
    let adds : Adds link (follows link (Sec c.args.file c.args.index)) old new = subst (λ xs. Adds link xs old new) c.successors.ensures c.in_ok-take_all-2.ensures in (
      adds,
      subst (λ ms. AreTaken link ms new.marks.items) (sym c.set_mark.ensures)
          (taken_first link c.args.taken.now.items old new c.args.file c.args.index c.args.place c.requires.well_formed c.requires.sized c.requires.taken c.requires.place c.requires.marked adds),
    )
