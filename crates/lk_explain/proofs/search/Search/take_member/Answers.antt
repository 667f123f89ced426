use Rattle.std.proofs.Common.{◌≡◌, ◌<◌, List, true, refl, sym, ap, ◌∙◌, subst}
use Rattle.std.specs.List.{All}
use Rattle.lk_link.specs.Marks.{is_marked}
use Rattle.lk_reach.specs.declared.units.Ask.{Ask}
use Rattle.lk_reach.specs.declared.units.Unit.TheVariants.{Sec}
use Rattle.lk_reach.specs.Marks.{IsInside, asking, unit_number}
use Rattle.lk_reach.specs.Units.{asked_references, follows}
use Rattle.lk_reach.proofs.UnitLemmas.{asks_are_inside}
use Rattle.lk_explain.specs.Searching.{Takes, far, with_asker}
use Rattle.lk_explain.specs.Sharing.{AreShared}
use Rattle.lk_explain.proofs.SharedLemmas.{shared_after, shared_group, takes_references}
use Rattle.lk_explain.proofs.TakeLemmas.{on_ok}
use Rattle.lk_explain.proofs.search.Search.take_member.Goals as goal

pub returns-then-is_marked : goal.returns-then-is_marked
returns-then-is_marked c =
    let link = c.args.asker.link.now in
    let old = c.args.self.now in
    let new = c.take_references.new.self in
    let asks : List Ask = follows link (Sec c.args.section.0 c.args.section.1) in
    let T : List Ask → Type 0 = λ xs. Takes (asking link) c.args.asker.distance (with_asker c.args.asker.number xs) old new in
    let marked : is_marked c.args.shared.now.groups.items c.args.place ≡ true = ap (λ ms. is_marked ms c.args.place) (sym c.as_slice.ensures.value) ∙ sym c.is_marked.ensures ∙ c.if-is_marked.true in
    on_ok c.take_references.result (T (asked_references link c.args.section.0 c.args.section.1)) (T asks × AreShared link c.args.shared.now new) c.take_references.ensures
    (λ h.
    let all : T asks
    = takes_references link c.args.shared.now c.args.asker.distance c.args.asker.number c.args.section.0 c.args.section.1 c.args.place old new c.requires.distance c.requires.below c.requires.shared c.requires.place marked h in
    (all, shared_after link c.args.shared.now c.args.asker.distance (with_asker c.args.asker.number asks) old new c.requires.shared all))

pub take_all-requires-clause-inside : goal.take_all-requires-clause-inside
take_all-requires-clause-inside c =
    let link = c.args.asker.link.now in
    subst (All (IsInside link.groups)) (sym c.successors.ensures) (asks_are_inside.by_unit link (Sec c.args.section.0 c.args.section.1) c.requires.well_formed)

pub returns : goal.returns
returns c =
    let link = c.args.asker.link.now in
    let old = c.args.self.now in
    let new = c.take_all.new.self in
    let T : List Ask → Type 0 = λ xs. Takes (asking link) c.args.asker.distance (with_asker c.args.asker.number xs) old new in
    let takes : T (follows link (Sec c.args.section.0 c.args.section.1)) = subst T c.successors.ensures c.in_ok-take_all.ensures in
    let own : 0 < far old (unit_number link.groups (Sec c.args.section.0 c.args.section.1)) = subst (λ n. 0 < far old n) c.requires.number c.requires.found in
    (takes, shared_group link c.args.shared.now _ c.args.asker.distance c.args.asker.number c.args.section.0 c.args.section.1 c.args.place old new c.requires.shared c.requires.place own takes refl refl)
