use Rattle.std.proofs.Common.{◌≡◌, List, [], sym, subst}
use Rattle.std.specs.List.{All}
use Rattle.std.proofs.lemmas.Option.{MatchOption-at_none, MatchOption-at_some}
use Rattle.lk_reach.specs.declared.units.Ask.{Ask}
use Rattle.lk_reach.specs.declared.units.Unit.TheVariants.{Sec}
use Rattle.lk_reach.specs.Marks.{IsInside, asking}
use Rattle.lk_reach.specs.Units.{asked_members, asked_references}
use Rattle.lk_reach.proofs.MarkLemmas.{all_right}
use Rattle.lk_reach.proofs.UnitLemmas.{asks_are_inside}
use Rattle.lk_explain.specs.Searching.{Takes, with_asker}
use Rattle.lk_explain.specs.Sharing.{AreReferences, references_in}
use Rattle.lk_explain.proofs.SharedLemmas.{references_inside, takes_marks}
use Rattle.lk_explain.proofs.TakeLemmas.{on_ok, takes_none}
use Rattle.lk_explain.proofs.search.Search.take_references.Goals as goal

pub take_relocations-requires-clause-numbers : goal.take_relocations-requires-clause-numbers
take_relocations-requires-clause-numbers c =
    let are : AreReferences c.args.asker.link.now c.args.id c.args.index c.in-Some.references = MatchOption-at_some _ _ c.in-Some.references c.in-Some.is c.references_of.ensures in
    are.numbers

pub take_relocations-requires-clause-inside : goal.take_relocations-requires-clause-inside
take_relocations-requires-clause-inside c =
    let link = c.args.asker.link.now in
    let r = c.in-Some.references in
    let are : AreReferences link c.args.id c.args.index r = MatchOption-at_some _ _ r c.in-Some.is c.references_of.ensures in
    let all = asks_are_inside.by_unit link (Sec c.args.id c.args.index) c.requires.well_formed in
    let own : All (IsInside link.groups) (asked_references link c.args.id c.args.index)
    = all_right (IsInside link.groups) (asked_members link c.args.id c.args.index) (asked_references link c.args.id c.args.index) all in
    references_inside link are.primary r.first r.symbols.now r.relocations.now (subst (All (IsInside link.groups)) are.are own)

pub returns-in-Some : goal.returns-in-Some
returns-in-Some c =
    let link = c.args.asker.link.now in
    let old = c.args.self.now in
    let new = c.take_relocations.new.self in
    let r = c.in-Some.references in
    let are : AreReferences link c.args.id c.args.index r = MatchOption-at_some _ _ r c.in-Some.is c.references_of.ensures in
    let T : List Ask → Type 0 = λ xs. Takes (asking link) c.args.asker.distance (with_asker c.args.asker.number xs) old new in
    on_ok c.take_relocations.result (T (references_in r)) (T (asked_references link c.args.id c.args.index)) c.take_relocations.ensures
    (λ h. subst T (sym are.are) (takes_marks link c.args.asker.distance c.args.asker.number are.primary r.first r.symbols.now r.relocations.now old new h))

pub returns-in-None : goal.returns-in-None
returns-in-None c =
    let link = c.args.asker.link.now in
    let s = c.args.self.now in
    let none : asked_references link c.args.id c.args.index ≡ [] = MatchOption-at_none _ _ c.in-None.is c.references_of.ensures in
    let T : List Ask → Type 0 = λ xs. Takes (asking link) c.args.asker.distance (with_asker c.args.asker.number xs) s s in
    subst T (sym none) (takes_none (asking link) c.args.asker.distance s c.requires.distance)
