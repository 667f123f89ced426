use Rattle.std.proofs.Common.{◌≡◌, List, true, sym, ◌∙◌, subst}
use Rattle.std.specs.List.{All}
use Rattle.lk_link.specs.FileKinds.{is_script}
use Rattle.lk_link.specs.Walks.{file_of}
use Rattle.lk_reach.specs.declared.units.Ask.{Ask}
use Rattle.lk_reach.specs.Marks.{IsInside, asking}
use Rattle.lk_reach.specs.Units.{file_roots, location_asks}
use Rattle.lk_reach.proofs.UnitLemmas.{file_inside}
use Rattle.lk_explain.specs.Searching.{Takes, with_asker}
use Rattle.lk_explain.proofs.RootLemmas.{found_after, located_after}
use Rattle.lk_explain.proofs.search.Search.take_file.Goals as goal

pub take_all-requires-clause-inside : goal.take_all-requires-clause-inside
take_all-requires-clause-inside c =
    let link = c.args.link.now in
    subst (All (IsInside link.groups)) (sym c.file_roots.ensures) (file_inside link (file_of c.args.file) c.requires.well_formed c.requires.there)

pub returns-then-not-is_script : goal.returns-then-not-is_script
returns-then-not-is_script c =
    let link = c.args.link.now in
    let old = c.args.self.now in
    let new = c.take_all.new.self in
    let asks : List Ask = file_roots link (file_of c.args.file) in
    let T : List Ask → Type 0 = λ xs. Takes (asking link) 1 (with_asker 0 xs) old new in
    let takes : T asks = subst T c.file_roots.ensures c.in_ok-take_all.ensures in
    (takes, λ set. found_after link 1 (with_asker 0 asks) (location_asks link) old new takes (c.requires.located set))

pub take_wanted-requires-clause-located : goal.take_wanted-requires-clause-located
take_wanted-requires-clause-located c = c.requires.located c.if-located.true

pub returns-then-located : goal.returns-then-located
returns-then-located c =
    let link = c.args.link.now in
    let takes = c.in_ok-take_wanted.ensures in
    (takes, λ set. found_after link 1 (with_asker 0 (file_roots link (file_of c.args.file))) (location_asks link) c.args.self.now c.take_wanted.new.self takes (c.requires.located c.if-located.true))

pub take_all-requires-2-clause-inside : goal.take_all-requires-2-clause-inside
take_all-requires-2-clause-inside c =
    let link = c.args.link.now in
    subst (All (IsInside link.groups)) (sym c.file_roots-2.ensures) (file_inside link (file_of c.args.file) c.requires.well_formed c.requires.there)

pub returns : goal.returns
returns c =
    let link = c.args.link.now in
    let f = file_of c.args.file in
    let old = c.args.self.now in
    let new = c.take_all-2.new.self in
    let script : is_script f.file.kind ≡ true = sym c.is_script.ensures ∙ c.if-not-is_script.false in
    let T : List Ask → Type 0 = λ xs. Takes (asking link) 1 (with_asker 0 xs) old new in
    let takes : T (file_roots link f) = subst T c.file_roots-2.ensures c.in_ok-take_all-2.ensures in
    (takes, λ set. located_after link f old new script takes)
