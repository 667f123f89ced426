use Rattle.std.proofs.Common.{◌≡◌, ◌++◌, true, [], sym, ◌∙◌, subst}
use Rattle.std.specs.List.{All}
use Rattle.lk_link.specs.FileKinds.{is_script}
use Rattle.lk_link.specs.Walks.{file_of}
use Rattle.lk_reach.specs.Marks.{IsInside}
use Rattle.lk_reach.specs.Units.{file_roots, location_asks, wanted_symbol_asks}
use Rattle.lk_reach.specs.Walking.{Adds}
use Rattle.lk_reach.proofs.EdgeLemmas.{adds_script, located_after, script_inside}
use Rattle.lk_reach.proofs.UnitLemmas.{file_inside}
use Rattle.lk_reach.proofs.WalkLemmas.{done_more}
use Rattle.lk_reach.proofs.walk.Walk.take_file.Goals as goal

pub take_all-requires-clause-inside : goal.take_all-requires-clause-inside
take_all-requires-clause-inside c =
    let link = c.args.link.now in
    subst (All (IsInside link.groups)) (sym c.file_roots.ensures) (file_inside link (file_of c.args.file) c.requires.well_formed c.requires.there)

pub returns-then-not-is_script : goal.returns-then-not-is_script
returns-then-not-is_script c =
    let link = c.args.link.now in
    let old = c.args.self.now in
    let new = c.take_all.new.self in
    let asks = file_roots link (file_of c.args.file) in
    let adds : Adds link asks old new = subst (λ xs. Adds link xs old new) c.file_roots.ensures c.in_ok-take_all.ensures in
    (adds, λ set. done_more link (location_asks link) asks old new adds (c.requires.located set))

pub take_all-requires-then-located-clause-inside : goal.take_all-requires-then-located-clause-inside
take_all-requires-then-located-clause-inside c =
    let link = c.args.link.now in
    subst (All (IsInside link.groups)) (sym c.script_roots.ensures)
    (script_inside link (file_of c.args.file) c.requires.well_formed c.requires.there)

pub returns-then-located : goal.returns-then-located
returns-then-located c =
    let link = c.args.link.now in
    let f = file_of c.args.file in
    let old = c.args.self.now in
    let new = c.take_all-then-located.new.self in
    let script : is_script f.file.kind ≡ true = sym c.is_script.ensures ∙ c.if-not-is_script.false in
    let adds : Adds link (wanted_symbol_asks link f ++ []) old new = subst (λ xs. Adds link xs old new) c.script_roots.ensures c.in_ok-take_all-2.ensures in
    let done = c.requires.located (c.if-located.true) in
    let whole = adds_script link f old new script done adds in
    (whole, λ set. done_more link (location_asks link) (file_roots link f) old new whole done)

pub take_all-requires-2-clause-inside : goal.take_all-requires-2-clause-inside
take_all-requires-2-clause-inside c =
    let link = c.args.link.now in
    subst (All (IsInside link.groups)) (sym c.file_roots-2.ensures) (file_inside link (file_of c.args.file) c.requires.well_formed c.requires.there)

pub returns : goal.returns
returns c =
    let link = c.args.link.now in
    let f = file_of c.args.file in
    let old = c.args.self.now in
    let new = c.take_all-2.new.self in
    let script : is_script f.file.kind ≡ true = sym c.is_script.ensures ∙ c.if-not-is_script.false in
    let adds : Adds link (file_roots link f) old new = subst (λ xs. Adds link xs old new) c.file_roots-2.ensures c.in_ok-take_all-3.ensures in
    (adds, λ set. located_after link f old new c.requires.well_formed c.requires.sized (file_inside link f c.requires.well_formed c.requires.there) script adds)
