use Rattle.std.proofs.Common.{rules, ◌≡◌, false, true, arith, sym, ◌∙◌}
use Rattle.lk_link.specs.Walks.{file_of}
use Rattle.lk_reach.specs.declared.units.Unit.TheVariants.{Sec}
use Rattle.lk_reach.proofs.SymbolNumbers.{sections_few}
use Rattle.lk_workers.specs.Closings.{is_unit_closed, section_units}
use Rattle.lk_workers.proofs.Closing.{all_pass, next_passes, one_fails, section_at, section_is, sections_count}
use Rattle.lk_workers.proofs.closed.Closed.are_sections_closed.Goals as goal

pub overflow_cast-index : goal.overflow_cast-index
overflow_cast-index g c =
    omega (arith, c.loop-index-test.true, c.len-index-end.ensures, sections_few c.args.link.now c.args.file.id c.args.file.file.now c.requires.link.well_formed c.requires.there)

pub is_unit_closed-requires-clause-there : goal.is_unit_closed-requires-clause-there
is_unit_closed-requires-clause-there g c =
    section_is c.args.link.now.groups (file_of c.args.file) c.loop-index.index c.requires.there (omega (arith, c.loop-index-test.true, c.len-index-end.ensures))

pub returns-then-not-is_unit_closed : goal.returns-then-not-is_unit_closed
returns-then-not-is_unit_closed g c =
    let closed = is_unit_closed c.args.self.now c.args.link.now in
    let f = file_of c.args.file in
    let fails : closed (Sec c.args.file.id c.loop-index.index) ≡ false = search rules in
    sym (one_fails closed (section_units f) c.loop-index.index (Sec c.args.file.id c.loop-index.index) (section_at f c.loop-index.index (omega (arith, c.loop-index-test.true, c.len-index-end.ensures))) fails)

pub loop-index-preserved : goal.loop-index-preserved
loop-index-preserved g c =
    let closed = is_unit_closed c.args.self.now c.args.link.now in
    let f = file_of c.args.file in
    let passes : closed (Sec c.args.file.id c.loop-index.index) ≡ true = search rules in
    next_passes closed (section_units f) c.loop-index.index (Sec c.args.file.id c.loop-index.index) (section_at f c.loop-index.index (omega (arith, c.loop-index-test.true, c.len-index-end.ensures)))
    c.loop-index.invariant passes

pub returns : goal.returns
returns g c =
    let f = file_of c.args.file in
    let count : c.loop-index.index ≡ c.len-index-end.result = search rules in
    sym (all_pass (is_unit_closed c.args.self.now c.args.link.now) (section_units f) c.loop-index.index (count ∙ c.len-index-end.ensures ∙ sym (sections_count f)) c.loop-index.invariant)
