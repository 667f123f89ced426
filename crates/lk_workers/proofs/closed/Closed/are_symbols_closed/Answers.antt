use Rattle.std.proofs.Common.{rules, ◌≡◌, false, true, arith, sym, ◌∙◌}
use Rattle.lk_link.specs.Walks.{file_of}
use Rattle.lk_reach.specs.declared.units.Unit.TheVariants.{Sym}
use Rattle.lk_reach.proofs.SymbolNumbers.{symbols_few}
use Rattle.lk_reach.proofs.UnitLemmas.{symbol_unit}
use Rattle.lk_workers.specs.Closings.{is_unit_closed, symbol_units}
use Rattle.lk_workers.proofs.Closing.{all_pass, next_passes, one_fails, range_count, symbol_at, symbols_count}
use Rattle.lk_workers.proofs.closed.Closed.are_symbols_closed.Goals as goal

pub symbol_id_range-requires : goal.symbol_id_range-requires
symbol_id_range-requires g c = symbols_few c.args.link.now c.requires.link.well_formed

pub is_unit_closed-requires-clause-there : goal.is_unit_closed-requires-clause-there
is_unit_closed-requires-clause-there g c =
    symbol_unit c.args.link.now.groups c.offset_to_id.result (omega (arith, c.offset_to_id.ensures, c.loop-place-test.true, c.len-place-end.ensures, c.in-Some.ensures.within))

pub returns-then-not-is_unit_closed : goal.returns-then-not-is_unit_closed
returns-then-not-is_unit_closed g c =
    let closed = is_unit_closed c.args.self.now c.args.link.now in
    let groups = c.args.link.now.groups in
    let f = file_of c.args.file in
    let s = c.offset_to_id.result in
    let fails : closed (Sym s) ≡ false = search rules in
    let count = range_count groups f c.in-Some.symbols c.in-Some.ensures c.requires.there in
    sym (one_fails closed (symbol_units groups f) c.loop-place.place (Sym s)
    (symbol_at groups f c.loop-place.place s (omega (arith, count, c.loop-place-test.true, c.len-place-end.ensures)) (omega (arith, c.offset_to_id.ensures, c.in-Some.ensures.start)))
    fails)

pub loop-place-preserved : goal.loop-place-preserved
loop-place-preserved g c =
    let closed = is_unit_closed c.args.self.now c.args.link.now in
    let groups = c.args.link.now.groups in
    let f = file_of c.args.file in
    let s = c.offset_to_id.result in
    let passes : closed (Sym s) ≡ true = search rules in
    let count = range_count groups f c.in-Some.symbols c.in-Some.ensures c.requires.there in
    next_passes closed (symbol_units groups f) c.loop-place.place (Sym s)
    (symbol_at groups f c.loop-place.place s (omega (arith, count, c.loop-place-test.true, c.len-place-end.ensures)) (omega (arith, c.offset_to_id.ensures, c.in-Some.ensures.start)))
    c.loop-place.invariant passes

pub returns : goal.returns
returns g c =
    let groups = c.args.link.now.groups in
    let f = file_of c.args.file in
    let count : c.loop-place.place ≡ c.len-place-end.result = search rules in
    sym (all_pass (is_unit_closed c.args.self.now c.args.link.now) (symbol_units groups f) c.loop-place.place
    (count ∙ c.len-place-end.ensures ∙ range_count groups f c.in-Some.symbols c.in-Some.ensures c.requires.there ∙ sym (symbols_count groups f)) c.loop-place.invariant)
