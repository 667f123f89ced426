use Rattle.std.proofs.Common.{◌≡◌, ◌+◌, ◌-◌, ◌<◌, ◌≤◌, Some, length, sym, ap, ◌∙◌, arith}
use Rattle.std.proofs.lemmas.Bool.{ltb-false}
use Rattle.lk_reach.specs.declared.units.Unit.TheVariants.{Sec, Sym}
use Rattle.lk_reach.specs.Marks.{symbols_in_all, unit_at}
use Rattle.lk_reach.proofs.SymbolNumbers.{input_read, inputs_few, no_unit, symbols_few}
use Rattle.lk_reach.proofs.UnitLemmas.{symbol_unit}
use Rattle.lk_reach.proofs.walk.unit_at.Goals as goal

pub overflow_cast-number : goal.overflow_cast-number
overflow_cast-number c = omega (arith, symbols_few c.args.link.now c.requires.well_formed)

pub returns-then-number-symbols : goal.returns-then-number-symbols
returns-then-number-symbols c =
    let within : c.args.number < symbols_in_all c.args.link.now.groups = omega (arith, symbols_few c.args.link.now c.requires.well_formed) in
    ap (λ s. Some (Sym s)) c.from_u32.ensures ∙ sym (symbol_unit c.args.link.now.groups c.args.number within)

pub returns-in_err-file : goal.returns-in_err-file
returns-in_err-file c =
    let past = ltb-false (c.args.number - c.symbol_count-symbols.result) (length c.args.files.now) (sym c.in_err-file.ensures.lookup.0) in
    let behind : symbols_in_all c.args.link.now.groups + length c.args.files.now ≤ c.args.number = omega (arith, symbols_few c.args.link.now c.requires.well_formed) in
    c.from_residual.ensures ∙ sym (no_unit c.args.link.now c.args.files.now c.args.number c.requires.files behind)

pub input_start-requires : goal.input_start-requires
input_start-requires c = omega (arith, inputs_few c.args.link.now c.requires.well_formed)

pub returns-in_err-start : goal.returns-in_err-start
returns-in_err-start c =
    let look = c.in_ok-file.ensures.lookup in
    let here = input_read c.args.link.now c.args.files.now (c.args.number - c.symbol_count-symbols.result) c.in_ok-file.field-0.now c.requires.well_formed c.requires.files look.0 look.1 in
    absurd (c.in_err-start.ensures here.there)

pub overflow_sub-result : goal.overflow_sub-result
overflow_sub-result c =
    let look = c.in_ok-file.ensures.lookup in
    let here = input_read c.args.link.now c.args.files.now (c.args.number - c.symbol_count-symbols.result) c.in_ok-file.field-0.now c.requires.well_formed c.requires.files look.0 look.1 in
    let start = c.in_ok-start.ensures in
    omega (arith, here.first, start.1)

pub overflow_cast-result : goal.overflow_cast-result
overflow_cast-result c =
    let look = c.in_ok-file.ensures.lookup in
    let here = input_read c.args.link.now c.args.files.now (c.args.number - c.symbol_count-symbols.result) c.in_ok-file.field-0.now c.requires.well_formed c.requires.files look.0 look.1 in
    omega (arith, here.few)

pub returns : goal.returns
returns c =
    let link = c.args.link.now in
    let symbols = c.symbol_count-symbols.result in
    let place = c.args.number - symbols in
    let look = c.in_ok-file.ensures.lookup in
    let here = input_read link c.args.files.now place c.in_ok-file.field-0.now c.requires.well_formed c.requires.files look.0 look.1 in
    let start = c.in_ok-start.ensures in
    let count : symbols ≡ symbols_in_all link.groups = omega (arith, symbols_few link c.requires.well_formed) in
    let number : symbols_in_all link.groups + place ≡ c.args.number = omega (arith, count) in
    ap (λ s. Some (Sec c.in_ok-file.field-0.now (place - s))) start.1 ∙ sym here.unit ∙ ap (unit_at link.groups) number
