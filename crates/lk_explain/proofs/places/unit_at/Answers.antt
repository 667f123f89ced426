use Rattle.std.proofs.Common.{◌≡◌, ℕ, ◌+◌, ◌-◌, ◌<◌, ◌≤◌, Some, None, length, refl, sym, ap, ◌∙◌, arith}
use Rattle.std.specs.List.{slice_get}
use Rattle.lk_reach.specs.declared.units.Unit.TheVariants.{Sec, Sym}
use Rattle.lk_reach.specs.Marks.{symbols_in_all, unit_at}
use Rattle.lk_reach.specs.Walking.{files_of_inputs}
use Rattle.lk_reach.proofs.SymbolNumbers.{IsInputHere, input_here, inputs_few, no_unit, symbols_few}
use Rattle.lk_reach.proofs.UnitLemmas.{symbol_unit}
use Rattle.lk_explain.proofs.PlaceLemmas.{none_past}
use Rattle.lk_explain.proofs.places.unit_at.Goals as goal

pub overflow_cast-number : goal.overflow_cast-number
overflow_cast-number c = omega (arith, symbols_few c.args.link.now c.requires.well_formed)

pub returns-then-number-symbols : goal.returns-then-number-symbols
returns-then-number-symbols c =
    let within : c.args.number < symbols_in_all c.args.link.now.groups = omega (arith, symbols_few c.args.link.now c.requires.well_formed) in
    ap (λ s. Some (Sym s)) c.from_u32.ensures ∙ sym (symbol_unit c.args.link.now.groups c.args.number within)

pub returns-in_err-file : goal.returns-in_err-file
returns-in_err-file c =
    let link = c.args.link.now in
    let place : ℕ = c.args.number - c.symbol_count-symbols.result in
    let none : slice_get (files_of_inputs link) place ≡ None = sym c.file_at.ensures ∙ c.in_err-file.was in
    let past : length (files_of_inputs link) ≤ place = none_past (files_of_inputs link) place none in
    let behind : symbols_in_all link.groups + length (files_of_inputs link) ≤ c.args.number = omega (arith, past, symbols_few link c.requires.well_formed, c.if-number-symbols.false) in
    c.from_residual.ensures ∙ sym (no_unit link (files_of_inputs link) c.args.number refl behind)

pub input_start-requires : goal.input_start-requires
input_start-requires c = omega (arith, inputs_few c.args.link.now c.requires.well_formed)

pub returns-in_err-start : goal.returns-in_err-start
returns-in_err-start c =
    let link = c.args.link.now in
    let here : IsInputHere link (c.args.number - c.symbol_count-symbols.result) c.in_ok-file.file = input_here link (files_of_inputs link) (c.args.number - c.symbol_count-symbols.result) c.in_ok-file.file c.requires.well_formed refl (sym c.file_at.ensures ∙ c.in_ok-file.was) in
    absurd (c.in_err-start.ensures here.there)

pub overflow_sub-result : goal.overflow_sub-result
overflow_sub-result c =
    let link = c.args.link.now in
    let here : IsInputHere link (c.args.number - c.symbol_count-symbols.result) c.in_ok-file.file = input_here link (files_of_inputs link) (c.args.number - c.symbol_count-symbols.result) c.in_ok-file.file c.requires.well_formed refl (sym c.file_at.ensures ∙ c.in_ok-file.was) in
    let start = c.in_ok-start.ensures in
    omega (arith, here.first, start.1)

pub overflow_cast-result : goal.overflow_cast-result
overflow_cast-result c =
    let link = c.args.link.now in
    let here : IsInputHere link (c.args.number - c.symbol_count-symbols.result) c.in_ok-file.file = input_here link (files_of_inputs link) (c.args.number - c.symbol_count-symbols.result) c.in_ok-file.file c.requires.well_formed refl (sym c.file_at.ensures ∙ c.in_ok-file.was) in
    omega (arith, here.few)

pub returns : goal.returns
returns c =
    let link = c.args.link.now in
    let symbols : ℕ = c.symbol_count-symbols.result in
    let place : ℕ = c.args.number - symbols in
    let here : IsInputHere link place c.in_ok-file.file = input_here link (files_of_inputs link) place c.in_ok-file.file c.requires.well_formed refl (sym c.file_at.ensures ∙ c.in_ok-file.was) in
    let start = c.in_ok-start.ensures in
    let count : symbols ≡ symbols_in_all link.groups = omega (arith, symbols_few link c.requires.well_formed) in
    let number : symbols_in_all link.groups + place ≡ c.args.number = omega (arith, count, c.if-number-symbols.false) in
    ap (λ s. Some (Sec c.in_ok-file.file (place - s))) start.1 ∙ sym here.unit ∙ ap (unit_at link.groups) number
