use Rattle.std.proofs.Common.{◌≡◌, [], ◌∷◌, ◌++◌, Some, None, Err, ap, ◌∙◌, arith, rules}
use Rattle.std.specs.Fmt.{decimal}
use Rattle.json.specs.Json.{parse_map, after_end_array}
use Rattle.lk_input.specs.Plain.{placed_behind, placement_elements}
use Rattle.lk_input.specs.ReadingSteps.{one_of}
use Rattle.lk_input.specs.ReadingSymbols.{placements}
use Rattle.lk_pieces.specs.Tokens.{data_at, items_at}
use Rattle.lk_input.specs.Tokens.{anything}
use Rattle.lk_input.proofs.Lists.{list-none, list-over, list-passed, made, made-none}
use Rattle.lk_input.proofs.Placements.{led-fault, led-missing, led-read}
use Rattle.lk_input.proofs.Values.{fails-so}
use Rattle.lk_input.proofs.read.placement.SymbolPlacementElements.stream_elements.Goals as goal

pub returns-then-take_end_array : goal.returns-then-take_end_array
returns-then-take_end_array c =
    let r = c.take_end_array.new.self in
    let seen : 47 ∷ decimal c.args.index ++ [] ≡ c.in_ok-path_below.field-0 = search rules in
    list-over (placement_elements c.args.index) c.args.depth c.args.reader.now r (grind arith)
    ∙ ap (λ y. Some (y, r)) (led-missing (one_of placements) placed_behind c.args.index ∙ ap Err seen)

pub returns-in_err-form : goal.returns-in_err-form
returns-in_err-form c =
    let f = one_of placements in
    let ts = c.args.reader.now in
    let gone : c.from_residual-in_err-form.result ≡ Err c.in_err-form.field-0.0 = grind arith in
    let going : (after_end_array ts ≡ None) × (c.take_end_array.new.self ≡ ts) = grind arith in
    fails-so _ _ _ (parse_map f (data_at c.args.depth c.take_end_array.new.self)) _ _ gone c.in_err-form.ensures
    (λ none. list-none _ c.args.depth ts going.0 (rw (← going.1) (made-none f _ none)))

pub returns-in-Ok : goal.returns-in-Ok
returns-in-Ok c =
    let f = one_of placements in
    let i = c.args.index in
    let ts = c.args.reader.now in
    let r = c.stream.new.reader in
    let x = c.in-Ok.form in
    let going : (after_end_array ts ≡ None) × (c.take_end_array.new.self ≡ ts) = grind arith in
    let read = made f (data_at c.args.depth c.take_end_array.new.self) c.in_ok-form.field-0 r c.in_ok-form.ensures in
    rw (list-passed (placement_elements i) (placed_behind x) c.args.depth ts r read.0 going.0 (rw (← going.1) read.1) (led-read f placed_behind i x read.0 (read.2 ∙ c.in-Ok.is)))
    c.stream_placed.ensures

pub returns-in_err-pass_others-in-Err : goal.returns-in_err-pass_others-in-Err
returns-in_err-pass_others-in-Err c =
    let f = one_of placements in
    let i = c.args.index in
    let ts = c.args.reader.now in
    let r = c.stream.new.reader in
    let path = 47 ∷ decimal i ++ c.in-Err.path in
    let gone : c.from_residual-in_err-pass_others-in-Err.result ≡ Err c.in_err-pass_others-in-Err.field-0.0 = grind arith in
    let going : (after_end_array ts ≡ None) × (c.take_end_array.new.self ≡ ts) = grind arith in
    let read = made f (data_at c.args.depth c.take_end_array.new.self) c.in_ok-form.field-0 r c.in_ok-form.ensures in
    let turn = list-passed (placement_elements i) (λ _. Err path) c.args.depth ts r read.0 going.0 (rw (← going.1) read.1) (led-fault f placed_behind i c.in-Err.path read.0 (read.2 ∙ c.in-Err.is)) in
    fails-so _ _ _ (parse_map anything (items_at c.args.depth r)) _ _ gone c.in_err-pass_others-in-Err.ensures (λ none. turn ∙ ap (parse_map (λ _. Err path)) (made-none anything _ none))

pub returns-in_ok-pass_others-in-Err : goal.returns-in_ok-pass_others-in-Err
returns-in_ok-pass_others-in-Err c =
    let f = one_of placements in
    let i = c.args.index in
    let ts = c.args.reader.now in
    let r = c.stream.new.reader in
    let rest = c.pass_others.new.reader in
    let path = 47 ∷ decimal i ++ c.in-Err.path in
    let going : (after_end_array ts ≡ None) × (c.take_end_array.new.self ≡ ts) = grind arith in
    let read = made f (data_at c.args.depth c.take_end_array.new.self) c.in_ok-form.field-0 r c.in_ok-form.ensures in
    let turn = list-passed (placement_elements i) (λ _. Err path) c.args.depth ts r read.0 going.0 (rw (← going.1) read.1) (led-fault f placed_behind i c.in-Err.path read.0 (read.2 ∙ c.in-Err.is)) in
    let passed = made anything (items_at c.args.depth r) c.in_ok-pass_others-in-Err.field-0 rest c.in_ok-pass_others-in-Err.ensures in
    let seen : path ≡ c.in_ok-path-in-Err.path = search rules in
    turn ∙ ap (parse_map (λ _. Err path)) passed.1 ∙ ap (λ p. Some (Err p, rest)) seen
