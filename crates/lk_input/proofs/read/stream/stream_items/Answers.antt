use Rattle.std.proofs.Common.{◌≡◌, ◌<◌, [], ◌∷◌, ◌++◌, length, Some, None, Ok, Err, sym, ap, ◌∙◌, arith, rules}
use Rattle.std.specs.Fmt.{decimal}
use Rattle.json.specs.Json.{parse_map, after_end_array}
use Rattle.lk_pieces.specs.Tokens.{data_at, items_at}
use Rattle.lk_input.specs.Tokens.{anything}
use Rattle.lk_pieces.proofs.Tokens.{data_at-shorter}
use Rattle.lk_input.proofs.Lists.{made, made-none, list-passed, list-none, list-over, after_items, item-read, item-fault, items-done}
use Rattle.lk_input.proofs.Values.{fails-so}
use Rattle.lk_input.proofs.read.stream.stream_items.Goals as goal

pub returns-in_err-item : goal.returns-in_err-item
returns-in_err-item g c =
    let l = c.items in
    let f = g.T.Streamed.streamed in
    let gone : c.from_residual.result ≡ Err c.in_err-item.field-0.0 = grind arith in
    let going : (after_end_array l.reader ≡ None) × (c.take_end_array.new.self ≡ l.reader) = grind arith in
    fails-so _ _ _ (parse_map f (data_at c.args.depth c.take_end_array.new.self)) _ _ gone c.in_err-item.ensures
    (λ none. l.invariant ∙ list-none _ c.args.depth l.reader going.0 (rw (← going.1) (made-none f _ none)))

pub items-smaller : goal.items-smaller
items-smaller g c =
    let l = c.items in
    let going : (after_end_array l.reader ≡ None) × (c.take_end_array.new.self ≡ l.reader) = grind arith in
    let read = made g.T.Streamed.streamed (data_at c.args.depth c.take_end_array.new.self) c.in_ok-item.field-0 c.stream.new.reader c.in_ok-item.ensures in
    let less : length c.stream.new.reader < length l.reader = rw (← going.1) (data_at-shorter c.args.depth _ read.0 _ read.1) in
    omega (arith, less)

pub items-preserved : goal.items-preserved
items-preserved g c =
    let l = c.items in
    let f = g.T.Streamed.streamed in
    let r = c.stream.new.reader in
    let xs = l.items.items in
    let x = c.in-Ok.item in
    let going : (after_end_array l.reader ≡ None) × (c.take_end_array.new.self ≡ l.reader) = grind arith in
    let read = made f (data_at c.args.depth c.take_end_array.new.self) c.in_ok-item.field-0 r c.in_ok-item.ensures in
    l.invariant ∙ list-passed (after_items f xs) (after_items f (xs ++ x ∷ [])) c.args.depth l.reader r read.0 going.0 (rw (← going.1) read.1) (item-read f xs x read.0 (read.2 ∙ c.in-Ok.is))
    ∙ ap (λ ys. parse_map (after_items f ys) (items_at c.args.depth r)) (sym c.in_ok-add_item-in-Ok.ensures)

pub returns-in_err-pass_items-in-Err : goal.returns-in_err-pass_items-in-Err
returns-in_err-pass_items-in-Err g c =
    let l = c.items in
    let f = g.T.Streamed.streamed in
    let r = c.stream.new.reader in
    let xs = l.items.items in
    let path = 47 ∷ decimal (length xs) ++ c.in-Err.path in
    let gone : c.from_residual-in_err-pass_items-in-Err.result ≡ Err c.in_err-pass_items-in-Err.field-0.0 = grind arith in
    let going : (after_end_array l.reader ≡ None) × (c.take_end_array.new.self ≡ l.reader) = grind arith in
    let read = made f (data_at c.args.depth c.take_end_array.new.self) c.in_ok-item.field-0 r c.in_ok-item.ensures in
    let turn = l.invariant ∙ list-passed (after_items f xs) (λ _. Err path) c.args.depth l.reader r read.0 going.0 (rw (← going.1) read.1) (item-fault f xs c.in-Err.path read.0 (read.2 ∙ c.in-Err.is)) in
    fails-so _ _ _ (parse_map anything (items_at c.args.depth r)) _ _ gone c.in_err-pass_items-in-Err.ensures (λ none. turn ∙ ap (parse_map (λ _. Err path)) (made-none anything _ none))

pub returns-in-Err : goal.returns-in-Err
returns-in-Err g c =
    let l = c.items in
    let f = g.T.Streamed.streamed in
    let r = c.stream.new.reader in
    let rest = c.pass_items.new.reader in
    let xs = l.items.items in
    let path = 47 ∷ decimal (length xs) ++ c.in-Err.path in
    let going : (after_end_array l.reader ≡ None) × (c.take_end_array.new.self ≡ l.reader) = grind arith in
    let read = made f (data_at c.args.depth c.take_end_array.new.self) c.in_ok-item.field-0 r c.in_ok-item.ensures in
    let turn = l.invariant ∙ list-passed (after_items f xs) (λ _. Err path) c.args.depth l.reader r read.0 going.0 (rw (← going.1) read.1) (item-fault f xs c.in-Err.path read.0 (read.2 ∙ c.in-Err.is)) in
    let passed = made anything (items_at c.args.depth r) c.in_ok-pass_items-in-Err.field-0 rest c.in_ok-pass_items-in-Err.ensures in
    let seen : path ≡ c.in_ok-path-in-Err.path = search rules in
    turn ∙ ap (parse_map (λ _. Err path)) passed.1 ∙ ap (λ p. Some (Err p, rest)) seen

pub returns : goal.returns
returns g c =
    let l = c.items in
    let f = g.T.Streamed.streamed in
    let rest = c.take_end_array.new.self in
    let whole = c.from_vec.ensures ∙ c.shrink_to_fit.ensures.items in
    l.invariant ∙ list-over (after_items f l.items.items) c.args.depth l.reader rest (grind arith) ∙ ap (λ y. Some (y, rest)) (items-done f l.items.items ∙ ap Ok (sym whole))
