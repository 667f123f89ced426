use Rattle.std.proofs.Common.{◌≡◌, ◌+◌, [], ◌∷◌, ◌++◌, Some, None, Ok, Err, sym, ap, ◌∙◌, arith, rules}
use Rattle.std.specs.Fmt.{decimal}
use Rattle.json.specs.Json.{parse_map, after_end_array}
use Rattle.lk_input.specs.Plain.{elements_with}
use Rattle.lk_input.specs.ReadingSteps.{◌>>=◌}
use Rattle.lk_pieces.specs.Tokens.{data_at, items_at}
use Rattle.lk_input.specs.Tokens.{anything}
use Rattle.lk_input.proofs.Fixed.{element-fault, element-missing, element-read, fixed-lacks, fixed-made}
use Rattle.lk_input.proofs.Lists.{made, made-none, list-passed, list-none, list-over}
use Rattle.lk_input.proofs.Values.{fails-so}
use Rattle.lk_input.proofs.read.fixed.Tuple2Elements.stream_elements.Goals as goal

pub returns-then-take_end_array : goal.returns-then-take_end_array
returns-then-take_end_array g c =
    let f = g.H.Streamed.streamed in
    let h = g.T.Elements.elements in
    let r = c.take_end_array.new.self in
    let seen : 47 ∷ decimal c.args.index ++ [] ≡ c.in_ok-path_below.field-0 = search rules in
    list-over (elements_with f h c.args.index) c.args.depth c.args.reader.now r (grind arith)
    ∙ ap (λ y. Some (y, r)) (element-missing f h c.args.index ∙ ap Err seen)

pub returns-in_err-first : goal.returns-in_err-first
returns-in_err-first g c =
    let f = g.H.Streamed.streamed in
    let ts = c.args.reader.now in
    let gone : c.from_residual-in_err-first.result ≡ Err c.in_err-first.field-0.0 = grind arith in
    let going : (after_end_array ts ≡ None) × (c.take_end_array.new.self ≡ ts) = grind arith in
    fails-so _ _ _ (parse_map f (data_at c.args.depth c.take_end_array.new.self)) _ _ gone c.in_err-first.ensures
    (λ none. list-none _ c.args.depth ts going.0 (rw (← going.1) (made-none f _ none)))

pub returns-in_err-others-in-Ok : goal.returns-in_err-others-in-Ok
returns-in_err-others-in-Ok g c =
    let f = g.H.Streamed.streamed in
    let h = g.T.Elements.elements in
    let i = c.args.index in
    let ts = c.args.reader.now in
    let r = c.stream.new.reader in
    let x = c.in-Ok.first in
    let next : c.in_ok-next-in-Ok.next ≡ i + 1 = grind arith in
    let gone : c.from_residual-in_err-others-in-Ok.result ≡ Err c.in_err-others-in-Ok.field-0.0 = grind arith in
    let going : (after_end_array ts ≡ None) × (c.take_end_array.new.self ≡ ts) = grind arith in
    let read = made f (data_at c.args.depth c.take_end_array.new.self) c.in_ok-first.field-0 r c.in_ok-first.ensures in
    let turn = list-passed (elements_with f h i) (λ ds. h (i + 1) ds >>= λ xs. Ok (x, xs)) c.args.depth ts r read.0 going.0 (rw (← going.1) read.1) (element-read f h i x read.0 (read.2 ∙ c.in-Ok.is)) in
    fails-so _ _ _ (parse_map (h c.in_ok-next-in-Ok.next) (items_at c.args.depth r)) _ _ gone c.in_err-others-in-Ok.ensures
    (λ none. turn ∙ fixed-lacks (λ ds. h (i + 1) ds >>= λ xs. Ok (x, xs)) (h c.in_ok-next-in-Ok.next) (items_at c.args.depth r) none)

pub returns-in_err-pass_others-in-Err : goal.returns-in_err-pass_others-in-Err
returns-in_err-pass_others-in-Err g c =
    let f = g.H.Streamed.streamed in
    let h = g.T.Elements.elements in
    let i = c.args.index in
    let ts = c.args.reader.now in
    let r = c.stream.new.reader in
    let path = 47 ∷ decimal i ++ c.in-Err.path in
    let gone : c.from_residual-in_err-pass_others-in-Err.result ≡ Err c.in_err-pass_others-in-Err.field-0.0 = grind arith in
    let going : (after_end_array ts ≡ None) × (c.take_end_array.new.self ≡ ts) = grind arith in
    let read = made f (data_at c.args.depth c.take_end_array.new.self) c.in_ok-first.field-0 r c.in_ok-first.ensures in
    let turn = list-passed (elements_with f h i) (λ _. Err path) c.args.depth ts r read.0 going.0 (rw (← going.1) read.1) (element-fault f h i c.in-Err.path read.0 (read.2 ∙ c.in-Err.is)) in
    fails-so _ _ _ (parse_map anything (items_at c.args.depth r)) _ _ gone c.in_err-pass_others-in-Err.ensures (λ none. turn ∙ ap (parse_map (λ _. Err path)) (made-none anything _ none))

pub returns-in-Ok-2 : goal.returns-in-Ok-2
returns-in-Ok-2 g c =
    let f = g.H.Streamed.streamed in
    let h = g.T.Elements.elements in
    let i = c.args.index in
    let ts = c.args.reader.now in
    let r = c.stream.new.reader in
    let x = c.in-Ok.first in
    let next : c.in_ok-next-in-Ok.next ≡ i + 1 = grind arith in
    let going : (after_end_array ts ≡ None) × (c.take_end_array.new.self ≡ ts) = grind arith in
    let read = made f (data_at c.args.depth c.take_end_array.new.self) c.in_ok-first.field-0 r c.in_ok-first.ensures in
    let turn = list-passed (elements_with f h i) (λ ds. h (i + 1) ds >>= λ xs. Ok (x, xs)) c.args.depth ts r read.0 going.0 (rw (← going.1) read.1) (element-read f h i x read.0 (read.2 ∙ c.in-Ok.is)) in
    let others = c.in_ok-others-in-Ok.ensures ∙ ap (λ y. Some (y, c.stream_elements.new.reader)) c.in-Ok-2.is in
    turn ∙ fixed-made (λ ds. h (i + 1) ds >>= λ xs. Ok (x, xs)) (h c.in_ok-next-in-Ok.next) (λ xs. Ok (x, xs)) (λ ds. ap (λ n. h n ds >>= λ xs. Ok (x, xs)) (sym next)) (items_at c.args.depth r) _ _ others

pub returns-in-Err-2 : goal.returns-in-Err-2
returns-in-Err-2 g c =
    let f = g.H.Streamed.streamed in
    let h = g.T.Elements.elements in
    let i = c.args.index in
    let ts = c.args.reader.now in
    let r = c.stream.new.reader in
    let x = c.in-Ok.first in
    let next : c.in_ok-next-in-Ok.next ≡ i + 1 = grind arith in
    let going : (after_end_array ts ≡ None) × (c.take_end_array.new.self ≡ ts) = grind arith in
    let read = made f (data_at c.args.depth c.take_end_array.new.self) c.in_ok-first.field-0 r c.in_ok-first.ensures in
    let turn = list-passed (elements_with f h i) (λ ds. h (i + 1) ds >>= λ xs. Ok (x, xs)) c.args.depth ts r read.0 going.0 (rw (← going.1) read.1) (element-read f h i x read.0 (read.2 ∙ c.in-Ok.is)) in
    let others = c.in_ok-others-in-Ok.ensures ∙ ap (λ y. Some (y, c.stream_elements.new.reader)) c.in-Err-2.is in
    turn ∙ fixed-made (λ ds. h (i + 1) ds >>= λ xs. Ok (x, xs)) (h c.in_ok-next-in-Ok.next) (λ xs. Ok (x, xs)) (λ ds. ap (λ n. h n ds >>= λ xs. Ok (x, xs)) (sym next)) (items_at c.args.depth r) _ _ others

pub returns-in_ok-pass_others-in-Err : goal.returns-in_ok-pass_others-in-Err
returns-in_ok-pass_others-in-Err g c =
    let f = g.H.Streamed.streamed in
    let h = g.T.Elements.elements in
    let i = c.args.index in
    let ts = c.args.reader.now in
    let r = c.stream.new.reader in
    let rest = c.pass_others.new.reader in
    let path = 47 ∷ decimal i ++ c.in-Err.path in
    let going : (after_end_array ts ≡ None) × (c.take_end_array.new.self ≡ ts) = grind arith in
    let read = made f (data_at c.args.depth c.take_end_array.new.self) c.in_ok-first.field-0 r c.in_ok-first.ensures in
    let turn = list-passed (elements_with f h i) (λ _. Err path) c.args.depth ts r read.0 going.0 (rw (← going.1) read.1) (element-fault f h i c.in-Err.path read.0 (read.2 ∙ c.in-Err.is)) in
    let passed = made anything (items_at c.args.depth r) c.in_ok-pass_others-in-Err.field-0 rest c.in_ok-pass_others-in-Err.ensures in
    let seen : path ≡ c.in_ok-path-in-Err.path = search rules in
    turn ∙ ap (parse_map (λ _. Err path)) passed.1 ∙ ap (λ p. Some (Err p, rest)) seen
