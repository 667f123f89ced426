use Rattle.std.proofs.Common.{◌≡◌, ◌<◌, length, None, Err, refl, ◌∙◌, arith}
use Rattle.json.specs.Json.{parse_map, after_end_array}
use Rattle.lk_pieces.specs.Tokens.{data_at}
use Rattle.lk_input.specs.Tokens.{anything}
use Rattle.lk_pieces.proofs.Tokens.{data_at-shorter}
use Rattle.lk_input.proofs.Lists.{made, made-none, list-passed, list-none, list-over}
use Rattle.lk_input.proofs.Values.{fails-so}
use Rattle.lk_input.proofs.read.stream.pass_items.Goals as goal

pub returns-in_err-stream : goal.returns-in_err-stream
returns-in_err-stream g c =
    let l = c.items in
    let f = g.T.Streamed.streamed in
    let gone : c.from_residual.result ≡ Err c.in_err-stream.field-0.0 = grind arith in
    let going : (after_end_array l.reader ≡ None) × (c.take_end_array.new.self ≡ l.reader) = grind arith in
    fails-so _ _ _ (parse_map f (data_at c.args.depth c.take_end_array.new.self)) _ _ gone c.in_err-stream.ensures
    (λ none. l.invariant ∙ list-none anything c.args.depth l.reader going.0 (rw (← going.1) (made-none f _ none)))

pub items-smaller : goal.items-smaller
items-smaller g c =
    let l = c.items in
    let going : (after_end_array l.reader ≡ None) × (c.take_end_array.new.self ≡ l.reader) = grind arith in
    let read = made g.T.Streamed.streamed (data_at c.args.depth c.take_end_array.new.self) c.in_ok-stream.field-0 c.stream.new.reader c.in_ok-stream.ensures in
    let less : length c.stream.new.reader < length l.reader = rw (← going.1) (data_at-shorter c.args.depth _ read.0 _ read.1) in
    omega (arith, less)

pub items-preserved : goal.items-preserved
items-preserved g c =
    let l = c.items in
    let r = c.stream.new.reader in
    let going : (after_end_array l.reader ≡ None) × (c.take_end_array.new.self ≡ l.reader) = grind arith in
    let read = made g.T.Streamed.streamed (data_at c.args.depth c.take_end_array.new.self) c.in_ok-stream.field-0 r c.in_ok-stream.ensures in
    l.invariant ∙ list-passed anything anything c.args.depth l.reader r read.0 going.0 (rw (← going.1) read.1) (λ ds. refl)

pub returns : goal.returns
returns g c = c.items.invariant ∙ list-over anything c.args.depth c.items.reader c.take_end_array.new.self (grind arith)
