use Rattle.std.proofs.Common.{◌≡◌, ◌∷◌, Some, None, Err, refl, sym, ap, ◌∙◌, arith}
use Rattle.json.specs.Json.{parse_map, after_end_array, read_key}
use Rattle.json.specs.Reads.{token_of}
use Rattle.json.proofs.Grammar.{read_key-shorter}
use Rattle.serde_json.specs.Data.{string, array, object, no_members}
use Rattle.serde_json.specs.View.{view, items_view}
use Rattle.serde_json.proofs.Views.{view-Array, view-Object}
use Rattle.lk_input.specs.declared.read.fail.Fail.TheVariants.{NotJson}
use Rattle.lk_pieces.specs.Tokens.{data_at, items_at, members_at}
use Rattle.lk_pieces.proofs.Tokens.{data_at-null, data_at-boolean, data_at-number, data_at-string, data_at-array, data_at-object, data_at-shorter, items_at-next, items_at-over, members_at-next, members_at-over, members_at-no_key}
use Rattle.lk_input.proofs.Values.{joined, joined-more, joined-over, lacks-so, fails-so, view-Null, view-Bool, view-Number, view-String}
use Rattle.lk_input.proofs.read.tokens.+value.Goals as goal

-- ---- a value

pub value_from-returns-in-Null : goal.value_from-returns-in-Null
value_from-returns-in-Null t c =
    let ts = c.args.reader.now in
    ap (λ k. data_at c.args.depth (token_of k ∷ ts)) c.in-Null.is ∙ data_at-null _ ts ∙ ap (λ d. Some (d, ts)) (sym view-Null)

pub value_from-returns-in-Bool : goal.value_from-returns-in-Bool
value_from-returns-in-Bool t c =
    let ts = c.args.reader.now in
    ap (λ k. data_at c.args.depth (token_of k ∷ ts)) c.in-Bool.is ∙ data_at-boolean _ _ ts ∙ ap (λ d. Some (d, ts)) (sym (view-Bool _))

pub value_from-returns-in-Some : goal.value_from-returns-in-Some
value_from-returns-in-Some t c =
    let ts = c.args.reader.now in
    ap (λ k. data_at c.args.depth (token_of k ∷ ts)) c.in-Number.is ∙ data_at-number _ _ ts ∙ rw (← c.in-Some.ensures, view-Number c.in-Some.number) refl

pub value_from-returns-in_ok-from_str-in-String : goal.value_from-returns-in_ok-from_str-in-String
value_from-returns-in_ok-from_str-in-String t c =
    let ts = c.args.reader.now in
    let s = c.in_ok-from_str-in-String.field-0 in
    let seen : view _ ≡ string c.in-String.text.now = view-String s ∙ ap string c.in_ok-from_str-in-String.ensures.ok in
    ap (λ k. data_at c.args.depth (token_of k ∷ ts)) c.in-String.is ∙ data_at-string _ _ ts ∙ ap (λ d. Some (d, ts)) (sym seen)

pub value_from-returns-in_ok-items_from-in-BeginArray : goal.value_from-returns-in_ok-items_from-in-BeginArray
value_from-returns-in_ok-items_from-in-BeginArray t c =
    let ts = c.args.reader.now in
    let d = c.in_ok-depth-in-BeginArray.depth in
    let found = c.in_ok-items_from-in-BeginArray in
    ap (λ k. data_at c.args.depth (token_of k ∷ ts)) c.in-BeginArray.is ∙ data_at-array _ d ts c.in_ok-depth-in-BeginArray.ensures
    ∙ ap (parse_map array) found.ensures ∙ ap (λ x. Some (x, c.items_from.new.reader)) (sym (view-Array found.field-0))

pub value_from-returns-in_ok-members_from-in-BeginObject : goal.value_from-returns-in_ok-members_from-in-BeginObject
value_from-returns-in_ok-members_from-in-BeginObject t c =
    let ts = c.args.reader.now in
    let d = c.in_ok-depth-in-BeginObject.depth in
    let found = c.in_ok-members_from-in-BeginObject in
    ap (λ k. data_at c.args.depth (token_of k ∷ ts)) c.in-BeginObject.is ∙ data_at-object _ d ts c.in_ok-depth-in-BeginObject.ensures
    ∙ ap (parse_map object) found.ensures ∙ ap (λ x. Some (x, c.members_from.new.reader)) (sym (view-Object found.field-0))

pub value_from-returns-in_err-items_from-in-BeginArray : goal.value_from-returns-in_err-items_from-in-BeginArray
value_from-returns-in_err-items_from-in-BeginArray t c =
    let ts = c.args.reader.now in
    let fail = c.in_err-items_from-in-BeginArray in
    let gone : c.from_residual-in_err-items_from-in-BeginArray.result ≡ Err fail.field-0.0 = grind arith in
    let opened = ap (λ k. data_at c.args.depth (token_of k ∷ ts)) c.in-BeginArray.is ∙ data_at-array _ c.in_ok-depth-in-BeginArray.depth ts c.in_ok-depth-in-BeginArray.ensures in
    fails-so _ _ _ (items_at c.in_ok-depth-in-BeginArray.depth ts) _ _ gone fail.ensures (λ none. opened ∙ ap (parse_map array) none)

pub value_from-returns-in_err-members_from-in-BeginObject : goal.value_from-returns-in_err-members_from-in-BeginObject
value_from-returns-in_err-members_from-in-BeginObject t c =
    let ts = c.args.reader.now in
    let fail = c.in_err-members_from-in-BeginObject in
    let gone : c.from_residual-in_err-members_from-in-BeginObject.result ≡ Err fail.field-0.0 = grind arith in
    let opened = ap (λ k. data_at c.args.depth (token_of k ∷ ts)) c.in-BeginObject.is ∙ data_at-object _ c.in_ok-depth-in-BeginObject.depth ts c.in_ok-depth-in-BeginObject.ensures in
    fails-so _ _ _ (members_at no_members c.in_ok-depth-in-BeginObject.depth ts) _ _ gone fail.ensures (λ none. opened ∙ ap (parse_map object) none)

-- ---- a list

pub next_item-returns-then-take_end_array : goal.next_item-returns-then-take_end_array
next_item-returns-then-take_end_array t c = items_at-over _ _ _ (grind arith)

pub next_item-returns-in_ok-value_at : goal.next_item-returns-in_ok-value_at
next_item-returns-in_ok-value_at t c =
    let ts = c.args.reader.now in
    let going : (after_end_array ts ≡ None) × (c.take_end_array.new.self ≡ ts) = grind arith in
    let stands = rw (going.1) at c.in_ok-value_at.ensures in
    (items_at-next c.args.depth ts going.0 ∙ rw stands refl, data_at-shorter _ _ _ _ stands)

pub next_item-returns-in_err-value_at : goal.next_item-returns-in_err-value_at
next_item-returns-in_err-value_at t c =
    let ts = c.args.reader.now in
    let gone : c.from_residual.result ≡ Err c.in_err-value_at.field-0.0 = grind arith in
    let going : (after_end_array ts ≡ None) × (c.take_end_array.new.self ≡ ts) = grind arith in
    rw gone (lacks-so _ (data_at c.args.depth c.take_end_array.new.self) _ c.in_err-value_at.ensures (λ none. items_at-next c.args.depth ts going.0 ∙ rw (← going.1, none) refl))

pub items_from-loop-items-preserved : goal.items_from-loop-items-preserved
items_from-loop-items-preserved t c =
    let l = c.loop-items in
    let vs = l.items.items in
    let next = rw c.in-Some.is at c.in_ok-item.ensures in
    l.invariant ∙ ap (parse_map (joined (items_view vs))) next.0 ∙ joined-more vs c.in-Some.item (items_at c.args.depth c.next_item.new.reader)
    ∙ ap (λ all. parse_map (joined (items_view all)) (items_at c.args.depth c.next_item.new.reader)) (sym c.in_ok-push.ensures.items)

pub items_from-returns : goal.items_from-returns
items_from-returns t c =
    let l = c.loop-items in
    let over = rw c.in_default.is at c.in_ok-item.ensures in
    l.invariant ∙ ap (parse_map (joined (items_view l.items.items))) over ∙ joined-over (items_view l.items.items) c.next_item.new.reader

-- ---- an object

pub next_member-returns-in_err-key : goal.next_member-returns-in_err-key
next_member-returns-in_err-key t c =
    let gone : c.from_residual.result ≡ Err NotJson = grind arith in
    rw gone (λ ms. members_at-no_key ms c.args.depth c.args.reader.now c.in_err-key.ensures.value)

pub next_member-returns-in_err-value_at-in-Some : goal.next_member-returns-in_err-value_at-in-Some
next_member-returns-in_err-value_at-in-Some t c =
    let key : read_key c.args.reader.now ≡ Some (Some c.in-Some.key.now, c.next_key.new.self) = grind arith in
    let gone : c.from_residual-in_err-value_at-in-Some.result ≡ Err c.in_err-value_at-in-Some.field-0.0 = grind arith in
    rw gone (λ ms. lacks-so _ (data_at c.args.depth c.next_key.new.self) _ c.in_err-value_at-in-Some.ensures (λ none. members_at-next ms c.args.depth c.args.reader.now _ _ key ∙ rw none refl))

pub next_member-returns-in_ok-value_at-in-Some : goal.next_member-returns-in_ok-value_at-in-Some
next_member-returns-in_ok-value_at-in-Some t c =
    let key : read_key c.args.reader.now ≡ Some (Some c.in-Some.key.now, c.next_key.new.self) = grind arith in
    let stands = c.in_ok-value_at-in-Some.ensures in
    let less = read_key-shorter c.args.reader.now _ _ key in
    let lesser = data_at-shorter _ _ _ _ stands in
    (λ ms. members_at-next ms c.args.depth c.args.reader.now _ _ key ∙ rw stands refl, omega (arith, less, lesser))

pub next_member-returns-in-None : goal.next_member-returns-in-None
next_member-returns-in-None t c = λ ms. members_at-over ms c.args.depth c.args.reader.now c.next_key.new.self (grind arith)
