use Rattle.std.proofs.Common.{◌≡◌, Some, Err, refl, ap, ◌∙◌, arith}
use Rattle.json.specs.Json.{read_key}
use Rattle.json.proofs.Grammar.{read_key-shorter}
use Rattle.serde_json.specs.Data.{no_members, put}
use Rattle.serde_json.specs.View.{members_view}
use Rattle.lk_input.specs.declared.read.fail.Fail.TheVariants.{NotJson}
use Rattle.lk_pieces.specs.Tokens.{data_at, members_at}
use Rattle.lk_pieces.proofs.Tokens.{and_next, data_at-shorter, members_at-next, members_at-over, members_at-no_key}
use Rattle.lk_input.proofs.Objects.{split-begin}
use Rattle.lk_input.proofs.Values.{lacks-so}
use Rattle.lk_input.proofs.read.large.stream_members.Goals as goal

pub members-init : goal.members-init
members-init g c = (no_members, refl, split-begin _ _ no_members _ _ c.none-large.ensures (ap members_view c.new-others.ensures.empty))

pub returns-in_err-key : goal.returns-in_err-key
returns-in_err-key g c =
    let l = c.members in
    let gone : c.from_residual.result ≡ Err NotJson = grind arith in
    rw gone (l.invariant.1 ∙ members_at-no_key l.invariant.0 c.args.depth l.reader c.in_err-key.ensures.value)

pub returns-in_err-stream_member : goal.returns-in_err-stream_member
returns-in_err-stream_member g c =
    let l = c.members in
    let ms = l.invariant.0 in
    let k = c.in-Some.key.now in
    let s = c.next_key.new.self in
    let key : read_key l.reader ≡ Some (Some k, s) = grind arith in
    let e = c.in_err-stream_member.field-0.0 in
    let gone : c.from_residual-in_err-stream_member.result ≡ Err e = grind arith in
    rw gone (lacks-so e (data_at c.args.depth s) _ c.in_err-stream_member.ensures
    (λ none. l.invariant.1 ∙ members_at-next ms c.args.depth l.reader k s key ∙ ap (and_next (λ d r. members_at (put k d ms) c.args.depth r)) none))

pub members-smaller : goal.members-smaller
members-smaller g c =
    let key : read_key c.members.reader ≡ Some (Some c.in-Some.key.now, c.next_key.new.self) = grind arith in
    let less = read_key-shorter c.members.reader _ _ key in
    let read = c.in_ok-stream_member.ensures in
    let lesser = data_at-shorter c.args.depth _ read.0 _ read.1 in
    omega (arith, less, lesser)

pub members-preserved : goal.members-preserved
members-preserved g c =
    let l = c.members in
    let ms = l.invariant.0 in
    let k = c.in-Some.key.now in
    let s = c.next_key.new.self in
    let key : read_key l.reader ≡ Some (Some k, s) = grind arith in
    let read = c.in_ok-stream_member.ensures in (
      put k read.0 ms,
      l.invariant.1 ∙ members_at-next ms c.args.depth l.reader k s key ∙ ap (and_next (λ d r. members_at (put k d ms) c.args.depth r)) read.1,
      read.2 ms l.invariant.2,
    )

pub returns : goal.returns
returns g c =
    let l = c.members in
    (l.invariant.0, l.invariant.1 ∙ members_at-over l.invariant.0 c.args.depth l.reader c.next_key.new.self (grind arith), l.invariant.2)
