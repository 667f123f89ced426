use Rattle.std.proofs.Common.{rules, ◌≡◌, ◌<◌, ◌≤◌, length, sym, ap, ◌∙◌, subst, arith}
use Rattle.std.proofs.lemmas.List.{ext_get_or, length-set}
use Rattle.lk_flags.specs.Flags.{AreInTurn, AreLeft, HaveNoMore, Pass, all_parts}
use Rattle.lk_flags.proofs.Keeping.{all_in_turn, left_words, moved_more, turned_no_more}
use Rattle.lk_flags.proofs.flags.FlagTable.close.Goals as goal

pub loop-place-preserved : goal.loop-place-preserved
loop-place-preserved g c =
    let room = c.loop-place.room.items in
    let within : c.loop-place.place < length room = search rules in (
      length-set room c.loop-place.place c.word.result ∙ c.loop-place.invariant.0,
      moved_more room c.close_with-closed.result.words.items c.loop-place.place c.word.result within c.loop-place.invariant.1 c.word.ensures,
    )

pub returns : goal.returns
returns g c =
    let final = c.close_with-closed.ensures.values.2 in
    let kept = final.1.0 in
    let words = c.close_with-closed.result.words.items in
    let room = c.loop-place.room.items in
    let lists = g.J.Reach.lists in
    let me = c.pass.inside.seat.me.0 in
    let count : length room ≡ length words
    = c.loop-place.invariant.0 ∙ c.close_with-closed.ensures.counts.0 ∙ c.self.invariant.0 ∙ sym kept.count ∙ ap length final.2 in
    let end : length room ≤ c.loop-place.place = search rules in
    let same : room ≡ words = ext_get_or 0 room words count (λ k lt. c.loop-place.invariant.1 k (omega (arith, lt, end))) in
    let left : AreLeft lists.handed lists.words me.sets room = left_words lists.handed lists.words c.pass.inside.seat.id me words room final.0 kept final.1.1 final.2 same in
    let in_turn : me.parts ≡ all_parts → AreInTurn lists.handed me.sets room = all_in_turn lists.handed lists.words c.pass.inside.seat.id me words room final.0 kept final.1.1 final.2 same in
    let whole : me.parts ≡ all_parts → HaveNoMore lists.handed me.sets room = λ all. turned_no_more lists.handed me.sets room (in_turn all) in
    record {
      left = subst (λ (p : Pass). AreLeft lists.handed lists.words p.sets room) c.pass.view_is left;
      in_turn = subst (λ (p : Pass). p.parts ≡ all_parts → AreInTurn lists.handed p.sets room) c.pass.view_is in_turn;
      whole = subst (λ (p : Pass). p.parts ≡ all_parts → HaveNoMore lists.handed p.sets room) c.pass.view_is whole;
    }
