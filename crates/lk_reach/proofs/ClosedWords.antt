-- Closed words hold all flags.
use Rattle.std.proofs.Common.{subst, inl, inr}
use Rattle.std.specs.List.{All}
use Rattle.lk_reach.specs.Laws.{ClosedWordsHoldFlags}
use Rattle.lk_reach.specs.Marks.{IsJoined, asking, unit_number, word_of}
use Rattle.lk_reach.specs.Units.{follows, roots}
use Rattle.lk_reach.proofs.ReachLemmas.{ask_set, closed_marks_hold_reach, follows_at, handed_set, reached_unit}

pub closed_words_hold_flags : ClosedWordsHoldFlags
closed_words_hold_flags link marks words s i wf closed handed flag = elim flag [
  | inl first ↦ handed (word_of s) i (handed_set link s i first)
  | inr set ↦ elim set [
    | inl root ↦ ask_set words (roots link) s i (λ k d lt. (closed.by_roots k d lt).1) root
    | inr unit ↦
        let n = unit_number link.groups unit.unit in
        let marked = closed_marks_hold_reach link marks words unit.unit wf closed unit.reached in
        let asks = follows_at link n unit.unit (reached_unit link unit.unit wf unit.reached) in
        let all : All (IsJoined words) ((asking link).follows n) = λ k d lt. (closed.by_units n marked k d lt).1 in
        ask_set words (follows link unit.unit) s i (subst (All (IsJoined words)) asks all) unit.asks
  ]
]
