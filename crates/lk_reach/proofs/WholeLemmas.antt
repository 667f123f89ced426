-- Closed marks and words that hold nothing more are those of what is reached.
use Rattle.std.proofs.Common.{◌≡◌, ℕ, zero, suc, ◌+◌, ◌<◌, Bool, true, false, List, length, get_or, refl, sym, ap, ◌∙◌, subst, arith}
use Rattle.std.specs.Int.{bit_at}
use Rattle.std.specs.List.{All}
use Rattle.std.proofs.lemmas.List.{ext_get_or}
use Rattle.std.proofs.lemmas.List.Elements.{All-append}
use Rattle.std.proofs.lemmas.Nat.Bits.{bit_at-zero}
use Rattle.lk_link.specs.declared.link.LinkInput.{LinkInput}
use Rattle.lk_link.specs.WellFormed.{IsWellFormed}
use Rattle.lk_link.proofs.Elements.{at_index}
use Rattle.lk_reach.specs.Laws.{ClosedAndReachedIsAll, IsAllReached}
use Rattle.lk_reach.specs.Marks.{IsJoined, IsMarked, IsUnit, all_units, asked, asked_from, asking, flag_words, handed_in, reached_marks, symbols_in_all, unit_at, unit_number, word_of}
use Rattle.lk_reach.specs.Units.{roots}
use Rattle.lk_reach.proofs.MarkLemmas.{from_marked, reached_length, reached_only}
use Rattle.lk_reach.proofs.ReachLemmas.{handed_length, marks_are_reached, words_are_flags}
use Rattle.lk_reach.proofs.UnitLemmas.{number_of}
use Rattle.lk_reach.proofs.WordLemmas.{HasBit, bit_within, join_all_length, join_all_only, same_words}

same_mark : (a b : Bool) → (a ≡ true → b ≡ true) → (b ≡ true → a ≡ true) → a ≡ b
same_mark true b f g = sym (f refl)
same_mark false true f g = g refl
same_mark false false f g = refl

all_marks : (link : LinkInput) (marks : List Bool) (words : List ℕ) → IsWellFormed link → IsAllReached link marks words → marks ≡ reached_marks link
all_marks link marks words wf all =
    let g = asking link in
    let holds : (u : ℕ) → IsMarked (reached_marks link) u → IsMarked marks u
    = λ u is. reached_only g (IsMarked marks) (λ k d lt. (all.closed.by_roots k d lt).0) (λ v m k d lt. (all.closed.by_units v m k d lt).0) u is in
    ext_get_or false marks (reached_marks link) (all.marks_count ∙ sym (reached_length g)) (λ u lt.
    let unit = at_index (all_units link.groups) u (omega (arith, lt, all.marks_count)) in
    let number : unit_number link.groups unit.0 ≡ u = number_of link.groups u unit.0 unit.1 in
    let there : IsUnit link.groups unit.0 = ap (unit_at link.groups) number ∙ unit.1 in
    same_mark (get_or marks u false) (get_or (reached_marks link) u false)
    (λ set. subst (IsMarked (reached_marks link)) number
    ((marks_are_reached link unit.0 wf there).1 (all.reached unit.0 there (subst (IsMarked marks) (sym number) set))))
    (holds u))

-- a bit of a word is a flag, if it isn't one of the spare word
bit_is_flag : (link : LinkInput) (marks : List Bool) (words : List ℕ) (n i : ℕ) → IsWellFormed link → IsAllReached link marks words → HasBit words n i → HasBit (flag_words link) n i
bit_is_flag link marks words zero i wf all bit = absurd (omega (arith, bit, ap (λ w. bit_at w i) all.spare, bit_at-zero i))
bit_is_flag link marks words (suc s) i wf all bit =
    let place : suc s ≡ word_of s = omega arith in
    let own : HasBit words (word_of s) i = subst (λ n. HasBit words n i) place bit in
    let within : s < symbols_in_all link.groups = omega (arith, bit_within words (word_of s) i own, all.words_count) in
    subst (λ n. HasBit (flag_words link) n i) (sym place) ((words_are_flags link s i wf within).1 (all.flags s i own))

all_words : (link : LinkInput) (marks : List Bool) (words : List ℕ) → IsWellFormed link → IsAllReached link marks words → marks ≡ reached_marks link → words ≡ flag_words link
all_words link marks words wf all same =
    let g = asking link in
    let by_units : All (IsJoined words) (asked_from g.follows 0 (reached_marks link))
    = from_marked (IsJoined words) g.follows 0 (reached_marks link) (λ v is k d lt.
    let zero_more : 0 + v ≡ v = omega arith in
    subst (λ m. All (IsJoined words) (g.follows m)) (sym zero_more) (λ j e less. (all.closed.by_units v (subst (λ ms. IsMarked ms v) (sym same) is) j e less).1) k d lt) in
    let joined : All (IsJoined words) (asked g (reached_marks link))
    = All-append (IsJoined words) (roots link) (asked_from g.follows 0 (reached_marks link)) (λ k d lt. (all.closed.by_roots k d lt).1) by_units in
    let size : length words ≡ length (flag_words link) = omega (arith, all.words_count, join_all_length (handed_in link) (asked g (reached_marks link)), handed_length link) in
    same_words words (flag_words link) size (λ n i bit. bit_is_flag link marks words n i wf all bit)
    (λ n i bit. join_all_only (HasBit words) (handed_in link) (asked g (reached_marks link)) all.handed joined n i bit)

pub closed_and_reached_is_all : ClosedAndReachedIsAll
closed_and_reached_is_all link marks words wf all =
    let same = all_marks link marks words wf all in
    (same, all_words link marks words wf all same)
