-- The lists of a link fit it.
use Rattle.std.proofs.Common.{◌≡◌, ℕ, ◌+◌, Bool, true, false, List, length, refl, sym, subst, arith, get_or}
use Rattle.std.specs.List.{All}
use Rattle.std.proofs.lemmas.List.{ext_get_or}
use Rattle.std.proofs.lemmas.List.Elements.{All-append}
use Rattle.lk_link.specs.declared.link.LinkInput.{LinkInput}
use Rattle.lk_reach.specs.Marks.{IsClosed, IsJoined, IsMarked, asked, asked_from, asking, flag_words, handed_in, reached_marks}
use Rattle.lk_reach.specs.Units.{roots}
use Rattle.lk_reach.proofs.MarkLemmas.{from_marked, reached_length, reached_only}
use Rattle.lk_reach.proofs.ReachLemmas.{handed_in_words, handed_length, reach_is_closed}
use Rattle.lk_reach.proofs.WordLemmas.{HasBit, join_all_length, join_all_only, same_words}
use Rattle.lk_slot_link.specs.LinkLists.{AreInside, ListsFit, lists_of}

same_mark : (a b : Bool) → (a ≡ true → b ≡ true) → (b ≡ true → a ≡ true) → a ≡ b
same_mark true b f g = sym (f refl)
same_mark false true f g = g refl
same_mark false false f g = refl

-- closed marks inside are the marks of what is reached
all_marks : (link : LinkInput) (marks : List Bool) (words : List ℕ) → AreInside (lists_of link) marks words → IsClosed (asking link) marks words → marks ≡ reached_marks link
all_marks link marks words inside closed =
    let holds : (n : ℕ) → IsMarked (reached_marks link) n → IsMarked marks n
    = λ n is. reached_only (asking link) (IsMarked marks) (λ k d lt. (closed.by_roots k d lt).0) (λ v m k d lt. (closed.by_units v m k d lt).0) n is in
    ext_get_or false marks (reached_marks link) inside.marks_count (λ n lt. same_mark (get_or marks n false) (get_or (reached_marks link) n false) (inside.reached n) (holds n))

-- and closed words inside are its flags
all_words : (link : LinkInput) (marks : List Bool) (words : List ℕ) → AreInside (lists_of link) marks words → IsClosed (asking link) marks words → marks ≡ reached_marks link → words ≡ flag_words link
all_words link marks words inside closed same =
    let g = asking link in
    let by_units : All (IsJoined words) (asked_from g.follows 0 (reached_marks link))
    = from_marked (IsJoined words) g.follows 0 (reached_marks link) (λ v is k d lt.
    let zero_more : 0 + v ≡ v = omega arith in
    subst (λ m. All (IsJoined words) (g.follows m)) (sym zero_more) (λ j e less. (closed.by_units v (subst (λ ms. IsMarked ms v) (sym same) is) j e less).1) k d lt) in
    let joined : All (IsJoined words) (asked g (reached_marks link)) = All-append (IsJoined words) (roots link) (asked_from g.follows 0 (reached_marks link)) (λ k d lt. (closed.by_roots k d lt).1) by_units in
    let holds : (n i : ℕ) → HasBit (flag_words link) n i → HasBit words n i
    = λ n i bit. join_all_only (HasBit words) (handed_in link) (asked g (reached_marks link)) inside.handed joined n i bit in
    same_words words (flag_words link) inside.words_count inside.bounded holds

words_count : (link : LinkInput) → length (flag_words link) ≡ length (handed_in link)
words_count link = join_all_length (handed_in link) (asked (asking link) (reached_marks link))

pub lists_fit : ListsFit
lists_fit link wf = record {
  groups = refl;
  closed = reach_is_closed link wf;
  marks_count = reached_length (asking link);
  handed = refl;
  handed_count = omega (arith, handed_length link);
  words_count = omega (arith, words_count link, handed_length link);
  within = handed_in_words link;
  all = λ marks words inside closed.
      let same = all_marks link marks words inside closed in
      (same, all_words link marks words inside closed same);
}
