-- The first candidate that is past its limit, by a walk beside the deleted ranges.
use Rattle.std.proofs.Common.{◌≡◌, ◌<◌, ◌≤◌, ◌+◌, ◌-◌, ◌^◌, ◌∙◌, ◌∷◌, ◌&&◌, [], List, ℕ, Bool, true, false, not, Some, None, ap, arith, cond, drop, length, map, nat_lt, sym, suc}
use Rattle.std.specs.List.{filter, position, position_or_len}
use Rattle.std.proofs.lemmas.Bool.{le-ltb, lt-ltb}
use Rattle.lk_link.specs.declared.relocation.RelaxCandidate.{RelaxCandidate}
use Rattle.lk_deltas.specs.declared.candidates.Outcome.{Outcome}
use Rattle.lk_deltas.specs.declared.deltas.Delta.{Delta}
use Rattle.lk_deltas.specs.Candidates.{is_gone, is_past, is_short, range_of}
use Rattle.lk_deltas.specs.Deletions.{RiseWithin}
use Rattle.lk_deltas.specs.DeltaWords.{ranges_of}
use Rattle.lk_deltas.proofs.SideBySide.{drop_first, is_next, next_is}

-- no candidate before index k is past its limit: the first of those left is the first of all
pub record Look (told : RelaxCandidate → Outcome) (ds : List Delta) (all : List RelaxCandidate) (k p : ℕ) (left : List RelaxCandidate) : Type 0 where
  pub few : p ≤ k
  pub rising : (low : ℕ) × RiseWithin low (2 ^ 64 - 1) (map range_of left)
  pub gone : drop p (ranges_of ds) ≡ map range_of (filter (is_gone (ranges_of ds)) left)
  pub first : k + position_or_len (is_past told (ranges_of ds)) left ≡ position_or_len (is_past told (ranges_of ds)) all

pub look_begin : (told : RelaxCandidate → Outcome) (ds : List Delta) (all : List RelaxCandidate) → RiseWithin 0 (2 ^ 64 - 1) (map range_of all)
    → ranges_of ds ≡ map range_of (filter (is_gone (ranges_of ds)) all) → Look told ds all 0 0 all
look_begin told ds all rising some = record { few = omega arith; rising = (0, rising); gone = some; first = omega arith }

-- what the code asks of a candidate is whether its bytes are gone
pub look_tells : (told : RelaxCandidate → Outcome) (ds : List Delta) (all : List RelaxCandidate) (k p : ℕ) (c : RelaxCandidate) (cs : List RelaxCandidate) → Look told ds all k p (c ∷ cs)
    → is_next ds p c ≡ is_gone (ranges_of ds) c
look_tells told ds all k p c cs h = next_is (is_gone (ranges_of ds)) h.rising.0 (2 ^ 64 - 1) ds p c cs h.rising.1 h.gone

-- one that is gone and isn't too far
pub look_gone : (told : RelaxCandidate → Outcome) (ds : List Delta) (all : List RelaxCandidate) (k p q : ℕ) (c : RelaxCandidate) (cs : List RelaxCandidate) → Look told ds all k p (c ∷ cs)
    → is_next ds p c ≡ true → is_short (told c) ≡ false → q ≡ p + 1 → Look told ds all (k + 1) q cs
look_gone told ds all k p q c cs h next near passed =
    let g : RelaxCandidate → Bool = is_gone (ranges_of ds) in
    let test : RelaxCandidate → Bool = is_past told (ranges_of ds) in
    let here : g c ≡ true = sym (look_tells told ds all k p c cs h) ∙ next in
    let one : q ≡ suc p = omega (arith, passed) in
    let more : position_or_len test (c ∷ cs) ≡ 1 + position_or_len test cs
    = ap (λ b. cond (not (b && is_short (told c))) (1 + position_or_len test cs) 0) here ∙ ap (λ b. cond (not b) (1 + position_or_len test cs) 0) near in
    record {
      few = omega (arith, passed, h.few);
      rising = (c.at + c.del, h.rising.1.2);
      gone = ap (λ n. drop n (ranges_of ds)) one ∙ drop_first (ranges_of ds) p (range_of c) (map range_of (filter g cs)) (h.gone ∙ ap (λ b. map range_of (cond b (c ∷ filter g cs) (filter g cs))) here);
      first = omega (arith, more, h.first);
    }

-- one that isn't gone
pub look_there : (told : RelaxCandidate → Outcome) (ds : List Delta) (all : List RelaxCandidate) (k p q : ℕ) (c : RelaxCandidate) (cs : List RelaxCandidate) → Look told ds all k p (c ∷ cs)
    → is_next ds p c ≡ false → q ≡ p → Look told ds all (k + 1) q cs
look_there told ds all k p q c cs h next passed =
    let g : RelaxCandidate → Bool = is_gone (ranges_of ds) in
    let test : RelaxCandidate → Bool = is_past told (ranges_of ds) in
    let here : g c ≡ false = sym (look_tells told ds all k p c cs h) ∙ next in
    let more : position_or_len test (c ∷ cs) ≡ 1 + position_or_len test cs = ap (λ b. cond (not (b && is_short (told c))) (1 + position_or_len test cs) 0) here in
    record {
      few = omega (arith, passed, h.few);
      rising = (c.at + c.del, h.rising.1.2);
      gone = ap (λ n. drop n (ranges_of ds)) passed ∙ h.gone ∙ ap (λ b. map range_of (cond b (c ∷ filter g cs) (filter g cs))) here;
      first = omega (arith, more, h.first);
    }

-- a position is one of the list's, or there is none
at_position : (test : RelaxCandidate → Bool) (all : List RelaxCandidate) (k : ℕ) (b : Bool) → k ≡ position_or_len test all → nat_lt k (length all) ≡ b → position test all ≡ cond b (Some k) None
at_position test all k b is below = ap (λ n. cond (nat_lt n (length all)) (Some n) None) (sym is) ∙ ap (λ b. cond b (Some k) None) below

-- one that is past it
pub look_found : (told : RelaxCandidate → Outcome) (ds : List Delta) (all : List RelaxCandidate) (k p : ℕ) (c : RelaxCandidate) (cs : List RelaxCandidate) → Look told ds all k p (c ∷ cs)
    → is_next ds p c ≡ true → is_short (told c) ≡ true → k < length all → position (is_past told (ranges_of ds)) all ≡ Some k
look_found told ds all k p c cs h next far below =
    let test : RelaxCandidate → Bool = is_past told (ranges_of ds) in
    let here : is_gone (ranges_of ds) c ≡ true = sym (look_tells told ds all k p c cs h) ∙ next in
    let stops : position_or_len test (c ∷ cs) ≡ 0
    = ap (λ b. cond (not (b && is_short (told c))) (1 + position_or_len test cs) 0) here ∙ ap (λ b. cond (not b) (1 + position_or_len test cs) 0) far in
    at_position test all k true (omega (arith, stops, h.first)) (lt-ltb k (length all) below)

-- none is
pub look_end : (told : RelaxCandidate → Outcome) (ds : List Delta) (all : List RelaxCandidate) (k p : ℕ) → Look told ds all k p [] → length all ≤ k → position (is_past told (ranges_of ds)) all ≡ None
look_end told ds all k p h past = at_position (is_past told (ranges_of ds)) all k false (omega (arith, h.first)) (le-ltb k (length all) past)
