-- An ask is met exactly where its target is marked and its flags are in their word.
use Rattle.std.proofs.Common.{◌≡◌, ℕ, true, List, Option, None, Some, refl, ap, subst, arith, get_or}
use Rattle.std.specs.Int.{bit_at}
use Rattle.std.specs.Int.Bits.{bit_and}
use Rattle.std.specs.List.{All, list_all, slice_index}
use Rattle.std.specs.Option.{ForSome, option_map_or}
use Rattle.std.specs.Prelude.{option_map}
use Rattle.std.proofs.lemmas.Bool.{and_from, and_parts, eq-eqb, eqb-true}
use Rattle.std.proofs.lemmas.Nat.Bits.{bit_at-lt, bit_at_and}
use Rattle.std.proofs.lemmas.Option.{get_or_from_slice_get, slice_get-get_or, slice_get_within}
use Rattle.lk_link.specs.declared.file.InputFile.{InputFile}
use Rattle.lk_link.specs.declared.link.LinkInput.{LinkInput}
use Rattle.lk_link.specs.Flags.{has_flag}
use Rattle.lk_link.proofs.Places.{all_at, all_from}
use Rattle.lk_reach.specs.declared.units.Ask.{Ask}
use Rattle.lk_reach.specs.declared.units.Unit.{Unit as LinkUnit}
use Rattle.lk_reach.specs.Marks.{IsHit, IsJoined, IsMarked, asking, unit_number, word_of}
use Rattle.lk_reach.specs.Units.{flags_of, target_of}
use Rattle.lk_reach.proofs.WordLemmas.{same_flags}
use Rattle.lk_workers.specs.Closings.{ClosedValue, has_flags, is_ask_met, is_unit_done}

-- ---- targets

hit : (v : ClosedValue) (groups : List (List InputFile)) (o : Option LinkUnit) → option_map_or (is_unit_done v groups) o true ≡ true → ForSome (option_map (unit_number groups) o) (IsMarked v.done)
hit v groups None h n is = absurd (cc)
hit v groups (Some unit) h n is = let same : unit_number groups unit ≡ n = cc in subst (IsMarked v.done) same h

done : (v : ClosedValue) (groups : List (List InputFile)) (o : Option LinkUnit) → ForSome (option_map (unit_number groups) o) (IsMarked v.done) → option_map_or (is_unit_done v groups) o true ≡ true
done v groups None h = refl
done v groups (Some unit) h = h (unit_number groups unit) refl

-- ---- flags

-- a word has flags exactly where it has each bit of them
bit_there : (one w i : ℕ) → has_flag one w ≡ true → bit_at one i ≡ 1 → bit_at w i ≡ 1
bit_there one w i h bit =
    let same : bit_at (bit_and w one) i ≡ bit_at one i = ap (λ n. bit_at n i) (eqb-true (bit_and w one) one h) in
    omega (arith, same, bit, bit_at_and w one i, bit_at-lt w i)

flags_there : (one w : ℕ) → ((i : ℕ) → bit_at one i ≡ 1 → bit_at w i ≡ 1) → has_flag one w ≡ true
flags_there one w h =
    eq-eqb (bit_and w one) one
    (same_flags (bit_and w one) one
    (λ i bit. omega (arith, bit, bit_at_and w one i, bit_at-lt one i, bit_at-lt w i)) (λ i bit. omega (arith, bit, h i bit, bit_at_and w one i)))

joined : (v : ClosedValue) (o : Option (ℕ × ℕ)) → option_map_or (has_flags v) o true ≡ true → ForSome o (λ p. (i : ℕ) → bit_at p.1 i ≡ 1 → bit_at (slice_index v.words (word_of p.0)) i ≡ 1)
joined v None h p is = absurd (cc)
joined v (Some q) h p is =
    let same : q ≡ p = cc in
    subst (λ (r : ℕ × ℕ). (i : ℕ) → bit_at r.1 i ≡ 1 → bit_at (slice_index v.words (word_of r.0)) i ≡ 1) same (λ i bit. bit_there q.1 (slice_index v.words (word_of q.0)) i h bit)

set : (v : ClosedValue) (o : Option (ℕ × ℕ)) → ForSome o (λ p. (i : ℕ) → bit_at p.1 i ≡ 1 → bit_at (slice_index v.words (word_of p.0)) i ≡ 1) → option_map_or (has_flags v) o true ≡ true
set v None h = refl
set v (Some p) h = flags_there p.1 (slice_index v.words (word_of p.0)) (h p refl)

-- ---- asks

-- an ask's target is marked, and its flags are in its word
abbrev pub IsFitted : LinkInput → ClosedValue → Ask → Type 0
IsFitted link v a = IsHit (asking link) v.done a × IsJoined v.words a

pub all_fitted : (link : LinkInput) (v : ClosedValue) (asks : List Ask) → list_all (is_ask_met v link.groups) asks ≡ true → All (IsFitted link v) asks
all_fitted link v asks h k d lt =
    let a : Ask = get_or asks k d in
    let parts
    = and_parts (option_map_or (is_unit_done v link.groups) (target_of a) true) (option_map_or (has_flags v) (flags_of a) true)
    (all_at (is_ask_met v link.groups) asks k a h (slice_get-get_or asks k d lt)) in
    (hit v link.groups (target_of a) parts.0, joined v (flags_of a) parts.1)

pub all_met : (link : LinkInput) (v : ClosedValue) (asks : List Ask) → All (IsFitted link v) asks → list_all (is_ask_met v link.groups) asks ≡ true
all_met link v asks h =
    all_from (is_ask_met v link.groups) asks (λ k a at.
    let fits : IsFitted link v a = subst (IsFitted link v) (get_or_from_slice_get asks k a a at) (h k a (slice_get_within asks k a at)) in
    and_from (option_map_or (is_unit_done v link.groups) (target_of a) true) (option_map_or (has_flags v) (flags_of a) true)
    (done v link.groups (target_of a) fits.0) (set v (flags_of a) fits.1))
