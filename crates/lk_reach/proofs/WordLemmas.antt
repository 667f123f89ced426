-- Words of flags: what is in them after asks are joined.
use Rattle.std.proofs.Common.{◌≡◌, ℕ, ◌<◌, List, [], ◌∷◌, length, Option, Some, None, refl, sym, ap, ◌∙◌, subst, inl, inr, ◌⊎◌, arith, get_or, set, bit_or}
use Rattle.std.specs.Int.{bit_at}
use Rattle.std.specs.List.{All, slice_index}
use Rattle.std.specs.Option.{ForSome}
use Rattle.std.proofs.lemmas.Bool.{cases_eq, cases_lt}
use Rattle.std.proofs.lemmas.List.{length-set, get_or-set_same, get_or-set_other, get_or_past, ext_get_or}
use Rattle.std.proofs.lemmas.List.Elements.{All-cons, All-head, All-nil, All-tail}
use Rattle.std.proofs.lemmas.Nat.Bits.{bit_at-lt, bit_at-zero, bit_at_or, same_from_bits}
use Rattle.lk_reach.specs.declared.units.Ask.{Ask}
use Rattle.lk_reach.specs.Marks.{IsJoined, join_all, join_flags, word_of}
use Rattle.lk_reach.specs.Units.{flags_of}

-- a bit of the word at a place is set
abbrev pub HasBit : List ℕ → ℕ → ℕ → Type 0
HasBit words n i = bit_at (slice_index words n) i ≡ 1

-- ---- one word

bit_past : (i : ℕ) → bit_at 0 i ≡ 1 → ⊥
bit_past i h = absurd (omega (arith, h, bit_at-zero i))

or_left : (a b i : ℕ) → bit_at a i ≡ 1 → bit_at (bit_or a b) i ≡ 1
or_left a b i h = omega (arith, bit_at_or a b i, bit_at-lt b i)

or_right : (a b i : ℕ) → bit_at b i ≡ 1 → bit_at (bit_or a b) i ≡ 1
or_right a b i h = omega (arith, bit_at_or a b i, bit_at-lt a i)

or_cases : (a b i : ℕ) → bit_at (bit_or a b) i ≡ 1 → (bit_at a i ≡ 1) ⊎ (bit_at b i ≡ 1)
or_cases a b i h = elim (cases_eq (bit_at a i) 1) [
  | inl is ↦ inl is
  | inr isnt ↦ inr (omega (arith, bit_at_or a b i, bit_at-lt a i, bit_at-lt b i))
]

-- a word in which a bit is set stands inside
pub bit_within : (words : List ℕ) (n i : ℕ) → HasBit words n i → n < length words
bit_within words n i h = elim (cases_lt n (length words)) [
  | inl lt ↦ lt
  | inr past ↦ absurd (bit_past i (ap (λ w. bit_at w i) (sym (get_or_past words n 0 past)) ∙ h))
]

pub join_keeps : (words : List ℕ) (o : Option (ℕ × ℕ)) (n i : ℕ) → HasBit words n i → HasBit (join_flags words o) n i
join_keeps words None n i h = h
join_keeps words (Some p) n i h =
    let place = word_of p.0 in
    let joined = bit_or (slice_index words place) p.1 in
    elim (cases_eq n place) [
      | inl same ↦
          let there : HasBit words place i = subst (λ m. HasBit words m i) same h in
          let read : get_or (set words place joined) place 0 ≡ joined = get_or-set_same words place joined 0 (bit_within words place i there) in
          subst (λ m. HasBit (set words place joined) m i) (sym same) (ap (λ w. bit_at w i) read ∙ or_left (slice_index words place) p.1 i there)
      | inr other ↦ ap (λ w. bit_at w i) (get_or-set_other words place n joined 0 other) ∙ h
    ]

pub join_length : (words : List ℕ) (o : Option (ℕ × ℕ)) → length (join_flags words o) ≡ length words
join_length words None = refl
join_length words (Some p) = length-set words (word_of p.0) (bit_or (slice_index words (word_of p.0)) p.1)

-- a bit that is set afterwards was set before, or is one of those that were joined
pub join_cases : (words : List ℕ) (p : ℕ × ℕ) (n i : ℕ) → HasBit (join_flags words (Some p)) n i → HasBit words n i ⊎ ((n ≡ word_of p.0) × (bit_at p.1 i ≡ 1))
join_cases words p n i h =
    let place = word_of p.0 in
    let joined = bit_or (slice_index words place) p.1 in
    elim (cases_eq n place) [
      | inl same ↦
          let there : HasBit (set words place joined) place i = subst (λ m. HasBit (set words place joined) m i) same h in
          let within : place < length words = omega (arith, bit_within (set words place joined) place i there, length-set words place joined) in
          let read : get_or (set words place joined) place 0 ≡ joined = get_or-set_same words place joined 0 within in
          elim (or_cases (slice_index words place) p.1 i (ap (λ w. bit_at w i) (sym read) ∙ there)) [
            | inl before ↦ inl (subst (λ m. HasBit words m i) (sym same) before)
            | inr new ↦ inr (same, new)
          ]
      | inr other ↦ inl (ap (λ w. bit_at w i) (sym (get_or-set_other words place n joined 0 other)) ∙ h)
    ]

-- what is joined is there
pub join_hits : (words : List ℕ) (p : ℕ × ℕ) (i : ℕ) → word_of p.0 < length words → bit_at p.1 i ≡ 1 → HasBit (join_flags words (Some p)) (word_of p.0) i
join_hits words p i within h =
    let place = word_of p.0 in
    let joined = bit_or (slice_index words place) p.1 in
    ap (λ w. bit_at w i) (get_or-set_same words place joined 0 within) ∙ or_right (slice_index words place) p.1 i h

-- ---- all asks

pub joined_keeps : (words more : List ℕ) → ((n i : ℕ) → HasBit words n i → HasBit more n i) → (a : Ask) → IsJoined words a → IsJoined more a
joined_keeps words more keeps a h p e i bit = keeps (word_of p.0) i (h p e i bit)

-- the word of an ask's symbol is inside
abbrev pub IsWordBelow : ℕ → Ask → Type 0
IsWordBelow n a = ForSome (flags_of a) (λ p. word_of p.0 < n)

-- each bit that an ask sets has R
abbrev pub SetsOnly : (ℕ → ℕ → Type 0) → Ask → Type 0
SetsOnly R a = ForSome (flags_of a) (λ p. (i : ℕ) → bit_at p.1 i ≡ 1 → R (word_of p.0) i)

pub joins_own : (words : List ℕ) (a : Ask) (o : Option (ℕ × ℕ)) → flags_of a ≡ o → IsWordBelow (length words) a → IsJoined (join_flags words o) a
joins_own words a None e h p f i bit = absurd (cc)
joins_own words a (Some q) e h p f i bit =
    let same : q ≡ p = cc in
    subst (λ r. HasBit (join_flags words (Some r)) (word_of p.0) i) (sym same) (join_hits words p i (h p f) bit)

pub join_only : (R : ℕ → ℕ → Type 0) (words : List ℕ) (a : Ask) (o : Option (ℕ × ℕ)) → flags_of a ≡ o → ((n i : ℕ) → HasBit words n i → R n i) → SetsOnly R a → (n i : ℕ) → HasBit (join_flags words o) n i → R n i
join_only R words a None e h r n i bit = h n i bit
join_only R words a (Some p) e h r n i bit = elim (join_cases words p n i bit) [
  | inl before ↦ h n i before
  | inr new ↦ subst (λ m. R m i) (sym new.0) (r p e i new.1)
]

pub join_all_length : (words : List ℕ) (asks : List Ask) → length (join_all words asks) ≡ length words
unfolding join_all
join_all_length words [] = refl
join_all_length words (a ∷ asks) = join_all_length (join_flags words (flags_of a)) asks ∙ join_length words (flags_of a)

pub join_all_keeps : (words : List ℕ) (asks : List Ask) (n i : ℕ) → HasBit words n i → HasBit (join_all words asks) n i
unfolding join_all
join_all_keeps words [] n i h = h
join_all_keeps words (a ∷ asks) n i h = join_all_keeps (join_flags words (flags_of a)) asks n i (join_keeps words (flags_of a) n i h)

pub join_all_joins : (words : List ℕ) (asks : List Ask) → All (IsWordBelow (length words)) asks → All (IsJoined (join_all words asks)) asks
unfolding join_all
join_all_joins words [] h = All-nil (IsJoined words)
join_all_joins words (a ∷ asks) h =
    let next = join_flags words (flags_of a) in
    let own : IsJoined next a = joins_own words a (flags_of a) refl (All-head (IsWordBelow (length words)) a asks h) in
    let rest : All (IsWordBelow (length next)) asks
    = subst (λ n. All (IsWordBelow n) asks) (sym (join_length words (flags_of a))) (All-tail (IsWordBelow (length words)) a asks h) in
    All-cons (IsJoined (join_all next asks)) a asks (joined_keeps next (join_all next asks) (join_all_keeps next asks) a own) (join_all_joins next asks rest)

pub join_all_only : (R : ℕ → ℕ → Type 0) (words : List ℕ) (asks : List Ask) → ((n i : ℕ) → HasBit words n i → R n i) → All (SetsOnly R) asks → (n i : ℕ) → HasBit (join_all words asks) n i → R n i
unfolding join_all
join_all_only R words [] h all n i bit = h n i bit
join_all_only R words (a ∷ asks) h all n i bit =
    let head = All-head (SetsOnly R) a asks all in
    join_all_only R (join_flags words (flags_of a)) asks (join_only R words a (flags_of a) refl h head) (All-tail (SetsOnly R) a asks all) n i bit

-- ---- equal words

same_bit : (a b : ℕ) → a < 2 → b < 2 → (a ≡ 1 → b ≡ 1) → (b ≡ 1 → a ≡ 1) → a ≡ b
same_bit a b la lb f g = elim (cases_eq a 1) [
  | inl is ↦ is ∙ sym (f is)
  | inr isnt ↦ elim (cases_eq b 1) [ inl also ↦ absurd (isnt (g also)) | inr neither ↦ omega arith ]
]

pub same_flags : (a b : ℕ) → ((i : ℕ) → bit_at a i ≡ 1 → bit_at b i ≡ 1) → ((i : ℕ) → bit_at b i ≡ 1 → bit_at a i ≡ 1) → a ≡ b
same_flags a b f g = same_from_bits a b (λ i. same_bit (bit_at a i) (bit_at b i) (bit_at-lt a i) (bit_at-lt b i) (f i) (g i))

pub same_words : (a b : List ℕ) → length a ≡ length b → ((n i : ℕ) → HasBit a n i → HasBit b n i) → ((n i : ℕ) → HasBit b n i → HasBit a n i) → a ≡ b
same_words a b size f g = ext_get_or 0 a b size (λ n lt. same_flags (slice_index a n) (slice_index b n) (f n) (g n))
