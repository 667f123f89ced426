-- Words of flags hold 32 bits each.
use Rattle.std.proofs.Common.{◌≡◌, ℕ, ◌+◌, ◌<◌, ◌^◌, Bool, List, [], ◌∷◌, length, Option, None, Some, refl, subst, inl, inr, arith}
use Rattle.std.specs.List.{All, slice_get, slice_index}
use Rattle.std.specs.Option.{ForSome, option_map_or}
use Rattle.std.proofs.lemmas.Bool.{cases_lt}
use Rattle.std.proofs.lemmas.List.{get_or_past}
use Rattle.std.proofs.lemmas.List.Elements.{All-append, All-head, All-nil, All-set, All-tail}
use Rattle.std.proofs.lemmas.Nat.{or_of_32}
use Rattle.std.proofs.lemmas.Option.{slice_get-get_or}
use Rattle.lk_link.specs.declared.link.LinkInput.{LinkInput}
use Rattle.lk_link.specs.WellFormed.{IsWellFormed}
use Rattle.lk_reach.specs.declared.units.Ask.{Ask}
use Rattle.lk_reach.specs.declared.units.Ask.TheVariants.{Reference, Section, Mark}
use Rattle.lk_reach.specs.declared.units.Unit.{Unit as LinkUnit}
use Rattle.lk_reach.specs.Marks.{AreFew, asked, asked_from, asking, flag_words, handed_in, join_all, join_flags, reached_marks, unit_at, word_of}
use Rattle.lk_reach.specs.Units.{flags_of, follows, roots}
use Rattle.lk_reach.proofs.MarkLemmas.{from_marked}
use Rattle.lk_reach.proofs.PlainAsks.{IsPlainAsk, follows_plain, roots_plain}
use Rattle.lk_reach.proofs.WalkLemmas.{handed_few}

abbrev IsFew : ℕ → Type 0
IsFew w = w < 2 ^ 32

-- the flags that an ask sets, if any, are few
abbrev SetsFew : Ask → Type 0
SetsFew a = ForSome (flags_of a) (λ p. IsFew p.1)

plain_few : (a : Ask) → IsPlainAsk a → SetsFew a
plain_few (Reference s f) few p is =
    let given : ℕ × ℕ = (s, f.0) in
    let same : given ≡ p = cc in
    subst (λ (q : ℕ × ℕ). IsFew q.1) same few
plain_few (Section id i) plain p is = absurd (cc)
plain_few (Mark s f) plain p is =
    let given : ℕ × ℕ = (s, f.0) in
    let same : given ≡ p = cc in
    let few : IsFew f.0 = omega (arith, plain) in
    subst (λ (q : ℕ × ℕ). IsFew q.1) same few

all_few : (asks : List Ask) → ((k : ℕ) (a : Ask) → slice_get asks k ≡ Some a → IsPlainAsk a) → All SetsFew asks
all_few asks plain k d lt = plain_few _ (plain k _ (slice_get-get_or asks k d lt))

unit_few : (link : LinkInput) (o : Option LinkUnit) → All SetsFew (option_map_or (follows link) o [])
unit_few link None = All-nil SetsFew
unit_few link (Some unit) = all_few (follows link unit) (follows_plain link unit)

asked_few : (link : LinkInput) (marks : List Bool) → All SetsFew (asked (asking link) marks)
asked_few link marks =
    All-append SetsFew (roots link) (asked_from (asking link).follows 0 marks) (all_few (roots link) (roots_plain link))
    (from_marked SetsFew (asking link).follows 0 marks (λ v is. unit_few link (unit_at link.groups (0 + v))))

-- ---- joined

word_few : (words : List ℕ) (n : ℕ) → AreFew words → IsFew (slice_index words n)
word_few words n few = elim (cases_lt n (length words)) [
  | inl within ↦ few n 0 within
  | inr past ↦ omega (arith, get_or_past words n 0 past)
]

flags_few : (words : List ℕ) (o : Option (ℕ × ℕ)) → AreFew words → ForSome o (λ p. IsFew p.1) → AreFew (join_flags words o)
flags_few words None few set = few
flags_few words (Some p) few set =
    let place = word_of p.0 in
    All-set IsFew words place _ (or_of_32 (slice_index words place) p.1 (word_few words place few) (set p refl)) few

joined_few : (words : List ℕ) (asks : List Ask) → AreFew words → All SetsFew asks → AreFew (join_all words asks)
unfolding join_all
joined_few words [] few set = few
joined_few words (a ∷ asks) few set =
    joined_few (join_flags words (flags_of a)) asks (flags_few words (flags_of a) few (All-head SetsFew a asks set)) (All-tail SetsFew a asks set)

pub words_few : (link : LinkInput) → IsWellFormed link → AreFew (flag_words link)
words_few link wf = joined_few (handed_in link) (asked (asking link) (reached_marks link)) (handed_few link wf) (asked_few link (reached_marks link))
