-- Ranges of which each starts behind the end of the one before it.
use Rattle.std.proofs.Common.{◌≡◌, ℕ, ◌+◌, ◌^◌, ◌<◌, ◌≤◌, ◌⊎◌, ◌↔◌, Bool, true, false, cond, List, [], ◌∷◌, ◌++◌, length, get_or, take, drop, sym, ◌∙◌, ap, subst, inl, append-nil, take_all, arith, map}
use Rattle.std.specs.List.{All, filter}
use Rattle.std.proofs.lemmas.List.{drop_all, drop_more, map_push}
use Rattle.std.proofs.lemmas.List.Elements.{All-push, filter_more}
use Rattle.std.proofs.lemmas.List.Quantifiers.{all_pairs_push}
use Rattle.lk_map.specs.declared.map_text.SectionLine.{SectionLine}
use Rattle.lk_map.specs.declared.spans.Span.{Span}
use Rattle.lk_map.specs.Sorted.{Follow}
use Rattle.lk_map.specs.Spans.{AreApart}

-- ranges have no byte in common, and none ends behind this
pub record AreApartBy (spans : List Span) (end : ℕ) : Type 0 where
  pub apart : AreApart spans
  pub ends : All (λ x. x.start + x.size ≤ end) spans

pub follow_first : AreApartBy [] 0
follow_first = record { apart = λ i j d h k. absurd (omega arith); ends = λ k d h. absurd (omega arith) }

-- one more that starts no earlier than they end
pub follow_push : (spans : List Span) (end : ℕ) (s : Span) → AreApartBy spans end → end ≤ s.start → AreApartBy (spans ++ s ∷ []) (s.start + s.size)
follow_push spans end s h starts = record {
  apart = all_pairs_push (λ x y. (x.start + x.size ≤ y.start) ⊎ (y.start + y.size ≤ x.start)) spans s h.apart (λ k d within. let e = h.ends k d within in inl (omega (arith, e, starts)));
  ends = All-push (λ x. x.start + x.size ≤ s.start + s.size) spans s (λ k d within. let e = h.ends k d within in omega (arith, e, starts)) (omega arith);
}

-- of sections, of which those count that this says
module _ (counts : SectionLine → Bool) (span : SectionLine → Span) (ss : List SectionLine) (i end : ℕ) where
  -- the next one counts
  pub follow_more : (d : SectionLine) (behind : ℕ) → i < length ss → AreApartBy (map span (filter counts (take i ss))) end → counts (get_or ss i d) ≡ true
      → (end ≤ (span (get_or ss i d)).start) × (behind ≡ (span (get_or ss i d)).start + (span (get_or ss i d)).size) → AreApartBy (map span (filter counts (take (i + 1) ss))) behind
  follow_more d behind lt h so (starts, ends) =
      let s = get_or ss i d in
      let some : filter counts (take (i + 1) ss) ≡ filter counts (take i ss) ++ s ∷ [] =
      filter_more counts ss i d lt ∙ ap (λ b. filter counts (take i ss) ++ cond b (s ∷ []) []) so in
      let all : map span (filter counts (take (i + 1) ss)) ≡ map span (filter counts (take i ss)) ++ span s ∷ [] =
      ap (map span) some ∙ map_push span (filter counts (take i ss)) s in
      rw (all, ends) (follow_push (map span (filter counts (take i ss))) end (span s) h starts)

  -- or doesn't
  pub follow_same : (d : SectionLine) → i < length ss → AreApartBy (map span (filter counts (take i ss))) end → counts (get_or ss i d) ≡ false
      → AreApartBy (map span (filter counts (take (i + 1) ss))) end
  follow_same d lt h not =
      let s = get_or ss i d in
      let none : filter counts (take (i + 1) ss) ≡ filter counts (take i ss) =
      filter_more counts ss i d lt ∙ ap (λ b. filter counts (take i ss) ++ cond b (s ∷ []) []) not ∙ append-nil (filter counts (take i ss)) in
      rw none h

  pub follow_all : length ss ≤ i → AreApartBy (map span (filter counts (take i ss))) end → AreApart (map span (filter counts ss))
  follow_all past h = let all : take i ss ≡ ss = take_all i ss (omega arith) in subst (λ xs. AreApart (map span (filter counts xs))) all h.apart

-- ---- whether the next one follows

module _ (counts : SectionLine → Bool) (span : SectionLine → Span) (ss : List SectionLine) where
  -- what is left decides
  abbrev pub Decides : ℕ → ℕ → Type 0
  Decides end i = Follow end (map span (filter counts (drop i ss))) ↔ Follow 0 (map span (filter counts ss))

  pub decides_first : Decides 0 0
  decides_first = (λ h. h, λ h. h)

  module _ (end i : ℕ) (d : SectionLine) (below : i < length ss) (so : Decides end i) where
    -- those of this section and of the others that are left
    left : (b : Bool) → counts (get_or ss i d) ≡ b → map span (filter counts (drop i ss)) ≡ map span (cond b (get_or ss i d ∷ filter counts (drop (i + 1) ss)) (filter counts (drop (i + 1) ss)))
    left b is = ap (λ xs. map span (filter counts xs)) (drop_more ss i d below) ∙ ap (λ c. map span (cond c (get_or ss i d ∷ filter counts (drop (i + 1) ss)) (filter counts (drop (i + 1) ss)))) is

    pub decides_same : counts (get_or ss i d) ≡ false → Decides end (i + 1)
    decides_same skipped = subst (λ xs. Follow end xs ↔ Follow 0 (map span (filter counts ss))) (left false skipped) so

    here : counts (get_or ss i d) ≡ true → Follow end (span (get_or ss i d) ∷ map span (filter counts (drop (i + 1) ss))) ↔ Follow 0 (map span (filter counts ss))
    here counted = subst (λ xs. Follow end xs ↔ Follow 0 (map span (filter counts ss))) (left true counted) so

    pub decides_more : (behind : ℕ) → counts (get_or ss i d) ≡ true → (end ≤ (span (get_or ss i d)).start) × (behind ≡ (span (get_or ss i d)).start + (span (get_or ss i d)).size)
        → (span (get_or ss i d)).start + (span (get_or ss i d)).size < 2 ^ 64 → Decides behind (i + 1)
    unfolding Follow
    decides_more behind counted (starts, ends) small = rw ends (λ h. (here counted).0 (starts, small, h), λ h. ((here counted).1 h).2)

    pub decides_none : counts (get_or ss i d) ≡ true → (end ≤ (span (get_or ss i d)).start → 2 ^ 64 ≤ (span (get_or ss i d)).start + (span (get_or ss i d)).size) → ¬ Follow 0 (map span (filter counts ss))
    unfolding Follow
    decides_none counted past h =
        let (starts, small, rest) = (here counted).1 h in
        let large = past starts in
        omega (arith, small, large)

  pub decides_all : (end i : ℕ) → length ss ≤ i → Decides end i → Follow 0 (map span (filter counts ss))
  unfolding Follow
  decides_all end i past so = so.0 (subst (λ xs. Follow end (map span (filter counts xs))) (sym (drop_all i ss past)) tt)
