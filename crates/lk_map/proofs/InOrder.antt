-- Segments that hold sections in their order, section by section.
use Rattle.std.proofs.Common.{◌≡◌, ℕ, ◌+◌, ◌-◌, ◌<◌, ◌≤◌, ◌↔◌, true, false, List, [], ◌∷◌, length, get_or, drop, sym, ap, ◌∙◌, subst, arith, inl, inr}
use Rattle.std.proofs.lemmas.Bool.{cases_Bool, cases_lt, false≢true}
use Rattle.std.proofs.lemmas.List.{drop-drop, drop_all, drop_more, get_or-drop, length-drop}
use Rattle.lk_map.specs.declared.map_text.SectionLine.{SectionLine}
use Rattle.lk_map.specs.declared.map_text.SegmentLine.{SegmentLine}
use Rattle.lk_map.specs.Checking.{holds, needs_segment}
use Rattle.lk_map.specs.Held.{AreHeldInOrder, HoldsAt}

-- ---- places in what is left of a list

drop_on : (n k : ℕ) (gs : List SegmentLine) → drop k (drop n gs) ≡ drop (n + k) gs
drop_on n k gs = drop-drop k n gs ∙ ap (λ m. drop m gs) (omega arith)

at_later : (gs : List SegmentLine) (n k : ℕ) (s : SectionLine) → HoldsAt (drop n gs) k s → HoldsAt gs (n + k) s
at_later gs n k s (below, hit) =
    let long = length-drop n gs in
    (omega (arith, long, below), λ d. ap (λ g. holds g s) (sym (get_or-drop n gs k d)) ∙ hit d)

at_earlier : (gs : List SegmentLine) (n k : ℕ) (s : SectionLine) → HoldsAt gs (n + k) s → HoldsAt (drop n gs) k s
at_earlier gs n k s (below, hit) =
    let long = length-drop n gs in
    (omega (arith, long, below), λ d. ap (λ g. holds g s) (get_or-drop n gs k d) ∙ hit d)

-- more segments in front do no harm
more : (gs : List SegmentLine) (n : ℕ) (ss : List SectionLine) → AreHeldInOrder (drop n gs) ss → AreHeldInOrder gs ss
unfolding AreHeldInOrder
more gs n [] h = tt
more gs n (s ∷ ss) h =
    elim (cases_Bool (needs_segment s)) [
      | inl needed ↦
          let (k, held, rest) = (let both : (k : ℕ) × HoldsAt (drop n gs) k s × AreHeldInOrder (drop k (drop n gs)) ss = rw needed at h in both) in
          rw needed (n + k, at_later gs n k s held, subst (λ xs. AreHeldInOrder xs ss) (drop_on n k gs) rest)
      | inr free ↦ rw free (more gs n ss (rw free at h))
    ]

-- ---- a section, where segments from a place on may hold it

module _ (gs : List SegmentLine) (high : ℕ) (s : SectionLine) (ss : List SectionLine) where
  free_too : needs_segment s ≡ false → AreHeldInOrder (drop high gs) (s ∷ ss) ↔ AreHeldInOrder (drop high gs) ss
  unfolding AreHeldInOrder
  free_too free = (λ h. rw free at h, λ h. rw free h)

  held_too : (next : ℕ) → needs_segment s ≡ true → high ≤ next → HoldsAt gs next s → ((k : ℕ) → high ≤ k → k < next → ¬ HoldsAt gs k s) → AreHeldInOrder (drop high gs) (s ∷ ss) ↔ AreHeldInOrder (drop next gs) ss
  unfolding AreHeldInOrder
  held_too next needed far held first = (
    λ h.
        let both : (k : ℕ) × HoldsAt (drop high gs) k s × AreHeldInOrder (drop k (drop high gs)) ss = rw needed at h in
        let (k, there, rest) = both in
        let from : next ≤ high + k = elim (cases_lt (high + k) next) [ inl less ↦ absurd (first (high + k) (omega arith) less (at_later gs high k s there)) | inr no_less ↦ no_less ] in
        let same : drop k (drop high gs) ≡ drop (high + k - next) (drop next gs) = drop_on high k gs ∙ ap (λ n. drop n gs) (omega arith) ∙ sym (drop_on next (high + k - next) gs) in
        more (drop next gs) (high + k - next) ss (subst (λ xs. AreHeldInOrder xs ss) same rest),
    λ h.
        let on : high + (next - high) ≡ next = omega arith in
        rw needed (
          next - high,
          at_earlier gs high (next - high) s (subst (λ n. HoldsAt gs n s) (sym on) held),
          subst (λ xs. AreHeldInOrder xs ss) (sym (drop_on high (next - high) gs ∙ ap (λ n. drop n gs) on)) h,
        ),
  )

  unheld_too : needs_segment s ≡ true → ((k : ℕ) → high ≤ k → ¬ HoldsAt gs k s) → ¬ AreHeldInOrder (drop high gs) (s ∷ ss)
  unfolding AreHeldInOrder
  unheld_too needed none h =
      let both : (k : ℕ) × HoldsAt (drop high gs) k s × AreHeldInOrder (drop k (drop high gs)) ss = rw needed at h in
      let (k, there, rest) = both in
      none (high + k) (omega arith) (at_later gs high k s there)

-- ---- section by section

module _ (gs : List SegmentLine) (ss : List SectionLine) where
  -- what is left decides
  abbrev pub Decides : ℕ → ℕ → Type 0
  Decides high i = AreHeldInOrder (drop high gs) (drop i ss) ↔ AreHeldInOrder gs ss

  pub decides_first : Decides 0 0
  decides_first = (λ h. h, λ h. h)

  module _ (high i : ℕ) (d : SectionLine) (below : i < length ss) (so : Decides high i) where
    pub decides_free : needs_segment (get_or ss i d) ≡ false → Decides high (i + 1)
    decides_free free =
        let here : AreHeldInOrder (drop high gs) (get_or ss i d ∷ drop (i + 1) ss) ↔ AreHeldInOrder gs ss = subst (λ xs. AreHeldInOrder (drop high gs) xs ↔ AreHeldInOrder gs ss) (drop_more ss i d below) so in
        let step = free_too gs high (get_or ss i d) (drop (i + 1) ss) free in
        (λ h. here.0 (step.1 h), λ h. step.0 (here.1 h))

    pub decides_held : (next : ℕ) → needs_segment (get_or ss i d) ≡ true → (high ≤ next) × HoldsAt gs next (get_or ss i d) × ((k : ℕ) → high ≤ k → k < next → ¬ HoldsAt gs k (get_or ss i d)) → Decides next (i + 1)
    decides_held next needed (far, held, first) =
        let here : AreHeldInOrder (drop high gs) (get_or ss i d ∷ drop (i + 1) ss) ↔ AreHeldInOrder gs ss = subst (λ xs. AreHeldInOrder (drop high gs) xs ↔ AreHeldInOrder gs ss) (drop_more ss i d below) so in
        let step = held_too gs high (get_or ss i d) (drop (i + 1) ss) next needed far held first in
        (λ h. here.0 (step.1 h), λ h. step.0 (here.1 h))

    pub decides_none : needs_segment (get_or ss i d) ≡ true → ((k : ℕ) → high ≤ k → ¬ HoldsAt gs k (get_or ss i d)) → ¬ AreHeldInOrder gs ss
    decides_none needed none h =
        let here : AreHeldInOrder (drop high gs) (get_or ss i d ∷ drop (i + 1) ss) ↔ AreHeldInOrder gs ss = subst (λ xs. AreHeldInOrder (drop high gs) xs ↔ AreHeldInOrder gs ss) (drop_more ss i d below) so in
        unheld_too gs high (get_or ss i d) (drop (i + 1) ss) needed none (here.1 h)

  pub decides_all : (high i : ℕ) → length ss ≤ i → Decides high i → AreHeldInOrder gs ss
  unfolding AreHeldInOrder
  decides_all high i past so = so.0 (subst (AreHeldInOrder (drop high gs)) (sym (drop_all i ss past)) tt)

-- a place that was looked at
pub held_not : (gs : List SegmentLine) (k : ℕ) (d : SegmentLine) (s : SectionLine) → false ≡ holds (get_or gs k d) s → ¬ HoldsAt gs k s
held_not gs k d s fails (below, hit) = false≢true (fails ∙ hit d)
