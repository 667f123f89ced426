-- The output section of a part.
use Rattle.std.proofs.Common.{◌≡◌, ℕ, zero, suc, ◌+◌, ◌-◌, ◌<◌, ◌≤◌, List, [], ◌∷◌, ◌++◌, length, map, take, drop, get_or, Some, sym, ap, ◌∙◌, arith, length-append, append-nil, append_assoc}
use Rattle.std.specs.List.{enumerate_from, flat_map, slice_get}
use Rattle.std.proofs.lemmas.List.{length-map, take_all, drop_more}
use Rattle.lk_link.specs.declared.plan.PlanPart.{PlanPart}
use Rattle.lk_link.specs.declared.plan.PlanSection.{PlanSection}
use Rattle.lk_link.proofs.Elements.{append_left, append_right, at_index, map_in}
use Rattle.lk_link.specs.Parts.{all_parts, first_part, part_sections}

-- a part behind the first one of a section, and before the first one of the next, is that section's
holds : (k : ℕ) (sections : List PlanSection) (s p : ℕ) → first_part sections s ≤ p → p < first_part sections (s + 1)
    → slice_get (flat_map (λ (q : ℕ × PlanSection). map (λ (r : PlanPart). q.0) q.1.parts) (enumerate_from k sections)) p ≡ Some (k + s)
holds k [] s p low high =
    let none : first_part [] (s + 1) ≡ 0 = ap (λ (l : List PlanSection). length (all_parts l)) (take_all (s + 1) [] (omega arith)) in
    absurd (omega (arith, none, high))
holds k (x ∷ xs) zero p low high =
    let whole : length (x.parts ++ []) ≡ length x.parts = ap length (append-nil x.parts) in
    let part = at_index x.parts p (omega (arith, high, whole)) in
    let same : k ≡ k + 0 = omega arith in
    append_left (map (λ (r : PlanPart). k) x.parts) _ p k (map_in (λ (r : PlanPart). k) x.parts p part.0 part.1) ∙ ap (λ (n : ℕ). Some n) same
holds k (x ∷ xs) (suc s) p low high =
    let first : length (x.parts ++ all_parts (take s xs)) ≡ length x.parts + first_part xs s = length-append x.parts (all_parts (take s xs)) in
    let next : length (x.parts ++ all_parts (take (s + 1) xs)) ≡ length x.parts + first_part xs (s + 1) = length-append x.parts (all_parts (take (s + 1) xs)) in
    let n : suc s + 1 ≡ suc (s + 1) = omega arith in
    let further : first_part (x ∷ xs) (suc s + 1) ≡ first_part (x ∷ xs) (suc (s + 1)) = ap (first_part (x ∷ xs)) n in
    let count : length (map (λ (r : PlanPart). k) x.parts) ≡ length x.parts = length-map x.parts (λ (r : PlanPart). k) in
    let same : (k + 1) + s ≡ k + suc s = omega arith in
    append_right (map (λ (r : PlanPart). k) x.parts) _ (p - length x.parts) p ((k + 1) + s) (omega (arith, count, first, low))
    (holds (k + 1) xs s (p - length x.parts) (omega (arith, first, low)) (omega (arith, next, high, further)))
    ∙ ap (λ (n : ℕ). Some n) same

pub section_of_part : (sections : List PlanSection) (s p : ℕ) → first_part sections s ≤ p → p < first_part sections (s + 1) → slice_get (part_sections sections) p ≡ Some s
section_of_part sections s p low high = let same : 0 + s ≡ s = omega arith in holds 0 sections s p low high ∙ ap (λ (n : ℕ). Some n) same

-- ---- the search

pub record IsHalved (sections : List PlanSection) (p low high : ℕ) : Type 0 where
  pub below : low < high
  pub within : high ≤ length sections
  pub from : first_part sections low ≤ p
  pub behind : p < first_part sections high

pub halved_first : (sections : List PlanSection) (p : ℕ) → p < length (all_parts sections) → IsHalved sections p 0 (length sections)
halved_first sections p below =
    let all : first_part sections (length sections) ≡ length (all_parts sections) = ap (λ l. length (all_parts l)) (take_all (length sections) sections (omega arith)) in
    record {
      below = some sections below;
      within = omega arith;
      from = omega arith;
      behind = omega (arith, all, below);
    }
  where
    some : (ss : List PlanSection) → p < length (all_parts ss) → 0 < length ss
    some [] none = absurd (omega (arith, none))
    some (s ∷ ss) h = omega arith

pub halved_last : (sections : List PlanSection) (p low high : ℕ) → IsHalved sections p low high → high - low ≤ 1 → slice_get (part_sections sections) p ≡ Some low
halved_last sections p low high h done =
    let far : high ≡ low + 1 = omega (arith, h.below, done) in
    let same : first_part sections high ≡ first_part sections (low + 1) = ap (first_part sections) far in
    section_of_part sections low p h.from (omega (arith, h.behind, same))

-- ---- the list

-- the sections of parts, one section further
pub sections_next : (numbers : List ℕ) (sections : List PlanSection) (k : ℕ) (s : PlanSection) → k < length sections → s ≡ get_or sections k s
    → numbers ++ flat_map (λ (q : ℕ × PlanSection). map (λ p. q.0) q.1.parts) (enumerate_from k (drop k sections))
    ≡ (numbers ++ map (λ p. k) s.parts) ++ flat_map (λ (q : ℕ × PlanSection). map (λ p. q.0) q.1.parts) (enumerate_from (k + 1) (drop (k + 1) sections))
sections_next numbers sections k s within is =
    let numbered : ℕ × PlanSection → List ℕ = λ q. map (λ p. q.0) q.1.parts in
    let split : drop k sections ≡ s ∷ drop (k + 1) sections = drop_more sections k s within ∙ ap (λ (x : PlanSection). x ∷ drop (k + 1) sections) (sym is) in
    ap (λ (l : List PlanSection). numbers ++ flat_map numbered (enumerate_from k l)) split
    ∙ sym (append_assoc numbers (map (λ p. k) s.parts) (flat_map numbered (enumerate_from (k + 1) (drop (k + 1) sections))))
