-- Parts share nothing in the file, nor in anything else along which a cursor goes and never falls.
use Rattle.std.proofs.Common.{◌≡◌, ◌≢◌, ℕ, ◌+◌, ◌-◌, ◌≤◌, ◌<◌, List, length, Some, sym, ap, subst, ◌∙◌, inl, inr, arith}
use Rattle.std.specs.Prelude.{slice_get}
use Rattle.std.proofs.lemmas.Bool.{cases_lt}
use Rattle.lk_link.specs.declared.plan.Plan.{Plan}
use Rattle.lk_link.specs.declared.plan.PlanSection.{PlanSection}
use Rattle.lk_link.specs.declared.plan.OrderEvent.TheVariants.{Section}
use Rattle.lk_link.specs.Parts.{first_part}
use Rattle.lk_link.proofs.PartNumbers.{first_part-rises}
use Rattle.lk_place.specs.declared.cursors.Cursors.{Cursors}
use Rattle.lk_place.specs.Laws.{FileRangesAreDisjoint}
use Rattle.lk_place.specs.Placement.{IsPlaced, state_at}
use Rattle.lk_place.specs.CarriedOut.{IsPlacedBefore}
use Rattle.lk_place.specs.Ranges.{HasPart}
use Rattle.lk_expressions.specs.Records.{Record, file_end, nowhere, record_at}
use Rattle.lk_place.specs.Setting.{Setting, part_count}
use Rattle.lk_place.proofs.PartEvents.{others_are_nowhere}
use Rattle.lk_place.proofs.Ranges.{Follow, IsWithin, follow-disjoint, follow-within, rises}
use Rattle.lk_place.proofs.Steps.{file_follows, file_rises}

-- ---- the section of a part

-- a part is one of a single section
pub section_one : (plan : Plan) (s t p : ℕ) → HasPart plan s p → HasPart plan t p → s ≡ t
section_one plan s t p h g =
    let sections : List PlanSection = plan.sections in
    let at : ℕ → ℕ = first_part sections in
    elim (cases_lt s t) [
      | inl less ↦ absurd (omega (arith, h.below, g.from, rises at t (λ k below. first_part-rises sections k) (s + 1) t (omega arith) (omega arith)))
      | inr more ↦ elim (cases_lt t s) [
        | inl less ↦ absurd (omega (arith, g.below, h.from, rises at s (λ k below. first_part-rises sections k) (t + 1) s (omega arith) (omega arith)))
        | inr same ↦ omega arith
      ]
    ]

-- ---- two parts

-- ranges of one kind that events place, of the sections that have them: the cursor goes along them and never falls
pub record AreWalked (begin end : Record → ℕ) (setting : Setting) (states : List Cursors) (records : List Record) (at : ℕ → ℕ) (Has : ℕ → Type 0) : Type 0 where
  pub none : end nowhere ≤ begin nowhere
  pub rises : (k : ℕ) → k < length states - 1 → at k ≤ at (k + 1)
  pub follows : (k s : ℕ) → k < length states - 1 → slice_get setting.plan.events k ≡ Some (Section s) → Has s
      → Follow begin end records (first_part setting.plan.sections s) (part_count setting.plan.sections s) (at k) (at (k + 1))

-- an earlier event's part shares nothing with a later one's
earlier_apart : (begin end : Record → ℕ) (setting : Setting) (states : List Cursors) (records : List Record) (at : ℕ → ℕ) (Has : ℕ → Type 0)
    → AreWalked begin end setting states records at Has
    → (p q o : ℕ) (a : IsPlacedBefore setting (length states - 1) p) (b : IsPlacedBefore setting (length states - 1) q) → a.k < b.k → Has a.s → Has b.s
    → IsWithin begin end o (record_at records p) → IsWithin begin end o (record_at records q) → ⊥
earlier_apart begin end setting states records at Has walked p q o a b less one two here there =
    let n : ℕ = length states - 1 in
    let first : ℕ → ℕ = first_part setting.plan.sections in
    let count : ℕ → ℕ = part_count setting.plan.sections in
    let early = follow-within begin end records (first a.s) (count a.s) (at a.k) (at (a.k + 1)) (walked.follows a.k a.s a.early a.places one) a.j o a.within
    (subst (λ m. IsWithin begin end o (record_at records m)) a.is here) in
    let late = follow-within begin end records (first b.s) (count b.s) (at b.k) (at (b.k + 1)) (walked.follows b.k b.s b.early b.places two) b.j o b.within
    (subst (λ m. IsWithin begin end o (record_at records m)) b.is there) in
    let between = rises at n walked.rises (a.k + 1) b.k (omega arith) (omega (arith, b.early)) in
    omega (arith, early.1, between, late.0)

placed_apart : (begin end : Record → ℕ) (setting : Setting) (states : List Cursors) (records : List Record) (at : ℕ → ℕ) (Has : ℕ → Type 0)
    → AreWalked begin end setting states records at Has
    → (p q o : ℕ) → p ≢ q → (a : IsPlacedBefore setting (length states - 1) p) (b : IsPlacedBefore setting (length states - 1) q) → Has a.s → Has b.s
    → IsWithin begin end o (record_at records p) → IsWithin begin end o (record_at records q) → ⊥
placed_apart begin end setting states records at Has walked p q o other a b one two here there =
    elim (cases_lt a.k b.k) [
      | inl less ↦ earlier_apart begin end setting states records at Has walked p q o a b less one two here there
      | inr more ↦ elim (cases_lt b.k a.k) [
        | inl less ↦ earlier_apart begin end setting states records at Has walked q p o b a less two one there here
        | inr same ↦
            let event : a.k ≡ b.k = omega arith in
            let named : Some (Section a.s) ≡ Some (Section b.s) = sym a.places ∙ ap (slice_get setting.plan.events) event ∙ b.places in
            let section : a.s ≡ b.s = cc in
            let first : ℕ = first_part setting.plan.sections a.s in
            let number : q ≡ first + b.j = b.is ∙ ap (λ s. first_part setting.plan.sections s + b.j) (sym section) in
            let within : b.j < part_count setting.plan.sections a.s = omega (arith, b.within, ap (part_count setting.plan.sections) section) in
            follow-disjoint begin end records first (part_count setting.plan.sections a.s) (at a.k) (at (a.k + 1)) (walked.follows a.k a.s a.early a.places one)
            a.j b.j o (λ e. other (a.is ∙ ap (λ j. first + j) e ∙ sym number)) a.within within
            (subst (λ m. IsWithin begin end o (record_at records m)) a.is here) (subst (λ m. IsWithin begin end o (record_at records m)) number there)
      ]
    ]

-- what isn't placed shares nothing
vanishes : (begin end : Record → ℕ) (o : ℕ) (r : Record) → end nowhere ≤ begin nowhere → r ≡ nowhere → IsWithin begin end o r → ⊥
vanishes begin end o r none is here =
    let there : IsWithin begin end o nowhere = subst (IsWithin begin end o) is here in
    omega (arith, none, there.0, there.1)

pub apart : (begin end : Record → ℕ) (setting : Setting) (states : List Cursors) (records : List Record) (at : ℕ → ℕ) (Has : ℕ → Type 0)
    → IsPlaced setting states records → AreWalked begin end setting states records at Has
    → (p q o : ℕ) → p ≢ q → ((a : IsPlacedBefore setting (length states - 1) p) → Has a.s) → ((b : IsPlacedBefore setting (length states - 1) q) → Has b.s)
    → IsWithin begin end o (record_at records p) → IsWithin begin end o (record_at records q) → ⊥
apart begin end setting states records at Has is walked p q o other one two here there =
    vanishes begin end o (record_at records p) walked.none (others_are_nowhere setting states records is p (λ a.
    vanishes begin end o (record_at records q) walked.none (others_are_nowhere setting states records is q (λ b.
    placed_apart begin end setting states records at Has walked p q o other a b (one a) (two b) here there)) there)) here

-- ---- the laws

pub file_ranges_are_disjoint : FileRangesAreDisjoint
file_ranges_are_disjoint setting states records ready is p q o other here there =
    apart (λ r. r.file_offset) file_end setting states records (λ k. (state_at states k).file) (λ s. Unit {0}) is
    (record { none = omega arith; rises = file_rises setting states records ready is; follows = λ k s less event has. file_follows setting states records ready is k s less event })
    p q o other (λ a. tt) (λ b. tt) (here.begins, here.ends) (there.begins, there.ends)
