-- The live sections of a link: each is one of the link's, goes to a part, and stands once among them.
use Rattle.std.proofs.Common.{◌≡◌, ℕ, zero, suc, ◌<◌, Bool, true, false, List, [], ◌∷◌, length, Some, refl, arith}
use Rattle.std.specs.List.{AllByRecursion, slice_get, slice_index_or}
use Rattle.lk_link.specs.declared.link.LinkInput.{LinkInput}
use Rattle.lk_link.specs.declared.section.InputSlot.{InputSlot}
use Rattle.lk_link.specs.declared.section.InputSlot.TheVariants as slot
use Rattle.lk_link.specs.Inputs.{Input, all_inputs}
use Rattle.lk_link.proofs.GoodInputs.{inputs_are_good}
use Rattle.lk_link.specs.InputRules.{IsGoodInput}
use Rattle.lk_link.specs.InputSlots.{can_be_kept, is_discarded}
use Rattle.lk_link.specs.Parts.{all_parts}
use Rattle.lk_link.specs.WellFormed.{IsWellFormed}
use Rattle.lk_live.specs.declared.live.Live.{Live}
use Rattle.lk_live.specs.Reach.{AreLive, IsLive, live_inputs, marked}
use Rattle.lk_reach.proofs.Numbered.{file_of_input, one_place}

-- ---- each is one of the link's

pub marked_at : {X : Type 0} (marks : List Bool) (xs : List X) (j : ℕ) (x : X) → slice_get (marked marks xs) j ≡ Some x
    → (k : ℕ) × (slice_get xs k ≡ Some x) × (slice_index_or marks k false ≡ true)
marked_at [] xs j x h = absurd (cc)
marked_at (m ∷ marks) [] j x h = absurd (cc)
marked_at (true ∷ marks) (y ∷ xs) zero x h = (0, h, refl)
marked_at (true ∷ marks) (y ∷ xs) (suc j) x h = let r = marked_at marks xs j x h in (suc r.0, r.1, r.2)
marked_at (false ∷ marks) (y ∷ xs) j x h = let r = marked_at marks xs j x h in (suc r.0, r.1, r.2)

-- a live section is one of the link's, and live
pub live_at : (link : LinkInput) (live : Live) (j : ℕ) (x : Input) → AreLive link live → slice_get (live_inputs link live) j ≡ Some x
    → (k : ℕ) × (slice_get (all_inputs link.groups) k ≡ Some x) × IsLive link x
live_at link live j x l h =
    let at = marked_at live.marks (all_inputs link.groups) j x h in
    (at.0, at.1, (l.marks at.0 x at.1).0 at.2)

pub not_left_out : (s : InputSlot) → can_be_kept s ≡ true → is_discarded s ≡ false
not_left_out slot.Discard h = absurd (cc)
not_left_out slot.Unloaded h = refl
not_left_out slot.MustLoad h = refl
not_left_out slot.DebugInfo h = refl
not_left_out slot.MustLoadDebugInfo h = refl
not_left_out slot.Merge h = refl

-- it is good, among so many symbols of its file: it goes to one of the plan's parts, and to no table part
pub live_good : (link : LinkInput) (live : Live) (j : ℕ) (x : Input) → IsWellFormed link → AreLive link live → slice_get (live_inputs link live) j ≡ Some x
    → (symbols : ℕ) × IsGoodInput link.plan symbols x.section
live_good link live j x good l h =
    let at = live_at link live j x l h in
    let file = file_of_input link.groups at.0 x at.1 in
    (length (file.0).symbols, inputs_are_good link x.file x.index file.0 x.section good file.1 file.2 (not_left_out x.section.slot at.2.slot))

pub live_goes : (link : LinkInput) (live : Live) (j : ℕ) (x : Input) → IsWellFormed link → AreLive link live → slice_get (live_inputs link live) j ≡ Some x
    → x.section.part < length (all_parts link.plan.sections)
live_goes link live j x good l h = (live_good link live j x good l h).1.to_part

-- so does one that has a mark
pub live_goes_at : (link : LinkInput) (live : Live) (k : ℕ) (x : Input) → IsWellFormed link → AreLive link live → slice_get (all_inputs link.groups) k ≡ Some x → slice_index_or live.marks k false ≡ true
    → x.section.part < length (all_parts link.plan.sections)
live_goes_at link live k x good l there set =
    let file = file_of_input link.groups k x there in
    (inputs_are_good link x.file x.index file.0 x.section good file.1 file.2 (not_left_out x.section.slot ((l.marks k x there).0 set).slot)).to_part

-- ---- each stands once

-- two input sections aren't the same one
abbrev pub Differ : Input → Input → Type 0
Differ x y = x.file ≡ y.file → x.index ≡ y.index → ⊥

-- a relation holds of each element and each later one
abbrev pub Pairwise : {X : Type 0} → (X → X → Type 0) → List X → Type 0
Pairwise R [] = Unit {0}
Pairwise R (x ∷ xs) = AllByRecursion (R x) xs × Pairwise R xs

all_from_places : {X : Type 0} (P : X → Type 0) (xs : List X) → ((k : ℕ) (x : X) → slice_get xs k ≡ Some x → P x) → AllByRecursion P xs
all_from_places P [] h = tt
all_from_places P (x ∷ xs) h = (h 0 x refl, all_from_places P xs (λ k. h (suc k)))

pub pairwise_from_places : {X : Type 0} (R : X → X → Type 0) (xs : List X)
    → ((j k : ℕ) (x y : X) → j < k → slice_get xs j ≡ Some x → slice_get xs k ≡ Some y → R x y) → Pairwise R xs
pairwise_from_places R [] h = tt
pairwise_from_places R (x ∷ xs) h =
    (all_from_places (R x) xs (λ k y at. h 0 (suc k) x y (omega arith) refl at), pairwise_from_places R xs (λ j k y z less. h (suc j) (suc k) y z (omega arith)))

all_marked : {X : Type 0} (P : X → Type 0) (marks : List Bool) (xs : List X) → AllByRecursion P xs → AllByRecursion P (marked marks xs)
all_marked P [] xs h = tt
all_marked P (m ∷ marks) [] h = tt
all_marked P (true ∷ marks) (x ∷ xs) h = (h.0, all_marked P marks xs h.1)
all_marked P (false ∷ marks) (x ∷ xs) h = all_marked P marks xs h.1

pub pairwise_marked : {X : Type 0} (R : X → X → Type 0) (marks : List Bool) (xs : List X) → Pairwise R xs → Pairwise R (marked marks xs)
pairwise_marked R [] xs h = tt
pairwise_marked R (m ∷ marks) [] h = tt
pairwise_marked R (true ∷ marks) (x ∷ xs) h = (all_marked (R x) marks xs h.0, pairwise_marked R marks xs h.1)
pairwise_marked R (false ∷ marks) (x ∷ xs) h = pairwise_marked R marks xs h.1

-- all live sections differ
pub live_differ : (link : LinkInput) (live : Live) → Pairwise Differ (live_inputs link live)
live_differ link live =
    pairwise_marked Differ live.marks (all_inputs link.groups)
    (pairwise_from_places Differ (all_inputs link.groups) (λ j k x y less at_j at_k file index.
    let same : j ≡ k = one_place link.groups j k x y at_j at_k file index in
    absurd (omega (arith, same))))
