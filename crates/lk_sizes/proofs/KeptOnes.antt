-- The kept input sections of a link: the live ones and the merged ones, each in a part.
use Rattle.std.proofs.Common.{◌≡◌, ℕ, zero, suc, ◌<◌, ◌==◌, ◌&&◌, ◌||◌, Bool, true, false, cond, List, [], ◌∷◌, ⊎_elim, length, Some, refl, sym, ap, ◌∙◌, arith}
use Rattle.std.specs.Prelude.{not}
use Rattle.std.specs.List.{list_any, slice_get, slice_index_or}
use Rattle.std.proofs.lemmas.Bool.{or_cases}
use Rattle.lk_link.specs.declared.link.LinkInput.{LinkInput}
use Rattle.lk_link.specs.declared.section.InputSlot.{InputSlot}
use Rattle.lk_link.specs.declared.section.InputSlot.TheVariants as slot
use Rattle.lk_link.specs.Inputs.{Input, all_inputs}
use Rattle.lk_link.proofs.GoodInputs.{inputs_are_good}
use Rattle.lk_link.specs.InputRules.{IsGoodInput}
use Rattle.lk_link.specs.InputSlots.{can_be_kept, is_discarded, is_merge}
use Rattle.lk_link.specs.Parts.{all_parts}
use Rattle.lk_link.specs.WellFormed.{IsWellFormed}
use Rattle.lk_live.specs.declared.live.Live.{Live}
use Rattle.lk_live.specs.Reach.{AreLive, live_inputs, marked}
use Rattle.lk_reach.proofs.Numbered.{file_of_input}
use Rattle.lk_sizes.specs.Kept.{kept_inputs, kept_of}
use Rattle.lk_sizes.specs.Owners.{has_image, into, is_merged}
use Rattle.lk_sizes.proofs.Adding.{merged_into, unmerged}
use Rattle.lk_sizes.proofs.LiveOnes.{not_left_out}

not_merged : (s : InputSlot) → can_be_kept s ≡ true → is_merge s ≡ false
not_merged slot.Discard h = absurd (cc)
not_merged slot.Unloaded h = refl
not_merged slot.MustLoad h = refl
not_merged slot.DebugInfo h = refl
not_merged slot.MustLoadDebugInfo h = refl
not_merged slot.Merge h = absurd (cc)

merged_stays : (s : InputSlot) → is_merge s ≡ true → is_discarded s ≡ false
merged_stays slot.Discard h = absurd (cc)
merged_stays slot.Unloaded h = refl
merged_stays slot.MustLoad h = refl
merged_stays slot.DebugInfo h = refl
merged_stays slot.MustLoadDebugInfo h = refl
merged_stays slot.Merge h = refl

-- a section with a mark isn't merged
pub live_unmerged : (link : LinkInput) (live : Live) (k : ℕ) (x : Input) → AreLive link live → slice_get (all_inputs link.groups) k ≡ Some x
    → slice_index_or live.marks k false ≡ true → is_merged x ≡ false
live_unmerged link live k x l there mark = not_merged x.section.slot ((l.marks k x there).0 mark).slot

-- a merged section is good, among so many symbols of its file
pub merged_good : (link : LinkInput) (k : ℕ) (x : Input) → IsWellFormed link → slice_get (all_inputs link.groups) k ≡ Some x → is_merged x ≡ true
    → (symbols : ℕ) × IsGoodInput link.plan symbols x.section
merged_good link k x good there merged =
    let file = file_of_input link.groups k x there in
    (length (file.0).symbols, inputs_are_good link x.file x.index file.0 x.section good file.1 file.2 (merged_stays x.section.slot merged))

-- ---- where kept ones come from

abbrev pub IsFrom : List Bool → List Input → Input → Type 0
IsFrom marks xs x = (k : ℕ) × (slice_get xs k ≡ Some x) × ((slice_index_or marks k false || is_merged x) ≡ true)

kept_step : (marks : List Bool) (m : Bool) (y : Input) (xs : List Input) (x : Input) (b : Bool) → (m || is_merged y) ≡ b
    → ((j : ℕ) → slice_get (kept_of marks xs) j ≡ Some x → IsFrom marks xs x)
    → (j : ℕ) → slice_get (cond b (y ∷ kept_of marks xs) (kept_of marks xs)) j ≡ Some x → IsFrom (m ∷ marks) (y ∷ xs) x
kept_step marks m y xs x true e rest zero h = let same : y ≡ x = cc in (0, h, ap (λ (z : Input). m || is_merged z) (sym same) ∙ e)
kept_step marks m y xs x true e rest (suc j) h = let r = rest j h in (suc r.0, r.1, r.2)
kept_step marks m y xs x false e rest j h = let r = rest j h in (suc r.0, r.1, r.2)

pub kept_at : (marks : List Bool) (xs : List Input) (x : Input) (j : ℕ) → slice_get (kept_of marks xs) j ≡ Some x → IsFrom marks xs x
kept_at [] xs x j h = absurd (cc)
kept_at (m ∷ marks) [] x j h = absurd (cc)
kept_at (m ∷ marks) (y ∷ xs) x j h = kept_step marks m y xs x (m || is_merged y) refl (kept_at marks xs x) j h

-- a kept section goes to one of the plan's parts
pub kept_goes : (link : LinkInput) (live : Live) (j : ℕ) (x : Input) → IsWellFormed link → AreLive link live → slice_get (kept_inputs link live) j ≡ Some x
    → x.section.part < length (all_parts link.plan.sections)
kept_goes link live j x good l h =
    let at = kept_at live.marks (all_inputs link.groups) x j h in
    let stays : is_discarded x.section.slot ≡ false =
    ⊎_elim
    (λ mark. not_left_out x.section.slot ((l.marks at.0 x at.1).0 mark).slot)
    (λ merged. merged_stays x.section.slot merged)
    (or_cases (slice_index_or live.marks at.0 false) (is_merged x) at.2) in
    let file = file_of_input link.groups at.0 x at.1 in
    (inputs_are_good link x.file x.index file.0 x.section good file.1 file.2 stays).to_part

-- ---- those that aren't merged are the live ones

skipped : (x : Input) (rest : List Input) (b : Bool) → is_merged x ≡ b → unmerged (cond b (x ∷ rest) rest) ≡ unmerged rest
skipped x rest true e = ap (λ b. cond (not b) (x ∷ unmerged rest) (unmerged rest)) e
skipped x rest false e = refl

unmerged_marked : (marks : List Bool) (xs : List Input) → ((k : ℕ) (x : Input) → slice_get xs k ≡ Some x → slice_index_or marks k false ≡ true → is_merged x ≡ false)
    → unmerged (kept_of marks xs) ≡ marked marks xs
unmerged_marked [] xs h = refl
unmerged_marked (m ∷ marks) [] h = refl
unmerged_marked (true ∷ marks) (x ∷ xs) h =
    let rest : unmerged (kept_of marks xs) ≡ marked marks xs = unmerged_marked marks xs (λ k. h (suc k)) in
    ap (λ b. cond (not b) (x ∷ unmerged (kept_of marks xs)) (unmerged (kept_of marks xs))) (h 0 x refl refl) ∙ ap (λ (zs : List Input). x ∷ zs) rest
unmerged_marked (false ∷ marks) (x ∷ xs) h = skipped x (kept_of marks xs) (is_merged x) refl ∙ unmerged_marked marks xs (λ k. h (suc k))

pub unmerged_live : (link : LinkInput) (live : Live) → AreLive link live → unmerged (kept_inputs link live) ≡ live_inputs link live
unmerged_live link live l = unmerged_marked live.marks (all_inputs link.groups) (λ k x there mark. live_unmerged link live k x l there mark)

-- ---- and all that are merged are kept

merged-cons : (p : ℕ) (x : Input) (xs : List Input) → merged_into p (x ∷ xs) ≡ ((x.section.part == p && is_merged x) || merged_into p xs)
merged-cons p x xs =
    elim (x.section.part == p) as (λ b. list_any is_merged (cond b (x ∷ into p xs) (into p xs)) ≡ ((b && is_merged x) || merged_into p xs)) [
      | true ↦ refl
      | false ↦ refl
    ]

one_kept : (p : ℕ) (m : Bool) (x : Input) (rest xs : List Input) (b : Bool) → (m || is_merged x) ≡ b → merged_into p rest ≡ merged_into p xs
    → merged_into p (cond b (x ∷ rest) rest) ≡ merged_into p (x ∷ xs)
one_kept p m x rest xs true e h = merged-cons p x rest ∙ ap (λ b. (x.section.part == p && is_merged x) || b) h ∙ sym (merged-cons p x xs)
one_kept p true x rest xs false e h = absurd (cc)
one_kept p false x rest xs false e h =
    h ∙ sym (merged-cons p x xs ∙ ap (λ b. (x.section.part == p && b) || merged_into p xs) e ∙ none_there (x.section.part == p) (merged_into p xs))
  where
    none_there : (a c : Bool) → ((a && false) || c) ≡ c
    none_there true c = refl
    none_there false c = refl

merged_kept : (p : ℕ) (marks : List Bool) (xs : List Input) → length marks ≡ length xs → merged_into p (kept_of marks xs) ≡ merged_into p xs
merged_kept p [] [] h = refl
merged_kept p [] (x ∷ xs) h = absurd (omega (arith, h))
merged_kept p (m ∷ marks) [] h = absurd (omega (arith, h))
merged_kept p (m ∷ marks) (x ∷ xs) h = one_kept p m x (kept_of marks xs) xs (m || is_merged x) refl (merged_kept p marks xs (omega (arith, h)))

pub image_kept : (link : LinkInput) (live : Live) (p : ℕ) → AreLive link live → merged_into p (kept_inputs link live) ≡ has_image link p
image_kept link live p l = merged_kept p live.marks (all_inputs link.groups) l.count
