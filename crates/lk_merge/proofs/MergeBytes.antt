-- How many bytes are merged, over all input sections, and where each of these goes.
use Rattle.std.proofs.Common.{◌≡◌, ℕ, zero, suc, ◌+◌, ◌-◌, ◌<◌, ◌≤◌, Bool, true, false, cond, ◌&&◌, ◌||◌, eqb, List, [], ◌∷◌, ◌++◌, length, map, filter, Some, sum_by, refl, sym, ap, ◌∙◌, subst, arith, ⊎_elim, length-append}
use Rattle.std.specs.List.{enumerate_from, flat_map, list_all, slice_get}
use Rattle.std.specs.Option.{option_map_or}
use Rattle.std.proofs.lemmas.Bool.{true≢false, cases_lt}
use Rattle.std.proofs.lemmas.List.Sums.{sum_by-cons, sum_by-append}
use Rattle.lk_link.specs.declared.file.InputFile.{InputFile}
use Rattle.lk_link.specs.declared.link.LinkInput.{LinkInput}
use Rattle.lk_link.specs.declared.plan.PlanPart.{PlanPart}
use Rattle.lk_link.specs.declared.plan.PlanSection.{PlanSection}
use Rattle.lk_link.specs.declared.section.InputSection.{InputSection}
use Rattle.lk_link.specs.declared.section.InputSlot.{InputSlot}
use Rattle.lk_link.specs.declared.section.InputSlot.TheVariants as slot
use Rattle.lk_link.specs.InputRules.{fits_part, has_good_content, has_good_inputs, has_good_part, is_good_input, is_good_singleton}
use Rattle.lk_link.specs.InputSlots.{is_discarded, is_merge}
use Rattle.lk_link.specs.Inputs.{Input, NumberedFile, all_inputs, group_files, inputs_from, numbered_file, numbered_files, numbered_section}
use Rattle.lk_link.specs.Limits.{merge_size, over_files}
use Rattle.lk_link.specs.PartRules.{is_free_part}
use Rattle.lk_link.specs.Parts.{all_parts}
use Rattle.lk_link.specs.WellFormed.{IsWellFormed}
use Rattle.lk_link.proofs.Elements.{append_left, append_right, flat_map_at, map_at, map_in, numbered_at}
use Rattle.lk_merge.specs.Inputs.{padded_len, padded_total}
use Rattle.lk_merge.specs.LinkInputs.{inputs_among, is_merged_into, merge_input}

-- ---- sums

sum_agree : {X : Type 0} (f g : X → ℕ) → ((x : X) → f x ≡ g x) → (xs : List X) → sum_by f xs ≡ sum_by g xs
sum_agree f g h xs = λ i. sum_by (λ x. h x i) xs

sum_flat : {X Y : Type 0} (g : Y → ℕ) (f : X → List Y) (xs : List X) → sum_by g (flat_map f xs) ≡ sum_by (λ x. sum_by g (f x)) xs
sum_flat g f [] = refl
sum_flat g f (x ∷ xs) =
    let both = sum_by-append g (f x) (flat_map f xs) in
    let rest = sum_flat g f xs in
    let more = sum_by-cons (λ y. sum_by g (f y)) x xs in
    omega (arith, both, rest, more)

pub sum_map : {X Y : Type 0} (g : Y → ℕ) (f : X → Y) (xs : List X) → sum_by g (map f xs) ≡ sum_by (λ x. g (f x)) xs
sum_map g f [] = refl
sum_map g f (x ∷ xs) =
    let left = sum_by-cons g (f x) (map f xs) in
    let right = sum_by-cons (λ y. g (f y)) x xs in
    let rest = sum_map g f xs in
    omega (arith, left, right, rest)

pub sum_numbered : {X : Type 0} (g : X → ℕ) (k : ℕ) (xs : List X) → sum_by (λ (q : ℕ × X). g q.1) (enumerate_from k xs) ≡ sum_by g xs
sum_numbered g k [] = refl
sum_numbered {X} g k (x ∷ xs) =
    let left = sum_by-cons (λ (q : ℕ × X). g q.1) (k, x) (enumerate_from (k + 1) xs) in
    let right = sum_by-cons g x xs in
    let rest = sum_numbered g (k + 1) xs in
    omega (arith, left, right, rest)

-- a sum over all input sections is one over the sections of all files
pub sum_inputs : (g : InputSection → ℕ) (groups : List (List InputFile)) → sum_by (λ x. g x.section) (all_inputs groups) ≡ over_files (λ f. sum_by g f.sections) groups
sum_inputs g groups =
    let of_file : NumberedFile → ℕ = λ f. sum_by g f.file.sections in
    let in_group : ℕ × List InputFile → ℕ = λ q. sum_by (λ f. sum_by g f.sections) q.1 in
    sum_flat (λ x. g x.section) (λ f. inputs_from f.id 0 f.file.sections) (numbered_files groups)
    ∙ sum_agree (λ f. sum_by (λ x. g x.section) (inputs_from f.id 0 f.file.sections)) of_file
    (λ f. sum_map (λ (x : Input). g x.section) (numbered_section f.id) (enumerate_from 0 f.file.sections) ∙ sum_numbered g 0 f.file.sections) (numbered_files groups)
    ∙ sum_flat of_file (λ (q : ℕ × List InputFile). group_files q.0 0 q.1) (enumerate_from 0 groups)
    ∙ sum_agree (λ (q : ℕ × List InputFile). sum_by of_file (group_files q.0 0 q.1)) in_group
    (λ q. sum_map of_file (numbered_file q.0) (enumerate_from 0 q.1) ∙ sum_numbered (λ (f : InputFile). sum_by g f.sections) 0 q.1) (enumerate_from 0 groups)
    ∙ sum_numbered (λ (files : List InputFile). sum_by (λ f. sum_by g f.sections) files) 0 groups

-- ---- what goes to one output section

-- what is merged into an output section is no longer than all that is merged
pub among_le : (sections : List ℕ) (s : ℕ) (numbered : List (ℕ × Input))
    → padded_total (inputs_among sections s numbered) ≤ sum_by (λ q. merge_size q.1.section) numbered
among_le sections s [] = omega arith
among_le sections s (q ∷ rest) = by (is_merged_into sections s q.1.section) refl (is_merge q.1.section.slot) refl (among_le sections s rest)
  where
    size : (t : Bool) → is_merge q.1.section.slot ≡ t → merge_size q.1.section ≡ cond t (padded_len (merge_input q.0 q.1.section)) 0
    size t e = ap (λ b. cond b (padded_len (merge_input q.0 q.1.section)) 0) e

    step : (t : Bool) → is_merged_into sections s q.1.section ≡ t
        → inputs_among sections s (q ∷ rest) ≡ cond t (merge_input q.0 q.1.section ∷ inputs_among sections s rest) (inputs_among sections s rest)
    step true e = ap (λ b. map (λ (p : ℕ × Input). merge_input p.0 p.1.section) (cond b (q ∷ filter (λ (p : ℕ × Input). is_merged_into sections s p.1.section) rest)
        (filter (λ (p : ℕ × Input). is_merged_into sections s p.1.section) rest))) e
    step false e = ap (λ b. map (λ (p : ℕ × Input). merge_input p.0 p.1.section) (cond b (q ∷ filter (λ (p : ℕ × Input). is_merged_into sections s p.1.section) rest)
        (filter (λ (p : ℕ × Input). is_merged_into sections s p.1.section) rest))) e

    more : sum_by (λ (p : ℕ × Input). merge_size p.1.section) (q ∷ rest) ≡ merge_size q.1.section + sum_by (λ (p : ℕ × Input). merge_size p.1.section) rest
    more = sum_by-cons (λ (p : ℕ × Input). merge_size p.1.section) q rest

    by : (t : Bool) → is_merged_into sections s q.1.section ≡ t → (u : Bool) → is_merge q.1.section.slot ≡ u
        → padded_total (inputs_among sections s rest) ≤ sum_by (λ (p : ℕ × Input). merge_size p.1.section) rest
        → padded_total (inputs_among sections s (q ∷ rest)) ≤ sum_by (λ (p : ℕ × Input). merge_size p.1.section) (q ∷ rest)
    by false e u f h = let same = ap padded_total (step false e) in omega (arith, same, more, h)
    by true e true f h =
        let same = ap padded_total (step true e) in
        let one = sum_by-cons padded_len (merge_input q.0 q.1.section) (inputs_among sections s rest) in
        omega (arith, same, one, more, size true f, h)
    by true e false f h = absurd (true≢false (sym e ∙ ap (λ b. b && option_map_or (λ t. eqb t s) (slice_get sections q.1.section.part) false) f))

-- ---- where a section goes

-- the output section of a part is one of the plan's
pub part_goes : (k : ℕ) (sections : List PlanSection) (p : ℕ) → p < length (all_parts sections)
    → (t : ℕ) × (slice_get (flat_map (λ (q : ℕ × PlanSection). map (λ r. q.0) q.1.parts) (enumerate_from k sections)) p ≡ Some t) × (t < k + length sections)
part_goes k [] p h = absurd (omega arith)
part_goes k (s ∷ sections) p h = ⊎_elim
    (λ here.
    let part = at_part s.parts p here in
    (k, append_left (map (λ r. k) s.parts) rest p k (map_in (λ (r : PlanPart). k) s.parts p part.0 part.1), omega arith))
    (λ far.
    let whole : length (s.parts ++ all_parts sections) ≡ length s.parts + length (all_parts sections) = length-append s.parts (all_parts sections) in
    let later = part_goes (k + 1) sections (p - length s.parts) (omega (arith, h, whole, far)) in
    let count : length (map (λ (r : PlanPart). k) s.parts) ≡ length s.parts = length_of s.parts in
    (later.0, append_right (map (λ r. k) s.parts) rest (p - length s.parts) p later.0 (omega (arith, count, far)) later.1, omega (arith, later.2)))
    (cases_lt p (length s.parts))
  where
    rest : List ℕ
    rest = flat_map (λ (q : ℕ × PlanSection). map (λ r. q.0) q.1.parts) (enumerate_from (k + 1) sections)

    at_part : (ps : List PlanPart) (i : ℕ) → i < length ps → (x : PlanPart) × (slice_get ps i ≡ Some x)
    at_part [] i below = absurd (omega arith)
    at_part (x ∷ ps) zero below = (x, refl)
    at_part (x ∷ ps) (suc i) below = at_part ps i (omega arith)

    length_of : (ps : List PlanPart) → length (map (λ (r : PlanPart). k) ps) ≡ length ps
    length_of [] = refl
    length_of (x ∷ ps) = ap (λ n. suc n) (length_of ps)

all_at : {X : Type 0} (t : X → Bool) (xs : List X) (k : ℕ) (x : X) → list_all t xs ≡ true → slice_get xs k ≡ Some x → t x ≡ true
all_at t [] k x h there = absurd (cc)
all_at t (y ∷ xs) k x h there = by (t y) refl k there (all_at t xs)
  where
    by : (b : Bool) → t y ≡ b → (j : ℕ) → slice_get (y ∷ xs) j ≡ Some x → ((i : ℕ) (z : _) → list_all t xs ≡ true → slice_get xs i ≡ Some z → t z ≡ true) → t x ≡ true
    by false e j at rest = absurd (true≢false (sym h ∙ ap (λ b. b && list_all t xs) e))
    by true e zero at rest = let same : y ≡ x = cc in ap t (sym same) ∙ e
    by true e (suc j) at rest = rest j x (ap (λ b. b && list_all t xs) (sym e) ∙ h) at

-- an input section of a well-formed link is good
good_at : (link : LinkInput) (k : ℕ) (x : Input) → IsWellFormed link → slice_get (all_inputs link.groups) k ≡ Some x → (symbols : ℕ) × (is_good_input link.plan symbols x.section ≡ true)
good_at link k x good there =
    let file = flat_map_at (λ (f : NumberedFile). inputs_from f.id 0 f.file.sections) (numbered_files link.groups) k x there in
    let section = map_at (numbered_section file.from.id) (enumerate_from 0 file.from.file.sections) file.inner x file.gives in
    let index = numbered_at 0 file.from.file.sections file.inner section.0 section.1 in
    let group = flat_map_at (λ (q : ℕ × List InputFile). group_files q.0 0 q.1) (enumerate_from 0 link.groups) file.outer file.from file.there in
    let in_group = map_at (numbered_file group.from.0) (enumerate_from 0 group.from.1) group.inner file.from group.gives in
    let file_index = numbered_at 0 group.from.1 group.inner in_group.0 in_group.1 in
    let group_index = numbered_at 0 link.groups group.outer group.from group.there in
    let files = all_at (λ files. list_all (has_good_inputs link.plan) files) link.groups group.outer group.from.1 good.inputs group_index.1 in
    let one = all_at (has_good_inputs link.plan) group.from.1 group.inner in_group.0.1 files file_index.1 in
    let same_file : in_group.0.1 ≡ file.from.file = ap (λ (f : NumberedFile). f.file) in_group.2 in
    let this = subst (λ (f : InputFile). has_good_inputs link.plan f ≡ true) same_file one in
    let good_section = all_at (is_good_input link.plan (length file.from.file.symbols)) file.from.file.sections file.inner section.0.1 this index.1 in
    let same_section : section.0.1 ≡ x.section = ap (λ (y : Input). y.section) section.2 in
    (length file.from.file.symbols, subst (λ (s : InputSection). is_good_input link.plan (length file.from.file.symbols) s ≡ true) same_section good_section)

merged_kept : (s : InputSlot) → is_merge s ≡ true → is_discarded s ≡ false
merged_kept slot.Discard h = absurd (true≢false (sym h))
merged_kept slot.Unloaded h = refl
merged_kept slot.MustLoad h = refl
merged_kept slot.DebugInfo h = refl
merged_kept slot.MustLoadDebugInfo h = refl
merged_kept slot.Merge h = refl

and_left : (a b : Bool) → (a && b) ≡ true → a ≡ true
and_left true b h = refl
and_left false b h = h

and_right : (a b : Bool) → (a && b) ≡ true → b ≡ true
and_right true b h = h
and_right false b h = absurd (true≢false (sym h))

part_there : (t : PlanPart → Bool) (parts : List PlanPart) (p : ℕ) → option_map_or t (slice_get parts p) false ≡ true → p < length parts
part_there t [] p h = absurd (true≢false (sym h))
part_there t (x ∷ parts) zero h = omega arith
part_there t (x ∷ parts) (suc p) h = let rest = part_there t parts p h in omega (arith, rest)

-- a merge section goes to a part of the plan
pub merge_part : (link : LinkInput) (k : ℕ) (x : Input) → IsWellFormed link → slice_get (all_inputs link.groups) k ≡ Some x → is_merge x.section.slot ≡ true
    → x.section.part < length (all_parts link.plan.sections)
merge_part link k x good there merged =
    let g = good_at link k x good there in
    let s : InputSection = x.section in
    let whole : (has_good_part link.plan s && has_good_content g.0 s) ≡ true
    = ap (λ b. b || (has_good_part link.plan s && has_good_content g.0 s)) (sym (merged_kept s.slot merged)) ∙ g.1 in
    let part = and_left (has_good_part link.plan s) (has_good_content g.0 s) whole in
    let inner = and_left (is_free_part link.plan s.part && option_map_or (fits_part s) (slice_get (all_parts link.plan.sections) s.part) false) (is_good_singleton link.plan s) part in
    part_there (fits_part s) (all_parts link.plan.sections) s.part
    (and_right (is_free_part link.plan s.part) (option_map_or (fits_part s) (slice_get (all_parts link.plan.sections) s.part) false) inner)
