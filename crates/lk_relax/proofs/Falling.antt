-- What falls by a pass.
use Rattle.std.proofs.Common.{◌≡◌, ◌+◌, ◌-◌, ◌^◌, ◌<◌, ◌≤◌, ◌++◌, ◌||◌, Bor, ℕ, zero, suc, Bool, true, false, cond, List, [], ◌∷◌, Option, Some, None, map, min, sum_by, refl, sym, ap, ◌∙◌, arith}
use Rattle.std.specs.Prelude.{slice_get}
use Rattle.std.specs.List.{filter, list_any, slice_index}
use Rattle.std.specs.Option.{option_map_or}
use Rattle.std.proofs.Math.Nat.{mod-one}
use Rattle.std.proofs.lemmas.List.{map_push}
use Rattle.std.proofs.lemmas.List.Sums.{sum_by-append, sum_by-cons}
use Rattle.std.proofs.lemmas.Option.{get_or_from_slice_get, slice_get_within}
use Rattle.lk_link.specs.declared.ids.FileId.{FileId}
use Rattle.lk_link.specs.declared.link.LinkInput.{LinkInput}
use Rattle.lk_link.specs.declared.plan.PlanPart.{PlanPart}
use Rattle.lk_link.specs.declared.plan.PlanSection.{PlanSection}
use Rattle.lk_link.specs.declared.walks.InputRef.{InputRef}
use Rattle.lk_link.specs.Inputs.{Input, all_inputs, input_number}
use Rattle.lk_link.specs.Parts.{all_parts, part_at}
use Rattle.lk_link.specs.Sizes.{capacity}
use Rattle.lk_link.specs.Walks.{input_of}
use Rattle.lk_link.specs.WellFormed.{IsWellFormed}
use Rattle.lk_link.proofs.Elements.{map_in}
use Rattle.lk_link.proofs.InputLemmas.{inputs_follow}
use Rattle.lk_link.proofs.Numbers.{none_default}
use Rattle.lk_link.proofs.Rounding.{round-multiple}
use Rattle.lk_reach.proofs.SymbolNumbers.{inputs_few}
use Rattle.lk_sizes.specs.Harvest.{capacity_by}
use Rattle.lk_sizes.specs.Owners.{own_sizes}
use Rattle.lk_sizes.proofs.LiveByFiles.{number_of}
use Rattle.lk_sizes.proofs.OwnSizes.{own_size_at}
use Rattle.lk_deltas.specs.LinkDeletions.{Deletions, size_after, sizes_after}
use Rattle.lk_relax.specs.PassWords.{StandOnce, fall_between, is_named, is_within, near_ones}
use Rattle.lk_relax.specs.Scan.{PassState, scanned}
use Rattle.lk_relax.specs.RelaxedLaws.{IsShrunk, SizesFallByPasses}
use Rattle.lk_relax.specs.Stages.{Relaxing, Stage, capacity_after, fall_of, link_of, shrink_pass}

-- ---- one section

-- where there is no such part, a size takes itself
pub no_part : (sections : List PlanSection) (p size : ℕ) → slice_get (all_parts sections) p ≡ None → capacity (part_at sections p) size ≡ size
no_part sections p size none =
    let one : PlanPart = record { alignment = 1; packed = false } in
    ap (λ (part : PlanPart). capacity part size) (none_default (all_parts sections) p one none) ∙ round-multiple size 1 (omega arith) (mod-one size)

-- the part that is there
pub part_there : (sections : List PlanSection) (p : ℕ) (part : PlanPart) → slice_get (all_parts sections) p ≡ Some part → part_at sections p ≡ part
part_there sections p part there = get_or_from_slice_get (all_parts sections) p part (record { alignment = 1; packed = false }) there

-- the size of a section by its number is that by the sizes of all
size_is : (link : LinkInput) (o : Option (Bor (List ℕ))) (k : ℕ) (x : Input) → slice_get (all_inputs link.groups) k ≡ Some x
    → option_map_or (λ s. slice_index s.now k) o x.section.size ≡ slice_index (option_map_or (λ s. s.now) o (own_sizes link)) (input_number link.groups x.file x.index)
size_is link None k x there = sym (own_size_at link k x there) ∙ ap (slice_index (own_sizes link)) (sym (number_of link k x there))
size_is link (Some s) k x there = ap (slice_index s.now) (sym (number_of link k x there))

-- by how many bytes one section's capacity falls
abbrev pub fall_at : LinkInput → List ℕ → List ℕ → Input → ℕ
fall_at link before after x = capacity_by link before x - capacity_by link after x

pub fall_is : (link : LinkInput) (before : Option (Bor (List ℕ))) (after : List ℕ) (k : ℕ) (x : Input) (old new fall : ℕ) → slice_get (all_inputs link.groups) k ≡ Some x
    → old ≡ option_map_or (λ s. slice_index s.now k) before x.section.size → new ≡ slice_index after k
    → fall ≡ capacity (part_at link.plan.sections x.section.part) old - capacity (part_at link.plan.sections x.section.part) new
    → fall ≡ fall_at link (option_map_or (λ s. s.now) before (own_sizes link)) after x
fall_is link before after k x old new fall there is_old is_new is =
    let part : PlanPart = part_at link.plan.sections x.section.part in
    is
    ∙ ap (λ (n : ℕ). capacity part n - capacity part new) (is_old ∙ size_is link before k x there)
    ∙ ap (λ (n : ℕ). capacity_by link (option_map_or (λ s. s.now) before (own_sizes link)) x - capacity part n) (is_new ∙ ap (slice_index after) (sym (number_of link k x there)))

-- ---- all sections

-- there are few
pub number_few : (link : LinkInput) (k : ℕ) (x : Input) → IsWellFormed link → slice_get (all_inputs link.groups) k ≡ Some x → k < 2 ^ 32
number_few link k x good there = omega (arith, slice_get_within (all_inputs link.groups) k x there, inputs_follow.count link.groups, inputs_few link good)

-- one more
pub sum_next : (f : Input → ℕ) (done : List InputRef) (x : InputRef) (now fall next : ℕ) → min now (2 ^ 64) ≡ min (sum_by f (map input_of done)) (2 ^ 64) → fall ≡ f (input_of x)
    → next ≡ min (now + fall) (2 ^ 128 - 1) → min next (2 ^ 64) ≡ min (sum_by f (map input_of (done ++ x ∷ []))) (2 ^ 64)
sum_next f done x now fall next so_far one added =
    let more : sum_by f (map input_of (done ++ x ∷ [])) ≡ sum_by f (map input_of done) + sum_by f (input_of x ∷ [])
    = ap (sum_by f) (map_push input_of done x) ∙ sum_by-append f (map input_of done) (input_of x ∷ []) in
    omega (arith, so_far, one, added, more, sum_by-cons f (input_of x) [])

-- sums of equal terms are equal
sum_alike : {X : Type 0} (f g : X → ℕ) (xs : List X) → ((k : ℕ) (x : X) → slice_get xs k ≡ Some x → f x ≡ g x) → sum_by f xs ≡ sum_by g xs
sum_alike f g [] same = refl
sum_alike f g (x ∷ xs) same = omega (arith, sum_by-cons f x xs, sum_by-cons g x xs, same 0 x refl, sum_alike f g xs (λ k. same (suc k)))

-- the size of a section by those of all
size_there : (link : LinkInput) (deletions : Deletions) (k : ℕ) (x : Input) → slice_get (all_inputs link.groups) k ≡ Some x
    → slice_index (sizes_after link.groups deletions) k ≡ size_after link.groups deletions x
size_there link deletions k x there =
    get_or_from_slice_get (sizes_after link.groups deletions) k (size_after link.groups deletions x) 0 (map_in (size_after link.groups deletions) (all_inputs link.groups) k x there)

capacity_there : (by : Relaxing) (deletions : Deletions) (k : ℕ) (x : Input) → slice_get (all_inputs (link_of by).groups) k ≡ Some x
    → capacity_by (link_of by) (sizes_after (link_of by).groups deletions) x ≡ capacity_after by deletions x
capacity_there by deletions k x there =
    let link : LinkInput = link_of by in
    ap (capacity (part_at link.plan.sections x.section.part)) (ap (slice_index (sizes_after link.groups deletions)) (number_of link k x there) ∙ size_there link deletions k x there)

-- what falls between the sizes before a pass and behind it is its fall
pub falls_by_pass : (by : Relaxing) (a : Stage) (before after : List ℕ) → before ≡ sizes_after (link_of by).groups a.deletions → after ≡ sizes_after (link_of by).groups (shrink_pass by a)
    → fall_between (link_of by) before after ≡ fall_of by a
falls_by_pass by a before after is_before is_after =
    let link : LinkInput = link_of by in
    let new : Deletions = shrink_pass by a in
    ap (λ (ns : List ℕ). fall_between link ns after) is_before
    ∙ ap (fall_between link (sizes_after link.groups a.deletions)) is_after
    ∙ sum_alike (fall_at link (sizes_after link.groups a.deletions) (sizes_after link.groups new)) (λ x. capacity_after by a.deletions x - capacity_after by new x) (all_inputs link.groups) (λ k x there.
    ap (λ (n : ℕ). n - capacity_by link (sizes_after link.groups new) x) (capacity_there by a.deletions k x there)
    ∙ ap (λ (n : ℕ). capacity_after by a.deletions x - n) (capacity_there by new k x there))

none_mapped : {X Y : Type 0} (f : X → Y) (xs : List X) (k : ℕ) → slice_get xs k ≡ None → slice_get (map f xs) k ≡ None
none_mapped f [] k none = refl
none_mapped f (x ∷ xs) zero none = absurd (cc)
none_mapped f (x ∷ xs) (suc k) none = none_mapped f xs k none

-- no section is greater behind a pass
pub sizes_fall : SizesFallByPasses → (by : Relaxing) (a : Stage) (k : ℕ) → IsShrunk by a
    → slice_index (sizes_after (link_of by).groups (shrink_pass by a)) k ≤ slice_index (sizes_after (link_of by).groups a.deletions) k
sizes_fall law by a k shrunk = by_place (slice_get (all_inputs (link_of by).groups) k) refl
  where
    link : LinkInput
    link = link_of by

    past : slice_get (all_inputs (link_of by).groups) k ≡ None → (ds : Deletions) → slice_index (sizes_after (link_of by).groups ds) k ≡ 0
    past none ds = none_default (sizes_after (link_of by).groups ds) k 0 (none_mapped (size_after (link_of by).groups ds) (all_inputs (link_of by).groups) k none)

    by_place : (o : Option Input) → slice_get (all_inputs (link_of by).groups) k ≡ o → slice_index (sizes_after (link_of by).groups (shrink_pass by a)) k ≤ slice_index (sizes_after (link_of by).groups a.deletions) k
    by_place None none = omega (arith, past none (shrink_pass by a))
    by_place (Some x) there = omega (arith, size_there link (shrink_pass by a) k x there, size_there link a.deletions k x there, law by a k x shrunk there)

-- ---- what is looked at again

-- the sections that are near, by what was found in them
pub near_are : (w : PassState) (total : ℕ) (scan : List (FileId × ℕ)) → near_ones total (map (scanned w) scan) ≡ filter (λ q. is_within total (scanned w q).3) scan
near_are w total [] = refl
near_are w total (q ∷ scan) =
    elim (is_within total (scanned w q).3) as (λ b. map (λ f. (f.0, f.1)) (cond b (scanned w q ∷ filter (λ f. is_within total f.3) (map (scanned w) scan)) (filter (λ f. is_within total f.3) (map (scanned w) scan)))
    ≡ cond b (q ∷ filter (λ r. is_within total (scanned w r).3) scan) (filter (λ r. is_within total (scanned w r).3) scan)) [
      | true ↦ ap (λ (rs : List (FileId × ℕ)). q ∷ rs) (near_are w total scan)
      | false ↦ near_are w total scan
    ]

none_kept : {X : Type 0} (p f : X → Bool) (xs : List X) → list_any p xs ≡ false → list_any p (filter f xs) ≡ false
none_kept p f [] none = refl
none_kept {X} p f (x ∷ xs) none = by (f x) (none_kept p f xs (rest (p x) none))
  where
    rest : (b : Bool) → (b || list_any p xs) ≡ false → list_any p xs ≡ false
    rest true h = absurd (cc)
    rest false h = h

    first : (b : Bool) → (b || list_any p xs) ≡ false → b ≡ false
    first true h = absurd (cc)
    first false h = refl

    by : (c : Bool) → list_any p (filter f xs) ≡ false → list_any p (cond c (x ∷ filter f xs) (filter f xs)) ≡ false
    by true later = ap (λ b. b || list_any p (filter f xs)) (first (p x) none) ∙ later
    by false later = later

-- they stand once
pub once_kept : (f : FileId × ℕ → Bool) (scan : List (FileId × ℕ)) → StandOnce scan → StandOnce (filter f scan)
once_kept f [] once = tt
once_kept f (q ∷ scan) once =
    elim (f q) as (λ b. StandOnce (cond b (q ∷ filter f scan) (filter f scan))) [
      | true ↦ (none_kept (λ r. is_named r q) f scan once.0, once_kept f scan once.1)
      | false ↦ once_kept f scan once.1
    ]
