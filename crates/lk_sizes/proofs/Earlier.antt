-- Input sections rise by file and index, and so do those that are chosen among them.
use Rattle.std.proofs.Common.{◌≡◌, ℕ, ◌+◌, ◌<◌, ◌==◌, Bool, true, false, cond, List, [], ◌∷◌, ◌++◌, map, filter, ap, ◌∙◌, arith}
use Rattle.std.specs.List.{AllByRecursion, enumerate_from, flat_map}
use Rattle.std.specs.Ordering.{nat_cmp, ordering_then}
use Rattle.std.specs.declared.cmp.Ordering.{Ordering}
use Rattle.std.specs.declared.cmp.Ordering.TheVariants.{Less, Equal, Greater}
use Rattle.std.proofs.lemmas.Bool.{lt-ltb}
use Rattle.std.proofs.lemmas.Cmp.{nat_cmp_total, tied_itself}
use Rattle.lk_link.specs.declared.file.InputFile.{InputFile}
use Rattle.lk_link.specs.declared.ids.FileId.{FileId}
use Rattle.lk_link.specs.declared.link.LinkInput.{LinkInput}
use Rattle.lk_link.specs.declared.section.InputSection.{InputSection}
use Rattle.lk_link.specs.Files.{file_cmp}
use Rattle.lk_link.specs.Inputs.{Input, NumberedFile, all_inputs, group_files, inputs_from, numbered_file, numbered_files, numbered_section}
use Rattle.lk_live.specs.declared.live.Live.{Live}
use Rattle.lk_live.specs.Reach.{live_inputs}
use Rattle.lk_sizes.specs.Sorted.{sorted_ones}
use Rattle.lk_sizes.proofs.LiveOnes.{Pairwise, pairwise_marked}

-- ---- lists in which each element is related to each later one

all_joined : {X : Type 0} (P : X → Type 0) (xs ys : List X) → AllByRecursion P xs → AllByRecursion P ys → AllByRecursion P (xs ++ ys)
all_joined P [] ys h i = i
all_joined P (x ∷ xs) ys h i = (h.0, all_joined P xs ys h.1 i)

all_mapped : {X Y : Type 0} (P : Y → Type 0) (f : X → Y) (xs : List X) → ((x : X) → P (f x)) → AllByRecursion P (map f xs)
all_mapped P f [] h = tt
all_mapped P f (x ∷ xs) h = (h x, all_mapped P f xs h)

all_filtered : {X : Type 0} (P : X → Type 0) (p : X → Bool) (xs : List X) → AllByRecursion P xs → AllByRecursion P (filter p xs)
all_filtered P p [] h = tt
all_filtered P p (x ∷ xs) h =
    elim (p x) as (λ b. AllByRecursion P (cond b (x ∷ filter p xs) (filter p xs))) [
      | true ↦ (h.0, all_filtered P p xs h.1)
      | false ↦ all_filtered P p xs h.1
    ]

pairwise_filtered : {X : Type 0} (R : X → X → Type 0) (p : X → Bool) (xs : List X) → Pairwise R xs → Pairwise R (filter p xs)
pairwise_filtered R p [] h = tt
pairwise_filtered R p (x ∷ xs) h =
    elim (p x) as (λ b. Pairwise R (cond b (x ∷ filter p xs) (filter p xs))) [
      | true ↦ (all_filtered (R x) p xs h.0, pairwise_filtered R p xs h.1)
      | false ↦ pairwise_filtered R p xs h.1
    ]

pairwise_joined : {X : Type 0} (R : X → X → Type 0) (xs ys : List X) → Pairwise R xs → Pairwise R ys → AllByRecursion (λ x. AllByRecursion (R x) ys) xs → Pairwise R (xs ++ ys)
pairwise_joined R [] ys h i across = i
pairwise_joined R (x ∷ xs) ys h i across = (all_joined (R x) xs ys h.0 across.0, pairwise_joined R xs ys h.1 i across.1)

-- what each of some brings, where what one brings is related to what a later one does
module _ {X Y : Type 0} (S : X → X → Type 0) (R : Y → Y → Type 0) (f : X → List Y) (apart : (x z : X) → S x z → AllByRecursion (λ y. AllByRecursion (R y) (f z)) (f x)) where
  all_extended : (z : X) (ys bs : List Y) → AllByRecursion (λ y. AllByRecursion (R y) (f z)) ys → AllByRecursion (λ y. AllByRecursion (R y) bs) ys
      → AllByRecursion (λ y. AllByRecursion (R y) (f z ++ bs)) ys
  all_extended z [] bs h i = tt
  all_extended z (y ∷ ys) bs h i = (all_joined (R y) (f z) bs h.0 i.0, all_extended z ys bs h.1 i.1)

  all_nothing : (ys : List Y) → AllByRecursion (λ y. AllByRecursion (R y) []) ys
  all_nothing [] = tt
  all_nothing (y ∷ ys) = (tt, all_nothing ys)

  later_ones : (x : X) (xs : List X) → AllByRecursion (S x) xs → AllByRecursion (λ y. AllByRecursion (R y) (flat_map f xs)) (f x)
  later_ones x [] h = all_nothing (f x)
  later_ones x (z ∷ xs) h = all_extended z (f x) (flat_map f xs) (apart x z h.0) (later_ones x xs h.1)

  pairwise_flat : ((x : X) → Pairwise R (f x)) → (xs : List X) → Pairwise S xs → Pairwise R (flat_map f xs)
  pairwise_flat own [] h = tt
  pairwise_flat own (x ∷ xs) h = pairwise_joined R (f x) (flat_map f xs) (own x) (pairwise_flat own xs h.1) (later_ones x xs h.0)

-- what numbers make of the elements of a list
module _ {X Y : Type 0} (R : Y → Y → Type 0) (f : ℕ × X → Y) (less : (i j : ℕ) (x z : X) → i < j → R (f (i, x)) (f (j, z))) where
  numbered_behind : (i j : ℕ) (x : X) (xs : List X) → i < j → AllByRecursion (R (f (i, x))) (map f (enumerate_from j xs))
  numbered_behind i j x [] below = tt
  numbered_behind i j x (z ∷ xs) below = (less i j x z below, numbered_behind i (j + 1) x xs (omega (arith, below)))

  numbered_rise : (i : ℕ) (xs : List X) → Pairwise R (map f (enumerate_from i xs))
  numbered_rise i [] = tt
  numbered_rise i (x ∷ xs) = (numbered_behind i (i + 1) x xs (omega arith), numbered_rise (i + 1) xs)

-- ---- files and input sections

pub less_compares : (i j : ℕ) → i < j → nat_cmp i j ≡ Less
less_compares i j below = ap (λ b. cond b Less (cond (i == j) Equal Greater)) (lt-ltb i j below)

-- how input sections compare by file and index
abbrev pub place_cmp : Input → Input → Ordering
place_cmp x y = ordering_then (file_cmp x.file y.file) (nat_cmp x.index y.index)

abbrev pub Earlier : Input → Input → Type 0
Earlier x y = place_cmp x y ≡ Less

abbrev FileEarlier : NumberedFile → NumberedFile → Type 0
FileEarlier f g = file_cmp f.id g.id ≡ Less

sections_rise : (id : FileId) (sections : List InputSection) → Pairwise Earlier (inputs_from id 0 sections)
sections_rise id sections = numbered_rise Earlier (numbered_section id) (λ i j x z below.
    ap (λ o. ordering_then (ordering_then o (nat_cmp id.file id.file)) (nat_cmp i j)) (tied_itself nat_cmp_total id.group)
    ∙ ap (λ o. ordering_then o (nat_cmp i j)) (tied_itself nat_cmp_total id.file)
    ∙ less_compares i j below) 0 sections

files_rise : (g : ℕ) (files : List InputFile) → Pairwise FileEarlier (group_files g 0 files)
files_rise g files = numbered_rise FileEarlier (numbered_file g) (λ i j x z below.
    ap (λ o. ordering_then o (nat_cmp i j)) (tied_itself nat_cmp_total g) ∙ less_compares i j below) 0 files

all_files_rise : (groups : List (List InputFile)) → Pairwise FileEarlier (numbered_files groups)
all_files_rise groups =
    pairwise_flat GroupEarlier FileEarlier (λ q. group_files q.0 0 q.1) apart (λ q. files_rise q.0 q.1) (enumerate_from 0 groups) (groups_rise 0 groups)
  where
    GroupEarlier : ℕ × List InputFile → ℕ × List InputFile → Type 0
    GroupEarlier q r = q.0 < r.0

    apart : (q r : ℕ × List InputFile) → q.0 < r.0 → AllByRecursion (λ f. AllByRecursion (FileEarlier f) (group_files r.0 0 r.1)) (group_files q.0 0 q.1)
    apart q r below =
        all_mapped (λ f. AllByRecursion (FileEarlier f) (group_files r.0 0 r.1)) (numbered_file q.0) (enumerate_from 0 q.1) (λ a.
        all_mapped (FileEarlier (numbered_file q.0 a)) (numbered_file r.0) (enumerate_from 0 r.1) (λ b.
        ap (λ o. ordering_then o (nat_cmp a.0 b.0)) (less_compares q.0 r.0 below)))

    behind : (i j : ℕ) (xs : List (List InputFile)) → i < j → AllByRecursion (λ r. i < r.0) (enumerate_from j xs)
    behind i j [] below = tt
    behind i j (x ∷ xs) below = (below, behind i (j + 1) xs (omega (arith, below)))

    groups_rise : (i : ℕ) (xs : List (List InputFile)) → Pairwise GroupEarlier (enumerate_from i xs)
    groups_rise i [] = tt
    groups_rise i (x ∷ xs) = (behind i (i + 1) xs (omega arith), groups_rise (i + 1) xs)

inputs_rise : (groups : List (List InputFile)) → Pairwise Earlier (all_inputs groups)
inputs_rise groups =
    pairwise_flat FileEarlier Earlier (λ f. inputs_from f.id 0 f.file.sections) apart (λ f. sections_rise f.id f.file.sections) (numbered_files groups) (all_files_rise groups)
  where
    apart : (f g : NumberedFile) → FileEarlier f g → AllByRecursion (λ x. AllByRecursion (Earlier x) (inputs_from g.id 0 g.file.sections)) (inputs_from f.id 0 f.file.sections)
    apart f g first =
        all_mapped (λ x. AllByRecursion (Earlier x) (inputs_from g.id 0 g.file.sections)) (numbered_section f.id) (enumerate_from 0 f.file.sections) (λ a.
        all_mapped (Earlier (numbered_section f.id a)) (numbered_section g.id) (enumerate_from 0 g.file.sections) (λ b.
        ap (λ o. ordering_then o (nat_cmp a.0 b.0)) first))

-- the sorted sections that are live rise
pub sorted_rise : (link : LinkInput) (live : Live) → Pairwise Earlier (sorted_ones link live)
sorted_rise link live =
    pairwise_filtered Earlier (λ (x : Input). x.section.sorted) (live_inputs link live) (pairwise_marked Earlier live.marks (all_inputs link.groups) (inputs_rise link.groups))
