-- Where images stand: each first in a part of its output section.
use Rattle.std.proofs.Common.{◌≡◌, ℕ, zero, suc, ◌+◌, ◌-◌, ◌<◌, ◌≤◌, Bool, true, false, cond, List, [], ◌∷◌, ◌++◌, get_or, length, map, drop, None, Option, Some, refl, sym, ap, ◌∙◌, arith, append_assoc, length-append}
use Rattle.std.specs.Prelude.{option_map}
use Rattle.std.specs.Option.{option_map_or, option_to_list}
use Rattle.std.specs.List.{enumerate_from, flat_map, slice_get, slice_index, slice_index_or}
use Rattle.std.proofs.lemmas.Grind.{get_or_default_zero}
use Rattle.std.proofs.lemmas.List.{drop_more, get_or_append_left, get_or-append-add, length-map, map-append}
use Rattle.std.proofs.lemmas.List.Sums.{sum_by-append}
use Rattle.std.proofs.lemmas.Option.{get_or_from_slice_get}
use Rattle.lk_link.specs.declared.link.LinkInput.{LinkInput}
use Rattle.lk_link.specs.declared.plan.PlanPart.{PlanPart}
use Rattle.lk_link.specs.declared.plan.PlanSection.{PlanSection}
use Rattle.lk_link.specs.Parts.{all_parts, first_part, part_at, part_sections}
use Rattle.lk_link.specs.PlanSections.{section_at}
use Rattle.lk_link.specs.Sizes.{capacity}
use Rattle.lk_link.proofs.Elements.{at_index, map_in}
use Rattle.lk_link.proofs.Numbers.{length-made, made_get}
use Rattle.lk_link.proofs.PartNumbers.{first_part-cons, first_part-suc}
use Rattle.lk_sizes.specs.declared.owners.PartContents.{PartContents}
use Rattle.lk_sizes.specs.Owners.{IdentityOwner, ImageOwner, by_part, bytes_of, has_image, identity_of, identity_size, images_of, leading_of, owner_bytes}
use Rattle.lk_sizes.proofs.LiveParts.{read_part}
use Rattle.lk_sizes.proofs.Made.{map_map}

-- ---- the bytes of an image

-- the output section of a part
abbrev pub section_of : LinkInput → ℕ → ℕ
section_of link p = slice_index (part_sections link.plan.sections) p

pub image_size : (link : LinkInput) (merged_lens : List ℕ) (part : PlanPart) (p : ℕ)
    → bytes_of part (images_of link merged_lens p) ≡ cond (has_image link p) (capacity part (slice_index merged_lens (section_of link p))) 0
image_size link merged_lens part p =
    let len : ℕ = slice_index merged_lens (section_of link p) in
    elim (has_image link p) as (λ b. bytes_of part (cond b (ImageOwner (section_of link p) len ∷ []) []) ≡ cond b (capacity part len) 0) [
      | true ↦ omega arith
      | false ↦ refl
    ]

-- the identity takes its bytes with the padding behind them, if it stands in the part
pub identity_takes : (link : LinkInput) (part : PlanPart) (p : ℕ) → bytes_of part (identity_of link p) ≡ option_map_or (capacity part) (identity_size link p) 0
identity_takes link part p =
    elim (identity_size link p) as (λ o. bytes_of part (option_to_list (option_map IdentityOwner o)) ≡ option_map_or (capacity part) o 0) [
      | None ↦ refl
      | Some size ↦ omega arith
    ]

-- both together
pub leading_size : (link : LinkInput) (merged_lens : List ℕ) (p : ℕ) → bytes_of (part_at link.plan.sections p) (leading_of link merged_lens p)
    ≡ bytes_of (part_at link.plan.sections p) (images_of link merged_lens p) + bytes_of (part_at link.plan.sections p) (identity_of link p)
leading_size link merged_lens p = sum_by-append (owner_bytes (part_at link.plan.sections p)) (images_of link merged_lens p) (identity_of link p)

-- ---- the sections of parts

-- those of sections that are numbered from o on
abbrev pub sections_from : ℕ → List PlanSection → List ℕ
sections_from o sections = flat_map (λ q. map (λ _. q.0) q.1.parts) (enumerate_from o sections)

pub length-sections_from : (o : ℕ) (sections : List PlanSection) → length (sections_from o sections) ≡ length (all_parts sections)
length-sections_from o [] = refl
length-sections_from o (x ∷ xs) =
    omega (
      arith,
      length-append (map (λ (p : PlanPart). o) x.parts) (sections_from (o + 1) xs),
      length-map x.parts (λ (p : PlanPart). o),
      length-append x.parts (all_parts xs),
      length-sections_from (o + 1) xs,
    )

same_each : {X : Type 0} (n : ℕ) (xs : List X) (k : ℕ) → k < length xs → slice_index (map (λ _. n) xs) k ≡ n
same_each n [] k h = absurd (omega arith)
same_each n (x ∷ xs) zero h = refl
same_each n (x ∷ xs) (suc k) h = same_each n xs k (omega arith)

sections_at : (o : ℕ) (sections : List PlanSection) (s k : ℕ) → s < length sections → k < length (section_at sections s).parts
    → slice_index (sections_from o sections) (first_part sections s + k) ≡ o + s
sections_at o [] s k h i = absurd (omega arith)
sections_at o (x ∷ xs) zero k h i =
    let here : List ℕ = map (λ (p : PlanPart). o) x.parts in
    let within : k < length here = omega (arith, length-map x.parts (λ (p : PlanPart). o)) in
    ap (slice_index (here ++ sections_from (o + 1) xs)) (omega arith)
    ∙ get_or_append_left here (sections_from (o + 1) xs) 0 k within
    ∙ same_each o x.parts k i
    ∙ omega arith
sections_at o (x ∷ xs) (suc s) k h i =
    let here : List ℕ = map (λ (p : PlanPart). o) x.parts in
    let place : first_part (x ∷ xs) (suc s) + k ≡ length here + (first_part xs s + k)
    = omega (arith, first_part-cons x xs s, length-map x.parts (λ (p : PlanPart). o)) in
    ap (slice_index (here ++ sections_from (o + 1) xs)) place
    ∙ get_or-append-add here (sections_from (o + 1) xs) (first_part xs s + k) 0
    ∙ sections_at (o + 1) xs s k (omega arith) i
    ∙ omega arith

-- a section's parts are its own
pub its_section : (sections : List PlanSection) (s p : ℕ) → s < length sections → first_part sections s ≤ p → p < first_part sections (s + 1)
    → slice_index (part_sections sections) p ≡ s
its_section sections s p h from below =
    let next = first_part-suc sections s h in
    ap (slice_index (part_sections sections)) (omega arith)
    ∙ sections_at 0 sections s (p - first_part sections s) h (omega (arith, next))
    ∙ omega arith

-- the lengths of images by part, one section further
pub lens_next : (lens merged_lens : List ℕ) (sections : List PlanSection) (k : ℕ) (s : PlanSection) → k < length sections → s ≡ get_or sections k s
    → lens ++ map (slice_index merged_lens) (sections_from k (drop k sections))
    ≡ (lens ++ map (λ _. slice_index merged_lens k) s.parts) ++ map (slice_index merged_lens) (sections_from (k + 1) (drop (k + 1) sections))
lens_next lens merged_lens sections k s within is =
    let len : ℕ → ℕ = slice_index merged_lens in
    let rest : List ℕ = sections_from (k + 1) (drop (k + 1) sections) in
    let split : drop k sections ≡ s ∷ drop (k + 1) sections = drop_more sections k s within ∙ ap (λ (x : PlanSection). x ∷ drop (k + 1) sections) (sym is) in
    ap (λ (l : List PlanSection). lens ++ map len (sections_from k l)) split
    ∙ ap (λ (l : List ℕ). lens ++ l) (map-append len (map (λ (p : PlanPart). k) s.parts) rest)
    ∙ ap (λ (l : List ℕ). lens ++ (l ++ map len rest)) (map_map len (λ (p : PlanPart). k) s.parts)
    ∙ sym (append_assoc lens (map (λ (p : PlanPart). len k) s.parts) (map len rest))

pub length-lens : (link : LinkInput) (merged_lens lens : List ℕ) → lens ≡ map (slice_index merged_lens) (part_sections link.plan.sections) → length lens ≡ length (all_parts link.plan.sections)
length-lens link merged_lens lens are =
    ap length are ∙ length-map (part_sections link.plan.sections) (slice_index merged_lens) ∙ length-sections_from 0 link.plan.sections

-- a part's length is that of its section
pub len_of_part : (link : LinkInput) (merged_lens lens : List ℕ) (p : ℕ) → lens ≡ map (slice_index merged_lens) (part_sections link.plan.sections) → p < length (all_parts link.plan.sections)
    → slice_index lens p ≡ slice_index merged_lens (section_of link p)
len_of_part link merged_lens lens p are below =
    let sections : List ℕ = part_sections link.plan.sections in
    let at = at_index sections p (omega (arith, length-sections_from 0 link.plan.sections)) in
    ap (λ (ls : List ℕ). slice_index ls p) are
    ∙ get_or_from_slice_get (map (slice_index merged_lens) sections) p (slice_index merged_lens at.0) 0 (map_in (slice_index merged_lens) sections p at.0 at.1)
    ∙ ap (slice_index merged_lens) (sym (get_or_from_slice_get sections p at.0 0 at.1))

-- ---- by the contents of parts

pub length-contents : (link : LinkInput) (contents : List PartContents) → map (λ c. c.has_image) contents ≡ by_part (has_image link) link → length contents ≡ length (all_parts link.plan.sections)
length-contents link contents are =
    sym (length-map contents (λ (c : PartContents). c.has_image)) ∙ ap length are ∙ length-made (has_image link) (all_parts link.plan.sections) 0

pub has_of_part : (link : LinkInput) (contents : List PartContents) (p : ℕ) (d : PartContents) → map (λ c. c.has_image) contents ≡ by_part (has_image link) link → p < length (all_parts link.plan.sections)
    → (slice_index_or contents p d).has_image ≡ has_image link p
has_of_part link contents p d are below =
    let at = at_index contents p (omega (arith, length-contents link contents are)) in
    let both : Some (at.0).has_image ≡ Some (has_image link p)
    = sym (map_in (λ (c : PartContents). c.has_image) contents p at.0 at.1)
    ∙ ap (λ (bs : List Bool). slice_get bs p) are
    ∙ made_get (has_image link) (all_parts link.plan.sections) p below in
    let same : (at.0).has_image ≡ has_image link p = cc in
    ap (λ (c : PartContents). c.has_image) (get_or_from_slice_get contents p at.0 d at.1) ∙ same

-- the bytes of an image, by what is read of tables
pub image_reads : (link : LinkInput) (merged_lens : List ℕ) (contents : List PartContents) (parts : List PlanPart) (lens : List ℕ) (p len : ℕ) (d : PartContents) (none : PlanPart)
    → map (λ c. c.has_image) contents ≡ by_part (has_image link) link → parts ≡ all_parts link.plan.sections
    → lens ≡ map (slice_index merged_lens) (part_sections link.plan.sections) → p < length (all_parts link.plan.sections) → len ≡ slice_index_or lens p len
    → cond (slice_index_or contents p d).has_image (capacity (slice_index_or parts p none) len) 0 ≡ bytes_of (part_at link.plan.sections p) (images_of link merged_lens p)
image_reads link merged_lens contents parts lens p len d none are all long below read =
    let part : slice_index_or parts p none ≡ part_at link.plan.sections p = read_part link parts p none all (omega (arith, ap length all)) in
    let is : len ≡ slice_index merged_lens (section_of link p)
    = read ∙ get_or_default_zero lens p len (omega (arith, length-lens link merged_lens lens long)) ∙ len_of_part link merged_lens lens p long below in
    ap (λ (b : Bool). cond b (capacity (slice_index_or parts p none) len) 0) (has_of_part link contents p d are below)
    ∙ ap (λ (q : PlanPart). cond (has_image link p) (capacity q len) 0) part
    ∙ ap (λ (n : ℕ). cond (has_image link p) (capacity (part_at link.plan.sections p) n) 0) is
    ∙ sym (image_size link merged_lens (part_at link.plan.sections p) p)

-- those of the identity likewise
pub identity_reads : (link : LinkInput) (parts : List PlanPart) (p : ℕ) (identity : Option ℕ) (none : PlanPart) → parts ≡ all_parts link.plan.sections → p < length (all_parts link.plan.sections)
    → identity ≡ identity_size link p → option_map_or (capacity (slice_index_or parts p none)) identity 0 ≡ bytes_of (part_at link.plan.sections p) (identity_of link p)
identity_reads link parts p identity none all below is =
    let part : slice_index_or parts p none ≡ part_at link.plan.sections p = read_part link parts p none all (omega (arith, ap length all)) in
    ap (λ (q : PlanPart). option_map_or (capacity q) identity 0) part
    ∙ ap (λ (o : Option ℕ). option_map_or (capacity (part_at link.plan.sections p)) o 0) is
    ∙ sym (identity_takes link (part_at link.plan.sections p) p)
