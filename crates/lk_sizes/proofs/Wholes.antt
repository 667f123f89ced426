-- What comes into a part: what sections and commons bring, and the image.
use Rattle.std.proofs.Common.{◌≡◌, ℕ, zero, suc, ◌+◌, ◌-◌, ◌^◌, min, Bool, cond, List, [], ◌∷◌, ◌++◌, length, map, Option, Some, IsPermutation, sum_by, refl, ap, ◌∙◌, subst, inl, inr, arith, length-append}
use Rattle.std.specs.List.{flat_map, slice_get, slice_index}
use Rattle.std.specs.Option.{option_map_or}
use Rattle.std.proofs.lemmas.List.{map-append}
use Rattle.std.proofs.lemmas.List.Sorted.{sum_by-IsPermutation}
use Rattle.std.proofs.lemmas.List.Sums.{sum_by-append, sum_by-cons}
use Rattle.lk_link.specs.declared.link.LinkInput.{LinkInput}
use Rattle.lk_link.specs.declared.plan.PlanPart.{PlanPart}
use Rattle.lk_link.specs.Inputs.{Input, NumberedFile, numbered_files}
use Rattle.lk_link.specs.Parts.{part_at}
use Rattle.lk_link.specs.Sizes.{capacity}
use Rattle.lk_link.proofs.Elements.{append_at}
use Rattle.lk_live.specs.declared.live.Live.{Live}
use Rattle.lk_live.specs.Reach.{live_inputs}
use Rattle.lk_sizes.specs.declared.owners.PartTotal.{PartTotal}
use Rattle.lk_sizes.specs.Attributes.{part_attributes}
use Rattle.lk_sizes.specs.Contents.{IsContentTotal}
use Rattle.lk_sizes.specs.Owners.{Content, Taker, all_commons, common_taker, commons_of, content_size, has_image, identity_of, identity_size, images_of, leading_of, live_of, owner_bytes, owners_in, size_in, sized_filling, takers}
use Rattle.lk_sizes.specs.Sorted.{sorted_inputs}
use Rattle.lk_sizes.specs.Tables.{bytes_in, commons_size, file_takers_by, live_size, taker_by}
use Rattle.lk_sizes.proofs.ImageLemmas.{identity_takes, image_size, section_of}
use Rattle.lk_sizes.proofs.LiveByFiles.{unsorted_by_files, unsorted_ones}
use Rattle.lk_sizes.proofs.OwnSizes.{sized_of_files}
use Rattle.lk_sizes.proofs.SortedOnes.{unsorted_and_sorted}
use Rattle.lk_sizes.proofs.Takers.{bytes_in-append, bytes_in_both, mapped_flat}

-- it is what the sections and commons bring
pub record IsBrought (size : Input → ℕ) (link : LinkInput) (live : Live) (p : ℕ) (total : PartTotal) : Type 0 where
  pub bytes : min total.bytes (2 ^ 64) ≡ min (live_size size link live p + commons_size link p (all_commons link live)) (2 ^ 64)
  pub image : total.has_image ≡ has_image link p
  pub attrs : total.attrs ≡ part_attributes link live p

-- so are those of the first parts
pub record AreWhole (content : Content) (sizes : List ℕ) (n : ℕ) (totals : List PartTotal) : Type 0 where
  pub count : length totals ≡ n
  pub each : (p : ℕ) (total : PartTotal) → slice_get totals p ≡ Some total → IsContentTotal (sized_filling content sizes) p total

-- sections bring the same in any order
moved_bytes : (size : Input → ℕ) (link : LinkInput) (p : ℕ) (xs ys : List Input) → IsPermutation xs ys → bytes_in link p (map (taker_by size) ys) ≡ bytes_in link p (map (taker_by size) xs)
moved_bytes size link p xs ys moved = omega (arith, each_bytes xs, each_bytes ys, sum_by-IsPermutation one xs ys moved)
  where
    one : Input → ℕ
    one x = bytes_in link p (taker_by size x ∷ [])

    each_bytes : (zs : List Input) → bytes_in link p (map (taker_by size) zs) ≡ sum_by one zs
    each_bytes [] = refl
    each_bytes (z ∷ zs) = omega (arith, sum_by-cons one z zs, bytes_in-append link p (taker_by size z ∷ []) (map (taker_by size) zs), each_bytes zs)

-- what live sections bring: those that stand with their files, and the sorted ones
pub live_apart : (size : Input → ℕ) (link : LinkInput) (live : Live) (p : ℕ)
    → live_size size link live p ≡ bytes_in link p (map (taker_by size) (unsorted_ones link live)) + bytes_in link p (map (taker_by size) (sorted_inputs link live))
live_apart size link live p =
    let unsorted : List Input = unsorted_ones link live in
    let sorted : List Input = sorted_inputs link live in
    omega (
      arith,
      moved_bytes size link p (live_inputs link live) (unsorted ++ sorted) (unsorted_and_sorted link live),
      ap (bytes_in link p) (map-append (taker_by size) unsorted sorted),
      bytes_in-append link p (map (taker_by size) unsorted) (map (taker_by size) sorted),
    )

-- what takes bytes, sections and commons apart
pub taken_apart : (content : Content) (sizes : List ℕ) (p : ℕ) → bytes_in content.link p (takers (sized_filling content sizes))
    ≡ live_size (size_in content.link sizes) content.link content.live p + commons_size content.link p (all_commons content.link content.live)
taken_apart content sizes p =
    let link : LinkInput = content.link in
    let live : Live = content.live in
    let files : List NumberedFile = numbered_files link.groups in
    let taker : Input → Taker = taker_by (size_in link sizes) in
    let sections : NumberedFile → List Taker = λ f. map taker (live_of link live f) in
    let commons : NumberedFile → List Taker = λ f. map common_taker (commons_of link live f) in
    omega (
      arith,
      ap (bytes_in link p) (ap (λ (ts : List Taker). ts ++ map taker (sorted_inputs link live)) (sized_of_files content sizes)),
      bytes_in-append link p (flat_map (file_takers_by (size_in link sizes) link live) files) (map taker (sorted_inputs link live)),
      bytes_in_both link p sections commons files,
      ap (bytes_in link p) (mapped_flat taker (live_of link live) files ∙ ap (map taker) (unsorted_by_files link live)),
      ap (bytes_in link p) (mapped_flat common_taker (commons_of link live) files),
      live_apart (size_in link sizes) link live p,
    )

whole_size : (content : Content) (sizes : List ℕ) (p : ℕ) → content_size (sized_filling content sizes) p
    ≡ cond (has_image content.link p) (capacity (part_at content.link.plan.sections p) (slice_index content.merged_lens (section_of content.link p))) 0
    + option_map_or (capacity (part_at content.link.plan.sections p)) (identity_size content.link p) 0
    + (live_size (size_in content.link sizes) content.link content.live p + commons_size content.link p (all_commons content.link content.live))
whole_size content sizes p =
    let link : LinkInput = content.link in
    let lens : List ℕ = content.merged_lens in
    let part : PlanPart = part_at link.plan.sections p in
    omega (
      arith,
      sum_by-append (owner_bytes part) (leading_of link lens p) (owners_in p (takers (sized_filling content sizes))),
      sum_by-append (owner_bytes part) (images_of link lens p) (identity_of link p),
      image_size link lens part p,
      identity_takes link part p,
      taken_apart content sizes p,
    )

-- with the image and the identity
pub with_leading : (content : Content) (sizes : List ℕ) (p : ℕ) (old middle new : PartTotal) (part : PlanPart) (len : ℕ) (identity : Option ℕ) → IsBrought (size_in content.link sizes) content.link content.live p old
    → part ≡ part_at content.link.plan.sections p → len ≡ slice_index content.merged_lens (section_of content.link p) → identity ≡ identity_size content.link p
    → middle.bytes ≡ min (old.bytes + cond old.has_image (capacity part len) 0) (2 ^ 128 - 1) → middle.has_image ≡ old.has_image → middle.attrs ≡ old.attrs
    → new.bytes ≡ min (middle.bytes + option_map_or (capacity part) identity 0) (2 ^ 128 - 1) → new.has_image ≡ middle.has_image → new.attrs ≡ middle.attrs
    → IsContentTotal (sized_filling content sizes) p new
with_leading content sizes p old middle new part len identity h is long own bytes image attrs later new_image new_attrs =
    let size : cond old.has_image (capacity part len) 0 ≡ cond (has_image content.link p) (capacity (part_at content.link.plan.sections p) (slice_index content.merged_lens (section_of content.link p))) 0 =
    ap (λ (b : Bool). cond b (capacity part len) 0) h.image
    ∙ ap (λ (q : PlanPart). cond (has_image content.link p) (capacity q len) 0) is
    ∙ ap (λ (n : ℕ). cond (has_image content.link p) (capacity (part_at content.link.plan.sections p) n) 0) long in
    let more : option_map_or (capacity part) identity 0 ≡ option_map_or (capacity (part_at content.link.plan.sections p)) (identity_size content.link p) 0 =
    ap (λ (q : PlanPart). option_map_or (capacity q) identity 0) is ∙ ap (λ (o : Option ℕ). option_map_or (capacity (part_at content.link.plan.sections p)) o 0) own in
    record {
      bytes = omega (arith, h.bytes, bytes, later, size, more, whole_size content sizes p);
      image = new_image ∙ image ∙ h.image;
      attrs = new_attrs ∙ attrs ∙ h.attrs;
    }

pub one_whole : (content : Content) (sizes : List ℕ) (n : ℕ) (totals : List PartTotal) (new : PartTotal)
    → AreWhole content sizes n totals → IsContentTotal (sized_filling content sizes) n new → AreWhole content sizes (n + 1) (totals ++ new ∷ [])
one_whole content sizes n totals new h is = record {
  count = omega (arith, length-append totals (new ∷ []), h.count);
  each = λ p total there. elim (append_at totals (new ∷ []) p total there) [
    | inl before ↦ h.each p total before
    | inr last ↦ at_end last.0 p total (omega (arith, last.1, h.count)) last.2
  ];
}
  where
    at_end : (j p : ℕ) (total : PartTotal) → p ≡ n + j → slice_get (new ∷ []) j ≡ Some total → IsContentTotal (sized_filling content sizes) p total
    at_end zero p total place there =
        let same : new ≡ total = cc in
        let at : n ≡ p = omega (arith, place) in
        subst (λ (q : ℕ). IsContentTotal (sized_filling content sizes) q total) at (subst (λ (t : PartTotal). IsContentTotal (sized_filling content sizes) n t) same is)
    at_end (suc j) p total place there = absurd (cc)
