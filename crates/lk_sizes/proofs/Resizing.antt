-- Where input sections have lesser sizes, parts lose what their live sections lose.
use Rattle.std.proofs.Common.{◌≡◌, ℕ, ◌+◌, ◌-◌, ◌^◌, ◌<◌, ◌≤◌, min, true, false, if◌then◌else◌, List, [], ◌∷◌, Some, length, map, inl, inr, sym, ap, ◌∙◌, subst, arith}
use Rattle.std.specs.Int.{next_multiple_of}
use Rattle.std.specs.List.{enumerate_from, flat_map, slice_get, slice_index, slice_index_or}
use Rattle.std.proofs.Math.Nat.{dvd-sub}
use Rattle.std.proofs.lemmas.Bool.{cases_lt}
use Rattle.std.proofs.lemmas.Bool.Decides.{eqb_tells}
use Rattle.std.proofs.lemmas.List.{length-map}
use Rattle.std.proofs.lemmas.List.FromFn.{length-enumerate_from}
use Rattle.std.proofs.lemmas.Nat.Gcd.{le_of_dvd}
use Rattle.std.proofs.lemmas.Option.{get_or_from_slice_get}
use Rattle.lk_link.specs.declared.link.LinkInput.{LinkInput}
use Rattle.lk_link.specs.declared.plan.PlanPart.{PlanPart}
use Rattle.lk_link.specs.Inputs.{Input, input_number, numbered_files}
use Rattle.lk_link.specs.Parts.{all_parts, part_at}
use Rattle.lk_link.specs.Sizes.{capacity}
use Rattle.lk_link.specs.WellFormed.{IsWellFormed}
use Rattle.lk_link.proofs.Elements.{at_index, map_at, map_in}
use Rattle.lk_link.proofs.InputLemmas.{numbered_get}
use Rattle.lk_link.proofs.Numbers.{length-made, made_get, made_of}
use Rattle.lk_link.proofs.Powers.{alignment-pos}
use Rattle.lk_link.proofs.Starts.{next_multiple_is_least}
use Rattle.lk_live.specs.declared.live.Live.{Live}
use Rattle.lk_live.specs.Reach.{AreLive, live_inputs}
use Rattle.lk_sizes.specs.declared.owners.PartContents.{PartContents}
use Rattle.lk_sizes.specs.declared.owners.PartTotal.{PartTotal}
use Rattle.lk_sizes.specs.declared.sorted.InputSortedSection.{InputSortedSection}
use Rattle.lk_sizes.specs.Contents.{contents_of, part_contents}
use Rattle.lk_sizes.specs.Owners.{Filling, live_of, section_taker, size_in, sorted_takers}
use Rattle.lk_sizes.specs.PartOwners.{part_size}
use Rattle.lk_sizes.specs.Resized.{Fall, less_at, less_bytes, resized_section, resized_sections, total_at}
use Rattle.lk_sizes.specs.Harvest.{sorted_section, sorted_sections}
use Rattle.lk_sizes.specs.Sizing.{with_sizes}
use Rattle.lk_sizes.specs.Sorted.{sorted_inputs}
use Rattle.lk_sizes.specs.Tables.{bytes_in, live_size, taker_by}
use Rattle.lk_sizes.proofs.LiveByFiles.{unsorted_by_files}
use Rattle.lk_sizes.proofs.LiveOnes.{live_goes}
use Rattle.lk_sizes.proofs.Made.{map_map}
use Rattle.lk_sizes.proofs.SortedFits.{takes_some}
use Rattle.lk_sizes.proofs.SortedOnes.{sorted_at}
use Rattle.lk_sizes.proofs.Takers.{bytes_in-append, bytes_in_here, bytes_in_other, mapped_flat}
use Rattle.lk_sizes.proofs.ThunkBytes.{sizes_apart}
use Rattle.lk_sizes.proofs.PartAlignments.{part_is_aligned}
use Rattle.lk_sizes.proofs.Wholes.{live_apart}

-- ---- capacities

-- the least multiple behind a greater number is no less
multiples_rise : (a n m : ℕ) → 0 < a → n ≤ m → next_multiple_of n a ≤ next_multiple_of m a
multiples_rise a n m positive order =
    let low = next_multiple_is_least a n positive in
    let high = next_multiple_is_least a m positive in
    elim (cases_lt (next_multiple_of m a) (next_multiple_of n a)) [
      | inl less ↦
          let gap : a ≤ next_multiple_of n a - next_multiple_of m a = le_of_dvd (omega (arith, less)) (dvd-sub a low.multiple high.multiple) in
          omega (arith, less, gap, low.least, high.reaches, order)
      | inr other ↦ other
    ]

-- a greater size takes no less
pub capacities_rise : (part : PlanPart) (n m : ℕ) → 0 < part.alignment → n ≤ m → capacity part n ≤ capacity part m
capacities_rise part n m positive order =
    elim part.packed as (λ b. (if b then n else next_multiple_of n part.alignment) ≤ (if b then m else next_multiple_of m part.alignment)) [
      | true ↦ order
      | false ↦ multiples_rise part.alignment n m positive order
    ]

-- ---- what live sections bring

lesser_brings : (link : LinkInput) (p : ℕ) (f g : Input → ℕ) (xs : List Input) → 0 < (part_at link.plan.sections p).alignment → ((x : Input) → f x ≤ g x)
    → bytes_in link p (map (taker_by f) xs) ≤ bytes_in link p (map (taker_by g) xs)
lesser_brings link p f g [] positive lesser = omega arith
lesser_brings link p f g (x ∷ xs) positive lesser =
    let one : bytes_in link p (taker_by f x ∷ []) ≤ bytes_in link p (taker_by g x ∷ []) = elim (eqb_tells x.section.part p) [
      | inl hit ↦ omega (
        arith,
        bytes_in_here link p (taker_by f x) hit.1,
        bytes_in_here link p (taker_by g x) hit.1,
        capacities_rise (part_at link.plan.sections p) (f x) (g x) positive (lesser x),
      )
      | inr miss ↦ omega (arith, bytes_in_other link p (taker_by f x) miss.1, bytes_in_other link p (taker_by g x) miss.1)
    ] in
    omega (
      arith,
      one,
      bytes_in-append link p (taker_by f x ∷ []) (map (taker_by f) xs),
      bytes_in-append link p (taker_by g x ∷ []) (map (taker_by g) xs),
      lesser_brings link p f g xs positive lesser,
    )

-- lesser sizes bring less to each part
pub live_falls : (link : LinkInput) (live : Live) (p : ℕ) (old new : List ℕ) → IsWellFormed link → ((k : ℕ) → slice_index new k ≤ slice_index old k)
    → live_size (size_in link new) link live p ≤ live_size (size_in link old) link live p
live_falls link live p old new good lesser =
    lesser_brings link p (size_in link new) (size_in link old) (live_inputs link live)
    (alignment-pos (part_at link.plan.sections p).alignment (part_is_aligned link p good)) (λ x. lesser _)

-- ---- parts

-- sections that stand with their files and sorted ones are the live ones
sections_bring : (filling : Filling) (p : ℕ)
    → bytes_in filling.content.link p (flat_map (λ f. map (section_taker filling) (live_of filling.content.link filling.content.live f)) (numbered_files filling.content.link.groups))
    + bytes_in filling.content.link p (sorted_takers filling)
    ≡ live_size (size_in filling.content.link filling.sizes) filling.content.link filling.content.live p
sections_bring filling p =
    let link : LinkInput = filling.content.link in
    let live : Live = filling.content.live in
    omega (
      arith,
      ap (bytes_in link p) (mapped_flat (section_taker filling) (live_of link live) (numbered_files link.groups) ∙ ap (map (section_taker filling)) (unsorted_by_files link live)),
      live_apart (size_in link filling.sizes) link live p,
    )

-- by other sizes a part has other bytes by as much as live sections bring others
pub sizes_differ : (filling : Filling) (sizes : List ℕ) (p : ℕ)
    → part_size (with_sizes filling sizes) p + live_size (size_in filling.content.link filling.sizes) filling.content.link filling.content.live p
    ≡ part_size filling p + live_size (size_in filling.content.link sizes) filling.content.link filling.content.live p
sizes_differ filling sizes p =
    omega (
      arith,
      sizes_apart filling p,
      sizes_apart (with_sizes filling sizes) p,
      sections_bring filling p,
      sections_bring (with_sizes filling sizes) p,
    )

-- live sections bring some of a part's bytes
pub live_within : (filling : Filling) (p : ℕ) → live_size (size_in filling.content.link filling.sizes) filling.content.link filling.content.live p ≤ part_size filling p
live_within filling p = omega (arith, sizes_apart filling p, sections_bring filling p)

-- these totals are what live sections bring, by some sizes; sums are told apart below 2^64
pub record AreBrought (link : LinkInput) (live : Live) (sizes : List ℕ) (totals : List PartTotal) : Type 0 where
  pub count : length totals ≡ length (all_parts link.plan.sections)
  pub bytes : (p : ℕ) (total : PartTotal) → slice_get totals p ≡ Some total → min total.bytes (2 ^ 64) ≡ min (live_size (size_in link sizes) link live p) (2 ^ 64)

total_is : (link : LinkInput) (live : Live) (sizes : List ℕ) (totals : List PartTotal) (p : ℕ) → AreBrought link live sizes totals → p < length (all_parts link.plan.sections)
    → live_size (size_in link sizes) link live p < 2 ^ 64 → total_at totals p ≡ live_size (size_in link sizes) link live p
total_is link live sizes totals p h below fits =
    let at = at_index totals p (omega (arith, h.count, below)) in
    let read : slice_index_or totals p (record { bytes = 0; has_image = false; attrs = 0 }) ≡ at.0 = get_or_from_slice_get totals p at.0 (record { bytes = 0; has_image = false; attrs = 0 }) at.1 in
    omega (arith, ap (λ (t : PartTotal). t.bytes) read, h.bytes p at.0 at.1, fits)

-- contents, by what live sections bring before and after
pub record IsResizing (filling : Filling) (sizes : List ℕ) (contents : List PartContents) (before after : List PartTotal) : Type 0 where
  pub good : IsWellFormed filling.content.link
  pub are : contents ≡ part_contents filling
  pub small : (p : ℕ) (c : PartContents) → slice_get contents p ≡ Some c → c.bytes < 2 ^ 64
  pub old : AreBrought filling.content.link filling.content.live filling.sizes before
  pub new : AreBrought filling.content.link filling.content.live sizes after
  pub lesser : (k : ℕ) → slice_index sizes k ≤ slice_index filling.sizes k

content_at : (filling : Filling) (contents : List PartContents) (p : ℕ) → contents ≡ part_contents filling → p < length (all_parts filling.content.link.plan.sections)
    → slice_get contents p ≡ Some (contents_of filling p)
content_at filling contents p are below =
    ap (λ (cs : List PartContents). slice_get cs p) are ∙ made_get (contents_of filling) (all_parts filling.content.link.plan.sections) p below

content_count : (filling : Filling) (contents : List PartContents) → contents ≡ part_contents filling → length contents ≡ length (all_parts filling.content.link.plan.sections)
content_count filling contents are = ap length are ∙ length-made (contents_of filling) (all_parts filling.content.link.plan.sections) 0

-- the totals of a part, by what they are
record IsLost (filling : Filling) (sizes : List ℕ) (before after : List PartTotal) (p : ℕ) : Type 0 where
  had : total_at before p ≡ live_size (size_in filling.content.link filling.sizes) filling.content.link filling.content.live p
  has : total_at after p ≡ live_size (size_in filling.content.link sizes) filling.content.link filling.content.live p
  falls : total_at after p ≤ total_at before p
  within : total_at before p ≤ part_size filling p

lost_at : (filling : Filling) (sizes : List ℕ) (contents : List PartContents) (before after : List PartTotal) (p : ℕ) → IsResizing filling sizes contents before after
    → p < length (all_parts filling.content.link.plan.sections) → IsLost filling sizes before after p
lost_at filling sizes contents before after p h below =
    let link : LinkInput = filling.content.link in
    let live : Live = filling.content.live in
    let fits : part_size filling p < 2 ^ 64 = h.small p (contents_of filling p) (content_at filling contents p h.are below) in
    let falls = live_falls link live p filling.sizes sizes h.good h.lesser in
    let within = live_within filling p in
    let had = total_is link live filling.sizes before p h.old below (omega (arith, within, fits)) in
    let has = total_is link live sizes after p h.new below (omega (arith, falls, within, fits)) in
    record { had = had; has = has; falls = omega (arith, had, has, falls); within = omega (arith, had, within) }

-- each part loses bytes that it has
pub resizing_falls : (filling : Filling) (sizes : List ℕ) (contents : List PartContents) (before after : List PartTotal) → IsResizing filling sizes contents before after
    → Fall contents before after
resizing_falls filling sizes contents before after h =
    let count = content_count filling contents h.are in
    record {
      count_before = h.old.count ∙ sym count;
      count_after = h.new.count ∙ sym count;
      falls = λ p below. (lost_at filling sizes contents before after p h (omega (arith, below, count))).falls;
      has = λ p c below.
          let inside : p < length (all_parts filling.content.link.plan.sections) = omega (arith, below, count) in
          let read : slice_index_or contents p c ≡ contents_of filling p = get_or_from_slice_get contents p (contents_of filling p) c (content_at filling contents p h.are inside) in
          omega (arith, ap (λ (d : PartContents). d.bytes) read, (lost_at filling sizes contents before after p h inside).within);
    }

-- what is left are the contents by the other sizes
pub less_are : (filling : Filling) (sizes : List ℕ) (contents : List PartContents) (before after : List PartTotal) → IsResizing filling sizes contents before after
    → less_bytes before after contents ≡ part_contents (with_sizes filling sizes)
less_are filling sizes contents before after h =
    let resized : Filling = with_sizes filling sizes in
    let parts : List PlanPart = all_parts filling.content.link.plan.sections in
    let count = content_count filling contents h.are in
    made_of (contents_of resized) (less_bytes before after contents) parts 0 (length-map (enumerate_from 0 contents) (less_at before after) ∙ length-enumerate_from 0 contents ∙ count) (λ p below.
    let lost = lost_at filling sizes contents before after p h below in
    let number : 0 + p ≡ p = omega arith in
    let bytes : part_size filling p - (total_at before p - total_at after p) ≡ part_size resized p
    = omega (arith, lost.had, lost.has, lost.falls, lost.within, sizes_differ filling sizes p) in
    let one : ℕ → ℕ → PartContents = λ q n. record (contents_of resized q) { bytes = n } in
    map_in (less_at before after) (enumerate_from 0 contents) p (0 + p, contents_of filling p) (numbered_get 0 contents p (contents_of filling p) (content_at filling contents p h.are below))
    ∙ ap (λ (q : ℕ). Some (less_at before after (q, contents_of filling p))) number
    ∙ ap (λ (n : ℕ). Some (one p n)) bytes
    ∙ ap (λ (q : ℕ). Some (contents_of resized q)) (sym number))

-- ---- sorted sections

-- those with what they take by other sizes are those by these sizes
pub sorted_resized : (link : LinkInput) (live : Live) (old new : List ℕ) → resized_sections link new (sorted_sections link live old) ≡ sorted_sections link live new
sorted_resized link live old new = map_map (resized_section link new) (sorted_section link old) (sorted_inputs link live)

-- by lesser sizes what they take fits, as it did
pub sorted_fit_still : (filling : Filling) (sizes : List ℕ) (contents : List PartContents) (before after : List PartTotal) (k : ℕ) (s : InputSortedSection) → AreLive filling.content.link filling.content.live
    → IsResizing filling sizes contents before after → slice_get (sorted_sections filling.content.link filling.content.live filling.sizes) k ≡ Some s
    → (resized_section filling.content.link sizes s).size < 2 ^ 64
sorted_fit_still filling sizes contents before after k s are h there =
    let link : LinkInput = filling.content.link in
    let live : Live = filling.content.live in
    let from = map_at (sorted_section link filling.sizes) (sorted_inputs link live) k s there in
    let x : Input = from.0 in
    let lives = sorted_at link live k x from.1 in
    let p : ℕ = x.section.part in
    let below = live_goes link live lives.place x h.good are lives.there in
    let n : ℕ = input_number link.groups x.file x.index in
    let part : PlanPart = part_at link.plan.sections p in
    let fits : capacity part (slice_index sizes n) < 2 ^ 64
    = omega (
      arith,
      capacities_rise part (slice_index sizes n) (slice_index filling.sizes n) (alignment-pos part.alignment (part_is_aligned link p h.good)) (h.lesser n),
      takes_some filling lives.place x lives.there,
      h.small p (contents_of filling p) (content_at filling contents p h.are below),
    ) in
    subst (λ (t : InputSortedSection). (resized_section link sizes t).size < 2 ^ 64) from.2 fits
