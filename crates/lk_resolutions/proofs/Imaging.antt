-- Where images stand, and that they have room there.
use Rattle.std.proofs.Common.{◌≡◌, ℕ, ◌+◌, ◌<◌, ◌≤◌, ◌^◌, Bool, true, false, List, [], ◌∷◌, length, map, Option, Some, None, refl, sym, ap, ◌∙◌, arith, zero-add}
use Rattle.std.specs.Prelude.{◌==◌, pos}
use Rattle.std.specs.List.{enumerate_from, filter, slice_get, slice_index}
use Rattle.std.specs.Option.{option_map_or}
use Rattle.std.proofs.Math.Path.{fun_ext}
use Rattle.std.proofs.lemmas.Bool.{and_parts, eqb-true}
use Rattle.std.proofs.lemmas.List.Sums.{sum_by_more_le}
use Rattle.std.proofs.lemmas.List.{length-map}
use Rattle.std.proofs.lemmas.List.FromFn.{length-enumerate_from}
use Rattle.std.proofs.lemmas.Option.{get_or_from_slice_get, slice_get_within}
use Rattle.lk_link.specs.declared.link.LinkInput.{LinkInput}
use Rattle.lk_link.specs.declared.plan.PlanPart.{PlanPart}
use Rattle.lk_link.specs.declared.plan.PlanSection.{PlanSection}
use Rattle.lk_link.specs.InputSlots.{is_merge}
use Rattle.lk_link.specs.Inputs.{Input, all_inputs}
use Rattle.lk_link.specs.Parts.{all_parts, part_at, part_sections}
use Rattle.lk_link.specs.WellFormed.{IsWellFormed}
use Rattle.lk_link.proofs.Elements.{filter_at, map_at, map_in, numbered_at}
use Rattle.lk_link.proofs.Numbers.{made_at}
use Rattle.lk_link.proofs.PartNumbers.{first_part-le}
use Rattle.lk_merge.specs.Addresses.{ImagesFit}
use Rattle.lk_merge.specs.Hash.{fnv64}
use Rattle.lk_merge.specs.Image.{all_buckets, all_pieces, firsts_behind, image}
use Rattle.lk_merge.specs.LinkInputs.{is_merged_into, link_inputs, merge_input, merge_inputs}
use Rattle.lk_merge.specs.OutputAddresses.{MergePlace, output_of, place_address, symbol_place}
use Rattle.lk_merge.specs.Pieces.{MergeInput}
use Rattle.lk_merge.proofs.MergedReferences.{output_there, symbol_place_is}
use Rattle.lk_merge.proofs.SymbolPlaces.{output_at, outputs_count}
use Rattle.lk_sizes.specs.Images.{image_address, image_addresses, image_number, image_part}
use Rattle.lk_sizes.specs.Owners.{ImageOwner, Owner, bytes_of, owner_address, owner_bytes, Filling}
use Rattle.lk_sizes.specs.PartOwners.{EndsFit, owners_of}
use Rattle.lk_sizes.proofs.ImagePlaces.{images_stand_where_inputs_go}
use Rattle.lk_sizes.proofs.ImageStarts.{IsFirst, image_is_first}
use Rattle.lk_resolutions.specs.OutputContent.{image_lens, lens_of}
use Rattle.lk_resolutions.specs.Resolutions.{found_or_0, merged_value}
use Rattle.lk_sizes.proofs.Placed.{size-le}

-- ---- lengths

pub len_at : (link : LinkInput) (s : ℕ) (inputs : List MergeInput) → slice_get (link_inputs link).outputs s ≡ Some inputs
    → slice_index (image_lens link) s ≡ length (image fnv64 (all_pieces inputs))
unfolding lens_of
len_at link s inputs there =
    let len : List MergeInput → ℕ = λ xs. length (image fnv64 (all_pieces xs)) in
    get_or_from_slice_get (map len (link_inputs link).outputs) s (len inputs) 0 (map_in len (link_inputs link).outputs s inputs there)

-- the inputs of an output section that is there
pub inputs_at : (link : LinkInput) (s : ℕ) (inputs : List MergeInput) → slice_get (link_inputs link).outputs s ≡ Some inputs → (s < length link.plan.sections) × (inputs ≡ merge_inputs link s)
inputs_at link s inputs there =
    let below : s < length link.plan.sections = omega (arith, slice_get_within (link_inputs link).outputs s inputs there, outputs_count link) in
    let both : Some inputs ≡ Some (merge_inputs link s) = sym there ∙ output_at link s below in
    let same : inputs ≡ merge_inputs link s = cc in
    (below, same)

-- ---- inputs

-- an input of an output section is a merged section that goes there
pub record ComesFrom (link : LinkInput) (s : ℕ) (y : MergeInput) : Type 0 where
  pub number : ℕ
  pub input : Input
  pub there : slice_get (all_inputs link.groups) number ≡ Some input
  pub merged : is_merge input.section.slot ≡ true
  pub goes : slice_get (part_sections link.plan.sections) input.section.part ≡ Some s
  pub is : merge_input number input.section ≡ y

goes_some : (o : Option ℕ) (s : ℕ) → option_map_or (λ t. t == s) o false ≡ true → o ≡ Some s
goes_some None s h = absurd (cc)
goes_some (Some t) s h = ap (λ (n : ℕ). Some n) (eqb-true t s h)

pub comes_from : (link : LinkInput) (s k : ℕ) (y : MergeInput) → slice_get (merge_inputs link s) k ≡ Some y → ComesFrom link s y
comes_from link s k y there =
    let sections : List ℕ = part_sections link.plan.sections in
    let goes : ℕ × Input → Bool = λ q. is_merged_into sections s q.1.section in
    let made : ℕ × Input → MergeInput = λ q. merge_input q.0 q.1.section in
    let all : List (ℕ × Input) = enumerate_from 0 (all_inputs link.groups) in
    let from = map_at made (filter goes all) k y there in
    let q : ℕ × Input = from.0 in
    let before = filter_at goes all k q from.1 in
    let number = numbered_at 0 (all_inputs link.groups) before.0 q before.1 in
    let both = and_parts (is_merge q.1.section.slot) (option_map_or (λ t. t == s) (slice_get sections q.1.section.part) false) before.2 in
    let place : before.0 ≡ q.0 = omega (arith, number.0) in
    record {
      number = q.0;
      input = q.1;
      there = ap (slice_get (all_inputs link.groups)) (sym place) ∙ number.1;
      merged = both.0;
      goes = goes_some (slice_get sections q.1.section.part) s both.1;
      is = from.2;
    }

-- where there are inputs, their image has a part, of alignment 1
pub record HasPart (link : LinkInput) (s : ℕ) : Type 0 where
  pub part : ℕ
  pub is : image_part link s ≡ Some part
  pub alignment : (part_at link.plan.sections part).alignment ≡ 1

pub has_part : (link : LinkInput) (s k : ℕ) (y : MergeInput) → IsWellFormed link → slice_get (merge_inputs link s) k ≡ Some y → HasPart link s
has_part link s k y good there =
    let from = comes_from link s k y there in
    let stands = images_stand_where_inputs_go link from.number from.input good from.there from.merged in
    let section : slice_index (part_sections link.plan.sections) from.input.section.part ≡ s = get_or_from_slice_get (part_sections link.plan.sections) from.input.section.part s 0 from.goes in
    record { part = from.input.section.part; is = ap (image_part link) (sym section) ∙ stands.part; alignment = stands.alignment }

-- ---- room

-- the address of an image that has a part
pub record StandsAt (filling : Filling) (starts : List ℕ) (s p : ℕ) : Type 0 where
  pub first : IsFirst filling s p
  pub address : slice_index (image_addresses filling starts) s ≡ slice_index starts p

address_in_part : (filling : Filling) (starts : List ℕ) (s p n : ℕ) (o : Option ℕ) → o ≡ Some p → image_number filling s p ≡ n
    → option_map_or (λ q. owner_address (slice_index starts q) (part_at filling.content.link.plan.sections q) (owners_of filling q) (image_number filling s q)) o 0
    ≡ owner_address (slice_index starts p) (part_at filling.content.link.plan.sections p) (owners_of filling p) n
address_in_part filling starts s p n o is number =
    let sections = filling.content.link.plan.sections in
    ap (λ (r : Option ℕ). option_map_or (λ q. owner_address (slice_index starts q) (part_at sections q) (owners_of filling q) (image_number filling s q)) r 0) is
    ∙ ap (owner_address (slice_index starts p) (part_at sections p) (owners_of filling p)) number

address_at : (filling : Filling) (starts : List ℕ) (s : ℕ) → s < length filling.content.link.plan.sections
    → slice_index (image_addresses filling starts) s ≡ image_address filling starts s
address_at filling starts s below =
    made_at (image_address filling starts) 0 filling.content.link.plan.sections 0 s below ∙ ap (image_address filling starts) (zero-add s)

pub stands_at : (filling : Filling) (starts : List ℕ) (s p : ℕ) → s < length filling.content.link.plan.sections → image_part filling.content.link s ≡ Some p → StandsAt filling starts s p
stands_at filling starts s p below is =
    let link : LinkInput = filling.content.link in
    let first = image_is_first filling s p below is in
    let none : owner_address (slice_index starts p) (part_at link.plan.sections p) (owners_of filling p) 0 ≡ slice_index starts p = omega arith in
    record {
      first = first;
      address = address_at filling starts s below ∙ address_in_part filling starts s p 0 (image_part link s) is first.number ∙ none;
    }

-- the first owner of a part ends where the part does, or before
first_fits : (part : PlanPart) (owners : List Owner) (o : Owner) → slice_get owners 0 ≡ Some o → owner_bytes part o ≤ bytes_of part owners
first_fits part owners o there =
    let more = sum_by_more_le (owner_bytes part) owners 0 o (slice_get_within owners 0 o there) in
    let same = ap (owner_bytes part) (get_or_from_slice_get owners 0 o o there) in
    omega (arith, more, same)

no_image : length (image fnv64 []) ≡ 0
unfolding all_buckets firsts_behind
no_image = refl

image_fits : (filling : Filling) (starts : List ℕ) (s : ℕ) (inputs : List MergeInput) → filling.content.merged_lens ≡ image_lens filling.content.link → IsWellFormed filling.content.link
    → length starts ≡ length (all_parts filling.content.link.plan.sections) → EndsFit filling starts → slice_get (link_inputs filling.content.link).outputs s ≡ Some inputs
    → (o : Option ℕ) → image_part filling.content.link s ≡ o → slice_index (image_addresses filling starts) s + length (image fnv64 (all_pieces inputs)) < 2 ^ 64
image_fits filling starts s inputs lens good count fit there (Some p) is =
    let link : LinkInput = filling.content.link in
    let at = inputs_at link s inputs there in
    let stands = stands_at filling starts s p at.0 is in
    let part : PlanPart = part_at link.plan.sections p in
    let len : ℕ = slice_index filling.content.merged_lens s in
    let bytes = first_fits part (owners_of filling p) (ImageOwner s len) stands.first.owner in
    let within : p < length starts = omega (arith, stands.first.below, first_part-le link.plan.sections (s + 1), count) in
    omega (arith, stands.address, ap (λ (ls : List ℕ). slice_index ls s) lens, len_at link s inputs there, bytes, size-le part len, fit p within)
image_fits filling starts s [] lens good count fit there None is =
    let link : LinkInput = filling.content.link in
    let at = inputs_at link s [] there in
    let address : slice_index (image_addresses filling starts) s ≡ 0
    = address_at filling starts s at.0
    ∙ ap (λ (o : Option ℕ). option_map_or (λ q. owner_address (slice_index starts q) (part_at link.plan.sections q) (owners_of filling q) (image_number filling s q)) o 0) is in
    omega (arith, address, no_image)
image_fits filling starts s (y ∷ ys) lens good count fit there None is =
    let link : LinkInput = filling.content.link in
    let at = inputs_at link s (y ∷ ys) there in
    let has = has_part link s 0 y good (ap (λ (xs : List MergeInput). slice_get xs 0) (sym at.1)) in
    let both : None ≡ Some has.part = sym is ∙ has.is in
    absurd (cc)

-- images have room where parts end below 2^64
pub images_fit : (filling : Filling) (starts : List ℕ) → filling.content.merged_lens ≡ image_lens filling.content.link → IsWellFormed filling.content.link
    → length starts ≡ length (all_parts filling.content.link.plan.sections) → EndsFit filling starts
    → ImagesFit (link_inputs filling.content.link).outputs (image_addresses filling starts)
images_fit filling starts lens good count fit =
    let link : LinkInput = filling.content.link in
    record {
      count = length-map (enumerate_from 0 link.plan.sections) (λ (q : ℕ × PlanSection). image_address filling starts q.0)
          ∙ length-enumerate_from 0 link.plan.sections ∙ sym (outputs_count link);
      ends = λ s inputs there. image_fits filling starts s inputs lens good count fit there (image_part link s) refl;
    }

-- ---- values of symbols, by where images start

-- where images start at the same addresses, symbols have the same values
same_value : (link : LinkInput) (a b : ℕ → ℕ) (s : ℕ) → IsWellFormed link → ((t : ℕ) → t < length link.plan.sections → a t ≡ b t) → (o : Option MergePlace) → symbol_place link.groups s ≡ o
    → found_or_0 (place_address link a (pos 0) true o) ≡ found_or_0 (place_address link b (pos 0) true o)
same_value link a b s good same None is = refl
same_value link a b s good same (Some place) is =
    ap (λ (n : ℕ). found_or_0 (place_address link (λ _. n) (pos 0) true (Some place))) (same (output_of link place.section) (output_there link place good (symbol_place_is link s place is)).1)

pub same_values : (link : LinkInput) (a b : ℕ → ℕ) → IsWellFormed link → ((t : ℕ) → t < length link.plan.sections → a t ≡ b t) → merged_value link a ≡ merged_value link b
same_values link a b good same = fun_ext (λ s. same_value link a b s good same (symbol_place link.groups s) refl)
