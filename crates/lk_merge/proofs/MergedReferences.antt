-- References into merged sections: the inputs that they name, and what stands at their addresses.
use Rattle.std.proofs.Common.{◌≡◌, ℕ, zero, suc, ◌+◌, ◌<◌, Bool, true, false, List, [], ◌∷◌, length, Option, None, Some, Ok, Err, option_and_then, option_map, refl, sym, ap, ◌∙◌, arith}
use Rattle.std.specs.Prelude.{ℤ, ◌==◌, if◌then◌else◌, not}
use Rattle.std.specs.List.{list_all, position, slice_get}
use Rattle.std.specs.Option.{option_map_or}
use Rattle.std.proofs.lemmas.Option.{get_or_from_slice_get}
use Rattle.lk_link.specs.declared.link.LinkInput.{LinkInput}
use Rattle.lk_link.specs.declared.section.InputSection.{InputSection}
use Rattle.lk_link.specs.declared.symbol.InputSymbol.{InputSymbol}
use Rattle.lk_link.specs.declared.symbol.SymbolPlacement.{SymbolPlacement}
use Rattle.lk_link.specs.declared.symbol.SymbolPlacement.TheVariants as at
use Rattle.lk_link.specs.Files.{file_in, first_some}
use Rattle.lk_link.specs.InputSlots.{is_merge}
use Rattle.lk_link.specs.Inputs.{Input, NumberedFile, input_number}
use Rattle.lk_link.specs.NumberedSymbols.{numbered_symbols}
use Rattle.lk_link.specs.Parts.{part_sections}
use Rattle.lk_link.specs.WellFormed.{IsWellFormed}
use Rattle.lk_link.proofs.InputLemmas.{inputs_follow}
use Rattle.lk_merge.specs.declared.error.MergeError.{MergeError}
use Rattle.lk_merge.specs.declared.error.MergeError.TheVariants.{NotTerminated}
use Rattle.lk_merge.specs.Hash.{fnv64}
use Rattle.lk_merge.specs.Image.{all_pieces}
use Rattle.lk_merge.specs.LinkInputs.{first_refusal, link_inputs, merge_input}
use Rattle.lk_merge.specs.MergedReferences.{IsShownAt, MergedReferencesShow, NothingRefused, inputs_with, moved}
use Rattle.lk_merge.specs.Merging.{first_of, long_refusal, merge_refusal}
use Rattle.lk_merge.specs.OutputAddresses.{MergePlace, address_in, chosen_offset, merge_place, merged_address, output_of, past_end, placed_in, plus_addend, reference_address, symbol_place}
use Rattle.lk_merge.specs.OutputAddressTables.{IsMergePlace}
use Rattle.lk_merge.specs.Pieces.{MergeInput, is_terminated}
use Rattle.lk_merge.proofs.MergeBytes.{part_goes}
use Rattle.lk_merge.proofs.PlaceInInput.{part_within}
use Rattle.lk_merge.proofs.Refusing.{all_from_none}
use Rattle.lk_merge.proofs.Showing.{merged_addresses_show}
use Rattle.lk_merge.proofs.SymbolPlaces.{file_of_symbol, is_input, output_at}

-- ---- what is merged is terminated

first_none : {X : Type 0} (a b : Option X) → first_some a b ≡ None → (a ≡ None) × (b ≡ None)
unfolding first_some
first_none None b h = (refl, h)
first_none (Some x) b h = absurd (cc)

no_place : (f : ℕ → MergeError) (o : Option ℕ) → option_map f o ≡ None → o ≡ None
no_place f None h = refl
no_place f (Some k) h = absurd (cc)

pub all_terminated : (limit k : ℕ) (outputs : List (List MergeInput)) (i : ℕ) (inputs : List MergeInput) → first_refusal fnv64 limit k outputs ≡ None → slice_get outputs i ≡ Some inputs
    → list_all is_terminated inputs ≡ true
unfolding first_of
all_terminated limit k [] i inputs none there = absurd (cc)
all_terminated limit k (xs ∷ rest) zero inputs none there =
    let same : xs ≡ inputs = cc in
    let here = first_none (merge_refusal fnv64 k limit xs) (first_refusal fnv64 limit (k + 1) rest) none in
    let place : Option ℕ = position (λ x. not (is_terminated x)) xs in
    let first = first_none (option_map (λ n. NotTerminated k n) place) (long_refusal fnv64 k limit (all_pieces xs)) here.0 in
    ap (list_all is_terminated) (sym same) ∙ all_from_none xs (no_place (λ n. NotTerminated k n) place first.0)
all_terminated limit k (xs ∷ rest) (suc i) inputs none there =
    all_terminated limit (k + 1) rest i inputs (first_none (merge_refusal fnv64 k limit xs) (first_refusal fnv64 limit (k + 1) rest) none).1 there

-- ---- places of symbols

placed : (link : LinkInput) (f : NumberedFile) (named : Bool) (p : SymbolPlacement) (place : MergePlace) → file_in link.groups f.id ≡ Some f.file → placed_in link.groups f named p ≡ Some place → IsMergePlace link place
placed link f named (at.Section index offset) place there is = in_section (slice_get f.file.sections index) refl is
  where
    here : InputSection → MergePlace
    here x = record { number = input_number link.groups f.id index; section = x; offset = offset; named = named }

    by : (x : InputSection) (b : Bool) → is_merge x.slot ≡ b → slice_get f.file.sections index ≡ Some x → (if b then Some (here x) else None) ≡ Some place → IsMergePlace link place
    by x true merged at_x e =
        let same : here x ≡ place = cc in
        let input : Input = record { file = f.id; index = index; section = x } in
        rw (sym same) (record { input = input; there = inputs_follow.at link.groups f.id f.file index x there at_x; section = refl; merged = merged })
    by x false merged at_x e = absurd (cc)

    in_section : (o : Option InputSection) → slice_get f.file.sections index ≡ o → option_and_then (λ x. if is_merge x.slot then Some (here x) else None) o ≡ Some place → IsMergePlace link place
    in_section None at_x e = absurd (cc)
    in_section (Some x) at_x e = by x (is_merge x.slot) refl at_x e
placed link f named (at.Common p n) place there is = absurd (cc)
placed link f named (at.Absolute n) place there is = absurd (cc)
placed link f named at.Undef place there is = absurd (cc)
placed link f named at.Dynamic place there is = absurd (cc)
placed link f named at.Undefined place there is = absurd (cc)
placed link f named at.ForceUndefined place there is = absurd (cc)
placed link f named (at.SectionStart s) place there is = absurd (cc)
placed link f named (at.SectionEnd s) place there is = absurd (cc)
placed link f named (at.SectionGroupEnd s) place there is = absurd (cc)
placed link f named at.TlsEnd place there is = absurd (cc)
placed link f named at.LoadBaseAddress place there is = absurd (cc)
placed link f named (at.Redirect e l provide) place there is = absurd (cc)

place_by : (link : LinkInput) (s : ℕ) (place : MergePlace) (o : Option (NumberedFile × InputSymbol)) → slice_get (numbered_symbols link.groups) s ≡ o
    → option_and_then (merge_place link.groups) o ≡ Some place → IsMergePlace link place
place_by link s place None there is = absurd (cc)
place_by link s place (Some q) there is = placed link q.0 (not (length q.1.name == 0)) q.1.at place (file_of_symbol link.groups s q.0 q.1 there) is

-- what a symbol names in a merged section is a place there
pub symbol_place_is : (link : LinkInput) (s : ℕ) (place : MergePlace) → symbol_place link.groups s ≡ Some place → IsMergePlace link place
symbol_place_is link s place is = place_by link s place (slice_get (numbered_symbols link.groups) s) refl is

-- its output section is one of the plan's
pub output_there : (link : LinkInput) (place : MergePlace) → IsWellFormed link → IsMergePlace link place
    → (slice_get (part_sections link.plan.sections) place.section.part ≡ Some (output_of link place.section)) × (output_of link place.section < length link.plan.sections)
output_there link place good is =
    let goes = part_goes 0 link.plan.sections place.section.part (part_within link place good is) in
    let same : output_of link place.section ≡ goes.0 = get_or_from_slice_get (part_sections link.plan.sections) place.section.part goes.0 0 goes.1 in
    (goes.1 ∙ ap (λ (n : ℕ). Some n) (sym same), omega (arith, same, goes.2))

-- and it is one of the inputs there
pub place_among : (link : LinkInput) (place : MergePlace) → IsWellFormed link → IsMergePlace link place
    → (k : ℕ) × (slice_get (inputs_with link place) k ≡ Some (merge_input place.number place.section))
place_among link place good is =
    let t : ℕ = output_of link place.section in
    let at_section : is_merge is.input.section.slot ≡ true = ap (λ (x : InputSection). is_merge x.slot) is.section ∙ is.merged in
    let goes : slice_get (part_sections link.plan.sections) is.input.section.part ≡ Some t
    = ap (λ (x : InputSection). slice_get (part_sections link.plan.sections) x.part) is.section ∙ (output_there link place good is).0 in
    let among = is_input link place.number t is.input is.there at_section goes in
    (among.0, among.1 ∙ ap (λ (x : InputSection). Some (merge_input place.number x)) is.section)

-- ---- addresses

-- an address that is answered is that of the chosen offset, moved
answered : (place : MergePlace) (addend : ℤ) (address : ℕ) (named : Bool) (o : Option ℕ)
    → (if named then option_map_or (λ a. Ok (Some (plus_addend a addend))) o (Err past_end) else option_map_or (λ a. Ok (Some a)) o (Err past_end)) ≡ Ok (Some address)
    → (a : ℕ) × (o ≡ Some a) × (address ≡ (if named then plus_addend a addend else a))
answered place addend address true None is = absurd (cc)
answered place addend address true (Some a) is = (a, refl, cc)
answered place addend address false None is = absurd (cc)
answered place addend address false (Some a) is = (a, refl, cc)

shown : (link : LinkInput) (starts : ℕ → ℕ) (s : ℕ) (place : MergePlace) (addend : ℤ) (address : ℕ) → IsWellFormed link → NothingRefused link
    → symbol_place link.groups s ≡ Some place → merged_address link starts s addend false ≡ Ok (Some address) → IsShownAt link starts place addend address
shown link starts s place addend address good none names is =
    let stands = symbol_place_is link s place names in
    let among = place_among link place good stands in
    let at_t = output_at link (output_of link place.section) (output_there link place good stands).1 in
    let terminated : list_all is_terminated (inputs_with link place) ≡ true
    = all_terminated link.options.bucket_limit 0 (link_inputs link).outputs (output_of link place.section) (inputs_with link place) none at_t in
    let here : reference_address link starts addend false place ≡ Ok (Some address)
    = sym (ap (λ (o : Option MergePlace). option_map_or (reference_address link starts addend false) o (Ok None)) names) ∙ is in
    let found = answered place addend address place.named (address_in link starts place (chosen_offset place addend)) here in
    let shows = merged_addresses_show link starts place among.0 (chosen_offset place addend) found.0 among.1 terminated found.1 in
    record { behind = shows.0; at = found.2 ∙ ap (moved place addend) shows.1; shows = shows.2 }

pub merged_references_show : MergedReferencesShow
merged_references_show = record {
  inputs = λ link s place good names. place_among link place good (symbol_place_is link s place names);
  terminated = λ link s inputs none there. all_terminated link.options.bucket_limit 0 (link_inputs link).outputs s inputs none there;
  shown = shown;
}
