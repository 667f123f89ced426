-- A reference into merged data has an address at which the image shows what stands at the offset that it chooses.
use Rattle.std.proofs.Common.{◌≡◌, ℕ, ◌+◌, ◌<◌, Bool, true, false, cond, if◌then◌else◌, List, [], ◌∷◌, length, not, Option, Some, None, Result, Ok, Err, ap, ◌∙◌, inl, inr, arith}
use Rattle.std.specs.Prelude.{ℤ, ◌&&◌}
use Rattle.std.specs.List.{enumerate_from, flat_map, slice_get}
use Rattle.std.specs.Option.{option_map_or}
use Rattle.std.proofs.lemmas.Bool.{cases_lt, lt-ltb}
use Rattle.lk_link.specs.declared.file.InputFile.{InputFile}
use Rattle.lk_link.specs.declared.ids.FileId.{FileId}
use Rattle.lk_link.specs.declared.link.LinkInput.{LinkInput}
use Rattle.lk_link.specs.declared.relocation.Relocation.{Relocation}
use Rattle.lk_link.specs.declared.section.InputSection.{InputSection}
use Rattle.lk_link.specs.InputSlots.{is_regular}
use Rattle.lk_link.specs.Inputs.{NumberedFile, numbered_files}
use Rattle.lk_link.specs.Symbols.{file_number, first_symbol}
use Rattle.lk_layout.specs.Machines.{Machine}
use Rattle.lk_link.proofs.Elements.{append_right, flat_map_in}
use Rattle.lk_link.proofs.InputLemmas.{file_stands, numbered_get}
use Rattle.lk_live.specs.declared.live.Live.{Live}
use Rattle.lk_reach.specs.Units.{local_definition}
use Rattle.lk_merge.specs.declared.output_address.OffsetPastEnd.{OffsetPastEnd}
use Rattle.lk_merge.specs.Addresses.{image_start}
use Rattle.lk_merge.specs.Hash.{fnv64}
use Rattle.lk_merge.specs.LinkInputs.{merge_input}
use Rattle.lk_merge.specs.MergedReferences.{inputs_with, moved}
use Rattle.lk_merge.specs.OffsetsOutside.{is_reference_outside, refers_outside}
use Rattle.lk_merge.specs.OutputAddresses.{MergePlace, address_in, chosen_offset, merged_address, offset_place, output_of, past_end, place_address, plus_addend, symbol_place}
use Rattle.lk_merge.proofs.MergedReferences.{merged_references_show}
use Rattle.lk_layout.specs.LayoutRecord.{LayoutRecord}
use Rattle.lk_resolutions.specs.declared.outside.MergeOffsetPlace.{MergeOffsetPlace}
use Rattle.lk_resolutions.specs.declared.outside.MergeOffsetPlace.TheVariants.{OfRelocation}
use Rattle.lk_resolutions.specs.Outside.{merge_offsets, relocation_outside, relocations_outside, section_outside, symbols_outside}
use Rattle.lk_soundness.specs.Sound.{IsReference}
use Rattle.lk_soundness.proofs.Stands.{ReferencesShow}
use Rattle.lk_layout.proofs.LaidOut.{IsLaidOut, made_by}
use Rattle.lk_soundness.proofs.NamedSymbols.{has_none, past_tells}

-- ---- it chooses inside the data

-- one that refers outside is found
found_outside : (link : LinkInput) (live : Live) (id : FileId) (file : InputFile) (i k : ℕ) (r : Relocation) → IsReference link live id file i k r
    → refers_outside link (local_definition (first_symbol link.groups id) file.symbols r.symbol) r.addend ≡ true
    → (n : ℕ) × (slice_get (merge_offsets link live) n ≡ Some (OfRelocation id i k))
found_outside link live id file i k r is outside =
    let f : NumberedFile = record { id = id; file = file } in
    let files : List NumberedFile = numbered_files link.groups in
    let section : InputSection = is.section in
    let here : List MergeOffsetPlace = OfRelocation id i k ∷ [] in
    let s : ℕ = local_definition (first_symbol link.groups id) file.symbols r.symbol in
    let one : slice_get (relocation_outside link f i (k, r)) 0 ≡ Some (OfRelocation id i k)
    = ap (λ b. slice_get (if not b && refers_outside link s r.addend then here else []) 0) is.asks
    ∙ ap (λ b. slice_get (if b then here else []) 0) outside in
    let at_k : slice_get (enumerate_from 0 section.relocs) k ≡ Some (k, r) = numbered_get 0 section.relocs k r is.relocation ∙ ap (λ n. Some (n, r)) (omega arith) in
    let at_i : slice_get (enumerate_from 0 file.sections) i ≡ Some (i, section) = numbered_get 0 file.sections i section is.at ∙ ap (λ n. Some (n, section)) (omega arith) in
    let among = flat_map_in (relocation_outside link f i) (enumerate_from 0 section.relocs) k 0 (k, r) (OfRelocation id i k) at_k one in
    let all : List MergeOffsetPlace = flat_map (relocation_outside link f i) (enumerate_from 0 section.relocs) in
    let told : slice_get (section_outside link live f (i, section)) among.0 ≡ Some (OfRelocation id i k)
    = ap (λ b. slice_get (if b && is_regular section.slot then all else []) among.0) is.lives
    ∙ ap (λ b. slice_get (if b then all else []) among.0) is.regular
    ∙ among.1 in
    let of_file = flat_map_in (section_outside link live f) (enumerate_from 0 file.sections) i among.0 (i, section) (OfRelocation id i k) at_i told in
    let of_all = flat_map_in (relocations_outside link live) files (file_number link.groups id) of_file.0 f (OfRelocation id i k) (file_stands link.groups id file is.there) of_file.1 in
    let symbols : List MergeOffsetPlace = flat_map (symbols_outside link live) files in
    (length symbols + of_all.0, append_right symbols (flat_map (relocations_outside link live) files) of_all.0 (length symbols + of_all.0) (OfRelocation id i k) (omega arith) of_all.1)

chosen_inside : (link : LinkInput) (live : Live) (id : FileId) (file : InputFile) (i k : ℕ) (r : Relocation) (place : MergePlace) → IsReference link live id file i k r
    → symbol_place link.groups (local_definition (first_symbol link.groups id) file.symbols r.symbol) ≡ Some place → merge_offsets link live ≡ []
    → chosen_offset place r.addend < length place.section.bytes
chosen_inside link live id file i k r place is names inside =
    elim (cases_lt (chosen_offset place r.addend) (length place.section.bytes)) [
      | inl below ↦ below
      | inr past ↦
          let outside : refers_outside link (local_definition (first_symbol link.groups id) file.symbols r.symbol) r.addend ≡ true
          = ap (is_reference_outside r.addend) names
          ∙ ap not (past_tells (chosen_offset place r.addend) (length place.section.bytes) past) in
          let found = found_outside link live id file i k r is outside in
          absurd (has_none (merge_offsets link live) found.0 (OfRelocation id i k) inside found.1)
    ]

-- ---- its address

answered : (link : LinkInput) (starts : ℕ → ℕ) (place : MergePlace) (addend : ℤ) (address : ℕ) (named : Bool)
    → address_in link starts place (if named then place.offset else plus_addend place.offset addend) ≡ Some address
    → (if named then option_map_or (λ a. Ok (Some (plus_addend a addend))) (address_in link starts place (if named then place.offset else plus_addend place.offset addend)) (Err past_end)
    else option_map_or (λ a. Ok (Some a)) (address_in link starts place (if named then place.offset else plus_addend place.offset addend)) (Err past_end))
    ≡ Ok (Some (if named then plus_addend address addend else address))
answered link starts place addend address true found =
    let made : Option ℕ → Result (Option ℕ) OffsetPastEnd = λ o. option_map_or (λ a. Ok (Some (plus_addend a addend))) o (Err past_end) in
    ap made found
answered link starts place addend address false found =
    let made : Option ℕ → Result (Option ℕ) OffsetPastEnd = λ o. option_map_or (λ a. Ok (Some a)) o (Err past_end) in
    ap made found

pub references_show : (machine : Machine) (link : LinkInput) (layout : LayoutRecord) (laid : IsLaidOut machine link layout) → ReferencesShow (made_by laid) layout
references_show machine link layout laid id file i k r place is names =
    let s : ℕ = local_definition (first_symbol link.groups id) file.symbols r.symbol in
    let starts : ℕ → ℕ = image_start layout.merged_string_start_addresses in
    let chosen : ℕ = chosen_offset place r.addend in
    let inside : chosen < length place.section.bytes = chosen_inside link laid.live id file i k r place is names laid.inside in
    let n : ℕ = starts (output_of link place.section) + offset_place fnv64 (inputs_with link place) (merge_input place.number place.section) chosen in
    let found : address_in link starts place chosen ≡ Some n = ap (λ b. cond b (Some n) None) (lt-ltb chosen (length place.section.bytes) inside) in
    let address : ℕ = moved place r.addend n in
    let told : merged_address link starts s r.addend false ≡ Ok (Some address)
    = ap (place_address link starts r.addend false) names ∙ answered link starts place r.addend n place.named found in
    (address, told, merged_references_show.shown link starts s place r.addend address laid.good laid.merged names told)
