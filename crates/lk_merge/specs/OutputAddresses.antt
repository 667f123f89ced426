-- The addresses of what symbols refer to in merged sections.
use Rattle.std.specs.Prelude.{◌≡◌, ℕ, ℤ, ◌+◌, ◌-◌, ◌%◌, ◌^◌, ◌<◌, ◌≤◌, ◌==◌, not, Bool, true, List, Option, None, Some, Result, Ok, Err, if◌then◌else◌, length, drop, nat_lt, option_and_then, slice_get, slice_index, take}
use Rattle.std.specs.Int.{cast_unsigned, w64}
use Rattle.std.specs.List.{list_all}
use Rattle.std.specs.Option.{option_map_or}
use Rattle.lk_link.specs.declared.file.InputFile.{InputFile}
use Rattle.lk_link.specs.declared.link.LinkInput.{LinkInput}
use Rattle.lk_link.specs.declared.section.InputSection.{InputSection}
use Rattle.lk_link.specs.declared.symbol.InputSymbol.{InputSymbol}
use Rattle.lk_link.specs.declared.symbol.SymbolPlacement.{SymbolPlacement}
use Rattle.lk_link.specs.declared.symbol.SymbolPlacement.TheVariants as at
use Rattle.lk_link.specs.InputSlots.{is_merge}
use Rattle.lk_link.specs.Inputs.{NumberedFile, input_number}
use Rattle.lk_link.specs.NumberedSymbols.{numbered_symbol}
use Rattle.lk_link.specs.Parts.{part_sections}
use Rattle.lk_merge.specs.declared.output_address.OffsetPastEnd.{OffsetPastEnd}
use Rattle.lk_merge.specs.Hash.{fnv64}
use Rattle.lk_merge.specs.Image.{all_pieces, image, image_place, piece_at}
use Rattle.lk_merge.specs.LinkInputs.{merge_input, merge_inputs}
use Rattle.lk_merge.specs.Pieces.{Piece, MergeInput, is_terminated, pieces_of}

-- ---- places in merged sections

-- where an offset of an input stands in the image: as far behind its piece's place as it is inside the piece
abbrev pub offset_place : (Piece → ℕ) → List MergeInput → MergeInput → ℕ → ℕ
offset_place hash inputs x offset = option_map_or (λ q. image_place hash (all_pieces inputs) q.0 + q.1) (piece_at (pieces_of x) offset) 0

-- what a symbol that is placed in a merged section names: the section, its number over all input sections, and an offset; and whether it has a name
pub record MergePlace : Type 0 where
  pub number : ℕ
  pub section : InputSection
  pub offset : ℕ
  pub named : Bool

-- that of a placement in a file, unless it is elsewhere
abbrev pub placed_in : List (List InputFile) → NumberedFile → Bool → SymbolPlacement → Option MergePlace
placed_in groups f named (at.Section index offset) = option_and_then (λ x. if is_merge x.slot
    then Some (record { number = input_number groups f.id index; section = x; offset = offset; named = named }) else None)
    (slice_get f.file.sections index)
placed_in groups f named _ = None

-- that of a symbol of a file
abbrev pub merge_place : List (List InputFile) → NumberedFile × InputSymbol → Option MergePlace
merge_place groups q = placed_in groups q.0 (not (length q.1.name == 0)) q.1.at

-- that of the symbol with a number
abbrev pub symbol_place : List (List InputFile) → ℕ → Option MergePlace
symbol_place groups s = option_and_then (merge_place groups) (numbered_symbol groups s)

-- ---- addresses

-- the refusal
abbrev pub past_end : OffsetPastEnd
past_end = record {}

-- an addend added within 64 bits
abbrev pub plus_addend : ℕ → ℤ → ℕ
plus_addend n addend = (n + cast_unsigned w64 addend) % 2 ^ 64

-- the offset that a reference to such a place chooses: of a named symbol its own; of an unnamed one that, moved by the addend
abbrev pub chosen_offset : MergePlace → ℤ → ℕ
chosen_offset place addend = if place.named then place.offset else plus_addend place.offset addend

-- the output section that a merged section goes to
abbrev pub output_of : LinkInput → InputSection → ℕ
output_of link x = slice_index (part_sections link.plan.sections) x.part

-- the address of an offset of a merged section, by where the images start; none at the end of its data or past it
abbrev pub address_in : LinkInput → (ℕ → ℕ) → MergePlace → ℕ → Option ℕ
address_in link starts place offset =
    if nat_lt offset (length place.section.bytes)
    then Some (starts (output_of link place.section)
    + offset_place fnv64 (merge_inputs link (output_of link place.section)) (merge_input place.number place.section) offset)
    else None

-- the address of a reference: that of the offset that it chooses; of a named symbol it is moved by the addend; an unnamed one may
-- be asked to be 0
abbrev pub reference_address : LinkInput → (ℕ → ℕ) → ℤ → Bool → MergePlace → Result (Option ℕ) OffsetPastEnd
reference_address link starts addend zero_unnamed place =
    if place.named then option_map_or (λ a. Ok (Some (plus_addend a addend))) (address_in link starts place (chosen_offset place addend)) (Err past_end)
    else if zero_unnamed then Ok (Some 0)
    else option_map_or (λ a. Ok (Some a)) (address_in link starts place (chosen_offset place addend)) (Err past_end)

-- that of a reference to what a symbol names; none where it names no place in a merged section
abbrev pub place_address : LinkInput → (ℕ → ℕ) → ℤ → Bool → Option MergePlace → Result (Option ℕ) OffsetPastEnd
place_address link starts addend zero_unnamed place = option_map_or (reference_address link starts addend zero_unnamed) place (Ok None)

-- that of a reference to the symbol with a number (libwild: `get_merged_string_output_address`)
abbrev pub merged_address : LinkInput → (ℕ → ℕ) → ℕ → ℤ → Bool → Result (Option ℕ) OffsetPastEnd
merged_address link starts s addend zero_unnamed = place_address link starts addend zero_unnamed (symbol_place link.groups s)

-- ---- what stands there

-- from a place on the image shows what an input has from an offset to its piece's end
pub record Shows (inputs : List MergeInput) (x : MergeInput) (offset place : ℕ) : Type 0 where
  pub piece : Piece
  pub distance : ℕ
  pub covers : piece_at (pieces_of x) offset ≡ Some (piece, distance)
  pub inside : distance < length piece
  pub within : place + (length piece - distance) ≤ length (image fnv64 (all_pieces inputs))
  pub bytes : take (length piece - distance) (drop place (image fnv64 (all_pieces inputs))) ≡ take (length piece - distance) (drop offset x.bytes)

-- the address of an offset of a merged section shows what the section has there
abbrev pub MergedAddressesShow : Type 0
MergedAddressesShow = (link : LinkInput) (starts : ℕ → ℕ) (place : MergePlace) (k offset address : ℕ)
    → slice_get (merge_inputs link (output_of link place.section)) k ≡ Some (merge_input place.number place.section)
    → list_all is_terminated (merge_inputs link (output_of link place.section)) ≡ true → address_in link starts place offset ≡ Some address
    → (n : ℕ) × (address ≡ starts (output_of link place.section) + n)
    × Shows (merge_inputs link (output_of link place.section)) (merge_input place.number place.section) offset n
