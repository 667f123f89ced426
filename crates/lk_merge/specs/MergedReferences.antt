-- What stands at the addresses of references into merged sections, in a link of which merging refuses nothing.
use Rattle.std.specs.Prelude.{◌≡◌, ℕ, ℤ, ◌+◌, true, false, List, None, Some, Ok, if◌then◌else◌, slice_get}
use Rattle.std.specs.List.{list_all}
use Rattle.lk_link.specs.declared.link.LinkInput.{LinkInput}
use Rattle.lk_link.specs.WellFormed.{IsWellFormed}
use Rattle.lk_merge.specs.Hash.{fnv64}
use Rattle.lk_merge.specs.LinkInputs.{first_refusal, link_inputs, merge_input, merge_inputs}
use Rattle.lk_merge.specs.OutputAddresses.{MergePlace, Shows, chosen_offset, merged_address, output_of, plus_addend, symbol_place}
use Rattle.lk_merge.specs.Pieces.{MergeInput, is_terminated}

-- merging refuses nothing of a link
abbrev pub NothingRefused : LinkInput → Type 0
NothingRefused link = first_refusal fnv64 link.options.bucket_limit 0 (link_inputs link).outputs ≡ None

-- the inputs of the output section that a merged section goes to
abbrev pub inputs_with : LinkInput → MergePlace → List MergeInput
inputs_with link place = merge_inputs link (output_of link place.section)

-- an address, moved by an addend where the symbol has a name
abbrev pub moved : MergePlace → ℤ → ℕ → ℕ
moved place addend address = if place.named then plus_addend address addend else address

-- the address of a reference is in the image of its output section, moved by the addend of a named symbol; there the image shows what the section has
-- at the chosen offset, to the end of its piece
pub record IsShownAt (link : LinkInput) (starts : ℕ → ℕ) (place : MergePlace) (addend : ℤ) (address : ℕ) : Type 0 where
  pub behind : ℕ
  pub at : address ≡ moved place addend (starts (output_of link place.section) + behind)
  pub shows : Shows (inputs_with link place) (merge_input place.number place.section) (chosen_offset place addend) behind

-- ---- a law

-- a section in which a symbol is placed is an input of its output section; where merging refuses nothing, all inputs are terminated; and each address
-- that a reference has shows what it refers to
pub record MergedReferencesShow : Type 0 where
  pub inputs : (link : LinkInput) (s : ℕ) (place : MergePlace) → IsWellFormed link → symbol_place link.groups s ≡ Some place
      → (k : ℕ) × (slice_get (inputs_with link place) k ≡ Some (merge_input place.number place.section))
  pub terminated : (link : LinkInput) (s : ℕ) (inputs : List MergeInput) → NothingRefused link → slice_get (link_inputs link).outputs s ≡ Some inputs
      → list_all is_terminated inputs ≡ true
  pub shown : (link : LinkInput) (starts : ℕ → ℕ) (s : ℕ) (place : MergePlace) (addend : ℤ) (address : ℕ) → IsWellFormed link → NothingRefused link
      → symbol_place link.groups s ≡ Some place → merged_address link starts s addend false ≡ Ok (Some address) → IsShownAt link starts place addend address
