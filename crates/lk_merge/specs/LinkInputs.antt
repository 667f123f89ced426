-- Which input sections of a link are merged into which output section.
use Rattle.std.specs.Prelude.{◌≡◌, ℕ, ◌==◌, ◌&&◌, Bool, false, List, Option, None, Some, Result, Ok, Err, filter, length, map, slice_get}
use Rattle.std.specs.Int.{next_multiple_of}
use Rattle.std.specs.List.{enumerate_from, range_with_len}
use Rattle.std.specs.Option.{option_map_or}
use Rattle.lk_link.specs.declared.link.LinkInput.{LinkInput}
use Rattle.lk_link.specs.declared.section.InputSection.{InputSection}
use Rattle.lk_link.specs.InputSlots.{is_merge}
use Rattle.lk_link.specs.Inputs.{Input, all_inputs}
use Rattle.lk_link.specs.Parts.{part_sections}
use Rattle.lk_merge.specs.declared.error.MergeError.{MergeError}
use Rattle.lk_merge.specs.declared.error.MergeError.TheVariants.{NoMemory}
use Rattle.lk_merge.specs.Merging.{first_of, merge_refusal}
use Rattle.lk_merge.specs.Pieces.{Piece, MergeInput}

-- a section is merged into an output section, where the sections of the parts are these
abbrev pub is_merged_into : List ℕ → ℕ → InputSection → Bool
is_merged_into sections s x = is_merge x.slot && option_map_or (λ t. t == s) (slice_get sections x.part) false

-- an input section as what is merged, by its number over all input sections
abbrev pub merge_input : ℕ → InputSection → MergeInput
merge_input number x = record { number = number; bytes = x.bytes; strings = x.strings }

-- what is merged into an output section, among numbered input sections
abbrev pub inputs_among : List ℕ → ℕ → List (ℕ × Input) → List MergeInput
inputs_among sections s numbered = map (λ q. merge_input q.0 q.1.section) (filter (λ q. is_merged_into sections s q.1.section) numbered)

-- the inputs of an output section: its merge sections, by file and index
abbrev pub merge_inputs : LinkInput → ℕ → List MergeInput
merge_inputs link s = inputs_among (part_sections link.plan.sections) s (enumerate_from 0 (all_inputs link.groups))

-- all that is merged: the inputs by output section, the most bytes of a bucket, and about how many are merged in one go
pub record AllMergeInputs : Type 0 where
  pub outputs : List (List MergeInput)
  pub limit : ℕ
  pub group : ℕ

-- that of a link (libwild: `group_merge_string_sections_by_output`)
abbrev pub link_inputs : LinkInput → AllMergeInputs
link_inputs link = record {
  outputs = map (merge_inputs link) (range_with_len 0 (length link.plan.sections));
  limit = link.options.bucket_limit;
  group = link.options.merge_group;
}

-- the size of groups: about as many bytes as are merged in one go, rounded up to a multiple of 256
abbrev pub group_size : ℕ → ℕ
group_size group = next_multiple_of group 256

-- the first refusal among some output sections, the first of which has this number
abbrev pub first_refusal : (Piece → ℕ) → ℕ → ℕ → List (List MergeInput) → Option MergeError
first_refusal hash limit section outputs = first_of (λ q. merge_refusal hash q.0 limit q.1) (enumerate_from section outputs)

-- what merging answers: the inputs of each output section merged, or the first refusal; nothing is said for want of memory
abbrev pub GivesAllMerged : (Piece → ℕ) → AllMergeInputs → Result (List (List MergeInput)) MergeError → Type 0
GivesAllMerged hash all (Ok merged) = (first_refusal hash all.limit 0 all.outputs ≡ None) × (merged ≡ all.outputs)
GivesAllMerged hash all (Err NoMemory) = Unit {0}
GivesAllMerged hash all (Err error) = first_refusal hash all.limit 0 all.outputs ≡ Some error
