-- The one answer of a link: the first refusal, in the order in which they are looked for, else the layout.
use Rattle.std.specs.Prelude.{◌≡◌, Bool, true, false, List, [], ◌∷◌, Option, Some, None, option_map, slice_get, Result, Ok, Err}
use Rattle.lk_link.specs.declared.link.LinkInput.{LinkInput}
use Rattle.lk_layout.specs.Machines.{Machine}
use Rattle.lk_thunk_plan.specs.Branches.{unreached}
use Rattle.lk_thunk_plan.specs.ThunkPlans.{config_for, thunk_size}
use Rattle.lk_check.specs.FirstFault.{first_fault}
use Rattle.lk_live.specs.declared.error.ReferenceFault.{ReferenceFault}
use Rattle.lk_live.specs.declared.live.Live.{Live}
use Rattle.lk_live.specs.Faults.{reference_faults}
use Rattle.lk_live.specs.Reach.{AreLive}
use Rattle.lk_merge.specs.Addresses.{start_addresses}
use Rattle.lk_merge.specs.Hash.{fnv64}
use Rattle.lk_merge.specs.LinkInputs.{link_inputs}
use Rattle.lk_place.specs.declared.segments.SegmentFileLayout.TheVariants.{FromSections}
use Rattle.lk_place.specs.Secondaries.{merge_refusal}
use Rattle.lk_place.specs.Segments.{segments_refusal, thread_local_one}
use Rattle.lk_sizes.specs.Attributes.{all_section_attributes, by_section}
use Rattle.lk_sizes.specs.Contents.{size_refusal}
use Rattle.lk_sizes.specs.Emitted.{active_segments, is_emitted, output_index, told_marks}
use Rattle.lk_sizes.specs.Images.{image_addresses}
use Rattle.lk_sizes.specs.Addresses.{section_addresses}
use Rattle.lk_sizes.specs.Harvest.{sorted_sections}
use Rattle.lk_sizes.specs.Header.{header_info}
use Rattle.lk_tables.specs.Singletons.{partial_link_plan}
use Rattle.lk_relax.specs.Scan.{PassState}
use Rattle.lk_relax.specs.Sites.{past_limit}
use Rattle.lk_relax.specs.Stages.{IsRelaxed, Stage, refusal_of, standing_at}
use Rattle.lk_layout.specs.declared.error.LayoutError.{LayoutError}
use Rattle.lk_layout.specs.declared.error.LayoutError.TheVariants.{NoMemory, References}
use Rattle.lk_layout.specs.DynsymStart.{dynsym_start}
use Rattle.lk_group_starts.specs.GroupStarts.{group_starts}
use Rattle.lk_layout.specs.LayoutRecord.{LayoutRecord}
use Rattle.lk_layout.specs.Flags.{made_flags}
use Rattle.lk_layout.specs.Errors.{branch_error, fault_error, offset_error, place_error, site_error, size_error}
use Rattle.lk_layout.specs.Merging.{merging_refusal}
use Rattle.lk_resolutions.specs.Outside.{merge_offsets}
use Rattle.lk_resolutions.specs.Resolutions.{entry_symbol}
use Rattle.lk_layout.specs.Made.{Made, filling_for, made_content, made_deletions, made_filling, made_of, made_relaxing, relaxing_for}
use Rattle.lk_layout.specs.Thunks.{made_branching, made_owners, made_places, made_sets, made_users}
use Rattle.lk_layout.specs.Redirects.{made_resolutions, redirects_refusal}
pub use Rattle.lk_layout.specs.Spans.{made_joined, made_sections, made_segments}
use Rattle.lk_resolutions.specs.Starts.{starts_of}
use Rattle.lk_sizes.specs.Owners.{Filling}

-- the answer is this refusal, if there is one, else P holds of it
abbrev pub Unless : Option LayoutError → Result LayoutRecord LayoutError → Type 0 → Type 0
Unless None answer P = P
Unless (Some e) answer P = answer ≡ Err e

-- references that can't be met, if there are any
abbrev pub references_refusal : List ReferenceFault → Option LayoutError
references_refusal [] = None
references_refusal (fault ∷ faults) = Some (References (fault ∷ faults))

-- how all stands at last
abbrev pub made_standing : Made → PassState
made_standing made = standing_at (made_relaxing made) made.stage

-- ---- the layout

-- what is made of these
abbrev pub layout_of : Made → LayoutRecord
layout_of made =
    let link = made.link in
    let filling : Filling = made_filling made in
    let starts = starts_of made.stage.records in
    record {
      link = link;
      section_layouts = made_sections made;
      merged_section_layouts = made_joined made;
      section_part_layouts = made.stage.records;
      section_attributes = all_section_attributes link made.live;
      output_section_indexes = by_section (output_index filling.content) link;
      header_info = header_info filling.content;
      segment_layouts = made_segments made;
      tls_layout = option_map (λ l. l.sizes) (thread_local_one link.plan (made_segments made));
      live_marks = made.live.marks;
      section_addresses = section_addresses filling starts;
      section_deletions = made_deletions made;
      merged_strings = (link_inputs link).outputs;
      merged_string_start_addresses = start_addresses fnv64 (link_inputs link).outputs (image_addresses filling starts);
      symbol_resolutions = made_resolutions made;
      flags = made_flags made;
      entry_symbol_id = entry_symbol link;
      script_sorted_sections = sorted_sections link made.live filling.sizes;
      partial_link = partial_link_plan link made.live;
      thunk_blocks = made_sets made;
      thunk_block_owners = made_owners made;
      thunk_block_addresses = made_places made;
      thunk_users = made_users made;
      thunk_size = thunk_size (config_for made.machine.thunks made.link);
      dynsym_start_index = dynsym_start filling.content;
      group_starts = group_starts made.machine.sizes link made.live (told_marks filling.content);
    }

-- ---- the answer

-- the answer where relaxation has ended: the first refusal, else the layout
abbrev pub IsMadeAnswer : Made → Result LayoutRecord LayoutError → Type 0
IsMadeAnswer made answer =
    let content = made_content made in
    let sections = made_sections made in
    -- what its last placement can't carry out
    Unless (option_map place_error (refusal_of (made_relaxing made) made.stage)) answer
    -- a primary that its secondaries take past 64 bits
    (Unless (option_map place_error (merge_refusal made.link.plan.sections sections)) answer
    -- a section outside the segments, or thread-local data that end past 64 bits
    (Unless (option_map place_error (segments_refusal FromSections made.link sections (is_emitted content) (active_segments content))) answer
    -- the first symbol or relocation that chooses an offset outside the data of a merged section
    (Unless (option_map offset_error (slice_get (merge_offsets made.link made.live) 0)) answer
    -- a redirect whose expression has no value
    (Unless (redirects_refusal made) answer
    -- the first branch that reaches neither its target nor a thunk
    (Unless (option_map branch_error (slice_get (unreached (made_branching made)) 0)) answer
    -- the first candidate whose bytes are gone though its symbol is too far from where they stood, by final addresses
    (Unless (option_map site_error (slice_get (past_limit (made_standing made)) 0)) answer
    (answer ≡ Ok (layout_of made))))))))

-- the answer of a link: the first refusal, else that where relaxation has ended (libwild: `compute`)
abbrev pub IsDefined : Machine → LinkInput → Result LayoutRecord LayoutError → Type 0
IsDefined machine link answer =
    -- its first fault, where it isn't well formed
    Unless (option_map fault_error (first_fault link)) answer
    -- what can't be merged
    (Unless (merging_refusal link) answer
    -- all references that can't be met
    (Unless (references_refusal (reference_faults link)) answer
    ((live : Live) × AreLive link live
    -- of what is live, the first part at which the sizes so far pass 2^64 - 1 together
    × Unless (option_map size_error (size_refusal (filling_for machine link live))) answer
    ((stage : Stage) × IsRelaxed (relaxing_for machine link live) stage × IsMadeAnswer (made_of machine link live stage) answer))))

-- memory ran out
abbrev pub is_memory : LayoutError → Bool
is_memory NoMemory = true
is_memory _ = false

-- P holds of what a call answers, unless memory ran out
abbrev pub WithMemory : (Result LayoutRecord LayoutError → Type 0) → Result LayoutRecord LayoutError → Type 0
WithMemory P (Ok layout) = P (Ok layout)
WithMemory P (Err e) = is_memory e ≡ false → P (Err e)

-- what a call answers is the answer of the link, unless memory ran out
abbrev pub Gives : Machine → LinkInput → Result LayoutRecord LayoutError → Type 0
Gives machine link answer = WithMemory (IsDefined machine link) answer
