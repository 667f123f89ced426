-- Words of private contracts: how far a link is laid out, stage by stage. What is known of a stage holds what was known before.
use Rattle.std.specs.Prelude.{◌≡◌, false, [], Some, None, Result, Ok, Err, option_map, slice_get}
use Rattle.lk_thunk_plan.specs.Branches.{unreached}
use Rattle.lk_thunk_plan.specs.Orders.{IsInOrder}
use Rattle.lk_thunk_plan.specs.ThunkPlans.{IsThunkPlan}
use Rattle.lk_check.specs.FirstFault.{first_fault}
use Rattle.lk_live.specs.Faults.{reference_faults}
use Rattle.lk_live.specs.Reach.{AreLive}
use Rattle.lk_link.specs.declared.link.LinkInput.{LinkInput}
use Rattle.lk_live.specs.declared.live.Live.{Live}
use Rattle.lk_place.specs.declared.walk.Placed.{Placed}
use Rattle.lk_link.specs.Marks.{is_marked}
use Rattle.lk_layout.specs.Machines.{Machine}
use Rattle.lk_link.specs.WellFormed.{IsWellFormed}
use Rattle.lk_merge.specs.Addresses.{start_addresses}
use Rattle.lk_merge.specs.Hash.{fnv64}
use Rattle.lk_merge.specs.LinkInputs.{link_inputs}
use Rattle.lk_place.specs.Answers.{ArePlaced}
use Rattle.lk_relax.specs.RelaxedLaws.{nothing_deleted}
use Rattle.lk_relax.specs.Sites.{past_limit}
use Rattle.lk_relax.specs.Stages.{IsRelaxed, Stage, filling_after, refusal_of, setting_after}
use Rattle.lk_place.specs.declared.segments.SegmentFileLayout.TheVariants.{FromSections}
use Rattle.lk_place.specs.Secondaries.{merge_refusal}
use Rattle.lk_place.specs.Segments.{segments_refusal, thread_local_one}
use Rattle.lk_sizes.specs.Addresses.{block_addresses, section_addresses}
use Rattle.lk_sizes.specs.Attributes.{all_section_attributes}
use Rattle.lk_sizes.specs.Images.{image_addresses}
use Rattle.lk_tables.specs.Singletons.{partial_link_plan}
use Rattle.lk_sizes.specs.Emitted.{active_segments, is_emitted, told_marks}
use Rattle.lk_sizes.specs.Contents.{size_refusal}
use Rattle.lk_sizes.specs.Owners.{AreThunkOwners}
use Rattle.lk_sizes.specs.Sizing.{AreFilled, GivesOwners}
use Rattle.lk_sizes.specs.OwnersRecord.{OwnersRecord}
use Rattle.lk_layout.specs.declared.error.LayoutError.{LayoutError}
use Rattle.lk_resolutions.specs.declared.addresses.Addresses.{Addresses}
use Rattle.lk_resolutions.specs.declared.images.Images.{Images}
use Rattle.lk_layout.specs.declared.stages.AddressedLink.{AddressedLink}
use Rattle.lk_layout.specs.declared.stages.KeptLink.{KeptLink}
use Rattle.lk_layout.specs.declared.stages.PlacedLink.{PlacedLink}
use Rattle.lk_layout.specs.declared.stages.ReachingLink.{ReachingLink}
use Rattle.lk_layout.specs.declared.stages.SizedLink.{SizedLink}
use Rattle.lk_layout.specs.declared.stages.SpannedLink.{SpannedLink}
use Rattle.lk_layout.specs.declared.stages.ToldLink.{ToldLink}
use Rattle.lk_layout.specs.Defined.{Gives, made_joined, made_sections, is_memory, made_segments, made_standing}
use Rattle.lk_group_starts.specs.GroupStarts.{group_starts}
use Rattle.lk_layout.specs.Errors.{site_error}
use Rattle.lk_layout.specs.Made.{Made, filling_for, made_content, made_filling, made_of, relaxing_for}
use Rattle.lk_layout.specs.Thunks.{made_branching, made_owners, made_places}
use Rattle.lk_layout.specs.Merging.{merging_refusal}
use Rattle.lk_layout.specs.Redirects.{made_redirected, placed_resolutions}
use Rattle.lk_resolutions.specs.Images.{AreImages}
use Rattle.lk_resolutions.specs.Outside.{merge_offsets}
use Rattle.lk_resolutions.specs.OutputContent.{output_content, output_filling}
use Rattle.lk_resolutions.specs.Starts.{starts_of}

-- the stage is reached, or the error is the answer of the link, unless memory ran out
abbrev pub Reaches : {S : Type 0} → Machine → LinkInput → (S → Type 0) → Result S LayoutError → Type 0
Reaches machine link Is (Ok stage) = Is stage
Reaches machine link Is (Err e) = Gives machine link (Err e)

-- it is well formed
pub record IsChecked (link : LinkInput) : Type 0 where
  pub faultless : first_fault link ≡ None
  pub good : IsWellFormed link

-- and these are its merged sections
pub record IsMerged (link : LinkInput) (images : Images) : Type 0 where
  pub checked : IsChecked link
  pub unrefused : merging_refusal link ≡ None
  pub are : AreImages link images

-- and all its references are met, and this is live
pub record IsKept (link : LinkInput) (kept : KeptLink) : Type 0 where
  pub merged : IsMerged link kept.images
  pub met : reference_faults link ≡ []
  pub live : AreLive link kept.live

-- and this comes into its parts without thunks, and is told of its headers
pub record ArePlainOwners (machine : Machine) (link : LinkInput) (live : Live) (plain : OwnersRecord) : Type 0 where
  pub owners : GivesOwners (output_filling machine.sizes link live) (Ok plain)
  pub marks : is_marked plain.header.emitted ≡ is_emitted (output_content machine.sizes link live)

-- and this comes into its parts, is told of its headers, and is the plan of its thunks
pub record IsSized (machine : Machine) (link : LinkInput) (sized : SizedLink) : Type 0 where
  pub kept : IsKept link sized.kept
  pub fits : size_refusal (filling_for machine link sized.kept.live) ≡ None
  pub owners : AreFilled (filling_for machine link sized.kept.live) sized.owners
  pub marks : is_marked sized.owners.header.emitted ≡ is_emitted (output_content machine.sizes link sized.kept.live)
  pub thunks : IsThunkPlan machine.thunks (output_filling machine.sizes link sized.kept.live) sized.thunks
  pub order : IsInOrder link sized.thunks
  pub listed : AreThunkOwners link sized.owners.thunks

-- and here its parts stand before anything is deleted
abbrev pub IsPlacedFirst : Machine → LinkInput → Live → Placed → Type 0
IsPlacedFirst machine link live first = ArePlaced (setting_after (relaxing_for machine link live) (nothing_deleted link)) first

-- and here relaxation ends: this is deleted, this comes into its parts by that, and here they stand
pub record IsPlacedLink (machine : Machine) (link : LinkInput) (placed : PlacedLink) : Type 0 where
  pub kept : IsKept link placed.kept
  pub fits : size_refusal (filling_for machine link placed.kept.live) ≡ None
  pub thunks : IsThunkPlan machine.thunks (output_filling machine.sizes link placed.kept.live) placed.thunks
  pub order : IsInOrder link placed.thunks
  pub stage : Stage
  pub relaxed : IsRelaxed (relaxing_for machine link placed.kept.live) stage
  pub unrefused : refusal_of (relaxing_for machine link placed.kept.live) stage ≡ None
  pub deltas : placed.deltas ≡ stage.deletions
  pub owners : AreFilled (filling_after (relaxing_for machine link placed.kept.live) stage.deletions) placed.owners
  pub marks : is_marked placed.owners.header.emitted ≡ is_emitted (output_content machine.sizes link placed.kept.live)
  pub listed : AreThunkOwners link placed.owners.thunks
  pub are : ArePlaced (setting_after (relaxing_for machine link placed.kept.live) stage.walked) placed.records
  pub states : are.states ≡ stage.states
  pub records : placed.records.parts ≡ stage.records

-- what it is made of, once it is placed
abbrev pub made_placed : {machine : Machine} {link : LinkInput} {placed : PlacedLink} → IsPlacedLink machine link placed → Made
made_placed {machine} {link} {placed} is = made_of machine link placed.kept.live is.stage

-- and this is what its output sections and segments span
pub record IsSpannedLink (machine : Machine) (link : LinkInput) (spanned : SpannedLink) : Type 0 where
  pub placed : IsPlacedLink machine link spanned.placed
  pub fits : merge_refusal link.plan.sections (made_sections (made_placed placed)) ≡ None
  pub covered : segments_refusal FromSections link (made_sections (made_placed placed)) (is_emitted (made_content (made_placed placed)))
      (active_segments (made_content (made_placed placed))) ≡ None
  pub joined : spanned.joined ≡ made_joined (made_placed placed)
  pub segments : spanned.segments.segments ≡ made_segments (made_placed placed)
  pub thread_local : spanned.segments.tls_layout ≡ option_map (λ l. l.sizes) (thread_local_one link.plan (made_segments (made_placed placed)))

abbrev pub made_spanned : {machine : Machine} {link : LinkInput} {spanned : SpannedLink} → IsSpannedLink machine link spanned → Made
made_spanned is = made_placed is.placed

-- and here stands what is in its parts, with what symbols stand for before redirects come to their values
pub record IsValuedLink (machine : Machine) (link : LinkInput) (stands : SpannedLink) (addresses : Addresses) : Type 0 where
  pub spanned : IsSpannedLink machine link stands
  pub sections : addresses.sections.items ≡ section_addresses (made_filling (made_spanned spanned)) (starts_of (made_spanned spanned).stage.records)
  pub blocks : addresses.blocks.items ≡ block_addresses (made_filling (made_spanned spanned)) (starts_of (made_spanned spanned).stage.records)
  pub buckets : addresses.buckets ≡ start_addresses fnv64 (link_inputs link).outputs
      (image_addresses (made_filling (made_spanned spanned)) (starts_of (made_spanned spanned).stage.records))
  pub resolutions : addresses.resolutions ≡ placed_resolutions (made_spanned spanned)

-- and behind them, where no reference chooses a byte outside merged data
pub record IsAddressedLink (machine : Machine) (link : LinkInput) (addressed : AddressedLink) : Type 0 where
  pub spanned : IsSpannedLink machine link addressed.spanned
  pub inside : merge_offsets link addressed.spanned.placed.kept.live ≡ []
  pub sections : addressed.addresses.sections.items ≡ section_addresses (made_filling (made_spanned spanned)) (starts_of (made_spanned spanned).stage.records)
  pub blocks : addressed.addresses.blocks.items ≡ block_addresses (made_filling (made_spanned spanned)) (starts_of (made_spanned spanned).stage.records)
  pub buckets : addressed.addresses.buckets ≡ start_addresses fnv64 (link_inputs link).outputs
      (image_addresses (made_filling (made_spanned spanned)) (starts_of (made_spanned spanned).stage.records))
  pub redirected : made_redirected (made_spanned spanned) ≡ Ok addressed.addresses.resolutions

abbrev pub made_addressed : {machine : Machine} {link : LinkInput} {addressed : AddressedLink} → IsAddressedLink machine link addressed → Made
made_addressed is = made_spanned is.spanned

-- no deleted candidate is past its limit, or the first is refused, unless memory ran out
abbrev pub GivesNear : {A : Type 0} → Made → Result A LayoutError → Type 0
GivesNear made (Ok a) = past_limit (made_standing made) ≡ []
GivesNear made (Err e) = is_memory e ≡ false → option_map site_error (slice_get (past_limit (made_standing made)) 0) ≡ Some e

-- and here the thunks of each block begin, by which all branches reach
pub record IsBranchedLink (machine : Machine) (link : LinkInput) (reaching : ReachingLink) : Type 0 where
  pub addressed : IsAddressedLink machine link reaching.addressed
  pub places : reaching.places ≡ made_places (made_addressed addressed)
  pub reach : unreached (made_branching (made_addressed addressed)) ≡ []

-- and what is deleted is near enough
pub record IsReachingLink (machine : Machine) (link : LinkInput) (reaching : ReachingLink) : Type 0 where
  pub branched : IsBranchedLink machine link reaching
  pub near : past_limit (made_standing (made_addressed branched.addressed)) ≡ []

abbrev pub made_reaching : {machine : Machine} {link : LinkInput} {reaching : ReachingLink} → IsReachingLink machine link reaching → Made
made_reaching is = made_addressed is.branched.addressed

-- and this is told beside
pub record IsToldLink (machine : Machine) (link : LinkInput) (told : ToldLink) : Type 0 where
  pub reaching : IsReachingLink machine link told.reaching
  pub attributes : told.attributes ≡ all_section_attributes link told.reaching.addressed.spanned.placed.kept.live
  pub partial : told.partial_link ≡ partial_link_plan link told.reaching.addressed.spanned.placed.kept.live
  pub owners : told.block_owners ≡ made_owners (made_reaching reaching)
  pub starts : told.group_starts ≡ group_starts machine.sizes link told.reaching.addressed.spanned.placed.kept.live
      (told_marks (output_content machine.sizes link told.reaching.addressed.spanned.placed.kept.live))

abbrev pub made_told : {machine : Machine} {link : LinkInput} {told : ToldLink} → IsToldLink machine link told → Made
made_told is = made_reaching is.reaching
