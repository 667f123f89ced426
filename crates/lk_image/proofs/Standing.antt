-- All that a defined layout puts into the file ends inside the image.
use Rattle.std.proofs.Common.{◌≡◌, ℕ, ◌+◌, ◌<◌, ◌≤◌, Bool, true, false, List, [], ◌∷◌, Option, Some, None, length, map, refl, sym, ap, ◌∙◌, subst, arith, if◌then◌else◌, length-append}
use Rattle.std.specs.Prelude.{◌==◌, ◌&&◌, ◌||◌, not, Contains, slice_index, replicate}
use Rattle.std.specs.List.{enumerate_from, flat_map, slice_get}
use Rattle.std.specs.Option.{option_map_or}
use Rattle.std.proofs.lemmas.Bool.{and_parts, eqb-true}
use Rattle.std.proofs.lemmas.List.{length-map, length-replicate}
use Rattle.std.proofs.lemmas.Option.{get_or_from_slice_get, slice_get-get_or, slice_get_within}
use Rattle.lk_link.specs.declared.link.LinkInput.{LinkInput}
use Rattle.lk_link.specs.declared.plan.Plan.{Plan}
use Rattle.lk_link.specs.declared.plan.PlanPart.{PlanPart}
use Rattle.lk_link.specs.declared.plan.PlanSection.{PlanSection}
use Rattle.lk_link.specs.declared.section.InputSection.{InputSection}
use Rattle.lk_link.specs.declared.section.InputSlot.{InputSlot}
use Rattle.lk_link.specs.declared.section.InputSlot.TheVariants as slot
use Rattle.lk_link.specs.DataRules.{has_file_data, has_whole_data}
use Rattle.lk_link.specs.Inputs.{Input, all_inputs}
use Rattle.lk_link.specs.InputSlots.{can_be_kept, is_merge}
use Rattle.lk_link.specs.Marks.{is_marked}
use Rattle.lk_link.specs.Parts.{all_parts, part_at, part_sections}
use Rattle.lk_link.specs.PlanSections.{is_file_backed, is_set}
use Rattle.lk_link.specs.WellFormed.{IsWellFormed}
use Rattle.lk_link.proofs.Places.{all_at, file_passes}
use Rattle.lk_reach.proofs.Numbered.{file_of_input}
use Rattle.lk_live.specs.Reach.{live_inputs}
use Rattle.lk_expressions.specs.Records.{record_at}
use Rattle.lk_merge.specs.Addresses.{image_start}
use Rattle.lk_merge.specs.Hash.{fnv64}
use Rattle.lk_merge.specs.Image.{all_buckets, all_pieces, firsts_behind, image}
use Rattle.lk_merge.specs.Pieces.{MergeInput}
use Rattle.lk_link.specs.declared.plan.attributes.TheConstants.{EXEC}
use Rattle.lk_deltas.specs.LinkDeletions.{sizes_after}
use Rattle.lk_relax.specs.Positions.{has_position}
use Rattle.lk_sizes.specs.Owners.{Filling, ImageOwner, SectionOwner, owner_address, size_of}
use Rattle.lk_sizes.specs.PartOwners.{LiveSectionsAreOwners, owner_number, owners_of}
use Rattle.lk_sizes.proofs.Placed.{size-le}
use Rattle.lk_resolutions.specs.Starts.{starts_of}
use Rattle.lk_resolutions.proofs.Placing.{marked_in}
use Rattle.lk_soundness.specs.FileBytes.{IsFileBacked, IsSoundInFile, LaidOutFileHasOneOwner, StandsInside as OwnerStands, file_place}
use Rattle.lk_layout.specs.LayoutRecord.{LayoutRecord}
use Rattle.lk_layout.specs.Laws.{LaidOutLinksAreWellFormed}
use Rattle.lk_layout.specs.Made.{Made, made_deletions, made_filling, made_of}
use Rattle.lk_soundness.specs.Sound.{IsSound, part_record}
use Rattle.lk_image.specs.Contents.{data_of}
use Rattle.lk_image.specs.Laid.{IsLayoutOf}
use Rattle.lk_image.specs.Places.{image_length, is_backed_part, is_in_file, merged_file_part, merged_part, merged_place, section_place}
use Rattle.lk_image.specs.Ready.{IsReady, MergedStandInside, StandsInside}
use Rattle.lk_image.proofs.AddressPlaces.{address_told, size_stays}
use Rattle.lk_image.proofs.EndPlaces.{end_within, starts_there}
use Rattle.lk_image.proofs.PartPlaces.{IsPartOf, merged_is, part_in}

-- ---- data

data_by : (s : InputSection) (given merged : Bool) → s.given ≡ given → is_merge s.slot ≡ merged → has_whole_data s ≡ true → merged ≡ false → length (data_of s) ≡ s.size
data_by s true true is_given is_merged h unmerged = absurd (cc)
data_by s false merged is_given is_merged h unmerged = ap (λ b. length (if b then s.bytes else replicate s.size 0)) is_given ∙ length-replicate s.size 0
data_by s true false is_given is_merged h unmerged =
    let told : (length s.bytes == s.size) ≡ true
    = sym (ap (λ b. not b || is_merge s.slot || (length s.bytes == s.size)) is_given ∙ ap (λ b. b || (length s.bytes == s.size)) is_merged) ∙ h in
    ap (λ b. length (if b then s.bytes else replicate s.size 0)) is_given ∙ eqb-true (length s.bytes) s.size told

kept_unmerged : (s : InputSlot) → can_be_kept s ≡ true → is_merge s ≡ false
kept_unmerged slot.Discard kept = refl
kept_unmerged slot.Unloaded kept = refl
kept_unmerged slot.MustLoad kept = refl
kept_unmerged slot.DebugInfo kept = refl
kept_unmerged slot.MustLoadDebugInfo kept = refl
kept_unmerged slot.Merge kept = sym kept

-- a section that is kept has as much data as it says
data_whole : (link : LinkInput) (k : ℕ) (x : Input) → IsWellFormed link → slice_get (all_inputs link.groups) k ≡ Some x → can_be_kept x.section.slot ≡ true
    → length (data_of x.section) ≡ x.section.size
data_whole link k x good there kept =
    let f = file_of_input link.groups k x there in
    let of_file : has_file_data f.0 ≡ true = file_passes has_file_data link.groups x.file f.0 good.given f.1 in
    let here : has_whole_data x.section ≡ true = all_at has_whole_data f.0.sections x.index x.section of_file f.2 in
    data_by x.section x.section.given (is_merge x.section.slot) refl refl here (kept_unmerged x.section.slot kept)

-- ---- parts in the file

backed_by : (plan : Plan) (p : ℕ) (o : Option ℕ) → slice_get (part_sections plan.sections) p ≡ o → option_map_or (is_file_backed plan) o false ≡ true
    → (s : ℕ) × (slice_get (part_sections plan.sections) p ≡ Some s) × (is_file_backed plan s ≡ true)
backed_by plan p None is h = absurd (cc)
backed_by plan p (Some s) is h = (s, is, h)

backed_part : (plan : Plan) (s p : ℕ) → IsPartOf plan.sections s p → is_file_backed plan s ≡ true → IsFileBacked plan p
backed_part plan s p part backed = record { section = s; part = record { from = part.from; below = part.below }; backed = backed }

as_many : (o : ℕ) (sections : List PlanSection) → length (flat_map (λ q. map (λ p. q.0) q.1.parts) (enumerate_from o sections)) ≡ length (all_parts sections)
as_many o [] = refl
as_many o (x ∷ xs) =
    omega (
      arith,
      length-append (map (λ (p : PlanPart). o) x.parts) (flat_map (λ q. map (λ p. q.0) q.1.parts) (enumerate_from (o + 1) xs)),
      length-map x.parts (λ (p : PlanPart). o),
      length-append x.parts (all_parts xs),
      as_many (o + 1) xs,
    )

part_of_section : (sections : List PlanSection) (s p : ℕ) → p < length (all_parts sections) → slice_index (part_sections sections) p ≡ s → IsPartOf sections s p
part_of_section sections s p within belongs =
    let many : length (part_sections sections) ≡ length (all_parts sections) = as_many 0 sections in
    part_in sections p s (slice_get-get_or (part_sections sections) p 0 (omega (arith, within, many)) ∙ ap (λ (n : ℕ). Some n) belongs)

-- what stands inside its section ends inside the image
pub ends_inside : (layout : LayoutRecord) (s p address bytes size : ℕ) → OwnerStands (part_record layout p) (record_at layout.section_layouts s) address bytes → size ≤ bytes
    → file_place (part_record layout p) address + size ≤ image_length layout
unfolding image_length
ends_inside layout s p address bytes size stands less = omega (arith, stands.ends, less, end_within 0 layout.section_layouts s)

-- ---- live sections

-- a live section in the file, as an owner of its part
pub record IsOwnerInFile (made : Made) (layout : LayoutRecord) (k : ℕ) (x : Input) : Type 0 where
  pub kept : can_be_kept x.section.slot ≡ true
  pub backed : IsFileBacked made.link.plan x.section.part
  pub owner : slice_get (owners_of (made_filling made) x.section.part) (owner_number (made_filling made) x) ≡ Some (SectionOwner x (size_of (made_filling made) x))
  pub address : slice_index layout.section_addresses k
      ≡ owner_address (part_record layout x.section.part).mem_offset (part_at made.link.plan.sections x.section.part) (owners_of (made_filling made) x.section.part)
      (owner_number (made_filling made) x)
  pub size : size_of (made_filling made) x ≡ x.section.size

among : {X : Type 0} (xs : List X) (k : ℕ) (x : X) → slice_get xs k ≡ Some x → Contains xs x
among xs k x there = (k, slice_get_within xs k x there, get_or_from_slice_get xs k x x there)

pub owner_in_file : LiveSectionsAreOwners → (made : Made) (layout : LayoutRecord) (k : ℕ) (x : Input) → IsSound made layout → made.link.options.relax ≡ false
    → slice_get (all_inputs made.link.groups) k ≡ Some x → is_in_file made.link layout (k, x) ≡ true → IsOwnerInFile made layout k x
unfolding is_in_file
owner_in_file owners made layout k x sound unrelaxed there in_file =
    let filling : Filling = made_filling made in
    let p : ℕ = x.section.part in
    let both = and_parts (is_marked layout.live_marks k) (is_backed_part made.link.plan p) in_file in
    let mark : is_marked made.live.marks k ≡ true = ap (λ (r : LayoutRecord). is_marked r.live_marks k) (sym sound.is) ∙ both.0 in
    let from = backed_by made.link.plan p (slice_get (part_sections made.link.plan.sections) p) refl both.1 in
    let part = part_in made.link.plan.sections p from.0 from.1 in
    let live = marked_in made.live.marks (all_inputs made.link.groups) k x there mark in
    let starts : List ℕ = starts_of made.stage.records in
    let deleted : layout.section_deletions ≡ made_deletions made = ap (λ (r : LayoutRecord). r.section_deletions) sound.is in
    let start : slice_index starts p ≡ (part_record layout p).mem_offset
    = starts_there made.stage.records p ∙ ap (λ (r : LayoutRecord). (record_at r.section_part_layouts p).mem_offset) (sym sound.is) in
    record {
      kept = ((sound.reached.marks k x there).0 mark).slot;
      backed = backed_part made.link.plan from.0 p part from.2;
      owner = owners filling x (among (live_inputs made.link made.live) live.0 x live.1);
      address = ap (λ (r : LayoutRecord). slice_index r.section_addresses k) sound.is ∙ address_told filling starts k x there mark
          ∙ ap (λ (n : ℕ). owner_address n (part_at made.link.plan.sections p) (owners_of filling p) (owner_number filling x)) start;
      size = size_stays filling layout.section_deletions k x there (ap (sizes_after made.link.groups) (sym deleted)) (λ some.
          let told = sound.deletions.shrinks k x there some in
          let relaxed = (and_parts (has_position (is_marked layout.live_marks k) x.section && is_set EXEC x.section.attrs) made.link.options.relax told).1 in
          absurd (cc (sym relaxed ∙ unrelaxed)));
    }

section_stands : LiveSectionsAreOwners → (made : Made) (layout : LayoutRecord) (k : ℕ) (x : Input) → IsWellFormed made.link → IsSound made layout → IsSoundInFile made layout
    → made.link.options.relax ≡ false → slice_get (all_inputs made.link.groups) k ≡ Some x → StandsInside made.link layout (k, x)
unfolding section_place
section_stands owners made layout k x good sound in_file unrelaxed there =
    let of : is_in_file made.link layout (k, x) ≡ true → IsOwnerInFile made layout k x = owner_in_file owners made layout k x sound unrelaxed there in
    let p : ℕ = x.section.part in
    record {
      kept = λ is. (of is).kept;
      whole = λ is. data_whole made.link k x good there (of is).kept;
      ends = λ is some.
          let o = of is in
          let stands = in_file.inside p (owner_number (made_filling made) x) (SectionOwner x (size_of (made_filling made) x)) o.owner o.backed in
          let room = size-le (part_at made.link.plan.sections p) (size_of (made_filling made) x) in
          let inside = ends_inside layout o.backed.section p _ _ x.section.size stands (omega (arith, room, o.size)) in
          omega (arith, inside, ap (file_place (part_record layout p)) o.address);
    }

-- ---- merged data

no_bytes : length (image fnv64 (all_pieces [])) ≡ 0
unfolding all_buckets firsts_behind
no_bytes = refl

some_inputs : (inputs : List MergeInput) → 0 < length (image fnv64 (all_pieces inputs)) → 0 < length inputs
some_inputs [] some = absurd (omega (arith, some, no_bytes))
some_inputs (x ∷ inputs) some = omega arith

file_part_by : (plan : Plan) (s p : ℕ) (backed : Bool) → is_file_backed plan s ≡ backed → merged_file_part plan s ≡ Some p
    → (is_file_backed plan s ≡ true) × (merged_part plan.sections s ≡ Some p)
unfolding merged_file_part
file_part_by plan s p true is found = (is, sym (ap (λ b. if b then merged_part plan.sections s else None) is) ∙ found)
file_part_by plan s p false is found = absurd (cc (sym (ap (λ b. if b then merged_part plan.sections s else None) is) ∙ found))

-- merged data in the file, as the first owner of their part
pub record IsImageInFile (made : Made) (layout : LayoutRecord) (s p : ℕ) (inputs : List MergeInput) : Type 0 where
  pub backed : IsFileBacked made.link.plan p
  pub owner : slice_get (owners_of (made_filling made) p) 0 ≡ Some (ImageOwner s (length (image fnv64 (all_pieces inputs))))
  pub start : image_start layout.merged_string_start_addresses s ≡ (part_record layout p).mem_offset

pub image_in_file : (made : Made) (layout : LayoutRecord) (s p : ℕ) (inputs : List MergeInput) → IsWellFormed made.link → IsSound made layout
    → slice_get layout.merged_strings s ≡ Some inputs → 0 < length (image fnv64 (all_pieces inputs)) → merged_file_part made.link.plan s ≡ Some p
    → IsImageInFile made layout s p inputs
image_in_file made layout s p inputs good sound there some found =
    let at = sound.merged.images s inputs there (some_inputs inputs some) in
    let part = part_of_section made.link.plan.sections s at.part at.there at.belongs in
    let place = file_part_by made.link.plan s p (is_file_backed made.link.plan s) refl found in
    let same : at.part ≡ p = sym (merged_is made.link s at.part p good part at.alignment place.1) in
    subst (λ (q : ℕ). IsImageInFile made layout s q inputs) same (record { backed = backed_part made.link.plan s at.part part place.0; owner = at.owner; start = at.start })

merged_stand : (made : Made) (layout : LayoutRecord) → IsWellFormed made.link → IsSound made layout → IsSoundInFile made layout → MergedStandInside made.link layout
unfolding merged_place
merged_stand made layout good sound in_file s p inputs there some found =
    let o = image_in_file made layout s p inputs good sound there some found in
    let len : ℕ = length (image fnv64 (all_pieces inputs)) in
    let stands = in_file.inside p 0 (ImageOwner s len) o.owner o.backed in
    let inside = ends_inside layout o.backed.section p _ _ len stands (size-le (part_at made.link.plan.sections p) len) in
    let first : (part_record layout p).mem_offset + 0 ≡ image_start layout.merged_string_start_addresses s = omega (arith, o.start) in
    omega (arith, inside, ap (file_place (part_record layout p)) first)

-- ---- all

pub ready : LaidOutLinksAreWellFormed → LaidOutFileHasOneOwner → LiveSectionsAreOwners → (link : LinkInput) (layout : LayoutRecord) → IsLayoutOf link layout
    → link.options.relax ≡ false → IsReady link layout
ready formed one owners link layout laid unrelaxed =
    let good = formed laid.machine link layout laid.defined in
    let found = one laid.machine link layout laid.lawful laid.defined in
    let made : Made = made_of laid.machine link found.0 found.1 in
    let sound : IsSound made layout = found.2.0 in
    let in_file : IsSoundInFile made layout = found.2.1 in
    record {
      good = good;
      outputs = ap (λ (r : LayoutRecord). r.merged_strings) sound.is;
      starts = sound.merged.starts;
      sections = λ k x there. section_stands owners made layout k x good sound in_file unrelaxed there;
      merged = merged_stand made layout good sound in_file;
    }
