-- A defined layout is sound.
use Rattle.std.proofs.Common.{◌≡◌, ℕ, zero, suc, ◌%◌, ◌<◌, List, [], ◌∷◌, length, Some, None, refl, sym, ap, subst, ◌∙◌, inl, inr, arith}
use Rattle.std.specs.Prelude.{slice_get, slice_index}
use Rattle.std.specs.Int.{◌∣◌}
use Rattle.std.specs.List.{AllByRecursion, slice_index_or}
use Rattle.std.proofs.Math.ListN as lists
use Rattle.std.proofs.Math.Nat.{dvd-add}
use Rattle.std.proofs.lemmas.Bool.{cases_lt}
use Rattle.std.proofs.lemmas.Bool.Decides.{eqb_tells}
use Rattle.lk_check.specs.FirstFault.{WellFormedExactlyUnfaulted}
use Rattle.lk_live.specs.declared.live.Live.{Live}
use Rattle.lk_live.specs.Reach.{AreLive, live_inputs}
use Rattle.lk_link.specs.declared.link.LinkInput.{LinkInput}
use Rattle.lk_link.specs.declared.plan.PlanPart.{PlanPart}
use Rattle.lk_link.specs.Inputs.{Input}
use Rattle.lk_link.specs.Parts.{all_parts, part_at}
use Rattle.lk_link.specs.WellFormed.{IsWellFormed}
use Rattle.lk_place.specs.Laws.{FileRangesAreDisjoint}
use Rattle.lk_place_laws.specs.Laws.{IsSoundlySet, KeepAlignments, MemoryRangesAreDisjoint, PlainMemoryIsCongruent, PlainMemoryIsDisjoint, RecordsKeepAlignments}
use Rattle.lk_place.specs.PlacementLaws.{PartsTakeTheirBytes}
use Rattle.lk_place_laws.specs.PlacementLaws.{RefusedExactlyPast}
use Rattle.lk_place.specs.Plain.{IsPlain}
use Rattle.lk_place.specs.Ranges.{FileIsDisjoint}
use Rattle.lk_place_laws.specs.MemoryRanges.{MemoryIsDisjoint}
use Rattle.lk_expressions.specs.Records.{Record, nowhere, record_at}
use Rattle.lk_place.specs.Segments.{alignment_inside, first_outside}
use Rattle.lk_sizes.specs.declared.addresses.LiveSection.{LiveSection}
use Rattle.lk_sizes.specs.Addresses.{live_section, live_sections}
use Rattle.lk_sizes.specs.Emitted.{is_emitted}
use Rattle.lk_sizes.specs.Owners.{Owner, SectionOwner, bytes_of, owner_address, size_of}
use Rattle.lk_sizes.specs.PartOwners.{LiveSectionsAreOwners, owner_number, owners_of, part_size, part_sizes}
use Rattle.lk_size_laws.specs.Tiles.{HasByte, IsTiled, OwnersAreAligned, OwnersTileTheirPart}
use Rattle.lk_sizes.proofs.LiveOnes.{Differ, Pairwise, live_differ, live_goes, live_good}
use Rattle.lk_relax.specs.RelaxedLaws.{RelaxedIsShrunk, RelaxedStands}
use Rattle.lk_relax.specs.Sites.{DeletedSitesAreNear}
use Rattle.lk_relax.specs.Stages.{DeletionsAreRead, setting_after}
use Rattle.lk_place.specs.Setting.{Setting}
use Rattle.lk_layout.specs.Defined.{layout_of}
use Rattle.lk_soundness.specs.GroupPlaces.{GroupsBegin}
use Rattle.lk_layout.specs.LayoutRecord.{LayoutRecord}
use Rattle.lk_resolutions.specs.Starts.{starts_of}
use Rattle.lk_layout.specs.Machines.{IsLawfulMachine, Machine}
use Rattle.lk_layout.specs.Layouts.{told_live}
use Rattle.lk_layout.specs.Laws.{LaidOutLinksAreWellFormed}
use Rattle.lk_soundness.specs.Laws.{DefinedLayoutsAreSound, LaidOutMemoryIsDisjoint, LaidOutSectionsAreApart}
use Rattle.lk_layout.specs.Redirects.{made_resolutions, placed_resolutions, placed_with}
use Rattle.lk_soundness.specs.Sound.{DeletionsStand, IsApartInMemory, IsInSection, IsSharedOut, IsSound, IsTold, SortedStand, part_record}
use Rattle.lk_soundness.proofs.BySymbol.{flags_stand, resolutions_stand}
use Rattle.lk_soundness.proofs.CandidatesNear.{candidates_near}
use Rattle.lk_soundness.proofs.CommonsStand.{commons_stand}
use Rattle.lk_soundness.proofs.EntriesStand.{entries_stand}
use Rattle.lk_soundness.proofs.TablesAlone.{tables_alone}
use Rattle.lk_soundness.proofs.ThunkAddresses.{thunks_stand}
use Rattle.lk_soundness.proofs.ThunksTold.{branches_reach}
use Rattle.lk_thunk_plan.specs.BranchLaws.{BranchesReach, ThunksHaveRanges}
use Rattle.lk_soundness.proofs.Fitting.{buckets_start, owners_fit}
use Rattle.lk_soundness.proofs.GroupsBegin.{groups_begin}
use Rattle.lk_layout.proofs.LaidOut.{IsLaidOut, made_by, laid_out}
use Rattle.lk_soundness.proofs.ImagesShow.{images_stand}
use Rattle.lk_soundness.proofs.NamedSymbols.{named_symbols_show}
use Rattle.lk_soundness.proofs.NumbersStand.{numbers_stand}
use Rattle.lk_soundness.proofs.OwnSymbols.{edges_stand, redirects_stand}
use Rattle.lk_soundness.proofs.PartStarts.{part_starts}
use Rattle.lk_soundness.proofs.SinglesBehind.{singles_stand}
use Rattle.lk_soundness.proofs.SortedLast.{sorted_stand_last}
use Rattle.lk_soundness.proofs.SortedTold.{sorted_are_told}
use Rattle.lk_soundness.proofs.ReferencesShow.{references_show}
use Rattle.lk_soundness.proofs.Stands.{EdgesStand, FlagsStand, LiveSectionsAreAligned, LiveSectionsAreApart, MemoryIsCongruent, NumbersStand, OwnersAreApart, RedirectsStand, ResolutionsStand, SortedAreTold, ValuesStand}
use Rattle.lk_soundness.proofs.OnlyScanned.{only_scanned_lose}
use Rattle.lk_soundness.proofs.ToldSizes.{told_live_are}
use Rattle.lk_link.proofs.GoodPartFields.{good_part_fields}
use Rattle.lk_sizes.proofs.Placed.{size-le}
use Rattle.lk_resolutions.proofs.Placing.{starts_count}
use Rattle.lk_soundness.proofs.Resolved.{resolved_sections_are_live}
use Rattle.lk_soundness.proofs.Resolving.{objects_told}
use Rattle.lk_layout.proofs.Settings.{part_size_at, ready, takes}
use Rattle.lk_soundness.proofs.Valued.{values_stand}
use Rattle.lk_link.proofs.Elements.{contains_at, map_in}
use Rattle.lk_resolutions.specs.OutputContent.{output_content}
use Rattle.lk_resolution_list.specs.StoreLaws.{ChangesValuesAlone, RedirectsChangeValuesAlone}
use Rattle.lk_own_symbols.specs.EdgeLaws.{OthersAreNoRedirects}
use Rattle.lk_layout.specs.Spans.{made_joined, made_sections}
use Rattle.lk_layout.specs.Made.{Made, made_filling, made_of, relaxing_for}

-- ---- the layout and its records

pub parts_are : (machine : Machine) (link : LinkInput) (layout : LayoutRecord) (laid : IsLaidOut machine link layout) → layout.section_part_layouts ≡ laid.stage.records
parts_are machine link layout laid = ap (λ (l : LayoutRecord). l.section_part_layouts) laid.same

shown_at : (machine : Machine) (link : LinkInput) (layout : LayoutRecord) (laid : IsLaidOut machine link layout) → told_live link layout ≡ live_sections (made_filling (made_by laid)) (starts_of laid.stage.records)
shown_at machine link layout laid = ap (told_live link) laid.same ∙ told_live_are (made_by laid)

shown : (machine : Machine) (link : LinkInput) (layout : LayoutRecord) (laid : IsLaidOut machine link layout) → told_live link layout ≡ live_sections (made_filling (made_by laid)) (starts_of layout.section_part_layouts)
shown machine link layout laid =
    shown_at machine link layout laid ∙ ap (λ (rs : List Record). live_sections (made_filling (made_by laid)) (starts_of rs)) (sym (parts_are machine link layout laid))

-- redirects change nothing but their own values of what is placed
changed : RedirectsChangeValuesAlone → (machine : Machine) (link : LinkInput) (layout : LayoutRecord) (laid : IsLaidOut machine link layout)
    → ChangesValuesAlone link.groups (placed_resolutions (made_by laid)) layout.symbol_resolutions
changed alone machine link layout laid =
    let made : Made = made_by laid in
    subst (λ (l : LayoutRecord). ChangesValuesAlone link.groups (placed_resolutions made) l.symbol_resolutions) (sym laid.same)
    (alone (placed_with made (made_sections made) (made_joined made)) (placed_resolutions made) (made_resolutions made) laid.redirected)

-- no section stands outside the segments
covered : (machine : Machine) (link : LinkInput) (layout : LayoutRecord) (laid : IsLaidOut machine link layout)
    → first_outside link layout.section_layouts (is_emitted (output_content machine.sizes link laid.live)) ≡ None
covered machine link layout laid =
    subst (λ (l : LayoutRecord). first_outside link l.section_layouts (is_emitted (output_content machine.sizes link laid.live)) ≡ None) (sym laid.same) laid.covered

-- the owners of each part share it out
shared_out : OwnersTileTheirPart → PartsTakeTheirBytes → (machine : Machine) (link : LinkInput) (layout : LayoutRecord) (laid : IsLaidOut machine link layout) (p : ℕ) → p < length (all_parts link.plan.sections)
    → IsSharedOut (made_by laid) layout p
shared_out tile mass machine link layout laid p within = record {
  whole = ap (λ rs. (record_at rs p).mem_size) (parts_are machine link layout laid)
      ∙ takes mass machine link laid.live laid.stage laid.good laid.stands laid.unrefused p (omega (arith, within, laid.stands.placed.each));
  tiled = tile (made_filling (made_by laid)) p (part_record layout p).mem_offset;
}

-- ---- one live section

-- a live section that is told stands among the owners of its part
pub record Stands (made : Made) (layout : LayoutRecord) (x : Input) (l : LiveSection) : Type 0 where
  pub address : l.address ≡ owner_address (part_record layout x.section.part).mem_offset (part_at made.link.plan.sections x.section.part) (owners_of (made_filling made) x.section.part) (owner_number (made_filling made) x)
  pub size : l.size ≡ size_of (made_filling made) x
  pub owner : slice_get (owners_of (made_filling made) x.section.part) (owner_number (made_filling made) x) ≡ Some (SectionOwner x (size_of (made_filling made) x))

pub stands : LiveSectionsAreOwners → (made : Made) (layout : LayoutRecord) (a : ℕ) (x : Input) (l : LiveSection)
    → told_live made.link layout ≡ live_sections (made_filling made) (starts_of layout.section_part_layouts) → IsTold made layout a x l → Stands made layout x l
stands owners made layout a x l is told =
    let records : List Record = layout.section_part_layouts in
    let given : slice_get (live_sections (made_filling made) (starts_of records)) a ≡ Some (live_section (made_filling made) (starts_of records) x) = map_in (live_section (made_filling made) (starts_of records)) (live_inputs made.link made.live) a x told.there in
    let here : Some l ≡ Some (live_section (made_filling made) (starts_of records) x) = sym told.told ∙ ap (λ (ls : List LiveSection). slice_get ls a) is ∙ given in
    let same : l ≡ live_section (made_filling made) (starts_of records) x = cc in
    let start : slice_index (starts_of records) x.section.part ≡ (record_at records x.section.part).mem_offset = lists.get_or-map (λ (r : Record). r.mem_offset) records x.section.part nowhere in
    record {
      address = ap (λ (m : LiveSection). m.address) same
          ∙ ap (λ (n : ℕ). owner_address n (part_at made.link.plan.sections x.section.part) (owners_of (made_filling made) x.section.part) (owner_number (made_filling made) x)) start;
      size = ap (λ (m : LiveSection). m.size) same;
      owner = owners (made_filling made) x (contains_at (live_inputs made.link made.live) a x told.there);
    }

-- the bytes of a live section are its owner's
pub has_byte : (made : Made) (layout : LayoutRecord) (x : Input) (l : LiveSection) (address : ℕ) → Stands made layout x l → IsInSection address l
    → HasByte (part_record layout x.section.part).mem_offset (part_at made.link.plan.sections x.section.part) (owners_of (made_filling made) x.section.part) (owner_number (made_filling made) x) address
has_byte made layout x l address s here = record {
  owner = SectionOwner x (size_of (made_filling made) x);
  there = s.owner;
  from = omega (arith, s.address, here.begins);
  below = omega (arith, s.address, s.size, here.ends, size-le (part_at made.link.plan.sections x.section.part) (size_of (made_filling made) x));
}

-- ---- live sections stand apart

behind_differ : (x y : Input) (xs : List Input) (b : ℕ) → AllByRecursion (Differ x) xs → slice_get xs b ≡ Some y → Differ x y
behind_differ x y [] b h at = absurd (cc)
behind_differ x y (z ∷ xs) zero h at = let same : z ≡ y = cc in subst (Differ x) same h.0
behind_differ x y (z ∷ xs) (suc b) h at = behind_differ x y xs b h.1 at

differ_at : (xs : List Input) (a b : ℕ) (x y : Input) → Pairwise Differ xs → a < b → slice_get xs a ≡ Some x → slice_get xs b ≡ Some y → Differ x y
differ_at [] a b x y h less at_a at_b = absurd (cc)
differ_at (z ∷ xs) a zero x y h less at_a at_b = absurd (omega arith)
differ_at (z ∷ xs) zero (suc b) x y h less at_a at_b = let same : z ≡ x = cc in behind_differ x y xs b (subst (λ w. AllByRecursion (Differ w) xs) same h.0) at_b
differ_at (z ∷ xs) (suc a) (suc b) x y h less at_a at_b = differ_at xs a b x y h.1 (omega arith) at_a at_b

-- two live sections of one part with one number there are the same, which stands once
pub one_owner : (link : LinkInput) (live : Live) (a b : ℕ) (x y : Input) → (a ≡ b → ⊥) → slice_get (live_inputs link live) a ≡ Some x → slice_get (live_inputs link live) b ≡ Some y → x ≡ y → ⊥
one_owner link live a b x y other at_a at_b same =
    let xs : List Input = live_inputs link live in
    elim (cases_lt a b) [
      | inl less ↦ differ_at xs a b x y (live_differ link live) less at_a at_b (ap (λ (z : Input). z.file) same) (ap (λ (z : Input). z.index) same)
      | inr more ↦ differ_at xs b a y x (live_differ link live) (omega (arith, other)) at_b at_a (ap (λ (z : Input). z.file) (sym same)) (ap (λ (z : Input). z.index) (sym same))
    ]

sections_apart : LiveSectionsAreOwners → (made : Made) (layout : LayoutRecord) → IsWellFormed made.link → AreLive made.link made.live
    → told_live made.link layout ≡ live_sections (made_filling made) (starts_of layout.section_part_layouts)
    → ((p : ℕ) → p < length (all_parts made.link.plan.sections) → IsSharedOut made layout p)
    → MemoryIsDisjoint made.link.plan layout.section_part_layouts → LiveSectionsAreApart made layout
sections_apart owners made layout good are_live is shared memory a b address x y l m other told_a told_b memory_a memory_b here there =
    let p : ℕ = x.section.part in
    let q : ℕ = y.section.part in
    let first = has_byte made layout x l address (stands owners made layout a x l is told_a) here in
    let second = has_byte made layout y m address (stands owners made layout b y m is told_b) there in
    let of_p = shared p (live_goes made.link made.live a x good are_live told_a.there) in
    let of_q = shared q (live_goes made.link made.live b y good are_live told_b.there) in
    let in_p = of_p.tiled.inside (owner_number (made_filling made) x) address first in
    let in_q = of_q.tiled.inside (owner_number (made_filling made) y) address second in
    elim (eqb_tells p q) [
      | inr miss ↦ memory p q address miss.1 memory_a memory_b
          (record { begins = in_p.0; ends = omega (arith, in_p.1, of_p.whole) }) (record { begins = in_q.0; ends = omega (arith, in_q.1, of_q.whole) })
      | inl hit ↦
          let owned : ℕ → ℕ → Type 0 = λ r k. HasByte (part_record layout r).mem_offset (part_at made.link.plan.sections r) (owners_of (made_filling made) r) k address in
          let beside : owned p (owner_number (made_filling made) y) = subst (λ r. owned r (owner_number (made_filling made) y)) (sym hit.1) second in
          let number : owner_number (made_filling made) x ≡ owner_number (made_filling made) y = of_p.tiled.apart (owner_number (made_filling made) x) (owner_number (made_filling made) y) address first beside in
          let mine : slice_get (owners_of (made_filling made) p) (owner_number (made_filling made) x) ≡ Some (SectionOwner x (size_of (made_filling made) x)) = (stands owners made layout a x l is told_a).owner in
          let yours : slice_get (owners_of (made_filling made) q) (owner_number (made_filling made) y) ≡ Some (SectionOwner y (size_of (made_filling made) y)) = (stands owners made layout b y m is told_b).owner in
          let both : Some (SectionOwner x (size_of (made_filling made) x)) ≡ Some (SectionOwner y (size_of (made_filling made) y))
          = sym mine ∙ ap (λ (r : ℕ). slice_get (owners_of (made_filling made) r) (owner_number (made_filling made) x)) hit.1 ∙ ap (slice_get (owners_of (made_filling made) q)) number ∙ yours in
          let same : x ≡ y = cc in
          one_owner made.link made.live a b x y other told_a.there told_b.there same
    ]

-- no two owners have a byte together
owners_apart : (made : Made) (layout : LayoutRecord) → ((p : ℕ) → p < length (all_parts made.link.plan.sections) → IsSharedOut made layout p)
    → MemoryIsDisjoint made.link.plan layout.section_part_layouts → OwnersAreApart made layout
owners_apart made layout shared memory p q j k address below_p below_q memory_p memory_q first second =
    let of_p = shared p below_p in
    let of_q = shared q below_q in
    let in_p = of_p.tiled.inside j address first in
    let in_q = of_q.tiled.inside k address second in
    elim (eqb_tells p q) [
      | inr miss ↦ absurd (memory p q address miss.1 memory_p memory_q
          (record { begins = in_p.0; ends = omega (arith, in_p.1, of_p.whole) }) (record { begins = in_q.0; ends = omega (arith, in_q.1, of_q.whole) }))
      | inl hit ↦
          let owned : ℕ → ℕ → Type 0 = λ r i. HasByte (part_record layout r).mem_offset (part_at made.link.plan.sections r) (owners_of (made_filling made) r) i address in
          (hit.1, of_p.tiled.apart j k address first (subst (λ r. owned r k) (sym hit.1) second))
    ]

-- ---- and aligned

-- a part with an owner that has bytes has bytes
owner_within : (part : PlanPart) (start : ℕ) (owners : List Owner) (k address : ℕ) → IsTiled start part owners → HasByte start part owners k address → 0 < bytes_of part owners
owner_within part start owners k address tiled h =
    let inside = tiled.inside k address h in
    omega (arith, inside.0, inside.1)

sections_aligned : OwnersTileTheirPart → OwnersAreAligned → LiveSectionsAreOwners → (machine : Machine) (link : LinkInput) (layout : LayoutRecord) (laid : IsLaidOut machine link layout)
    → LiveSectionsAreAligned (made_by laid) layout
sections_aligned tile aligned owners machine link layout laid a x l told some unpacked =
    let live : Live = laid.live in
    let p : ℕ = x.section.part in
    let s : Stands (made_by laid) layout x l = stands owners (made_by laid) layout a x l (shown machine link layout laid) told in
    let within : p < length (all_parts link.plan.sections) = live_goes link live a x laid.good laid.are_live told.there in
    let byte = has_byte (made_by laid) layout x l l.address s (record { begins = omega arith; ends = omega (arith, some) }) in
    let bytes : 0 < part_size (made_filling (made_by laid)) p = owner_within (part_at link.plan.sections p) (part_record layout p).mem_offset (owners_of (made_filling (made_by laid)) p) (owner_number (made_filling (made_by laid)) x) l.address (tile (made_filling (made_by laid)) p (part_record layout p).mem_offset) byte in
    let size : slice_index_or (part_sizes (made_filling (made_by laid))) p 0 ≡ part_size (made_filling (made_by laid)) p = part_size_at (made_filling (made_by laid)) p within in
    let begins : (part_at link.plan.sections p).alignment ∣ (record_at laid.stage.records p).mem_offset
    = part_starts machine link live laid.stage p laid.good laid.stands laid.unrefused within (omega (arith, bytes, size)) in
    let record_is : (record_at laid.stage.records p).mem_offset ≡ (part_record layout p).mem_offset = ap (λ rs. (record_at rs p).mem_offset) (sym (parts_are machine link layout laid)) in
    subst (λ n. (part_at link.plan.sections p).alignment ∣ n) (sym s.address)
    (dvd-add (part_at link.plan.sections p).alignment (subst (λ n. (part_at link.plan.sections p).alignment ∣ n) record_is begins) (aligned (made_filling (made_by laid)) p (owner_number (made_filling (made_by laid)) x) laid.good (live_good link live a x laid.good laid.are_live told.there).1.to_no_table unpacked))

-- ---- the laws

-- what its placement is of
abbrev pub set_by : {machine : Machine} {link : LinkInput} {layout : LayoutRecord} → IsLaidOut machine link layout → Setting
set_by {machine} {link} laid = setting_after (relaxing_for machine link laid.live) laid.stage.walked

soundly_set : (machine : Machine) (link : LinkInput) (layout : LayoutRecord) (laid : IsLaidOut machine link layout) → IsLawfulMachine machine → IsSoundlySet (set_by laid) laid.stage.states laid.stage.records
soundly_set machine link layout laid lawful = record { ready = ready machine link laid.live laid.stage.walked laid.good; page = laid.good.page; lawful = lawful.target; placed = laid.stands.placed }

-- a part of a layout starts at the same place in memory and in the file
abbrev IsCongruentAt : LinkInput → LayoutRecord → ℕ → ℕ → Type 0
IsCongruentAt link l i p =
    (part_record l p).mem_offset % alignment_inside link.plan l.section_layouts i ≡ (part_record l p).file_offset % alignment_inside link.plan l.section_layouts i

congruent : PlainMemoryIsCongruent → RecordsKeepAlignments → (machine : Machine) (link : LinkInput) (layout : LayoutRecord) (laid : IsLaidOut machine link layout) → IsLawfulMachine machine
    → IsPlain link.plan link.options.output → MemoryIsCongruent link layout
congruent in_step keep machine link layout laid lawful plain i s k p places backed part =
    let live : Live = laid.live in
    let kept : KeepAlignments (set_by laid) laid.stage.records
    = keep (set_by laid) laid.stage.states laid.stage.records (ready machine link live laid.stage.walked laid.good) laid.stands.placed (laid.stands.placed.ends laid.unrefused) in
    let found = in_step (set_by laid) laid.stage.states laid.stage.records (soundly_set machine link layout laid lawful) plain i s k p places backed part in
    let there = subst (λ (n : ℕ). (record_at laid.stage.records p).mem_offset % n ≡ (record_at laid.stage.records p).file_offset % n) (sym (kept.segment i)) found in
    subst (λ (l : LayoutRecord). IsCongruentAt link l i p) (sym laid.same) there

-- ---- relaxation

deletions_stand : OthersAreNoRedirects → DeletionsAreRead → RelaxedIsShrunk → DeletedSitesAreNear → RefusedExactlyPast → PartsTakeTheirBytes → (machine : Machine) (link : LinkInput) (layout : LayoutRecord) (laid : IsLaidOut machine link layout)
    → ChangesValuesAlone link.groups (placed_resolutions (made_by laid)) (made_resolutions (made_by laid)) → FlagsStand (made_by laid) (layout_of (made_by laid)) → DeletionsStand (made_by laid) layout
deletions_stand others read shrunk near refused mass machine link layout laid values flags =
    let by = relaxing_for machine link laid.live in
    let at_end : DeletionsStand (made_by laid) (layout_of (made_by laid)) = record {
      of = λ k x there. (shrunk by laid.stage laid.good laid.relaxed).of k x there;
      shrinks = λ k x there. only_scanned_lose read by laid.stage k x there laid.relaxed;
      near = candidates_near others read shrunk near refused mass machine link layout laid values flags;
    } in
    subst (DeletionsStand (made_by laid)) (sym laid.same) at_end

-- ---- sorted sections

sorted_stand : LiveSectionsAreOwners → (machine : Machine) (link : LinkInput) (layout : LayoutRecord) (laid : IsLaidOut machine link layout) → SortedStand (made_by laid) layout
sorted_stand owners machine link layout laid =
    let last = sorted_stand_last (made_by laid) in
    let told : SortedAreTold (made_by laid) layout = subst (SortedAreTold (made_by laid)) (sym laid.same) (sorted_are_told owners (made_by laid)) in
    record { behind = last.behind; among = last.among; inputs = told.inputs; by_name = told.by_name; told = told.told; owners = told.owners }

-- ---- all

-- what is laid out is sound
is_sound : RelaxedIsShrunk → DeletionsAreRead → DeletedSitesAreNear → OwnersTileTheirPart → OwnersAreAligned → LiveSectionsAreOwners → PartsTakeTheirBytes → RefusedExactlyPast → FileRangesAreDisjoint → PlainMemoryIsDisjoint → PlainMemoryIsCongruent → RecordsKeepAlignments → ThunksHaveRanges → BranchesReach
    → RedirectsChangeValuesAlone → OthersAreNoRedirects → (machine : Machine) (link : LinkInput) (layout : LayoutRecord) (laid : IsLaidOut machine link layout) → IsLawfulMachine machine → IsSound (made_by laid) layout
is_sound shrunk read near tile aligned owners mass refused file memory in_step keep ranges reach redirects others machine link layout laid lawful =
    let made : Made = made_by laid in
    let records : List Record = layout.section_part_layouts in
    let behind = changed redirects machine link layout laid in
    let values = redirects (placed_with made (made_sections made) (made_joined made)) (placed_resolutions made) (made_resolutions made) laid.redirected in
    let flags : FlagsStand made (layout_of made) = flags_stand made laid.are_live in
    let objects = objects_told others made layout behind in
    let alone = tables_alone (made_filling (made_by laid)) laid.good laid.are_live in
    let resolutions : ResolutionsStand made layout = subst (ResolutionsStand made) (sym laid.same) (resolutions_stand made flags values) in
    let numbers : NumbersStand made layout = subst (NumbersStand made) (sym laid.same) (numbers_stand others made laid.are_live values) in
    let placed = resolved_sections_are_live link laid.live laid.good laid.are_live laid.met in
    let singles = singles_stand machine link layout laid in
    record {
      is = laid.same;
      relaxed = laid.relaxed;
      unrefused = laid.unrefused;
      met = laid.met;
      reached = laid.are_live;
      shown = shown machine link layout laid;
      aligned = sections_aligned tile aligned owners machine link layout laid;
      merged = record {
        starts = buckets_start refused mass machine link layout laid;
        images = images_stand machine link layout laid;
        inside = laid.inside;
        named = named_symbols_show machine link layout laid objects;
        references = references_show machine link layout laid;
      };
      symbols = record {
        flags = subst (FlagsStand made) (sym laid.same) flags;
        given = resolutions.given;
        tells = resolutions.flags;
        valued = subst (ValuesStand made) (sym laid.same) (values_stand others made values placed);
        nowhere = numbers.nowhere;
        unnamed = numbers.unnamed;
        commons = commons_stand tile aligned machine link layout laid objects;
        edges = subst (EdgesStand made) (sym laid.same) (edges_stand made flags values);
        redirects = subst (RedirectsStand made) (sym laid.same) (redirects_stand made laid.redirected);
      };
      alone = alone;
      entries = entries_stand machine link layout laid lawful.sizes alone behind;
      grouped = subst (GroupsBegin made) (sym laid.same) (groups_begin made (starts_of laid.stage.records) laid.good alone (owners_fit refused mass machine link layout laid)
          (λ k p named. omega (arith, (good_part_fields link laid.good).in_range k p named, starts_count link laid.stage.records (starts_of laid.stage.records) refl laid.stands.placed.each)));
      thunks = thunks_stand refused mass ranges machine link layout laid lawful;
      reaching = branches_reach reach machine link layout laid;
      deletions = deletions_stand others read shrunk near refused mass machine link layout laid values flags;
      sorted = sorted_stand owners machine link layout laid;
      singles = singles.told;
      behind = singles.behind;
      covered = covered machine link layout laid;
      shared = shared_out tile mass machine link layout laid;
      file = subst (λ rs. FileIsDisjoint rs) (sym (parts_are machine link layout laid))
          (file (set_by laid) laid.stage.states laid.stage.records (ready machine link laid.live laid.stage.walked laid.good) laid.stands.placed);
      memory = λ plain.
          let disjoint : MemoryIsDisjoint link.plan records = subst (MemoryIsDisjoint link.plan) (sym (parts_are machine link layout laid))
          (memory (set_by laid) laid.stage.states laid.stage.records (soundly_set machine link layout laid lawful) plain) in
          record {
            parts = disjoint;
            sections = sections_apart owners (made_by laid) layout laid.good laid.are_live (shown machine link layout laid) (shared_out tile mass machine link layout laid) disjoint;
            owners = owners_apart (made_by laid) layout (shared_out tile mass machine link layout laid) disjoint;
          };
      congruent = λ plain. congruent in_step keep machine link layout laid lawful plain;
    }

pub sound : WellFormedExactlyUnfaulted → RelaxedStands → RelaxedIsShrunk → DeletionsAreRead → DeletedSitesAreNear → OwnersTileTheirPart → OwnersAreAligned → LiveSectionsAreOwners → PartsTakeTheirBytes → RefusedExactlyPast → FileRangesAreDisjoint → PlainMemoryIsDisjoint → PlainMemoryIsCongruent → RecordsKeepAlignments → ThunksHaveRanges → BranchesReach
    → RedirectsChangeValuesAlone → OthersAreNoRedirects → DefinedLayoutsAreSound
sound exactly stands shrunk read near tile aligned owners mass refused file memory in_step keep ranges reach redirects others machine link layout lawful defined =
    let laid = laid_out exactly stands machine link layout defined in
    (laid.live, laid.stage, is_sound shrunk read near tile aligned owners mass refused file memory in_step keep ranges reach redirects others machine link layout laid lawful)

-- under a plan in which nothing moves, the memory of a layout is disjoint
pub memory_disjoint : WellFormedExactlyUnfaulted → RelaxedStands → MemoryRangesAreDisjoint → LaidOutMemoryIsDisjoint
memory_disjoint exactly stands memory machine link layout placeable lawful defined =
    let laid = laid_out exactly stands machine link layout defined in
    subst (MemoryIsDisjoint link.plan) (sym (parts_are machine link layout laid))
    (memory (set_by laid) laid.stage.states laid.stage.records (soundly_set machine link layout laid lawful) placeable)

-- and so are its live sections, and all owners
pub laid_out_apart : LaidOutLinksAreWellFormed → LiveSectionsAreOwners → DefinedLayoutsAreSound → LaidOutMemoryIsDisjoint → LaidOutSectionsAreApart
laid_out_apart formed owners sound disjoint machine link layout placeable lawful defined =
    let good : IsWellFormed link = formed machine link layout defined in
    let found = sound machine link layout lawful defined in
    let made : Made = made_of machine link found.0 found.1 in
    let is : IsSound made layout = found.2 in
    let memory : MemoryIsDisjoint link.plan layout.section_part_layouts = disjoint machine link layout placeable lawful defined in
    let apart : IsApartInMemory made layout = record {
      parts = memory;
      sections = sections_apart owners made layout good is.reached is.shown is.shared memory;
      owners = owners_apart made layout is.shared memory;
    } in
    (found.0, found.1, (is, apart))
