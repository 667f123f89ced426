-- The file of a defined layout: each byte that a part takes there is one owner's.
use Rattle.std.proofs.Common.{◌≡◌, ℕ, zero, suc, ◌+◌, ◌-◌, ◌<◌, ◌≤◌, true, false, List, [], ◌∷◌, Some, length, map, take, sym, ap, subst, ◌∙◌, inl, inr, arith, add-one, length-drop, length-take}
use Rattle.std.specs.Prelude.{drop, if◌then◌else◌, slice_get, slice_index}
use Rattle.std.proofs.lemmas.Bool.{cases_lt}
use Rattle.std.proofs.lemmas.Bool.Decides.{eqb_tells}
use Rattle.std.proofs.lemmas.List.{get_or-map, length-map}
use Rattle.lk_check.specs.FirstFault.{WellFormedExactlyUnfaulted}
use Rattle.lk_link.specs.declared.link.LinkInput.{LinkInput}
use Rattle.lk_link.specs.declared.plan.PlanPart.{PlanPart}
use Rattle.lk_link.specs.declared.plan.PlanSection.{PlanSection}
use Rattle.lk_link.specs.Parts.{all_parts, first_part, part_at}
use Rattle.lk_link.specs.PlanSections.{is_file_backed}
use Rattle.lk_link.proofs.PartNumbers.{first_part-cons, first_part-le, first_part-suc}
use Rattle.lk_expressions.specs.Records.{Record, file_end, nowhere, record_at}
use Rattle.lk_place.specs.PlacementLaws.{PartsTakeTheirBytes}
use Rattle.lk_place_laws.specs.PlacementLaws.{PartsTakeFileBytes}
use Rattle.lk_place.specs.Ranges.{FileIsDisjoint, HasPart, IsInFile}
use Rattle.lk_place.specs.Segments.{greatest, least, part_records, section_records}
use Rattle.lk_place.specs.Setting.{Setting, part_count, part_number, size_at}
use Rattle.lk_relax.specs.RelaxedLaws.{RelaxedStands}
use Rattle.lk_sizes.specs.Owners.{Owner, SectionOwner, bytes_of, owner_bytes, size_of}
use Rattle.lk_sizes.specs.PartOwners.{LiveSectionsAreOwners, owner_number, owners_of}
use Rattle.lk_size_laws.specs.Tiles.{HasByte}
use Rattle.lk_soundness.specs.FileBytes.{FileBytesHaveOwners, HasFileByte, IsFileBacked, LaidOutFileHasOneOwner, LiveSectionsOwnTheirFileBytes, LiveSectionsShareNoFileByte, OwnersShareNoFileByte, OwnersStandInTheirSections, PartsTakeTheirOwners}
use Rattle.lk_soundness.specs.Laws.{DefinedLayoutsAreSound}
use Rattle.lk_layout.specs.LayoutRecord.{LayoutRecord}
use Rattle.lk_layout.specs.Machines.{Machine}
use Rattle.lk_layout.specs.Made.{Made, made_filling, made_of}
use Rattle.lk_soundness.specs.Sound.{IsSharedOut, IsSound, part_record}
use Rattle.lk_layout.proofs.HeldParts as held
use Rattle.lk_layout.proofs.LaidOut.{IsLaidOut, laid_out}
use Rattle.lk_layout.proofs.Settings.{ready}
use Rattle.lk_soundness.proofs.ThunkAddresses.{bytes_within}
use Rattle.lk_soundness.proofs.Soundness.{Stands, has_byte, one_owner, parts_are, set_by, stands}

-- ---- the section of a part

-- behind the last section there are no parts
none_behind : (sections : List PlanSection) (s : ℕ) → length sections ≤ s → first_part sections (s + 1) ≤ first_part sections s
none_behind [] zero h = omega arith
none_behind [] (suc s) h = omega (arith, first_part-le [] (suc s + 1))
none_behind (x ∷ xs) zero h = absurd (omega arith)
none_behind (x ∷ xs) (suc s) h =
    omega (arith, first_part-cons x xs s, first_part-cons x xs (suc s), none_behind xs s (omega arith), ap (first_part (x ∷ xs)) (add-one (suc s)), ap (first_part xs) (add-one s))

-- a section with a part is there
there : (sections : List PlanSection) (s p : ℕ) → first_part sections s ≤ p → p < first_part sections (s + 1) → s < length sections
there sections s p from below = elim (cases_lt s (length sections)) [
  | inl less ↦ less
  | inr past ↦ absurd (omega (arith, from, below, none_behind sections s (omega (arith, past))))
]

-- ---- parts in the file

-- what a part takes in the file, if its section's bytes stand there, else none
takes_there : PartsTakeFileBytes → (machine : Machine) (link : LinkInput) (layout : LayoutRecord) (laid : IsLaidOut machine link layout) (s p : ℕ) → HasPart link.plan s p
    → (part_record layout p).file_size ≡ (if is_file_backed link.plan s then size_at (set_by laid).sizes p else 0)
takes_there in_file machine link layout laid s p part =
    let sections : List PlanSection = link.plan.sections in
    let setting : Setting = set_by laid in
    let within : s < length sections = there sections s p part.from part.below in
    let j : ℕ = p - first_part sections s in
    let below : j < part_count sections s = omega (arith, part.from, part.below, first_part-suc sections s within) in
    let number : part_number sections s j ≡ p = omega (arith, part.from) in
    let found = in_file setting laid.stage.states laid.stage.records (ready machine link laid.live laid.stage.walked laid.good) laid.stands.placed laid.unrefused s j within below in
    subst (λ (rs : List Record). (record_at rs p).file_size ≡ (if is_file_backed link.plan s then size_at setting.sizes p else 0)) (sym (parts_are machine link layout laid))
    (subst (λ (n : ℕ). (record_at laid.stage.records n).file_size ≡ (if is_file_backed link.plan s then size_at setting.sizes n else 0)) number found)

-- and in memory
takes_memory : PartsTakeTheirBytes → (machine : Machine) (link : LinkInput) (layout : LayoutRecord) (laid : IsLaidOut machine link layout) (p : ℕ) → p < length (all_parts link.plan.sections)
    → (part_record layout p).mem_size ≡ size_at (set_by laid).sizes p
takes_memory mass machine link layout laid p below =
    let records : List Record = laid.stage.records in
    let can = ready machine link laid.live laid.stage.walked laid.good in
    ap (λ (rs : List Record). (record_at rs p).mem_size) (parts_are machine link layout laid)
    ∙ sym (get_or-map (λ (r : Record). r.mem_size) records p nowhere 0 (omega (arith, below, laid.stands.placed.each)))
    ∙ ap (λ (sizes : List ℕ). slice_index sizes p) (mass (set_by laid) laid.stage.states records can laid.stands.placed laid.unrefused)

-- a part whose section's bytes stand in the file takes as many there as in memory, and any other none
record TakesBoth (link : LinkInput) (layout : LayoutRecord) (s p : ℕ) : Type 0 where
  backed : is_file_backed link.plan s ≡ true → (part_record layout p).file_size ≡ (part_record layout p).mem_size
  not_backed : is_file_backed link.plan s ≡ false → (part_record layout p).file_size ≡ 0

abbrev TakeBoth : LinkInput → LayoutRecord → Type 0
TakeBoth link layout = (s p : ℕ) → HasPart link.plan s p → TakesBoth link layout s p

take_both : PartsTakeTheirBytes → PartsTakeFileBytes → (machine : Machine) (link : LinkInput) (layout : LayoutRecord) (laid : IsLaidOut machine link layout) → TakeBoth link layout
take_both mass in_file machine link layout laid s p part =
    let size : ℕ = size_at (set_by laid).sizes p in
    let file = takes_there in_file machine link layout laid s p part in
    let below : p < length (all_parts link.plan.sections) = omega (arith, part.below, first_part-le link.plan.sections (s + 1)) in
    record {
      backed = λ is. file ∙ ap (λ b. if b then size else 0) is ∙ sym (takes_memory mass machine link layout laid p below);
      not_backed = λ is. file ∙ ap (λ b. if b then size else 0) is;
    }

-- ---- owners

abbrev AreShared : Made → LayoutRecord → Type 0
AreShared made layout = (p : ℕ) → p < length (all_parts made.link.plan.sections) → IsSharedOut made layout p

part_there : (made : Made) (p : ℕ) → IsFileBacked made.link.plan p → p < length (all_parts made.link.plan.sections)
part_there made p is = omega (arith, is.part.below, first_part-le made.link.plan.sections (is.section + 1))

-- the byte of an owner stands in the file range of its part
in_part : (made : Made) (layout : LayoutRecord) → AreShared made layout → TakeBoth made.link layout → (p k offset : ℕ) → HasFileByte made layout p k offset
    → IsInFile offset (part_record layout p)
in_part made layout shared both p k offset h =
    let of = shared p (part_there made p h.in_file) in
    let inside = of.tiled.inside k h.address h.byte in
    record { begins = omega (arith, h.place); ends = omega (arith, h.place, inside.0, inside.1, of.whole, (both h.in_file.section p h.in_file.part).backed h.in_file.backed) }

owners_share_none : (made : Made) (layout : LayoutRecord) → AreShared made layout → TakeBoth made.link layout → FileIsDisjoint layout.section_part_layouts
    → OwnersShareNoFileByte made layout
owners_share_none made layout shared both apart p q j k offset first second =
    elim (eqb_tells p q) [
      | inr miss ↦ absurd (apart p q offset miss.1 (in_part made layout shared both p j offset first) (in_part made layout shared both q k offset second))
      | inl hit ↦
          let of = shared p (part_there made p first.in_file) in
          let beside : HasFileByte made layout p k offset = subst (λ r. HasFileByte made layout r k offset) (sym hit.1) second in
          let one = of.tiled.inside j first.address first.byte in
          let two = of.tiled.inside k beside.address beside.byte in
          let same : beside.address ≡ first.address = omega (arith, one.0, two.0, sym first.place ∙ beside.place) in
          let owned : ℕ → Type 0 = λ a. HasByte (part_record layout p).mem_offset (part_at made.link.plan.sections p) (owners_of (made_filling made) p) k a in
          (hit.1, of.tiled.apart j k first.address first.byte (subst owned same beside.byte))
    ]

-- a part takes its owners' bytes
take_owners : (made : Made) (layout : LayoutRecord) → AreShared made layout → TakeBoth made.link layout → PartsTakeTheirOwners made layout
take_owners made layout shared both s p part = record {
  backed = λ is. (both s p part).backed is ∙ (shared p (omega (arith, part.below, first_part-le made.link.plan.sections (s + 1)))).whole;
  not_backed = (both s p part).not_backed;
}

-- and each of them in the file has an owner
have_owners : (made : Made) (layout : LayoutRecord) → AreShared made layout → TakeBoth made.link layout → FileBytesHaveOwners made layout
have_owners made layout shared both p offset backed here =
    let r : Record = part_record layout p in
    let of = shared p (part_there made p backed) in
    let address : ℕ = r.mem_offset + (offset - r.file_offset) in
    let size = (both backed.section p backed.part).backed backed.backed in
    let found = of.tiled.covered address (omega arith) (omega (arith, here.begins, here.ends, size, of.whole)) in
    (found.0, record { in_file = backed; address = address; byte = found.1; place = omega (arith, here.begins) })

-- ---- inside their sections

-- a part lies in the file range of its section
record IsHeld (part section : Record) : Type 0 where
  from : section.file_offset ≤ part.file_offset
  ends : file_end part ≤ file_end section

part_held : (sections : List PlanSection) (parts : List Record) (s p : ℕ) → length parts ≡ length (all_parts sections) → first_part sections s ≤ p → p < first_part sections (s + 1)
    → IsHeld (record_at parts p) (record_at (section_records sections parts) s)
part_held sections parts s p each from below =
    let first : ℕ = first_part sections s in
    let rs : List Record = part_records sections parts s in
    let within : s < length sections = there sections s p from below in
    let j : ℕ = p - first in
    let number : first + j ≡ p = omega (arith, from) in
    let early : j < first_part sections (s + 1) - first = omega (arith, from, below) in
    let count : j < length rs
    = omega (arith, early, each, first_part-le sections (s + 1), length-take (first_part sections (s + 1) - first) (drop first parts), length-drop first parts) in
    let at : record_at rs j ≡ record_at parts p = held.part_record sections parts s j early ∙ ap (record_at parts) number in
    let whole = held.section_record_at sections parts s within in
    let starts : List ℕ = map (λ (r : Record). r.file_offset) rs in
    let ends : List ℕ = map file_end rs in
    let low : least 0 starts ≤ (record_at rs j).file_offset
    = subst (λ n. least 0 starts ≤ n) (get_or-map (λ (r : Record). r.file_offset) rs j nowhere 0 count)
    (held.at_least 0 starts j 0 (omega (arith, count, length-map rs (λ (r : Record). r.file_offset)))) in
    let high : file_end (record_at rs j) ≤ greatest 0 ends
    = subst (λ n. n ≤ greatest 0 ends) (get_or-map file_end rs j nowhere 0 count) (held.at_most 0 ends j 0 (omega (arith, count, length-map rs file_end))) in
    record {
      from = omega (arith, low, ap (λ (r : Record). r.file_offset) whole, ap (λ (r : Record). r.file_offset) at);
      ends = omega (arith, low, high, ap file_end whole, ap file_end at);
    }

stand_inside : (made : Made) (layout : LayoutRecord) → AreShared made layout → TakeBoth made.link layout
    → layout.section_layouts ≡ section_records made.link.plan.sections layout.section_part_layouts → length layout.section_part_layouts ≡ length (all_parts made.link.plan.sections)
    → OwnersStandInTheirSections made layout
stand_inside made layout shared both spans each p k o at backed =
    let sections : List PlanSection = made.link.plan.sections in
    let part : PlanPart = part_at sections p in
    let owners : List Owner = owners_of (made_filling made) p in
    let of = shared p (part_there made p backed) in
    let within : bytes_of part (take k owners) + owner_bytes part o ≤ bytes_of part owners = bytes_within part owners k o at in
    let size = (both backed.section p backed.part).backed backed.backed in
    let inside = part_held sections layout.section_part_layouts backed.section p each backed.part.from backed.part.below in
    let section = ap (λ (rs : List Record). record_at rs backed.section) spans in
    record {
      behind = omega arith;
      from = omega (arith, inside.from, ap (λ (r : Record). r.file_offset) section);
      ends = omega (arith, within, of.whole, size, inside.ends, ap file_end section);
    }

-- ---- live sections

own_their_bytes : LiveSectionsAreOwners → (made : Made) (layout : LayoutRecord) → AreShared made layout → IsSound made layout → LiveSectionsOwnTheirFileBytes made layout
own_their_bytes owners made layout shared sound a offset x l told in_file here =
    let p : ℕ = x.section.part in
    let s : Stands made layout x l = stands owners made layout a x l sound.shown told in
    let r : Record = part_record layout p in
    let some : 0 < l.size = omega (arith, here.begins, here.ends) in
    let first = has_byte made layout x l l.address s (record { begins = omega arith; ends = omega (arith, some) }) in
    let above = ((shared p (part_there made p in_file)).tiled.inside (owner_number (made_filling made) x) l.address first).0 in
    let address : ℕ = r.mem_offset + (offset - r.file_offset) in
    record {
      in_file = in_file;
      address = address;
      byte = has_byte made layout x l address s (record { begins = omega (arith, here.begins, above); ends = omega (arith, here.begins, here.ends, above) });
      place = omega (arith, here.begins);
    }

sections_share_none : (made : Made) (layout : LayoutRecord) → LiveSectionsAreOwners → IsSound made layout → LiveSectionsOwnTheirFileBytes made layout → OwnersShareNoFileByte made layout
    → LiveSectionsShareNoFileByte made layout
sections_share_none made layout owners sound own apart a b offset x y l m other told_a told_b in_a in_b here there =
    let p : ℕ = x.section.part in
    let q : ℕ = y.section.part in
    let filling = made_filling made in
    let same = apart p q (owner_number filling x) (owner_number filling y) offset (own a offset x l told_a in_a here) (own b offset y m told_b in_b there) in
    let mine : slice_get (owners_of filling p) (owner_number filling x) ≡ Some (SectionOwner x (size_of filling x)) = (stands owners made layout a x l sound.shown told_a).owner in
    let yours : slice_get (owners_of filling q) (owner_number filling y) ≡ Some (SectionOwner y (size_of filling y)) = (stands owners made layout b y m sound.shown told_b).owner in
    let both : Some (SectionOwner x (size_of filling x)) ≡ Some (SectionOwner y (size_of filling y))
    = sym mine ∙ ap (λ (r : ℕ). slice_get (owners_of filling r) (owner_number filling x)) same.0 ∙ ap (slice_get (owners_of filling q)) same.1 ∙ yours in
    let one : x ≡ y = cc in
    one_owner made.link made.live a b x y other told_a.there told_b.there one

-- ---- the law

pub one_owner_each : WellFormedExactlyUnfaulted → RelaxedStands → LiveSectionsAreOwners → PartsTakeTheirBytes → PartsTakeFileBytes → DefinedLayoutsAreSound → LaidOutFileHasOneOwner
one_owner_each exactly standing owners mass in_file sound machine link layout lawful defined =
    let laid = laid_out exactly standing machine link layout defined in
    let found = sound machine link layout lawful defined in
    let made : Made = made_of machine link found.0 found.1 in
    let is : IsSound made layout = found.2 in
    let both : TakeBoth link layout = take_both mass in_file machine link layout laid in
    let own = own_their_bytes owners made layout is.shared is in
    let apart = owners_share_none made layout is.shared both is.file in
    let parts : layout.section_part_layouts ≡ laid.stage.records = parts_are machine link layout laid in
    let spans : layout.section_layouts ≡ section_records link.plan.sections layout.section_part_layouts
    = ap (λ (l : LayoutRecord). l.section_layouts) laid.same ∙ ap (section_records link.plan.sections) (sym parts) in (
      found.0,
      found.1,
      (
        is,
        record {
          taken = take_owners made layout is.shared both;
          have = have_owners made layout is.shared both;
          owners = apart;
          inside = stand_inside made layout is.shared both spans (ap length parts ∙ laid.stands.placed.each);
          owned = own;
          apart = sections_share_none made layout owners is own apart;
        },
      ),
    )
