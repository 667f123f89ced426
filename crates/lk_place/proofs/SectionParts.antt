-- The records of a section's parts, among those of all parts, are those that a section is given.
use Rattle.std.proofs.Common.{◌≡◌, ℕ, ◌+◌, ◌-◌, ◌<◌, List, length, drop, map, Option, sym, ap, ◌∙◌, arith}
use Rattle.std.specs.List.{slice_index_or}
use Rattle.std.proofs.lemmas.List.{ext_get_or, get_or-drop, get_or-take, length-drop, length-map, length-take}
use Rattle.std.proofs.lemmas.Option.{get_or_from_slice_get}
use Rattle.lk_link.specs.declared.plan.PlanSection.{PlanSection}
use Rattle.lk_link.specs.Parts.{all_parts, first_part}
use Rattle.lk_link.specs.PlanSections.{section_at}
use Rattle.lk_link.proofs.Numbers.{length-made, numbered_at}
use Rattle.lk_link.proofs.PartNumbers.{first_part-le, first_part-suc}
use Rattle.lk_place.specs.declared.cursors.Cursors.{Cursors}
use Rattle.lk_place.specs.declared.cursors.Offsets.{Offsets}
use Rattle.lk_place.specs.PlacedBefore.{PlacedRecords}
use Rattle.lk_place.specs.Placement.{loaded_by, record_by, records_by, section_start}
use Rattle.lk_expressions.specs.Records.{Record, nowhere, record_at}
use Rattle.lk_place.specs.Segments.{part_records}
use Rattle.lk_place.specs.Setting.{Setting, part_count, part_number}
use Rattle.lk_place.specs.Walk.{load_of}

-- ---- among all parts

pub part_of : (sections : List PlanSection) (records : List Record) (s j : ℕ) → s < length sections → j < part_count sections s
    → slice_index_or (part_records sections records s) j nowhere ≡ record_at records (part_number sections s j)
part_of sections records s j below within =
    let first : ℕ = first_part sections s in
    get_or-take (first_part sections (s + 1) - first) (drop first records) j nowhere (omega (arith, first_part-suc sections s below)) ∙ get_or-drop first records j nowhere

pub parts_count : (sections : List PlanSection) (records : List Record) (s : ℕ) → length records ≡ length (all_parts sections) → s < length sections
    → length (part_records sections records s) ≡ part_count sections s
parts_count sections records s each below =
    omega (
      arith,
      length-take (first_part sections (s + 1) - first_part sections s) (drop (first_part sections s) records),
      length-drop (first_part sections s) records,
      first_part-suc sections s below,
      first_part-le sections (s + 1),
      each,
    )

-- ---- what a section is given

-- the computed record of part p of a section, loaded from the section's load address
abbrev pub loaded_record : Setting → PlacedRecords → ℕ → Cursors → ℕ → Record
loaded_record setting standing s from p = loaded_by (load_of setting standing s from) (record_by setting s (section_start setting s from) p)

-- those of all its parts
abbrev pub loaded_records : Setting → PlacedRecords → ℕ → Cursors → List Record
loaded_records setting standing s from = map (loaded_by (load_of setting standing s from)) (records_by setting s (section_start setting s from))

-- these records are those that the walk computes for the parts of a section
abbrev pub AreWalked : Setting → PlacedRecords → ℕ → Cursors → List Record → Type 0
AreWalked setting standing s from records = (j : ℕ) → j < part_count setting.plan.sections s
    → record_at records (part_number setting.plan.sections s j) ≡ loaded_record setting standing s from (part_number setting.plan.sections s j)

loaded_at : (setting : Setting) (standing : PlacedRecords) (s : ℕ) (from : Cursors) (j : ℕ) → j < part_count setting.plan.sections s
    → slice_index_or (loaded_records setting standing s from) j nowhere ≡ loaded_record setting standing s from (part_number setting.plan.sections s j)
loaded_at setting standing s from j within =
    let load : Option ℕ = load_of setting standing s from in
    let begin : Offsets = section_start setting s from in
    get_or_from_slice_get (loaded_records setting standing s from) j (loaded_record setting standing s from (part_number setting.plan.sections s j)) nowhere
    (numbered_at (loaded_by load) (record_by setting s begin) (section_at setting.plan.sections s).parts (first_part setting.plan.sections s) j within)

loaded_count : (setting : Setting) (standing : PlacedRecords) (s : ℕ) (from : Cursors) → length (loaded_records setting standing s from) ≡ part_count setting.plan.sections s
loaded_count setting standing s from =
    let begin : Offsets = section_start setting s from in
    length-map (records_by setting s begin) (loaded_by (load_of setting standing s from))
    ∙ length-made (record_by setting s begin) (section_at setting.plan.sections s).parts (first_part setting.plan.sections s)

-- where they are, the section's records are what it is given
pub walked_given : (setting : Setting) (standing : PlacedRecords) (s : ℕ) (from : Cursors) (records : List Record) → length records ≡ length (all_parts setting.plan.sections)
    → s < length setting.plan.sections → AreWalked setting standing s from records → part_records setting.plan.sections records s ≡ loaded_records setting standing s from
walked_given setting standing s from records each below walked =
    let sections : List PlanSection = setting.plan.sections in
    let count : length (part_records sections records s) ≡ part_count sections s = parts_count sections records s each below in
    ext_get_or nowhere (part_records sections records s) (loaded_records setting standing s from) (count ∙ sym (loaded_count setting standing s from))
    (λ j less.
    let within : j < part_count sections s = omega (arith, count) in
    part_of sections records s j below within ∙ walked j within ∙ sym (loaded_at setting standing s from j within))

-- and the other way
pub given_walked : (setting : Setting) (standing : PlacedRecords) (s : ℕ) (from : Cursors) (records : List Record) → s < length setting.plan.sections
    → part_records setting.plan.sections records s ≡ loaded_records setting standing s from → AreWalked setting standing s from records
given_walked setting standing s from records below given j within =
    sym (part_of setting.plan.sections records s j below within)
    ∙ ap (λ (rs : List Record). slice_index_or rs j nowhere) given
    ∙ loaded_at setting standing s from j within
