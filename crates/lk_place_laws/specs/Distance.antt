-- How far memory stands from the file, under plain plans.
use Rattle.std.specs.Prelude.{◌≡◌, ℕ, ◌+◌, true, List, length}
use Rattle.lk_link.specs.declared.plan.Plan.{Plan}
use Rattle.lk_link.specs.PlanSections.{is_file_backed}
use Rattle.lk_place.specs.declared.cursors.Cursors.{Cursors}
use Rattle.lk_place_laws.specs.Laws.{IsSoundlySet}
use Rattle.lk_place.specs.Plain.{IsPlain, PlacesInLoad}
use Rattle.lk_place.specs.Ranges.{HasPart}
use Rattle.lk_expressions.specs.Records.{Record, has_file_bytes, record_at}
use Rattle.lk_place.specs.Segments.{section_records}
use Rattle.lk_place.specs.Setting.{Setting}

-- part p stands inside load segment i, and has bytes in the file
pub record HasFileBytesIn (plan : Plan) (records : List Record) (i p : ℕ) : Type 0 where
  pub s : ℕ
  pub k : ℕ
  pub places : PlacesInLoad plan i s k
  pub part : HasPart plan s p
  pub bytes : has_file_bytes (record_at records p) ≡ true

-- memory starts as far from the file at one record as at another
abbrev pub AreEquallyFar : Record → Record → Type 0
AreEquallyFar r q = r.mem_offset + q.file_offset ≡ q.mem_offset + r.file_offset

-- under a plain plan memory starts equally far from the file at all parts of a load segment that have bytes in the file
abbrev pub PlainMemoryKeepsDistance : Type 0
PlainMemoryKeepsDistance = (setting : Setting) (states : List Cursors) (records : List Record)
    → IsSoundlySet setting states records → IsPlain setting.plan setting.output
    → (i p q : ℕ) → HasFileBytesIn setting.plan records i p → HasFileBytesIn setting.plan records i q
    → AreEquallyFar (record_at records p) (record_at records q)

-- ---- sections

-- section s stands inside load segment i, and has bytes in the file
pub record HasSectionBytesIn (plan : Plan) (records : List Record) (i s : ℕ) : Type 0 where
  pub k : ℕ
  pub places : PlacesInLoad plan i s k
  pub bytes : has_file_bytes (record_at (section_records plan.sections records) s) ≡ true

-- so it does at all sections of the segment that have bytes in the file, by what they span
abbrev pub PlainSectionsKeepDistance : Type 0
PlainSectionsKeepDistance = (setting : Setting) (states : List Cursors) (records : List Record)
    → IsSoundlySet setting states records → IsPlain setting.plan setting.output
    → (i s t : ℕ) → HasSectionBytesIn setting.plan records i s → HasSectionBytesIn setting.plan records i t
    → AreEquallyFar (record_at (section_records setting.plan.sections records) s) (record_at (section_records setting.plan.sections records) t)

-- and so it does, where no event is refused, at all sections of the segment that take bytes of the file, with or without any
abbrev pub PlainBackedSectionsKeepDistance : Type 0
PlainBackedSectionsKeepDistance = (setting : Setting) (states : List Cursors) (records : List Record)
    → IsSoundlySet setting states records → IsPlain setting.plan setting.output → length states ≡ length setting.plan.events + 1
    → (i s t k m : ℕ) → PlacesInLoad setting.plan i s k → PlacesInLoad setting.plan i t m
    → is_file_backed setting.plan s ≡ true → is_file_backed setting.plan t ≡ true
    → AreEquallyFar (record_at (section_records setting.plan.sections records) s) (record_at (section_records setting.plan.sections records) t)
