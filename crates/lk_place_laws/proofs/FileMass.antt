-- Each part's record takes the part's bytes in the file, where they stand there.
use Rattle.std.proofs.Common.{◌≡◌, ℕ, ◌+◌, ◌<◌, Bool, true, false, List, length, refl, sym, ◌∙◌, arith, inl, inr}
use Rattle.std.specs.Prelude.{if◌then◌else◌}
use Rattle.std.proofs.lemmas.Bool.{cases_Bool}
use Rattle.std.proofs.lemmas.Option.{slice_get_within}
use Rattle.lk_link.specs.declared.plan.OrderEvent.TheVariants.{Section}
use Rattle.lk_link.specs.PlanSections.{is_file_backed}
use Rattle.lk_place.specs.declared.cursors.Cursors.{Cursors}
use Rattle.lk_place.specs.Placement.{known_before, is_walked, state_at}
use Rattle.lk_place.specs.CarriedOut.{PlacesSection, CarriesOut}
use Rattle.lk_place_laws.specs.PlacementLaws.{PartsTakeFileBytes}
use Rattle.lk_expressions.specs.Records.{Record, record_at}
use Rattle.lk_place.specs.Setting.{Setting, part_count, part_number, size_at}
use Rattle.lk_place.proofs.MassLaws.{no_bytes}
use Rattle.lk_place.proofs.Passing.{events_are_carried_out}

-- what has no bytes takes none in the file, whether bytes stand there or not
none_there : (backed : Bool) (size : ℕ) → size ≡ 0 → (if backed then size else 0) ≡ 0
none_there true size none = none
none_there false size none = refl

section_takes_file : (setting : Setting) (s j : ℕ) (from to : Cursors) (records : List Record) → PlacesSection setting s from records to → j < part_count setting.plan.sections s
    → (record_at records (part_number setting.plan.sections s j)).file_size
    ≡ (if is_file_backed setting.plan s then size_at setting.sizes (part_number setting.plan.sections s j) else 0)
section_takes_file setting s j from to records places less =
    let p : ℕ = part_number setting.plan.sections s j in
    elim (cases_Bool (is_walked setting s p)) [
      | inl walked ↦ (places.walked j less walked).takes_file
      | inr rests ↦ (places.resting j less rests).takes_file ∙ sym (none_there (is_file_backed setting.plan s) (size_at setting.sizes p) (no_bytes setting s p rests))
    ]

pub parts_take_file_bytes : PartsTakeFileBytes
parts_take_file_bytes setting states records ready is unrefused s j there within =
    let event = ready.events.placed s there in
    let k : ℕ = event.0 in
    let early : k < length setting.plan.events = slice_get_within setting.plan.events k (Section s) event.1 in
    let steps : CarriesOut setting (known_before setting states records k) (Section s) (state_at states k) records (state_at states (k + 1)) = events_are_carried_out setting states records ready is k (Section s) (omega (arith, is.ends unrefused)) event.1 in
    section_takes_file setting s j steps.entered (state_at states (k + 1)) records steps.places.placed within
