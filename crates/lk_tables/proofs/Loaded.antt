-- Which sections are loaded, by what the description says of them and their marks.
use Rattle.std.proofs.Common.{◌≡◌, ℕ, ◌+◌, ◌&&◌, ◌||◌, not, Bool, true, false, if◌then◌else◌, Option, Some, None, option_and_then, option_map, refl, sym, ap, ◌∙◌}
use Rattle.std.specs.List.{slice_get}
use Rattle.std.specs.Option.{option_map_or}
use Rattle.lk_link.specs.declared.file.InputFile.{InputFile}
use Rattle.lk_link.specs.declared.link.LinkInput.{LinkInput}
use Rattle.lk_link.specs.declared.section.InputSection.{InputSection}
use Rattle.lk_link.specs.declared.section.InputSlot.{InputSlot}
use Rattle.lk_link.specs.declared.section.InputSlot.TheVariants as slot
use Rattle.lk_link.specs.declared.section.SectionSlot.TheVariants as after
use Rattle.lk_link.specs.InputSlots.{is_discarded, is_merge}
use Rattle.lk_link.specs.Inputs.{NumberedFile, input_number}
use Rattle.lk_link.specs.Marks.{is_marked}
use Rattle.lk_link.specs.SectionSlots.{is_loaded}
use Rattle.lk_live.specs.declared.live.Live.{Live}
use Rattle.lk_live.specs.Slots.{is_singleton, kept_section, live_slot, loaded_slot, slot_after, slot_by}
use Rattle.lk_tables.specs.TableWords.{IsLookedAt}

-- one that is kept for what it holds is loaded
kept_is_loaded : (link : LinkInput) (s : InputSection) → is_loaded (loaded_slot link s) ≡ true
kept_is_loaded link s = by (is_singleton link s) s.sorted
  where
    by : (a b : Bool) → is_loaded (if a then after.PartialLinkSingleton (kept_section s) else if b then after.Sorted (kept_section s) else after.Loaded (kept_section s)) ≡ true
    by true b = refl
    by false true = refl
    by false false = refl

by_slot : (link : LinkInput) (live : Bool) (s : InputSection) (x : InputSlot)
    → (not (is_discarded x) && (is_merge x || live)) ≡ is_loaded (slot_by link live s x)
by_slot link live s slot.Discard = refl
by_slot link live s slot.Merge = refl
by_slot link true s slot.Unloaded = sym (kept_is_loaded link s)
by_slot link false s slot.Unloaded = refl
by_slot link true s slot.MustLoad = sym (kept_is_loaded link s)
by_slot link false s slot.MustLoad = refl
by_slot link true s slot.DebugInfo = refl
by_slot link false s slot.DebugInfo = refl
by_slot link true s slot.MustLoadDebugInfo = refl
by_slot link false s slot.MustLoadDebugInfo = refl

-- what is told of the section of a file with an index
told_of : (link : LinkInput) (live : Live) (f : NumberedFile) (first i : ℕ) (o : Option InputSection) → IsLookedAt link f first → slice_get f.file.sections i ≡ o
    → option_map_or is_loaded (live_slot link live f.id i) false ≡ option_map_or is_loaded (option_map (slot_after link (is_marked live.marks (first + i))) o) false
told_of link live f first i o at is =
    ap (λ (x : Option InputFile). option_map_or is_loaded (option_map (slot_after link (is_marked live.marks (input_number link.groups f.id i))) (option_and_then (λ g. slice_get g.sections i) x)) false) at.there
    ∙ ap (λ (x : Option InputSection). option_map_or is_loaded (option_map (slot_after link (is_marked live.marks (input_number link.groups f.id i))) x) false) is
    ∙ ap (λ (n : ℕ). option_map_or is_loaded (option_map (slot_after link (is_marked live.marks (n + i))) o) false) (sym at.number)

pub loaded_there : (link : LinkInput) (live : Live) (f : NumberedFile) (first i : ℕ) (s : InputSection) → IsLookedAt link f first → slice_get f.file.sections i ≡ Some s
    → (not (is_discarded s.slot) && (is_merge s.slot || is_marked live.marks (first + i))) ≡ option_map_or is_loaded (live_slot link live f.id i) false
loaded_there link live f first i s at is =
    by_slot link (is_marked live.marks (first + i)) s s.slot ∙ sym (told_of link live f first i (Some s) at is)

pub none_loaded : (link : LinkInput) (live : Live) (f : NumberedFile) (first i : ℕ) → IsLookedAt link f first → slice_get f.file.sections i ≡ None
    → false ≡ option_map_or is_loaded (live_slot link live f.id i) false
none_loaded link live f first i at is = sym (told_of link live f first i None at is)
