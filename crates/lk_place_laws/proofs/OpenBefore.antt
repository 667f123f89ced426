-- Which segments are open before an event.
use Rattle.std.proofs.Common.{◌≡◌, ℕ, suc, Bool, true, false, List, take, Some, refl, sym, ap, ◌∙◌}
use Rattle.std.specs.Prelude.{◌&&◌, ◌||◌, not, slice_get}
use Rattle.std.specs.List.{list_any}
use Rattle.lk_link.specs.declared.plan.OrderEvent.{OrderEvent}
use Rattle.lk_link.specs.declared.plan.OrderEvent.TheVariants.{SegmentStart, SegmentEnd, Section, SetLocation, SetLocationRelative, SetSectionAddress}
use Rattle.lk_link.specs.Inside.{is_open, placed_section}
use Rattle.lk_link.specs.Rules.{is_start, is_end}
use Rattle.lk_place.proofs.OpenSegments.{any_more}

-- an event that places a section is that of the section
pub section_event : (e : OrderEvent) (u : ℕ) → placed_section e ≡ Some u → e ≡ Section u
section_event (Section t) u h = let same : t ≡ u = cc in ap (λ n. Section n) same
section_event (SegmentStart j) u h = absurd (cc)
section_event (SegmentEnd j) u h = absurd (cc)
section_event (SetLocation x) u h = absurd (cc)
section_event (SetLocationRelative x t) u h = absurd (cc)
section_event (SetSectionAddress x) u h = absurd (cc)

-- open behind an event that does not open it: open before the event
was_open : (a b c d : Bool) → ((a || c) && not (b || d)) ≡ true → c ≡ false → (a && not b) ≡ true
was_open true false c d h unopened = refl
was_open true true c d h unopened = absurd (cc)
was_open false b c d h unopened = absurd (cc)

pub open_before : (i n : ℕ) (es : List OrderEvent) (e : OrderEvent) → slice_get es n ≡ Some e → is_start i e ≡ false → is_open i (take (suc n) es) ≡ true → is_open i (take n es) ≡ true
open_before i n es e here unopened h =
    was_open (list_any (is_start i) (take n es)) (list_any (is_end i) (take n es)) (is_start i e) (is_end i e)
    (sym (ap (λ b. b && not (list_any (is_end i) (take (suc n) es))) (any_more (is_start i) es n e here) ∙ ap (λ b. (list_any (is_start i) (take n es) || is_start i e) && not b) (any_more (is_end i) es n e here)) ∙ h)
    unopened
