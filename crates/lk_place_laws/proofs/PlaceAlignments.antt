-- The place alignments of segments are alignments, and at least those of the sections inside.
use Rattle.std.proofs.Common.{◌≡◌, ℕ, zero, suc, ◌+◌, ◌≤◌, true, List, [], ◌∷◌, map, max, take, sym, ap, subst, ◌∙◌, arith, add-zero, zero-add, Option, Some, None}
use Rattle.std.specs.Prelude.{if◌then◌else◌, slice_get}
use Rattle.std.specs.List.{AllByRecursion, cons_option, enumerate_from, filter_map}
use Rattle.std.proofs.Math.Nat.{le-max_right}
use Rattle.lk_link.specs.declared.plan.Plan.{Plan}
use Rattle.lk_link.specs.declared.plan.OrderEvent.{OrderEvent}
use Rattle.lk_link.specs.declared.plan.OrderEvent.TheVariants.{Section}
use Rattle.lk_link.specs.Alignments.{is_alignment}
use Rattle.lk_link.specs.Inside.{PlacesInside, is_open, placed_inside, placed_section, sections_inside}
use Rattle.lk_place.specs.Alignments.{greatest_alignment, greatest_of, place_alignment, section_alignment}
use Rattle.lk_place.specs.Setting.{Setting}
use Rattle.lk_place.proofs.Checked.{AreGood}
use Rattle.lk_place.proofs.AlignmentLaws.{greatest_of-aligned, greatest_of-least, section_aligned}

each_aligned : (plan : Plan) (sizes some : List ℕ) → AreGood plan.sections → AllByRecursion (λ (a : ℕ). is_alignment a ≡ true) (map (greatest_alignment plan sizes) some)
each_aligned plan sizes [] good = tt
each_aligned plan sizes (s ∷ some) good = (section_aligned plan sizes s good, each_aligned plan sizes some good)

-- a segment's place alignment is one
pub place_aligned : (setting : Setting) (i : ℕ) → AreGood setting.plan.sections → is_alignment setting.plan.page ≡ true → is_alignment (place_alignment setting i) ≡ true
place_aligned setting i good page =
    greatest_of-aligned setting.plan.page _ page (each_aligned setting.plan setting.sizes (sections_inside setting.plan.events i) good)

-- what is chosen of several that begin with one or none
chosen-reaches : (g : ℕ → ℕ) (least n : ℕ) (o : Option ℕ) (rest : List ℕ) → ((m : ℕ) → n ≤ greatest_of m (map g rest)) → n ≤ greatest_of least (map g (cons_option o rest))
chosen-reaches g least n None rest h = h least
chosen-reaches g least n (Some s) rest h = h (max least (g s))

-- the greatest inside a segment is at least that of each section placed while it is open
inside-reaches : (g : ℕ → ℕ) (i s : ℕ) (events es : List OrderEvent) (j k least : ℕ) → slice_get es k ≡ Some (Section s) → is_open i (take (j + k) events) ≡ true
    → g s ≤ greatest_of least (map g (filter_map (placed_inside events i) (enumerate_from j es)))
inside-reaches g i s events [] j k least here opened = absurd (cc)
inside-reaches g i s events (e ∷ es) j zero least here opened =
    let is : e ≡ Section s = cc in
    let rest : List ℕ = filter_map (placed_inside events i) (enumerate_from (j + 1) es) in
    let still : is_open i (take j events) ≡ true = ap (λ n. is_open i (take n events)) (sym (add-zero j)) ∙ opened in
    let placed : placed_inside events i (j, e) ≡ Some s = ap (λ b. if b then placed_section e else None) still ∙ ap placed_section is in
    let begun : g s ≤ greatest_of (max least (g s)) (map g rest) = omega (arith, greatest_of-least (max least (g s)) (map g rest), le-max_right least (g s)) in
    subst (λ o. g s ≤ greatest_of least (map g (cons_option o rest))) (sym placed) begun
inside-reaches g i s events (e ∷ es) j (suc k) least here opened =
    let number : j + suc k ≡ j + 1 + k = omega arith in
    let still : is_open i (take (j + 1 + k) events) ≡ true = ap (λ n. is_open i (take n events)) (sym number) ∙ opened in
    chosen-reaches g least (g s) (placed_inside events i (j, e)) (filter_map (placed_inside events i) (enumerate_from (j + 1) es))
    (λ m. inside-reaches g i s events es (j + 1) k m here still)

pub place_reaches : (setting : Setting) (i s k : ℕ) → PlacesInside setting.plan.events i s k → section_alignment setting s ≤ place_alignment setting i
place_reaches setting i s k h =
    let events : List OrderEvent = setting.plan.events in
    inside-reaches (greatest_alignment setting.plan setting.sizes) i s events events 0 k setting.plan.page h.here (ap (λ n. is_open i (take n events)) (zero-add k) ∙ h.inside)
