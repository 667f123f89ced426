-- A section is refused exactly where one of its parts would end past 2^64 - 1.
use Rattle.std.proofs.Common.{◌≡◌, ℕ, zero, suc, ◌<◌, Bool, true, false, cond, Some, None, refl, sym, ap, subst, ◌∙◌, arith, inl, inr}
use Rattle.std.proofs.lemmas.Bool.{cases_Bool, cases_lt}
use Rattle.std.proofs.lemmas.Bool.Decides.{nat_tests}
use Rattle.lk_link.specs.Parts.{part_at}
use Rattle.lk_place.specs.declared.cursors.Offsets.{Offsets}
use Rattle.lk_place.specs.declared.error.Refusal.TheVariants.{Overflow}
use Rattle.lk_place.specs.Placement.{behind, end_behind, first_walked, is_below, is_walked, overflow_at, section_end, section_start}
use Rattle.lk_place.specs.CarriedOut.{IsRestingAt}
use Rattle.lk_place_laws.specs.PlacementLaws.{RefusedExactlyPast}
use Rattle.lk_expressions.specs.Records.{Fits, Record, record_at}
use Rattle.lk_place.specs.Setting.{Setting, part_count, part_number}
use Rattle.lk_place.proofs.PlacedSections.{by_walked, place_walked, places_makes, unloaded, walked_record}
use Rattle.lk_place.proofs.SectionEnds.{IsFirstWalked, below_too, ends_rise, first_walked_place}

not_refused : (c : Offsets) → overflow_at c ≡ None → is_below c ≡ true
not_refused c h = elim (is_below c) as (λ b. cond b None (Some Overflow) ≡ None → b ≡ true) [ true ↦ λ e. refl | false ↦ λ e. absurd (cc) ] h

below_fits : (r : Record) → is_below (behind r) ≡ true → Fits r
below_fits r h = record { file = grind (arith, nat_tests); mem = grind (arith, nat_tests) }

fits_below : (r : Record) → Fits r → is_below (behind r) ≡ true
fits_below r h = grind (arith, nat_tests, h.file, h.mem)

-- a walked part ends where the cursors behind it are
walked_end : (setting : Setting) (s j : ℕ) (begin : Offsets) → is_walked setting s (part_number setting.plan.sections s j) ≡ true → behind (walked_record setting s begin j) ≡ end_behind setting s begin (suc j)
walked_end setting s j begin walked =
    ap (λ (b : Bool). cond b (behind (walked_record setting s begin j)) (end_behind setting s begin j)) (sym walked)

-- the cursors behind some parts, the first walked one among them, are those behind a walked one
last_walked : (setting : Setting) (s i : ℕ) (begin : Offsets) → IsFirstWalked setting s i → (n : ℕ) → i < n
    → (j : ℕ) × (j < n) × (is_walked setting s (part_number setting.plan.sections s j) ≡ true) × (end_behind setting s begin n ≡ behind (walked_record setting s begin j))
last_walked setting s i begin first zero less = absurd (omega arith)
last_walked setting s i begin first (suc n) less =
    let p : ℕ = part_number setting.plan.sections s n in
    let before : Offsets = end_behind setting s begin n in
    let next : Offsets = behind (walked_record setting s begin n) in
    elim (cases_Bool (is_walked setting s p)) [
      | inl walked ↦ (n, omega arith, walked, sym (walked_end setting s n begin walked))
      | inr rests ↦ elim (cases_lt i n) [
        | inl early ↦
            let last = last_walked setting s i begin first n early in
            (last.0, omega (arith, last.1), last.2, ap (λ (b : Bool). cond b next before) rests ∙ last.3)
        | inr at ↦
            let same : i ≡ n = omega arith in
            let walked : is_walked setting s p ≡ true = ap (λ (k : ℕ). is_walked setting s (part_number setting.plan.sections s k)) (sym same) ∙ place_walked setting s i first in
            absurd (cc)
      ]
    ]

-- a part that rests fits where the first walked one does
rests_fit : (first : Record) (own : ℕ) (r : Record) → Fits first → IsRestingAt own first r → Fits r
rests_fit first own r h is = record { file = omega (arith, h.file, is.in_file, is.takes_file); mem = omega (arith, h.mem, is.at, is.takes) }

pub refused_exactly_past : RefusedExactlyPast
refused_exactly_past setting s from records to ready below places =
    let begin : Offsets = section_start setting s from in
    let count : ℕ = part_count setting.plan.sections s in
    let number : ℕ → ℕ = part_number setting.plan.sections s in
    let made = (places_makes setting s from records to ready below places).made in
    let first = first_walked_place setting s ready below in
    let is : (j : ℕ) → j < count → is_walked setting s (number j) ≡ true → unloaded (record_at records (number j)) ≡ walked_record setting s begin j = λ j less walked. made j less ∙ by_walked setting s begin j walked in
    let walked_fits : is_below (section_end setting s begin) ≡ true → (j : ℕ) → j < count → is_walked setting s (number j) ≡ true → Fits (record_at records (number j))
    = λ fits j less walked. below_fits (record_at records (number j)) (
    ap (λ (r : Record). is_below (behind r)) (is j less walked)
    ∙ ap is_below (walked_end setting s j begin walked)
    ∙ below_too (end_behind setting s begin (suc j)) (end_behind setting s begin count) (ends_rise setting s begin (suc j) count (omega arith)) fits) in (
      λ none j less.
          let fits : is_below (section_end setting s begin) ≡ true = not_refused (section_end setting s begin) none in
          elim (cases_Bool (is_walked setting s (number j))) [
            | inl walked ↦ walked_fits fits j less walked
            | inr rests ↦
                let first_fits : Fits (record_at records (first_walked setting s)) =
                subst (λ (p : ℕ). Fits (record_at records p)) (sym first.1.is) (walked_fits fits first.0 first.1.within (place_walked setting s first.0 first.1)) in
                rests_fit (record_at records (first_walked setting s)) (part_at setting.plan.sections (number j)).alignment (record_at records (number j)) first_fits (places.resting j less rests)
          ],
      λ fit.
          let last = last_walked setting s first.0 begin first.1 count first.1.within in
          let fits : is_below (section_end setting s begin) ≡ true =
          ap is_below (last.3 ∙ ap behind (sym (is last.0 last.1 last.2))) ∙ fits_below (record_at records (number last.0)) (fit last.0 last.1) in
          ap (λ (b : Bool). cond b None (Some Overflow)) fits,
    )
