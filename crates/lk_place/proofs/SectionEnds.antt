-- The cursors behind the parts of a section rise, and stay where they begin up to the first walked part.
use Rattle.std.proofs.Common.{◌≡◌, ℕ, zero, suc, ◌+◌, ◌-◌, ◌≤◌, ◌<◌, Bool, true, false, cond, List, length, drop, Option, Some, None, refl, sym, ap, subst, ◌∙◌, arith, inl, inr, add-one, eq-eqb}
use Rattle.std.specs.Prelude.{◌==◌, ◌||◌, nat_lt, slice_index, position, unwrap_or, Result, Ok, Err, IfErr, IsErrAnd}
use Rattle.std.proofs.lemmas.Bool.{cases_Bool, cases_lt}
use Rattle.std.proofs.lemmas.Bool.Decides.{nat_tests}
use Rattle.std.proofs.lemmas.List.{get_or-drop, get_or-take, length-drop, length-take}
use Rattle.std.proofs.lemmas.List.Quantifiers.{position-Some}
use Rattle.lk_link.specs.Parts.{first_part}
use Rattle.lk_link.specs.PlanSections.{is_file_backed}
use Rattle.lk_link.proofs.PartNumbers.{first_part-le, first_part-suc}
use Rattle.lk_place.specs.declared.cursors.Offsets.{Offsets}
use Rattle.lk_place.specs.declared.error.Refusal.{Refusal}
use Rattle.lk_place.specs.declared.error.Refusal.TheVariants.{Overflow}
use Rattle.lk_place.specs.Alignments.{section_alignment}
use Rattle.lk_place.specs.Placement.{behind, end_behind, first_record, first_walked, is_below, is_walked, next_end, next_record, overflow_at, placed_at, record_by, unless, walk_alignment, walked_from}
use Rattle.lk_expressions.specs.Records.{Record}
use Rattle.lk_place.specs.Setting.{IsReady, Setting, has_bytes, of_parts, part_count, part_number, size_at}
use Rattle.lk_place.proofs.Checked.{has_part}
use Rattle.lk_place.proofs.PlacedParts.{unless_below, unless_past}

-- neither cursor is past the other's
pub record AreBelow (c d : Offsets) : Type 0 where
  pub file : c.file ≤ d.file
  pub memory : c.memory ≤ d.memory

same_below : (c : Offsets) → AreBelow c c
same_below c = record { file = omega arith; memory = omega arith }

both_below : (c d e : Offsets) → AreBelow c d → AreBelow d e → AreBelow c e
both_below c d e h g = record { file = omega (arith, h.file, g.file); memory = omega (arith, h.memory, g.memory) }

placed_above : (backed : Bool) (a size : ℕ) (c : Offsets) → AreBelow c (behind (placed_at backed a size c))
unfolding placed_at
placed_above true a size c = record { file = omega arith; memory = omega arith }
placed_above false a size c = record { file = omega arith; memory = omega arith }

-- a part leaves the cursors at or above those before it
pub next_above : (setting : Setting) (s p : ℕ) (c : Offsets) → AreBelow c (next_end setting s p c)
next_above setting s p c =
    let next : Offsets = behind (walked_from setting s p c) in
    elim (is_walked setting s p) as (λ b. AreBelow c (cond b next c)) [
      | true ↦ placed_above (is_file_backed setting.plan s) (walk_alignment setting s p) (size_at setting.sizes p) c
      | false ↦ same_below c
    ]

-- more parts leave the cursors at or above those behind fewer
pub ends_rise : (setting : Setting) (s : ℕ) (begin : Offsets) (j k : ℕ) → j ≤ k → AreBelow (end_behind setting s begin j) (end_behind setting s begin k)
ends_rise setting s begin j zero h = subst (λ (n : ℕ). AreBelow (end_behind setting s begin n) begin) (let e : 0 ≡ j = omega arith in e) (same_below begin)
ends_rise setting s begin j (suc k) h =
    let before : Offsets = end_behind setting s begin k in
    elim (cases_lt j (suc k)) [
      | inl less ↦ both_below (end_behind setting s begin j) before _ (ends_rise setting s begin j k (omega arith)) (next_above setting s (part_number setting.plan.sections s k) before)
      | inr other ↦
          let e : suc k ≡ j = omega arith in
          subst (λ (n : ℕ). AreBelow (end_behind setting s begin n) (end_behind setting s begin (suc k))) e (same_below (end_behind setting s begin (suc k)))
    ]

-- cursors at or below ones below 2^64 are below it
pub below_too : (c d : Offsets) → AreBelow c d → is_below d ≡ true → is_below c ≡ true
below_too c d h fits = grind (arith, nat_tests, h.file, h.memory)

-- what overflows isn't below
overflow_past : (c : Offsets) → unless (overflow_at c) c ≡ Err Overflow → is_below c ≡ true → ⊥
overflow_past c h fits =
    let given : unless (overflow_at c) c ≡ Ok c = unless_below c fits in
    absurd (cc)

-- where some parts end past 2^64 - 1, so do more
pub stays_past : (setting : Setting) (s : ℕ) (begin : Offsets) (j k : ℕ) → j ≤ k
    → unless (overflow_at (end_behind setting s begin j)) (end_behind setting s begin j) ≡ Err Overflow
    → unless (overflow_at (end_behind setting s begin k)) (end_behind setting s begin k) ≡ Err Overflow
stays_past setting s begin j k h past =
    unless_past (end_behind setting s begin k)
    (λ fits. overflow_past (end_behind setting s begin j) past (below_too (end_behind setting s begin j) (end_behind setting s begin k) (ends_rise setting s begin j k h) fits))

-- ---- the first walked part

-- the sizes of a section's parts
abbrev pub section_sizes : Setting → ℕ → List ℕ
section_sizes setting s = of_parts setting.plan.sections setting.sizes s

-- there are as many as parts
pub sizes_count : (setting : Setting) (s : ℕ) → IsReady setting → s < length setting.plan.sections → length (section_sizes setting s) ≡ part_count setting.plan.sections s
sizes_count setting s ready below =
    omega (
      arith,
      length-take (first_part setting.plan.sections (s + 1) - first_part setting.plan.sections s) (drop (first_part setting.plan.sections s) setting.sizes),
      length-drop (first_part setting.plan.sections s) setting.sizes,
      first_part-suc setting.plan.sections s below,
      first_part-le setting.plan.sections (s + 1),
      ready.sizes,
    )

-- each is that of its part
size_in_section : (setting : Setting) (s j : ℕ) → IsReady setting → s < length setting.plan.sections → j < part_count setting.plan.sections s
    → slice_index (section_sizes setting s) j ≡ size_at setting.sizes (part_number setting.plan.sections s j)
size_in_section setting s j ready below within =
    let first : ℕ = first_part setting.plan.sections s in
    get_or-take (first_part setting.plan.sections (s + 1) - first) (drop first setting.sizes) j 0 (omega (arith, first_part-suc setting.plan.sections s below)) ∙ get_or-drop first setting.sizes j 0

-- the place of the first walked part in its section: no part before it has bytes
pub record IsFirstWalked (setting : Setting) (s i : ℕ) : Type 0 where
  pub is : first_walked setting s ≡ part_number setting.plan.sections s i
  pub within : i < part_count setting.plan.sections s
  pub before : (j : ℕ) → j < i → has_bytes setting.sizes (part_number setting.plan.sections s j) ≡ false

-- there is one
pub first_walked_place : (setting : Setting) (s : ℕ) → IsReady setting → s < length setting.plan.sections → (i : ℕ) × IsFirstWalked setting s i
first_walked_place setting s ready below =
    let sizes : List ℕ = section_sizes setting s in
    let first : ℕ = first_part setting.plan.sections s in
    let some : 0 < part_count setting.plan.sections s = has_part setting.plan.sections s ready.sections below in
    elim (position (nat_lt 0) sizes) as (λ o. position (nat_lt 0) sizes ≡ o → (i : ℕ) × IsFirstWalked setting s i) [
      | None ↦ λ is. (
        0,
        record {
          is = ap (λ (o : Option ℕ). first + unwrap_or o 0) is;
          within = some;
          before = λ j less. absurd (omega arith);
        },
      )
      | (Some i) ↦ λ is.
          let within : i < part_count setting.plan.sections s = omega (arith, (position-Some (nat_lt 0) sizes i 0 is).0, sizes_count setting s ready below) in (
            i,
            record {
              is = ap (λ (o : Option ℕ). first + unwrap_or o 0) is;
              within = within;
              before = λ j less. ap (nat_lt 0) (sym (size_in_section setting s j ready below (omega arith))) ∙ (position-Some (nat_lt 0) sizes i 0 is).2 j less;
            },
          )
    ] refl

-- its number is one of a part
pub first_walked_below : (setting : Setting) (s : ℕ) → IsReady setting → s < length setting.plan.sections → first_walked setting s < length setting.sizes
first_walked_below setting s ready below =
    let place = first_walked_place setting s ready below in
    let walked : IsFirstWalked setting s place.0 = place.1 in
    omega (arith, walked.is, walked.within, first_part-suc setting.plan.sections s below, first_part-le setting.plan.sections (s + 1), ready.sizes)

-- a part before it isn't walked
pub not_walked : (setting : Setting) (s i j : ℕ) → IsFirstWalked setting s i → j < i → is_walked setting s (part_number setting.plan.sections s j) ≡ false
not_walked setting s i j walked less =
    let p : ℕ = part_number setting.plan.sections s j in
    let other : p ≡ first_walked setting s → ⊥ = λ e. absurd (omega (arith, e, walked.is)) in
    let no : has_bytes setting.sizes p ≡ false = walked.before j less in
    rw no (grind (arith, nat_tests, other))

-- it is walked
pub first_is_walked : (setting : Setting) (s : ℕ) → is_walked setting s (first_walked setting s) ≡ true
first_is_walked setting s =
    let same : (first_walked setting s == first_walked setting s) ≡ true = eq-eqb (first_walked setting s) (first_walked setting s) refl in
    rw same (elim (has_bytes setting.sizes (first_walked setting s)) as (λ b. (b || true) ≡ true) [ true ↦ refl | false ↦ refl ])

-- at its section's alignment
first_alignment : (setting : Setting) (s : ℕ) → walk_alignment setting s (first_walked setting s) ≡ section_alignment setting s
first_alignment setting s =
    let same : (first_walked setting s == first_walked setting s) ≡ true = eq-eqb (first_walked setting s) (first_walked setting s) refl in
    rw same refl

-- so its record is this one
pub first_placed : (setting : Setting) (s : ℕ) (begin : Offsets)
    → placed_at (is_file_backed setting.plan s) (section_alignment setting s) (size_at setting.sizes (first_walked setting s)) begin ≡ first_record setting s begin
first_placed setting s begin =
    let placed : ℕ → Record = λ a. placed_at (is_file_backed setting.plan s) a (size_at setting.sizes (first_walked setting s)) begin in
    ap placed (sym (first_alignment setting s))

-- up to it the cursors stay where they begin
pub none_before : (setting : Setting) (s i : ℕ) (begin : Offsets) (j : ℕ) → IsFirstWalked setting s i → j ≤ i → end_behind setting s begin j ≡ begin
none_before setting s i begin zero walked h = refl
none_before setting s i begin (suc j) walked h =
    let p : ℕ = part_number setting.plan.sections s j in
    let before : Offsets = end_behind setting s begin j in
    ap (λ (b : Bool). cond b (behind (walked_from setting s p before)) before) (not_walked setting s i j walked (omega arith))
    ∙ none_before setting s i begin j walked (omega arith)

-- behind it they are behind its record
pub first_end : (setting : Setting) (s i : ℕ) (begin : Offsets) → IsFirstWalked setting s i
    → end_behind setting s begin (suc i) ≡ behind (first_record setting s begin)
first_end setting s i begin walked =
    ap (next_end setting s (part_number setting.plan.sections s i)) (none_before setting s i begin i walked (omega arith))
    ∙ ap (λ (p : ℕ). next_end setting s p begin) (sym walked.is)
    ∙ ap (λ (b : Bool). cond b (behind (first_record setting s begin)) begin) (first_is_walked setting s)

-- ---- the walk over the parts

-- what is refused passes 2^64 - 1
refusal_one : {X : Type 0} (c : Offsets) (x : X) (r : Refusal) → Err r ≡ unless (overflow_at c) x → r ≡ Overflow
refusal_one {X} c x r h = elim (is_below c) as (λ b. Err r ≡ unless {X = X} (cond b None (Some Overflow)) x → r ≡ Overflow) [ true ↦ λ e. absurd (cc) | false ↦ λ e. cc ] h

-- what is given are the cursors themselves
pub given_is : (c d : Offsets) → Ok d ≡ unless (overflow_at c) c → d ≡ c
given_is c d h = elim (is_below c) as (λ b. Ok d ≡ unless (cond b None (Some Overflow)) c → d ≡ c) [ true ↦ λ e. cc | false ↦ λ e. absurd (cc) ] h

-- what is refused isn't below 2^64
refused_past : {X : Type 0} (c : Offsets) (x : X) (r : Refusal) → Err r ≡ unless (overflow_at c) x → is_below c ≡ true → ⊥
refused_past {X} c x r h fits =
    let given : unless {X = X} (overflow_at c) x ≡ Ok x = rw fits refl in
    absurd (cc)

-- and they are below 2^64
pub given_below : (c d : Offsets) → Ok d ≡ unless (overflow_at c) c → is_below d ≡ true
given_below c d h =
    elim (cases_Bool (is_below c)) [
      | inl fits ↦ ap is_below (given_is c d h) ∙ fits
      | inr past ↦
          let refused : unless (overflow_at c) c ≡ Err Overflow = unless_past c (λ fits. absurd (cc)) in
          absurd (cc)
    ]

-- what holds of a refusal holds of it where it is handed on
pub told_on : {X : Type 0} (r : Result X Refusal) (Q : Refusal → Type 0) (x : Refusal) → IsErrAnd r (λ e. e ≡ x) → Q x → IfErr r Q
told_on (Ok y) Q x h q = absurd h
told_on (Err e) Q x h q = subst Q (sym h) q

-- a refusal that is handed on
pub handed_on : (r u : Result Offsets Refusal) (x : Refusal) → IsErrAnd r (λ e. e ≡ x) → Err x ≡ u → r ≡ u
handed_on (Ok c) u x h is = absurd h
handed_on (Err e) u x h is = ap (λ (y : Refusal). Err y) h ∙ is

-- a part that is refused refuses its section
pub part_refused : (setting : Setting) (s : ℕ) (begin from : Offsets) (j count p : ℕ) (r : Refusal) → from ≡ end_behind setting s begin j → j < count → p ≡ part_number setting.plan.sections s j
    → Err r ≡ unless (overflow_at (next_end setting s p from)) (next_end setting s p from)
    → Err r ≡ unless (overflow_at (end_behind setting s begin count)) (end_behind setting s begin count)
part_refused setting s begin from j count p r so_far less at refused =
    let same : next_end setting s (part_number setting.plan.sections s j) (end_behind setting s begin j) ≡ next_end setting s p from = cc in
    let one : r ≡ Overflow = refusal_one (next_end setting s p from) (next_end setting s p from) r refused in
    let here : unless (overflow_at (end_behind setting s begin (suc j))) (end_behind setting s begin (suc j)) ≡ Err Overflow =
    ap (λ (c : Offsets). unless (overflow_at c) c) same ∙ sym refused ∙ ap (λ (x : Refusal). Err x) one in
    ap (λ (x : Refusal). Err x) one ∙ sym (stays_past setting s begin (suc j) count (omega arith) here)

-- a part that is placed moves the cursors on
pub part_placed : (setting : Setting) (s : ℕ) (begin from to : Offsets) (j p : ℕ) → from ≡ end_behind setting s begin j → p ≡ part_number setting.plan.sections s j
    → Ok to ≡ unless (overflow_at (next_end setting s p from)) (next_end setting s p from)
    → to ≡ end_behind setting s begin (j + 1)
part_placed setting s begin from to j p so_far at given =
    let same : next_end setting s p from ≡ next_end setting s (part_number setting.plan.sections s j) (end_behind setting s begin j) = cc in
    given_is (next_end setting s p from) to given ∙ same ∙ ap (end_behind setting s begin) (sym (add-one j))

-- and its record is the one that it is to have
pub part_recorded : (setting : Setting) (s : ℕ) (begin from : Offsets) (j p : ℕ) → from ≡ end_behind setting s begin j → p ≡ part_number setting.plan.sections s j
    → next_record setting s begin p from ≡ record_by setting s begin p
part_recorded setting s begin from j p so_far at =
    let place : j ≡ p - first_part setting.plan.sections s = omega arith in
    ap (next_record setting s begin p) (so_far ∙ ap (end_behind setting s begin) place)

-- the cursors behind all parts, which are below 2^64
pub parts_end : (setting : Setting) (s : ℕ) (begin to : Offsets) (j count : ℕ) → to ≡ end_behind setting s begin j → j ≡ count → is_below to ≡ true
    → Ok to ≡ unless (overflow_at (end_behind setting s begin count)) (end_behind setting s begin count)
parts_end setting s begin to j count so_far all fits =
    let same : to ≡ end_behind setting s begin count = so_far ∙ ap (end_behind setting s begin) all in
    sym (ap (λ (c : Offsets). unless (overflow_at c) c) (sym same) ∙ unless_below to fits)

-- where the first walked part overflows, so does its section
pub first_refused : (setting : Setting) (s : ℕ) (begin : Offsets) (first : Record) (r : Refusal) → IsReady setting → s < length setting.plan.sections
    → first ≡ first_record setting s begin → Err r ≡ unless (overflow_at (behind first)) first
    → Err r ≡ unless (overflow_at (end_behind setting s begin (part_count setting.plan.sections s))) (end_behind setting s begin (part_count setting.plan.sections s))
first_refused setting s begin first r ready below at refused =
    let place = first_walked_place setting s ready below in
    let i : ℕ = place.0 in
    let walked : IsFirstWalked setting s i = place.1 in
    let same : end_behind setting s begin (suc i) ≡ behind first =
    first_end setting s i begin walked ∙ ap behind (sym at) in
    let past : unless (overflow_at (end_behind setting s begin (suc i))) (end_behind setting s begin (suc i)) ≡ Err Overflow =
    unless_past (end_behind setting s begin (suc i)) (λ fits. refused_past (behind first) first r refused (ap is_below (sym same) ∙ fits)) in
    ap (λ (x : Refusal). Err x) (refusal_one (behind first) first r refused) ∙ sym (stays_past setting s begin (suc i) (part_count setting.plan.sections s) (omega (arith, walked.within)) past)
