-- Whatever one event does to the cursors, the file never goes back.
use Rattle.std.proofs.Common.{◌≡◌, ℕ, ◌+◌, ◌-◌, ◌^◌, ◌≤◌, ◌<◌, Bool, Option, arith, true, false, Some, None, refl, ap, subst}
use Rattle.std.specs.Prelude.{◌&&◌, not, if◌then◌else◌, is_some, nat_lt, Result, Ok, Err}
use Rattle.std.specs.Int.{next_multiple_of}
use Rattle.lk_link.specs.declared.plan.OrderEvent.{OrderEvent}
use Rattle.lk_link.specs.declared.plan.OrderEvent.TheVariants.{SegmentStart, SegmentEnd, Section, SetLocation, SetLocationRelative, SetSectionAddress}
use Rattle.lk_link.specs.declared.plan.Plan.{Plan}
use Rattle.lk_link.specs.Alignments.{next_congruent}
use Rattle.lk_link.specs.PlanSections.{is_file_backed, is_zero_fill_thread_local, primary_of}
use Rattle.lk_link.specs.SegmentKinds.{is_load, segment_at}
use Rattle.lk_place.specs.declared.cursors.Cursors.{Cursors}
use Rattle.lk_place.specs.declared.error.Refusal.{Refusal}
use Rattle.lk_place.specs.declared.error.Refusal.TheVariants.{Backwards, Outside, Overflow}
use Rattle.lk_place.specs.declared.regions.SectionRegion.{SectionRegion}
use Rattle.lk_place.specs.declared.regions.SectionRegion.TheVariants.{Free, Undeclared, Within}
use Rattle.lk_place.specs.Alignments.{place_alignment, section_alignments, thread_local_alignment, thread_local_ones}
use Rattle.lk_expressions.specs.Expressions.{◌>>=◌}
use Rattle.lk_place.specs.InRegions.{in_region, inside_region, lies_outside, span_of, stands_in}
use Rattle.lk_place.specs.Locations.{awaiting, behind_start, moved_along, moves_file, taken, within_64}
use Rattle.lk_place.specs.PlacedBefore.{Known, value_at}
use Rattle.lk_place.specs.Placement.{begun_section, memory_moved, moved, opened}
use Rattle.lk_place.specs.Setting.{Setting}
use Rattle.lk_place.specs.ThreadLocal.{begins_run, is_in_run, padded, restoring, run_begun, saved_or_restored, saving}
use Rattle.lk_place.proofs.AlignmentLaws.{greatest_of-least}
use Rattle.lk_link.proofs.Starts.{next_multiple_is_least}

-- memory that is moved is where it is moved to
pub moved_to : (from entered : Cursors) (m : ℕ) → memory_moved from m ≡ Ok entered
    → (entered.file ≡ from.file) × (entered.memory ≡ m) × (entered.saved ≡ from.saved) × (entered.pending ≡ from.pending)
moved_to from entered m =
    let there : Cursors = record from { memory = m } in
    elim (nat_lt m (2 ^ 64)) as (λ b. (if b then Ok there else Err Overflow) ≡ Ok entered
    → (entered.file ≡ from.file) × (entered.memory ≡ m) × (entered.saved ≡ from.saved) × (entered.pending ≡ from.pending)) [
      | true ↦ λ h. let same : entered ≡ there = cc in (ap (λ (c : Cursors). c.file) same, ap (λ (c : Cursors). c.memory) same, ap (λ (c : Cursors). c.saved) same, ap (λ (c : Cursors). c.pending) same)
      | false ↦ λ h. absurd (cc)
    ]

pub same_of : (from entered : Cursors) (there : Result Cursors Refusal) → there ≡ Ok from → there ≡ Ok entered → entered ≡ from
same_of from entered there h g = cc

-- ---- a section begins

-- memory and the file grow by padding, the file only where the section takes bytes of it
pub record Pads (setting : Setting) (s : ℕ) (from entered : Cursors) : Type 0 where
  pub padding : ℕ
  pub file : entered.file ≡ from.file + (if is_file_backed setting.plan s then padding else 0)
  pub memory : entered.memory ≡ from.memory + padding
  pub saved : entered.saved ≡ from.saved
  pub pending : entered.pending ≡ from.pending

given_within : (c entered : Cursors) → within_64 c ≡ Ok entered → c ≡ entered
given_within c entered =
    elim (nat_lt c.file (2 ^ 64) && nat_lt c.memory (2 ^ 64)) as (λ b. (if b then Ok c else Err Overflow) ≡ Ok entered → c ≡ entered) [
      | true ↦ λ h. cc
      | false ↦ λ h. absurd (cc)
    ]

-- what is rounded up is padded
rounds : (setting : Setting) (s a : ℕ) (from : Cursors) → 0 < a → Pads setting s from (padded (is_file_backed setting.plan s) a from)
rounds setting s a from positive =
    let reaches : from.memory ≤ next_multiple_of from.memory a = (next_multiple_is_least a from.memory positive).reaches in
    let padding : ℕ = next_multiple_of from.memory a - from.memory in
    record {
      padding = padding;
      file = elim (is_file_backed setting.plan s) as (λ b. (if b then from.file + padding else from.file) ≡ from.file + (if b then padding else 0)) [ true ↦ refl | false ↦ omega arith ];
      memory = omega (arith, reaches);
      saved = refl;
      pending = refl;
    }

unpadded : (setting : Setting) (s : ℕ) (from : Cursors) → Pads setting s from from
unpadded setting s from = record {
  padding = 0;
  file = elim (is_file_backed setting.plan s) as (λ b. from.file ≡ from.file + (if b then 0 else 0)) [ true ↦ omega arith | false ↦ omega arith ];
  memory = omega arith;
  saved = refl;
  pending = refl;
}

pub run_pads : (setting : Setting) (in_run : Bool) (s : ℕ) (took : Bool) (from entered : Cursors) → run_begun setting in_run s took from ≡ Ok entered → Pads setting s from entered
run_pads setting in_run s took from entered =
    let a : ℕ = thread_local_alignment setting.plan setting.sizes in
    let to : Cursors = padded (is_file_backed setting.plan s) a from in
    let positive : 0 < a = omega (arith, greatest_of-least 1 (thread_local_ones setting.plan (section_alignments setting.plan setting.sizes))) in
    elim (begins_run setting in_run s && not took) as (λ b. (if b then within_64 to else Ok from) ≡ Ok entered → Pads setting s from entered) [
      | true ↦ λ h. subst (Pads setting s from) (given_within to entered h) (rounds setting s a from positive)
      | false ↦ λ h. let same : from ≡ entered = cc in subst (Pads setting s from) same (unpadded setting s from)
    ]

-- ---- whatever an event does, the file never goes back

awaits : (from entered : Cursors) (r : Result ℕ Refusal) → awaiting from r ≡ Ok entered → from.file ≤ entered.file
awaits from entered (Ok l) h =
    let there : Cursors = record from { pending = Some l } in
    let same : there ≡ entered = cc in
    let file : from.file ≡ entered.file = ap (λ (c : Cursors). c.file) same in
    omega (arith, file)
awaits from entered (Err refusal) h = absurd (cc)

opens_file : (setting : Setting) (i : ℕ) (from entered : Cursors) (o : Option ℕ) → opened setting i from o ≡ Ok entered → from.file ≤ entered.file
opens_file setting i from entered None h =
    let there = moved_to from entered (setting.target.segment_start (place_alignment setting i) from.file from.memory) h in
    omega (arith, there.0)
opens_file setting i from entered (Some l) h =
    let to : Cursors = record from { file = next_congruent (place_alignment setting i) l from.file; memory = l } in
    let file : to.file ≡ entered.file = ap (λ (c : Cursors). c.file) (given_within to entered h) in
    omega (arith, file)

saved_file : (plan : Plan) (s : ℕ) (from : Cursors) → (saved_or_restored plan s from).file ≡ from.file
saved_file plan s from = elim (is_zero_fill_thread_local plan s) as (λ b. (if b then saving from else restoring from).file ≡ from.file) [ true ↦ refl | false ↦ refl ]

along_file : (from to : Cursors) (l : ℕ) → moved_along from l ≡ Ok to → from.file ≤ to.file
along_file from to l =
    let there : Cursors = record from { file = from.file + (l - from.memory); memory = l; pending = None } in
    elim (nat_lt l from.memory) as (λ b. (if b then Err (Backwards from.memory l) else within_64 there) ≡ Ok to → from.file ≤ to.file) [
      | true ↦ λ h. absurd (cc)
      | false ↦ λ h. let file : there.file ≡ to.file = ap (λ (c : Cursors). c.file) (given_within there to h) in omega (arith, file)
    ]

taken_file : (plan : Plan) (s : ℕ) (from to : Cursors) (o : Option ℕ) → taken plan s from o ≡ Ok to → from.file ≤ to.file
taken_file plan s from to None h = let same : from ≡ to = cc in omega (arith, ap (λ (c : Cursors). c.file) same)
taken_file plan s from to (Some l) h =
    let there : Cursors = record from { memory = l; pending = None } in
    elim (moves_file plan s) as (λ b. (if b then moved_along from l else Ok there) ≡ Ok to → from.file ≤ to.file) [
      | true ↦ λ g. along_file from to l g
      | false ↦ λ g. let same : there ≡ to = cc in let file : there.file ≡ to.file = ap (λ (c : Cursors). c.file) same in omega (arith, file)
    ] h

region_file : (goes_on : ℕ → ℕ) (s : ℕ) (room : SectionRegion) (from to : Cursors) → in_region goes_on s room from ≡ Ok to → from.file ≡ to.file
region_file goes_on s Free from to h = let same : from ≡ to = cc in ap (λ (c : Cursors). c.file) same
region_file goes_on s Undeclared from to h = absurd (cc)
region_file goes_on s (Within r) from to h =
    let there : Cursors = record from { memory = goes_on r } in
    let same : there ≡ to = cc in
    ap (λ (c : Cursors). c.file) same

inside_stays : (setting : Setting) (room : SectionRegion) (from to : Cursors) (waiting : Option ℕ) → inside_region setting room from waiting ≡ Ok to → from ≡ to
inside_stays setting Free from to waiting h = cc
inside_stays setting Undeclared from to waiting h = cc
inside_stays setting (Within r) from to None h = cc
inside_stays setting (Within r) from to (Some l) h =
    elim (lies_outside from.memory (span_of setting r).1 l) as (λ b. (if b then Err (Outside l) else Ok from) ≡ Ok to → from ≡ to) [ true ↦ λ g. absurd (cc) | false ↦ λ g. cc ] h

run_file : (setting : Setting) (in_run : Bool) (s : ℕ) (took : Bool) (from entered : Cursors) → run_begun setting in_run s took from ≡ Ok entered → from.file ≤ entered.file
run_file setting in_run s took from entered h = let pads : Pads setting s from entered = run_pads setting in_run s took from entered h in omega (arith, pads.file)

-- two steps of which neither lets the file go back
both_grow : (from entered : Cursors) (r : Result Cursors Refusal) (f : Cursors → Result Cursors Refusal) → ((to : Cursors) → r ≡ Ok to → from.file ≤ to.file)
    → ((c to : Cursors) → f c ≡ Ok to → c.file ≤ to.file) → (r >>= f) ≡ Ok entered → from.file ≤ entered.file
both_grow from entered (Ok to) f rises more h = omega (arith, rises to refl, more to entered h)
both_grow from entered (Err refusal) f rises more h = absurd (cc)

begun_file : (setting : Setting) (goes_on : ℕ → ℕ) (in_run : Bool) (s : ℕ) (from entered : Cursors) → begun_section setting goes_on in_run s from ≡ Ok entered → from.file ≤ entered.file
begun_file setting goes_on in_run s from entered h =
    let room : SectionRegion = stands_in setting.plan s in
    let waiting : Option ℕ = from.pending in
    let run : Cursors → Result Cursors Refusal = run_begun setting in_run s (is_some waiting) in
    let take : Cursors → Result Cursors Refusal = λ inside. taken setting.plan s inside waiting >>= run in
    let stay : Cursors → Result Cursors Refusal = λ there. inside_region setting room there waiting >>= take in
    let saved : Cursors = saved_or_restored setting.plan s from in
    both_grow from entered (in_region goes_on s room saved) stay (λ to is. omega (arith, saved_file setting.plan s from, region_file goes_on s room saved to is))
    (λ there to. both_grow there to (inside_region setting room there waiting) take (λ inside is. omega (arith, ap (λ (c : Cursors). c.file) (inside_stays setting room there inside waiting is)))
    (λ inside end. both_grow inside end (taken setting.plan s inside waiting) run (λ c is. taken_file setting.plan s inside c waiting is) (λ c to is. run_file setting in_run s (is_some waiting) c to is)))
    h

pub file_grows : (setting : Setting) (known : Known) (e : OrderEvent) (from entered : Cursors) → moved setting known e from ≡ Ok entered → from.file ≤ entered.file
file_grows setting known (SegmentStart i) from entered h =
    elim (is_load (segment_at setting.plan.segments i).kind) as (λ b. (if b then opened setting i (restoring from) from.pending else Ok from) ≡ Ok entered → from.file ≤ entered.file) [
      | true ↦ λ g. opens_file setting i (restoring from) entered from.pending g
      | false ↦ λ g. omega (arith, ap (λ (c : Cursors). c.file) (same_of from entered (Ok from) refl g))
    ] h
file_grows setting known (SegmentEnd i) from entered h = omega (arith, ap (λ (c : Cursors). c.file) (same_of from entered (Ok from) refl h))
file_grows setting known (Section s) from entered h = begun_file setting known.goes_on (is_in_run setting.plan known.last) s from entered h
file_grows setting known (SetLocation x) from entered h = awaits from entered (value_at setting known.standing from x) h
file_grows setting known (SetLocationRelative x s) from entered h =
    awaits from entered (behind_start (known.standing.section (primary_of setting.plan.sections s)) (value_at setting known.standing from x)) h
file_grows setting known (SetSectionAddress x) from entered h = awaits from entered (value_at setting known.standing from x) h
