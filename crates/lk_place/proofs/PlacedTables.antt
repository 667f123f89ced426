-- A table of the events that place parts tells what is placed before an event.
use Rattle.std.proofs.Common.{◌≡◌, ℕ, ◌+◌, ◌<◌, Bool, true, false, cond, List, length, take, Option, Some, None, refl, sym, ap, ◌∙◌, arith, inl, inr, eq-eqb, add-zero}
use Rattle.std.specs.Prelude.{◌&&◌, if◌then◌else◌, nat_le, nat_lt, slice_get, slice_index}
use Rattle.std.specs.List.{list_any}
use Rattle.std.specs.Option.{option_map_or}
use Rattle.std.proofs.Math.Path.{fun_ext}
use Rattle.std.proofs.lemmas.Bool.{cases_lt}
use Rattle.std.proofs.lemmas.Bool.Decides.{nat_tests}
use Rattle.std.proofs.lemmas.Option.{slice_get-get_or, slice_get_past, slice_get_within}
use Rattle.lk_link.specs.declared.file.InputFile.{InputFile}
use Rattle.lk_link.specs.declared.plan.OrderEvent.{OrderEvent}
use Rattle.lk_link.specs.declared.plan.OrderEvent.TheVariants.{Section}
use Rattle.lk_link.specs.declared.plan.Plan.{Plan}
use Rattle.lk_link.specs.declared.plan.PlanSection.{PlanSection}
use Rattle.lk_link.specs.Expressions.{Term}
use Rattle.lk_link.specs.Parts.{all_parts, first_part}
use Rattle.lk_link.specs.WellFormed.{IsEventOrder}
use Rattle.lk_link.proofs.PartNumbers.{first_part-le, first_part-suc, parts_end-le}
use Rattle.lk_link.proofs.Places.{among, found}
use Rattle.lk_place.specs.declared.cursors.Cursors.{Cursors}
use Rattle.lk_expressions.specs.Expressions.{Valued, expression_value}
use Rattle.lk_expressions.specs.Named.{names_no_symbol, names_none}
use Rattle.lk_place.specs.AtHand.{AreAtHand}
use Rattle.lk_place.specs.PlacedBefore.{PlacedRecords, dot_of, early_known, early_value, is_placing, is_placing_part, standing_before, lies_in}
use Rattle.lk_place.specs.Ranges.{HasPart}
use Rattle.lk_expressions.specs.Records.{Record, nowhere, record_at}
use Rattle.lk_place.specs.Regions.{given_regions, regions_of}
use Rattle.lk_place.specs.Segments.{hull, part_records}
use Rattle.lk_place.specs.Setting.{IsReady, Setting, part_count, part_number}
use Rattle.lk_place.specs.Start.{constants_by}
use Rattle.lk_expressions.specs.Surroundings.{Early, early_operand}
use Rattle.lk_place.specs.Tables.{ArePlacedAt, is_before, part_before, section_before}
use Rattle.lk_place.proofs.Checked.{has_part}
use Rattle.lk_place.proofs.ApartLaws.{section_one}
use Rattle.lk_place.proofs.Knowing.{placing_event}
use Rattle.lk_place.proofs.MassLaws.{part_place}
use Rattle.lk_place.proofs.AtHand.{value_at_hand}
use Rattle.lk_place.proofs.WalkRecords.{placed_below, section_there}
use Rattle.lk_place.proofs.PartEvents.{among_is, among_part, part_placed, placing_part}

-- ---- what an entry tells

-- an entry of the table is before event n exactly where its number is
before_is : (table : List ℕ) (n p k : ℕ) → p < length table → slice_index table p ≡ k → is_before table n p ≡ nat_lt k n
before_is table n p k below is =
    ap (λ (o : Option ℕ). option_map_or (λ m. nat_lt m n) o false) (slice_get-get_or table p 0 below) ∙ ap (λ m. nat_lt m n) is

-- an event among the first n is one before n
placed_test : (setting : Setting) (test : OrderEvent → Bool) (k n : ℕ) (e : OrderEvent) → slice_get setting.plan.events k ≡ Some e → test e ≡ true
    → ((j : ℕ) (x : OrderEvent) → slice_get setting.plan.events j ≡ Some x → test x ≡ true → j ≡ k)
    → list_any test (take n setting.plan.events) ≡ nat_lt k n
placed_test setting test k n e here is alone =
    elim (cases_lt k n) [
      | inl less ↦
          let yes : nat_lt k n ≡ true = grind (arith, nat_tests) in
          among test setting.plan.events k n e less here is ∙ sym yes
      | inr more ↦
          let no : nat_lt k n ≡ false = grind (arith, nat_tests) in
          elim (list_any test (take n setting.plan.events)) as (λ b. list_any test (take n setting.plan.events) ≡ b → b ≡ nat_lt k n) [
            | true ↦ λ any.
                let there = found test setting.plan.events n any in
                absurd (omega (arith, there.2, more, alone there.0 there.1 there.3 there.4))
            | false ↦ λ none. sym no
          ] refl
    ]

-- ---- sections

-- the event that places a section is one alone
section_alone : (setting : Setting) (s k j : ℕ) (x : OrderEvent) → IsReady setting → slice_get setting.plan.events k ≡ Some (Section s) → slice_get setting.plan.events j ≡ Some x → is_placing s x ≡ true → j ≡ k
section_alone setting s k j x ready here there is =
    ready.events.once j k (Section s) tt (there ∙ ap (λ (e : OrderEvent). Some e) (placing_event x s is)) here

section_told : (setting : Setting) (table : List ℕ) (records : List Record) (n s : ℕ) → IsReady setting → ArePlacedAt setting.plan (length setting.plan.events) table
    → length records ≡ length (all_parts setting.plan.sections) → s < length setting.plan.sections
    → (nat_lt s (length setting.plan.sections) && (nat_le (first_part setting.plan.sections (s + 1)) (length records) && is_before table n (first_part setting.plan.sections s)))
    ≡ list_any (is_placing s) (take n setting.plan.events)
section_told setting table records n s ready at each below =
    let sections : List PlanSection = setting.plan.sections in
    let event = ready.events.placed s below in
    let k : ℕ = event.0 in
    let early : k < length setting.plan.events = slice_get_within setting.plan.events k (Section s) event.1 in
    let some : 0 < part_count sections s = has_part sections s ready.sections below in
    let first : ℕ = first_part sections s in
    let within : first < length table = omega (arith, at.count, parts_end-le sections s below, some) in
    let is : slice_index table first ≡ k = ap (slice_index table) (sym (add-zero first)) ∙ at.each k s 0 early event.1 some in
    let one : nat_lt s (length sections) ≡ true = grind (arith, nat_tests) in
    let two : nat_le (first_part sections (s + 1)) (length records) ≡ true = grind (arith, nat_tests, each, first_part-le sections (s + 1)) in
    ap (λ b. b && (nat_le (first_part sections (s + 1)) (length records) && is_before table n first)) one
    ∙ ap (λ b. b && is_before table n first) two
    ∙ before_is table n first k within is
    ∙ sym (placed_test setting (is_placing s) k n (Section s) event.1 (eq-eqb s s refl) (λ j x there placing. section_alone setting s k j x ready event.1 there placing))

sections_tell : (setting : Setting) (table : List ℕ) (records : List Record) (n s : ℕ) → IsReady setting → ArePlacedAt setting.plan (length setting.plan.events) table
    → length records ≡ length (all_parts setting.plan.sections)
    → section_before setting.plan.sections table records n s ≡ (standing_before setting.plan records n).section s
sections_tell setting table records n s ready at each =
    let spans : Option Record = Some (hull (part_records setting.plan.sections records s)) in
    elim (cases_lt s (length setting.plan.sections)) [
      | inl below ↦ ap (λ b. cond b spans None) (section_told setting table records n s ready at each below)
      | inr past ↦
          let out : nat_lt s (length setting.plan.sections) ≡ false = grind (arith, nat_tests) in
          ap (λ b. cond (b && (nat_le (first_part setting.plan.sections (s + 1)) (length records) && is_before table n (first_part setting.plan.sections s))) spans None) out
          ∙ elim (list_any (is_placing s) (take n setting.plan.events)) as (λ b. list_any (is_placing s) (take n setting.plan.events) ≡ b → None ≡ cond b spans None) [
            | true ↦ λ any.
                let there = found (is_placing s) setting.plan.events n any in
                let in_range : s < length setting.plan.sections = section_there setting there.0 s ready (there.3 ∙ ap (λ (e : OrderEvent). Some e) (placing_event there.1 s there.4)) in
                absurd (omega (arith, past, in_range))
            | false ↦ λ none. refl
          ] refl
    ]

-- ---- parts

placed_alone : (plan : Plan) (s i k j : ℕ) (x : OrderEvent) → IsEventOrder plan → slice_get plan.events k ≡ Some (Section s) → i < part_count plan.sections s
    → slice_get plan.events j ≡ Some x → is_placing_part plan.sections (part_number plan.sections s i) x ≡ true → j ≡ k
placed_alone plan s i k j x order here within there is =
    let p : ℕ = part_number plan.sections s i in
    let at = placing_part plan.sections x p is in
    let t : ℕ = at.0 in
    let event : slice_get plan.events j ≡ Some (Section t) = there ∙ ap (λ (e : OrderEvent). Some e) at.1 in
    let below : s < length plan.sections = order.in_range k (Section s) here in
    let below' : t < length plan.sections = order.in_range j (Section t) event in
    let place = among_is (first_part plan.sections t) (part_count plan.sections t) p at.2 in
    let one : HasPart plan s p = record { from = omega arith; below = omega (arith, within, first_part-suc plan.sections s below) } in
    let two : HasPart plan t p = record { from = omega (arith, place.2); below = omega (arith, place.1, place.2, first_part-suc plan.sections t below') } in
    let same : t ≡ s = section_one plan t s p two one in
    order.once j k (Section s) tt (event ∙ ap (λ (n : ℕ). Some (Section n)) same) here

parts_tell : (setting : Setting) (table : List ℕ) (records : List Record) (n p : ℕ) → IsReady setting → ArePlacedAt setting.plan (length setting.plan.events) table
    → length records ≡ length (all_parts setting.plan.sections)
    → part_before table records n p ≡ (standing_before setting.plan records n).part p
parts_tell setting table records n p ready at each =
    let sections : List PlanSection = setting.plan.sections in
    elim (cases_lt p (length (all_parts sections))) [
      | inl below ↦
          let place = part_place sections p below in
          let s : ℕ = place.0 in
          let i : ℕ = place.1 in
          let event = ready.events.placed s place.2.there in
          let k : ℕ = event.0 in
          let is : slice_index table p ≡ k = ap (slice_index table) place.2.is ∙ at.each k s i (slice_get_within setting.plan.events k (Section s) event.1) event.1 place.2.within in
          let mine : is_placing_part sections p (Section s) ≡ true = ap (lies_in (first_part sections s) (part_count sections s)) place.2.is ∙ among_part (first_part sections s) (part_count sections s) i place.2.within in
          let told : is_before table n p ≡ list_any (is_placing_part sections p) (take n setting.plan.events) =
          before_is table n p k (omega (arith, at.count, below)) is
          ∙ sym (placed_test setting (is_placing_part sections p) k n (Section s) event.1 mine
          (λ j x there placing. placed_alone setting.plan s i k j x ready.events event.1 place.2.within there (ap (λ (q : ℕ). is_placing_part sections q x) (sym place.2.is) ∙ placing))) in
          let got : slice_get records p ≡ Some (record_at records p) = slice_get-get_or records p nowhere (omega (arith, each, below)) in
          ap (λ b. if b then slice_get records p else None) told
          ∙ ap (λ (o : Option Record). if list_any (is_placing_part sections p) (take n setting.plan.events) then o else None) got
      | inr past ↦
          let none : slice_get table p ≡ None = slice_get_past table p (omega (arith, at.count, past)) in
          ap (λ (o : Option ℕ). if option_map_or (λ k. nat_lt k n) o false then slice_get records p else None) none
          ∙ elim (list_any (is_placing_part sections p) (take n setting.plan.events)) as (λ b. list_any (is_placing_part sections p) (take n setting.plan.events) ≡ b → None ≡ (if b then Some (record_at records p) else None)) [
            | true ↦ λ any. absurd (omega (arith, past, placed_below setting n p ready (part_placed setting n p any)))
            | false ↦ λ unplaced. refl
          ] refl
    ]

-- ---- what the walk knows

-- the value of an expression by the table is that at the event
pub value_known : (setting : Setting) (table : List ℕ) (records : List Record) (n : ℕ) (from : Cursors) (e : Term) (dot : ℕ) (groups : List (List InputFile)) (regions : List (ℕ × ℕ)) (constants : List (Option Valued)) (r : Valued)
    → IsReady setting → ArePlacedAt setting.plan (length setting.plan.events) table → length records ≡ length (all_parts setting.plan.sections)
    → dot ≡ dot_of from → groups ≡ setting.groups → regions ≡ given_regions (regions_of setting.plan.regions) → AreAtHand setting.plan (constants_by setting.groups setting.headers regions) constants
    → (names_no_symbol setting.plan ≡ true → names_none e ≡ true)
    → r ≡ expression_value (early_operand (record {
      groups = groups;
      dot = dot;
      headers = setting.headers;
      regions = regions;
      constants = constants;
      section = section_before setting.plan.sections table records n;
      part = part_before table records n;
      positions = setting.positions;
    })) e
    → r ≡ early_value setting (standing_before setting.plan records n) from e
value_known setting table records n from e dot groups regions constants r ready at each same_dot same_groups same_regions hand spoken gives =
    let known : PlacedRecords = standing_before setting.plan records n in
    let all : ℕ → List (List InputFile) → List (ℕ × ℕ) → List (Option Valued) → (ℕ → Option Record) → (ℕ → Option Record) → Early
    = λ d gs rs cs section part. record { groups = gs; dot = d; headers = setting.headers; regions = rs; constants = cs; section = section; part = part; positions = setting.positions } in
    let section : section_before setting.plan.sections table records n ≡ known.section = fun_ext (λ s. sections_tell setting table records n s ready at each) in
    let part : part_before table records n ≡ known.part = fun_ext (λ p. parts_tell setting table records n p ready at each) in
    let regions_are : List (ℕ × ℕ) = given_regions (regions_of setting.plan.regions) in
    let given : List (Option Valued) = constants_by setting.groups setting.headers regions in
    let constants_are : given ≡ constants_by setting.groups setting.headers regions_are = ap (constants_by setting.groups setting.headers) same_regions in
    let one : all dot groups regions given (section_before setting.plan.sections table records n) (part_before table records n) ≡ early_known setting known (dot_of from)
    = ap (λ d. all d groups regions given (section_before setting.plan.sections table records n) (part_before table records n)) same_dot
    ∙ ap (λ gs. all (dot_of from) gs regions given (section_before setting.plan.sections table records n) (part_before table records n)) same_groups
    ∙ ap (λ rs. all (dot_of from) setting.groups rs given (section_before setting.plan.sections table records n) (part_before table records n)) same_regions
    ∙ ap (λ cs. all (dot_of from) setting.groups regions_are cs (section_before setting.plan.sections table records n) (part_before table records n)) constants_are
    ∙ ap (λ f. all (dot_of from) setting.groups regions_are (constants_by setting.groups setting.headers regions_are) f (part_before table records n)) section
    ∙ ap (all (dot_of from) setting.groups regions_are (constants_by setting.groups setting.headers regions_are) known.section) part in
    gives
    ∙ value_at_hand setting.plan (all dot groups regions constants (section_before setting.plan.sections table records n) (part_before table records n)) constants given e spoken hand
    ∙ ap (λ k. expression_value (early_operand k) e) one

-- what the table tells of a section is known at the event
pub section_known : (setting : Setting) (table : List ℕ) (records : List Record) (n s : ℕ) (o : Option Record) → IsReady setting → ArePlacedAt setting.plan (length setting.plan.events) table
    → length records ≡ length (all_parts setting.plan.sections) → o ≡ section_before setting.plan.sections table records n s → o ≡ (standing_before setting.plan records n).section s
section_known setting table records n s o ready at each is = is ∙ sections_tell setting table records n s ready at each

-- ---- how the table is made

-- a table of no event's parts
pub placed_none : (plan : Plan) (table : List ℕ) → length table ≡ length (all_parts plan.sections) → ArePlacedAt plan 0 table
placed_none plan table count = record { count = count; each = λ k s j early here within. absurd (omega (arith, early)) }

-- one event more
pub placed_more : (plan : Plan) (n : ℕ) (e : OrderEvent) (old new : List ℕ) → IsEventOrder plan → ArePlacedAt plan n old → slice_get plan.events n ≡ Some e → length new ≡ length old
    → ((p : ℕ) → slice_index new p ≡ (if is_placing_part plan.sections p e then n else slice_index old p)) → ArePlacedAt plan (n + 1) new
placed_more plan n e old new order so_far here count writes =
    record {
      count = count ∙ so_far.count;
      each = λ k s j early there within.
          let p : ℕ = part_number plan.sections s j in
          elim (cases_lt k n) [
            | inl before ↦
                let other : is_placing_part plan.sections p e ≡ false
                = elim (is_placing_part plan.sections p e) as (λ b. is_placing_part plan.sections p e ≡ b → b ≡ false) [
                  | true ↦ λ is. absurd (omega (arith, before, placed_alone plan s j k n e order there within here is))
                  | false ↦ λ is. refl
                ] refl in
                writes p ∙ ap (λ b. if b then n else slice_index old p) other ∙ so_far.each k s j before there within
            | inr after ↦
                let at : k ≡ n = omega (arith, early, after) in
                let same : Some (Section s) ≡ Some e = sym there ∙ ap (slice_get plan.events) at ∙ here in
                let event : Section s ≡ e = cc in
                let is : is_placing_part plan.sections p e ≡ true = ap (is_placing_part plan.sections p) (sym event) ∙ among_part (first_part plan.sections s) (part_count plan.sections s) j within in
                writes p ∙ ap (λ b. if b then n else slice_index old p) is ∙ sym at
          ];
    }
