-- Under a plain plan, memory goes along the file inside each load segment: both begin where the segment opens, and are moved alike.
use Rattle.std.proofs.Common.{◌≡◌, ℕ, zero, suc, ◌+◌, ◌-◌, ◌*◌, ◌/◌, ◌%◌, ◌<◌, ◌≤◌, Bool, true, false, List, length, take, Option, Some, None, refl, sym, ap, subst, ◌∙◌, inl, inr, arith, add-one, add-zero}
use Rattle.std.specs.Prelude.{◌||◌, if◌then◌else◌, nat_lt, slice_get, unwrap_or}
use Rattle.std.specs.Int.{◌∣◌, next_multiple_of}
use Rattle.std.proofs.Math.Nat.{add-mul-mod_self_left, div-add-mod, mod-mod_of_dvd}
use Rattle.std.proofs.lemmas.Bool.{cases_Bool, cases_lt}
use Rattle.lk_link.specs.declared.plan.OrderEvent.{OrderEvent}
use Rattle.lk_link.specs.declared.plan.OrderEvent.TheVariants.{SegmentStart, Section}
use Rattle.lk_link.specs.Alignments.{is_alignment, IsLeastMultiple}
use Rattle.lk_link.specs.Inside.{is_open, placed_section}
use Rattle.lk_link.specs.Parts.{first_part}
use Rattle.lk_link.specs.PlanSections.{is_file_backed, is_zero_fill_thread_local}
use Rattle.lk_link.specs.Rules.{is_start}
use Rattle.lk_link.specs.WellFormed.{IsAboutPlace}
use Rattle.lk_link.proofs.Events.{is_that_start}
use Rattle.lk_link.proofs.PartNumbers.{first_part-suc}
use Rattle.lk_link.proofs.Powers.{alignment-pos, alignment_divides}
use Rattle.lk_link.proofs.Starts.{next_multiple_is_least}
use Rattle.lk_place.specs.declared.cursors.Cursors.{Cursors}
use Rattle.lk_place.specs.declared.cursors.Offsets.{Offsets}
use Rattle.lk_place.specs.Alignments.{place_alignment, section_alignment}
use Rattle.lk_place_laws.specs.Distance.{HasFileBytesIn, PlainMemoryKeepsDistance}
use Rattle.lk_place_laws.specs.Laws.{IsSoundlySet}
use Rattle.lk_place.specs.PlacedBefore.{Known, PlacedRecords}
use Rattle.lk_place.specs.Placement.{behind, first_walked, is_walked, known_before, moved, section_start, state_at, walk_alignment}
use Rattle.lk_place.specs.CarriedOut.{IsPlacedAt, Places, PlacesSection, CarriesOut, reached}
use Rattle.lk_place.specs.Plain.{IsPlain, OpensLoad, PlacesInLoad}
use Rattle.lk_expressions.specs.Records.{Record, file_end, has_file_bytes, mem_end, nowhere, record_at}
use Rattle.lk_place.specs.Setting.{IsReady, Setting, part_count, part_number, size_at, takes_addresses}
use Rattle.lk_place.specs.ThreadLocal.{free_memory}
use Rattle.lk_place_laws.proofs.PlaceAlignments.{place_aligned, place_reaches}
use Rattle.lk_place.proofs.ApartLaws.{section_one}
use Rattle.lk_place.proofs.PartEvents.{others_are_nowhere}
use Rattle.lk_place_laws.proofs.MemoryApart.{placed_of}
use Rattle.lk_place.proofs.WalkedAlignments.{walk_aligned}
use Rattle.lk_place_laws.proofs.Congruent.{OffsetsAgree, unbacked_leaves}
use Rattle.lk_place.proofs.Insides.{placed_in_range}
use Rattle.lk_place_laws.proofs.MemoryMoves.{Stays, Opened, Entered, Enters, IsFree, enters, moves, opens_load}
use Rattle.lk_place.proofs.Multiples.{least_one}
use Rattle.lk_place_laws.proofs.OpenBefore.{open_before, section_event}
use Rattle.lk_place.proofs.Ranges.{passed}
use Rattle.lk_place.proofs.SectionEnds.{first_is_walked, first_walked_place}
use Rattle.lk_place.proofs.Steps.{event_at, step_at}
use Rattle.lk_place_laws.proofs.MemorySteps.{addressed, never_waits, plain_plan}

-- ---- numbers

-- memory stands as far from the file as it does at the base
abbrev pub IsAsFar : Offsets → ℕ → ℕ → Type 0
IsAsFar base memory file = memory + base.file ≡ base.memory + file

-- the same at a record's starts, and at what is free of memory
abbrev pub StartsAsFar : Offsets → Record → Type 0
StartsAsFar base r = IsAsFar base r.mem_offset r.file_offset

abbrev IsFreeAsFar : Offsets → Cursors → Type 0
IsFreeAsFar base c = IsAsFar base (free_memory c) c.file

-- both move by as much
moved_alike : (base : Offsets) (m f d m' f' : ℕ) → m' ≡ m + d → f' ≡ f + d → IsAsFar base m f → IsAsFar base m' f'
moved_alike base m f d m' f' memory file h = omega (arith, memory, file, h)

crossed : (m f M F a b r : ℕ) → M ≡ a + r → F ≡ b + r → m + F ≡ M + f → m + b ≡ f + a
crossed m f M F a b r one two h = omega (arith, one, two, h)

-- where both agree at the base, they agree
as_far_agrees : (place : ℕ) (base : Offsets) (m f : ℕ) → OffsetsAgree place base → IsAsFar base m f → m % place ≡ f % place
as_far_agrees place base m f agree h =
    let high : base.memory ≡ place * (base.memory / place) + base.memory % place = sym (div-add-mod base.memory place) in
    let low : base.file ≡ place * (base.file / place) + base.memory % place
    = sym (div-add-mod base.file place) ∙ ap (λ n. place * (base.file / place) + n) (sym agree) in
    sym (add-mul-mod_self_left m place (base.file / place))
    ∙ ap (λ n. n % place) (crossed m f base.memory base.file (place * (base.memory / place)) (place * (base.file / place)) (base.memory % place) high low h)
    ∙ add-mul-mod_self_left f place (base.memory / place)

-- then rounding up moves them by as much
rounded_as_far : (place a : ℕ) (base : Offsets) (m f m' f' : ℕ) → 0 < a → a ∣ place → OffsetsAgree place base → IsAsFar base m f
    → IsLeastMultiple a m m' → IsLeastMultiple a f f' → IsAsFar base m' f'
rounded_as_far place a base m f m' f' positive divides agree h memory file =
    let rest : m % a ≡ f % a = sym (mod-mod_of_dvd a m divides) ∙ ap (λ n. n % a) (as_far_agrees place base m f agree h) ∙ mod-mod_of_dvd a f divides in
    let up : m' ≡ m + (a - m % a) % a = least_one a m m' (next_multiple_of m a) memory (next_multiple_is_least a m positive) in
    let along : f' ≡ f + (a - f % a) % a = least_one a f f' (next_multiple_of f a) file (next_multiple_is_least a f positive) in
    moved_alike base m f ((a - m % a) % a) m' f' up (along ∙ ap (λ r. f + (a - r) % a) (sym rest)) h

-- ---- the parts of a section

-- a section inside a load segment that has memory and bytes in the file, from cursors that stand as far as the base does
record GoesAlong (setting : Setting) (place s : ℕ) (base : Offsets) (from : Cursors) : Type 0 where
  ready : IsReady setting
  good : is_alignment place ≡ true
  there : s < length setting.plan.sections
  within : section_alignment setting s ≤ place
  backed : is_file_backed setting.plan s ≡ true
  addressed : takes_addresses setting s ≡ true
  agrees : OffsetsAgree place base
  far : IsAsFar base from.memory from.file

-- a walked part with bytes in the file
placed_as_far : (place a size : ℕ) (base from : Offsets) (r : Record) → is_alignment a ≡ true → is_alignment place ≡ true → a ≤ place → OffsetsAgree place base
    → IsAsFar base from.memory from.file → IsPlacedAt true a size from r → StartsAsFar base r × IsAsFar base (behind r).memory (behind r).file
placed_as_far place a size base from r aligned good le agree h is =
    let starts : StartsAsFar base r
    = rounded_as_far place a base from.memory from.file r.mem_offset r.file_offset (alignment-pos a aligned) (alignment_divides a place aligned good le) agree h is.at is.in_file in
    let same : r.mem_size ≡ r.file_size = is.takes ∙ sym is.takes_file in
    (starts, moved_alike base r.mem_offset r.file_offset r.file_size (mem_end r) (file_end r) (ap (λ n. r.mem_offset + n) same) refl starts)

passed_as_far : (place a size : ℕ) (walked : Bool) (base from : Offsets) (r : Record) → is_alignment a ≡ true → is_alignment place ≡ true → a ≤ place → OffsetsAgree place base
    → IsAsFar base from.memory from.file → (walked ≡ true → IsPlacedAt true a size from r) → IsAsFar base (passed walked r from).memory (passed walked r from).file
passed_as_far place a size true base from r aligned good le agree h is = (placed_as_far place a size base from r aligned good le agree h (is refl)).1
passed_as_far place a size false base from r aligned good le agree h is = h

walked_at : (setting : Setting) (s j : ℕ) (from to : Cursors) (records : List Record) → is_file_backed setting.plan s ≡ true → PlacesSection setting s from records to
    → j < part_count setting.plan.sections s → is_walked setting s (part_number setting.plan.sections s j) ≡ true
    → IsPlacedAt true (walk_alignment setting s (part_number setting.plan.sections s j)) (size_at setting.sizes (part_number setting.plan.sections s j))
    (reached setting s records (section_start setting s from) j) (record_at records (part_number setting.plan.sections s j))
walked_at setting s j from to records backed h below walked =
    let p : ℕ = part_number setting.plan.sections s j in
    subst (λ b. IsPlacedAt b (walk_alignment setting s p) (size_at setting.sizes p) (reached setting s records (section_start setting s from) j) (record_at records p)) backed (h.walked j below walked)

-- the cursors behind each part
reached_as_far : (setting : Setting) (place s j : ℕ) (base : Offsets) (from to : Cursors) (records : List Record) → GoesAlong setting place s base from → PlacesSection setting s from records to
    → j ≤ part_count setting.plan.sections s → let end = reached setting s records (section_start setting s from) j in IsAsFar base end.memory end.file
reached_as_far setting place s zero base from to records k h le = ap (λ b. (if b then from.memory else 0) + base.file) k.addressed ∙ k.far
reached_as_far setting place s (suc j) base from to records k h le =
    let p : ℕ = part_number setting.plan.sections s j in
    let aligned = walk_aligned setting s p k.ready in
    passed_as_far place (walk_alignment setting s p) (size_at setting.sizes p) (is_walked setting s p) base (reached setting s records (section_start setting s from) j) (record_at records p)
    aligned.0 k.good (omega (arith, aligned.1, k.within)) k.agrees (reached_as_far setting place s j base from to records k h (omega arith))
    (walked_at setting s j from to records k.backed h (omega arith))

-- and those behind the section
left_as_far : (setting : Setting) (place s : ℕ) (base : Offsets) (from to : Cursors) (records : List Record) → GoesAlong setting place s base from → PlacesSection setting s from records to
    → IsAsFar base to.memory to.file
left_as_far setting place s base from to records k h =
    let end : Offsets = reached setting s records (section_start setting s from) (part_count setting.plan.sections s) in
    let memory : to.memory ≡ end.memory = ap (λ (c : Cursors). c.memory) h.leaves ∙ ap (λ b. if b then end.memory else from.memory) k.addressed in
    let file : to.file ≡ end.file = ap (λ (c : Cursors). c.file) h.leaves in
    ap (λ n. n + base.file) memory ∙ reached_as_far setting place s (part_count setting.plan.sections s) base from to records k h (omega arith) ∙ ap (λ n. base.memory + n) (sym file)

walked_as_far : (setting : Setting) (place s j : ℕ) (base : Offsets) (from to : Cursors) (records : List Record) → GoesAlong setting place s base from → PlacesSection setting s from records to
    → j < part_count setting.plan.sections s → is_walked setting s (part_number setting.plan.sections s j) ≡ true → StartsAsFar base (record_at records (part_number setting.plan.sections s j))
walked_as_far setting place s j base from to records k h below walked =
    let p : ℕ = part_number setting.plan.sections s j in
    let aligned = walk_aligned setting s p k.ready in
    (placed_as_far place (walk_alignment setting s p) (size_at setting.sizes p) base (reached setting s records (section_start setting s from) j) (record_at records p)
    aligned.0 k.good (omega (arith, aligned.1, k.within)) k.agrees (reached_as_far setting place s j base from to records k h (omega arith))
    (walked_at setting s j from to records k.backed h below walked)).0

-- each part starts there, as one that isn't walked rests where the first walked one starts
part_as_far : (setting : Setting) (place s j : ℕ) (base : Offsets) (from to : Cursors) (records : List Record) → GoesAlong setting place s base from → PlacesSection setting s from records to
    → j < part_count setting.plan.sections s → StartsAsFar base (record_at records (part_number setting.plan.sections s j))
part_as_far setting place s j base from to records k h below =
    let p : ℕ = part_number setting.plan.sections s j in
    elim (is_walked setting s p) as (λ b. is_walked setting s p ≡ b → StartsAsFar base (record_at records p)) [
      | true ↦ λ is. walked_as_far setting place s j base from to records k h below is
      | false ↦ λ is.
          let first = first_walked_place setting s k.ready k.there in
          let walked = ap (is_walked setting s) (sym first.1.is) ∙ first_is_walked setting s in
          let begun : StartsAsFar base (record_at records (part_number setting.plan.sections s first.0)) = walked_as_far setting place s first.0 base from to records k h first.1.within walked in
          let starts : StartsAsFar base (record_at records (first_walked setting s)) = subst (λ n. StartsAsFar base (record_at records n)) (sym first.1.is) begun in
          let rests = h.resting j below is in
          ap (λ n. n + base.file) rests.at ∙ starts ∙ ap (λ n. base.memory + n) (sym rests.in_file)
    ] refl

-- a part of a section without bytes in the file has none
pub unbacked_size : (setting : Setting) (s j : ℕ) (from to : Cursors) (records : List Record) → is_file_backed setting.plan s ≡ false → PlacesSection setting s from records to
    → j < part_count setting.plan.sections s → (record_at records (part_number setting.plan.sections s j)).file_size ≡ 0
unbacked_size setting s j from to records unbacked h below =
    let p : ℕ = part_number setting.plan.sections s j in
    elim (is_walked setting s p) as (λ b. is_walked setting s p ≡ b → (record_at records p).file_size ≡ 0) [
      | true ↦ λ is. (h.walked j below is).takes_file ∙ ap (λ b. if b then size_at setting.sizes p else 0) unbacked
      | false ↦ λ is. (h.resting j below is).takes_file
    ] refl

-- ---- one event

-- what a walk through a load segment is about: a plain plan, and a section with bytes in the file that an event before the last
-- state places while the segment is open
pub record IsThrough (setting : Setting) (states : List Cursors) (records : List Record) (i s k : ℕ) : Type 0 where
  pub set : IsSoundlySet setting states records
  pub plain : IsPlain setting.plan setting.output
  pub places : PlacesInLoad setting.plan i s k
  pub backed : is_file_backed setting.plan s ≡ true
  pub early : k < length states - 1

-- where a load segment begins that event o opens
abbrev pub base_at : List Cursors → ℕ → Offsets
base_at states o = let c = state_at states (o + 1) in record { file = c.file; memory = free_memory c }

-- there both agree
base_agrees : (setting : Setting) (states : List Cursors) (records : List Record) (i s k o : ℕ) → IsThrough setting states records i s k → OpensLoad setting.plan i o → o < k
    → OffsetsAgree (place_alignment setting i) (base_at states o)
base_agrees setting states records i s k o t opens less =
    let place : ℕ = place_alignment setting i in
    let from : Cursors = state_at states o in
    let to : Cursors = state_at states (o + 1) in
    let known : Known = known_before setting states records o in
    let quiet : from.pending ≡ None = never_waits setting states records t.set.ready t.set.placed (plain_plan setting.plan setting.output t.plain) o (omega (arith, t.early)) in
    let step : CarriesOut setting known (SegmentStart i) from records to = step_at setting states records o (SegmentStart i) t.set.ready t.set.placed (omega (arith, t.early)) opens.here in
    let there = opens_load setting known i from step.entered quiet opens.load step.moves in
    let none : to.saved ≡ None = ap (λ (c : Cursors). c.saved) step.places ∙ there.2 in
    ap (λ (o : Option ℕ). unwrap_or o to.memory % place) none
    ∙ ap (λ (c : Cursors). c.memory % place) step.places
    ∙ ap (λ n. n % place) there.1
    ∙ t.set.lawful.congruent place from.file (free_memory from) (place_aligned setting i t.set.ready.sections t.set.page)
    ∙ ap (λ n. n % place) (sym there.0)
    ∙ ap (λ (c : Cursors). c.file % place) (sym step.places)

-- a section placed inside the segment, no later than that one, goes along the file
along : (setting : Setting) (states : List Cursors) (records : List Record) (i s k : ℕ) → IsThrough setting states records i s k
    → (u n : ℕ) (base : Offsets) (from : Cursors) → PlacesInLoad setting.plan i u n → is_file_backed setting.plan u ≡ true → OffsetsAgree (place_alignment setting i) base
    → IsAsFar base from.memory from.file → GoesAlong setting (place_alignment setting i) u base from
along setting states records i s k t u n base from there backed agrees far = record {
  ready = t.set.ready;
  good = place_aligned setting i t.set.ready.sections t.set.page;
  there = placed_in_range setting.plan (Section u) u (t.set.ready.events.in_range n (Section u) there.places.here) refl;
  within = place_reaches setting i u n there.places;
  backed = backed;
  addressed = addressed setting u (t.plain.allocated i u n there) t.plain.whole;
  agrees = agrees;
  far = far;
}

-- an ordinary section with bytes in the file is padded alike
entered_as_far : (setting : Setting) (u : ℕ) (base : Offsets) (from entered : Cursors) → is_file_backed setting.plan u ≡ true → is_zero_fill_thread_local setting.plan u ≡ false
    → Enters setting u from entered → IsFreeAsFar base from → IsAsFar base entered.memory entered.file
entered_as_far setting u base from entered backed filled begun h =
    moved_alike base (free_memory from) from.file begun.padding entered.memory entered.file (begun.taken filled).0
    (begun.file ∙ ap (λ b. from.file + (if b then begun.padding else 0)) backed) h

-- it leaves both as far
filled_as_far : (setting : Setting) (states : List Cursors) (records : List Record) (i s k : ℕ) → IsThrough setting states records i s k
    → (u n : ℕ) (base : Offsets) (from entered to : Cursors) → PlacesInLoad setting.plan i u n → is_file_backed setting.plan u ≡ true → is_zero_fill_thread_local setting.plan u ≡ false
    → OffsetsAgree (place_alignment setting i) base → Enters setting u from entered → IsFreeAsFar base from → PlacesSection setting u entered records to → IsFreeAsFar base to
filled_as_far setting states records i s k t u n base from entered to there backed filled agrees begun h places =
    let none : to.saved ≡ None = ap (λ (c : Cursors). c.saved) places.leaves ∙ (begun.taken filled).1 in
    ap (λ (o : Option ℕ). unwrap_or o to.memory + base.file) none
    ∙ left_as_far setting (place_alignment setting i) u base entered to records
    (along setting states records i s k t u n base entered there backed agrees (entered_as_far setting u base from entered backed filled begun h)) places

-- a zero-fill thread-local one leaves the file and what is free of memory
zero_fill_as_far : (setting : Setting) (u : ℕ) (base : Offsets) (from entered to : Cursors) (records : List Record) → is_file_backed setting.plan u ≡ false
    → is_zero_fill_thread_local setting.plan u ≡ true → Enters setting u from entered → IsFreeAsFar base from → PlacesSection setting u entered records to → IsFreeAsFar base to
zero_fill_as_far setting u base from entered to records unbacked fills begun h places =
    let saved : to.saved ≡ Some (free_memory from) = ap (λ (c : Cursors). c.saved) places.leaves ∙ begun.kept fills in
    let file : to.file ≡ from.file
    = unbacked_leaves setting u entered to records unbacked places ∙ begun.file ∙ ap (λ b. from.file + (if b then begun.padding else 0)) unbacked ∙ add-zero from.file in
    ap (λ (o : Option ℕ). unwrap_or o to.memory + base.file) saved ∙ h ∙ ap (λ n. base.memory + n) (sym file)

-- of two, the first where the second doesn't hold
first_of_two : (a b : Bool) → (a || b) ≡ true → b ≡ false → a ≡ true
first_of_two true b h none = refl
first_of_two false b h none = absurd (cc)

section_as_far : (setting : Setting) (states : List Cursors) (records : List Record) (i s k : ℕ) → IsThrough setting states records i s k
    → (u n : ℕ) (base : Offsets) (from entered to : Cursors) → n < k → PlacesInLoad setting.plan i u n → OffsetsAgree (place_alignment setting i) base → Enters setting u from entered
    → IsFreeAsFar base from → PlacesSection setting u entered records to → IsFreeAsFar base to
section_as_far setting states records i s k t u n base from entered to less there agrees begun h places =
    elim (cases_Bool (is_zero_fill_thread_local setting.plan u)) [
      | inl fills ↦ zero_fill_as_far setting u base from entered to records (t.plain.zero_fill i u n there fills) fills begun h places
      | inr filled ↦
          let backed = first_of_two (is_file_backed setting.plan u) (is_zero_fill_thread_local setting.plan u) (t.plain.backed_first i u s n k less there t.places t.backed) filled in
          filled_as_far setting states records i s k t u n base from entered to there backed filled agrees begun h places
    ]

-- an event that places nothing leaves what its move leaves
stays_as_far : (setting : Setting) (standing : PlacedRecords) (base : Offsets) (o : Option ℕ) (entered to : Cursors) (records : List Record) → o ≡ None
    → IsFreeAsFar base entered → Places setting standing o entered records to → IsFreeAsFar base to
stays_as_far setting standing base (Some s) entered to records none h places = absurd (cc)
stays_as_far setting standing base None entered to records none h places = subst (IsFreeAsFar base) (sym places) h

-- one event that doesn't open the segment
step_as_far : (setting : Setting) (states : List Cursors) (records : List Record) (i s k : ℕ) → IsThrough setting states records i s k
    → (n : ℕ) (base : Offsets) (known : Known) (e : OrderEvent) (from to : Cursors) → n < k → slice_get setting.plan.events n ≡ Some e → is_open i (take n setting.plan.events) ≡ true
    → from.pending ≡ None → OffsetsAgree (place_alignment setting i) base → IsFreeAsFar base from → CarriesOut setting known e from records to → IsFreeAsFar base to
step_as_far setting states records i s k t n base known e from to less here opened quiet agrees h step =
    let about : IsAboutPlace e = t.plain.unmoved n e here in
    let free : IsFree setting.plan = (plain_plan setting.plan setting.output t.plain).free in
    elim (placed_section e) as (λ (o : Option ℕ). placed_section e ≡ o → Places setting known.standing o step.entered records to → IsFreeAsFar base to) [
      | None ↦ λ none places.
          elim (moves setting known e from step.entered free about quiet step.moves) [
            | Stays same ↦ stays_as_far setting known.standing base None step.entered to records refl (subst (IsFreeAsFar base) (sym same) h) places
            | Opened opens ↦
                let other : OpensLoad setting.plan opens.segment n = record { load = opens.load; here = here ∙ ap (λ (x : OrderEvent). Some x) opens.is } in
                let closed = t.plain.apart i opens.segment n t.places.load other in
                absurd (cc)
            | Entered u is begun ↦ let named : Some u ≡ None = ap placed_section (sym is) ∙ none in absurd (cc)
          ]
      | (Some u) ↦ λ named places.
          let at : e ≡ Section u = section_event e u named in
          let there : PlacesInLoad setting.plan i u n = record { load = t.places.load; places = record { here = here ∙ ap (λ (x : OrderEvent). Some x) at; inside = opened } } in
          let begun = enters setting known u from step.entered free quiet (ap (λ (x : OrderEvent). moved setting known x from) (sym at) ∙ step.moves) in
          section_as_far setting states records i s k t u n base from step.entered to less there agrees begun h places.placed
    ] refl step.places

-- ---- all events inside

-- since the segment was opened, memory stands as far from the file
record IsAlongSince (setting : Setting) (states : List Cursors) (i n : ℕ) : Type 0 where
  o : ℕ
  opens : OpensLoad setting.plan i o
  before : o < n
  far : IsFreeAsFar (base_at states o) (state_at states n)

along_since : (setting : Setting) (states : List Cursors) (records : List Record) (i s k : ℕ) → IsThrough setting states records i s k
    → (n : ℕ) → n ≤ k → is_open i (take n setting.plan.events) ≡ true → IsAlongSince setting states i n
along_since setting states records i s k t zero le opened = absurd (cc)
along_since setting states records i s k t (suc n) le opened =
    let early : n < length states - 1 = omega (arith, t.early) in
    let event = event_at setting states records n t.set.placed early in
    let e : OrderEvent = event.0 in
    let known : Known = known_before setting states records n in
    let quiet : (state_at states n).pending ≡ None = never_waits setting states records t.set.ready t.set.placed (plain_plan setting.plan setting.output t.plain) n (omega arith) in
    let step : CarriesOut setting known e (state_at states n) records (state_at states (n + 1)) = step_at setting states records n e t.set.ready t.set.placed early event.1 in
    let along : IsAlongSince setting states i (n + 1)
    = elim (is_start i e) as (λ b. is_start i e ≡ b → IsAlongSince setting states i (n + 1)) [
      | true ↦ λ is. record {
        o = n;
        opens = record { load = t.places.load; here = event.1 ∙ ap (λ (x : OrderEvent). Some x) (is_that_start i e is) };
        before = omega arith;
        far = refl;
      }
      | false ↦ λ unopened.
          let before : is_open i (take n setting.plan.events) ≡ true = open_before i n setting.plan.events e event.1 unopened opened in
          let since : IsAlongSince setting states i n = along_since setting states records i s k t n (omega arith) before in
          record {
            o = since.o;
            opens = since.opens;
            before = omega (arith, since.before);
            far = step_as_far setting states records i s k t n (base_at states since.o) known e (state_at states n) (state_at states (n + 1)) (omega arith) event.1 before quiet
                (base_agrees setting states records i s k since.o t since.opens (omega (arith, since.before))) since.far step;
          }
    ] refl in
    subst (IsAlongSince setting states i) (add-one n) along

-- ---- the law

-- the parts of a section that stand as far from the file as where an event opens the segment
pub record IsSectionAlong (setting : Setting) (states : List Cursors) (records : List Record) (i s : ℕ) : Type 0 where
  pub o : ℕ
  pub opens : OpensLoad setting.plan i o
  pub far : (j : ℕ) → j < part_count setting.plan.sections s → StartsAsFar (base_at states o) (record_at records (part_number setting.plan.sections s j))

pub section_along : (setting : Setting) (states : List Cursors) (records : List Record) (i s k : ℕ) → IsThrough setting states records i s k → IsSectionAlong setting states records i s
section_along setting states records i s k t =
    let from : Cursors = state_at states k in
    let since : IsAlongSince setting states i k = along_since setting states records i s k t k (omega arith) t.places.places.inside in
    let base : Offsets = base_at states since.o in
    let known : Known = known_before setting states records k in
    let quiet : from.pending ≡ None = never_waits setting states records t.set.ready t.set.placed (plain_plan setting.plan setting.output t.plain) k (omega (arith, t.early)) in
    let step : CarriesOut setting known (Section s) from records (state_at states (k + 1)) = step_at setting states records k (Section s) t.set.ready t.set.placed t.early t.places.places.here in
    let begun = enters setting known s from step.entered (plain_plan setting.plan setting.output t.plain).free quiet step.moves in
    let filled : is_zero_fill_thread_local setting.plan s ≡ false = elim (cases_Bool (is_zero_fill_thread_local setting.plan s)) [
      | inl fills ↦ let unbacked = t.plain.zero_fill i s k t.places fills in absurd (cc)
      | inr none ↦ none
    ] in
    let goes : GoesAlong setting (place_alignment setting i) s base step.entered
    = along setting states records i s k t s k base step.entered t.places t.backed (base_agrees setting states records i s k since.o t since.opens since.before)
    (entered_as_far setting s base from step.entered t.backed filled begun since.far) in
    record {
      o = since.o;
      opens = since.opens;
      far = λ j below. part_as_far setting (place_alignment setting i) s j base step.entered (state_at states (k + 1)) records goes step.places.placed below;
    }

-- a part with bytes in the file is placed before the last state
placed_early : (setting : Setting) (states : List Cursors) (records : List Record) (i p : ℕ) → IsSoundlySet setting states records → (h : HasFileBytesIn setting.plan records i p)
    → h.k < length states - 1
placed_early setting states records i p set h =
    elim (cases_lt h.k (length states - 1)) [
      | inl early ↦ early
      | inr late ↦
          let none : record_at records p ≡ nowhere = others_are_nowhere setting states records set.placed p (λ a.
          let section : a.s ≡ h.s = section_one setting.plan a.s h.s p (placed_of setting (length states - 1) p set.ready a) h.part in
          let event : slice_get setting.plan.events a.k ≡ Some (Section h.s) = a.places ∙ ap (λ n. Some (Section n)) section in
          let same : a.k ≡ h.k = set.ready.events.once a.k h.k (Section h.s) tt event h.places.places.here in
          omega (arith, same, a.early, late)) in
          let bytes : has_file_bytes nowhere ≡ true = ap has_file_bytes (sym none) ∙ h.bytes in
          absurd (cc)
    ]

-- the section of one has bytes there
section_backed : (setting : Setting) (states : List Cursors) (records : List Record) (i s k j : ℕ) → IsSoundlySet setting states records → PlacesInLoad setting.plan i s k → k < length states - 1
    → j < part_count setting.plan.sections s → has_file_bytes (record_at records (part_number setting.plan.sections s j)) ≡ true → is_file_backed setting.plan s ≡ true
section_backed setting states records i s k j set places early below bytes =
    elim (cases_Bool (is_file_backed setting.plan s)) [
      | inl backed ↦ backed
      | inr unbacked ↦
          let step = step_at setting states records k (Section s) set.ready set.placed early places.places.here in
          let size = unbacked_size setting s j step.entered (state_at states (k + 1)) records unbacked step.places.placed below in
          let none : nat_lt 0 0 ≡ true = ap (nat_lt 0) (sym size) ∙ bytes in
          absurd (cc)
    ]

-- a part of the segment that stands as far from the file as where an event opens that
record StandsAlong (setting : Setting) (states : List Cursors) (i : ℕ) (r : Record) : Type 0 where
  o : ℕ
  opens : OpensLoad setting.plan i o
  far : StartsAsFar (base_at states o) r

stands_along : (setting : Setting) (states : List Cursors) (records : List Record) (i p : ℕ) → IsSoundlySet setting states records → IsPlain setting.plan setting.output
    → HasFileBytesIn setting.plan records i p → StandsAlong setting states i (record_at records p)
stands_along setting states records i p set plain h =
    let s : ℕ = h.s in
    let first : ℕ = first_part setting.plan.sections s in
    let there = placed_in_range setting.plan (Section s) s (set.ready.events.in_range h.k (Section s) h.places.places.here) refl in
    let number : p ≡ first + (p - first) = omega (arith, h.part.from) in
    let within : p - first < part_count setting.plan.sections s = omega (arith, h.part.from, h.part.below, first_part-suc setting.plan.sections s there) in
    let early = placed_early setting states records i p set h in
    let backed = section_backed setting states records i s h.k (p - first) set h.places early within (ap (λ n. has_file_bytes (record_at records n)) (sym number) ∙ h.bytes) in
    let through : IsThrough setting states records i s h.k = record { set = set; plain = plain; places = h.places; backed = backed; early = early } in
    let a : IsSectionAlong setting states records i s = section_along setting states records i s h.k through in
    record { o = a.o; opens = a.opens; far = subst (λ n. StartsAsFar (base_at states a.o) (record_at records n)) (sym number) (a.far (p - first) within) }

-- two that are as far as a third are equally far
pub equally : (m f m' f' M F : ℕ) → m + F ≡ M + f → m' + F ≡ M + f' → m + f' ≡ m' + f
equally m f m' f' M F h g = omega (arith, h, g)

pub plain_memory_keeps_distance : PlainMemoryKeepsDistance
plain_memory_keeps_distance setting states records set plain i p q a b =
    let one = stands_along setting states records i p set plain a in
    let two = stands_along setting states records i q set plain b in
    let same : two.o ≡ one.o = set.ready.events.once two.o one.o (SegmentStart i) tt two.opens.here one.opens.here in
    let base : Offsets = base_at states one.o in
    let r : Record = record_at records p in
    let t : Record = record_at records q in
    equally r.mem_offset r.file_offset t.mem_offset t.file_offset base.memory base.file one.far (subst (λ n. StartsAsFar (base_at states n) t) same two.far)
