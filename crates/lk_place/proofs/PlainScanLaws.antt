-- Exactly plain plans are found plain.
use Rattle.std.proofs.Common.{◌≡◌, ◌≢◌, ◌↔◌, ℕ, zero, suc, ◌<◌, ◌≤◌, Bool, true, false, List, [], ◌∷◌, length, take, Option, Some, None, refl, sym, ap, subst, ◌∙◌, inl, inr, arith, eq-eqb}
use Rattle.std.specs.Prelude.{◌==◌, ◌&&◌, ◌||◌, fold, if◌then◌else◌, is_none, not, slice_get}
use Rattle.std.specs.List.{slice_index_or}
use Rattle.std.specs.Option.{option_map_or}
use Rattle.std.proofs.Math.Bool.{or-true}
use Rattle.std.proofs.lemmas.Bool.{and_from, and_parts, cases_lt, eqb-true, not-true, or_cases}
use Rattle.std.proofs.lemmas.Bool.Decides.{eqb_tells}
use Rattle.std.proofs.lemmas.List.{nil_from_length}
use Rattle.std.proofs.lemmas.Option.{slice_get-get_or, slice_get_within}
use Rattle.lk_link.specs.declared.options.OutputKind.{OutputKind}
use Rattle.lk_link.specs.declared.options.OutputKind.TheVariants.{StaticExecutable, DynamicExecutable, SharedObject, Partial}
use Rattle.lk_link.specs.declared.plan.OrderEvent.{OrderEvent}
use Rattle.lk_link.specs.declared.plan.OrderEvent.TheVariants.{SegmentStart, SegmentEnd, Section, SetLocation, SetLocationRelative, SetSectionAddress}
use Rattle.lk_link.specs.declared.plan.Plan.{Plan}
use Rattle.lk_link.specs.declared.plan.Region.{Region}
use Rattle.lk_link.specs.Inside.{PlacesInside, is_open, placed_section}
use Rattle.lk_link.specs.OutputKinds.{is_partial}
use Rattle.lk_link.specs.PlanSections.{is_allocated, is_file_backed, is_zero_fill_thread_local}
use Rattle.lk_link.specs.SegmentKinds.{is_load, segment_at}
use Rattle.lk_link.specs.WellFormed.{IsAboutPlace, IsEventOrder}
use Rattle.lk_place.specs.declared.plain.Scan.{Scan}
use Rattle.lk_place.specs.Plain.{IsLoadSegment, IsPlain, OpensLoad, PlacesInLoad}
use Rattle.lk_place.specs.PlainScan.{accepts, is_found_plain, leaves_gap, passes, scanned, unscanned}
use Rattle.lk_place.proofs.OpenSegments.{closed_now, open_same, opened_now, unopened}

-- ---- what passes

-- what is known behind the first k events
abbrev known : Plan → ℕ → Scan
known plan k = fold (scanned plan) unscanned (take k plan.events)

fold_more : {A B : Type 0} (f : B → A → B) (b : B) (xs : List A) (k : ℕ) (x : A) → slice_get xs k ≡ Some x → fold f b (take (suc k) xs) ≡ f (fold f b (take k xs)) x
fold_more f b [] k x h = absurd (cc)
fold_more f b (y ∷ ys) zero x h = let same : y ≡ x = cc in ap (f b) same
fold_more f b (y ∷ ys) (suc k) x h = fold_more f (f b y) ys k x h

-- where all pass, each is accepted
passed : (plan : Plan) (scan : Scan) (es : List OrderEvent) → passes plan scan es ≡ true → (k : ℕ) (e : OrderEvent) → slice_get es k ≡ Some e
    → accepts plan (fold (scanned plan) scan (take k es)) e ≡ true
unfolding passes
passed plan scan [] h k e there = absurd (cc)
passed plan scan (x ∷ xs) h zero e there =
    let same : x ≡ e = cc in
    ap (accepts plan scan) (sym same) ∙ (and_parts (accepts plan scan x) (passes plan (scanned plan scan x) xs) h).0
passed plan scan (x ∷ xs) h (suc k) e there = passed plan (scanned plan scan x) xs (and_parts (accepts plan scan x) (passes plan (scanned plan scan x) xs) h).1 k e there

-- and the other way round
all_pass : (plan : Plan) (scan : Scan) (es : List OrderEvent) → ((k : ℕ) (e : OrderEvent) → slice_get es k ≡ Some e → accepts plan (fold (scanned plan) scan (take k es)) e ≡ true)
    → passes plan scan es ≡ true
unfolding passes
all_pass plan scan [] h = refl
all_pass plan scan (x ∷ xs) h =
    and_from (accepts plan scan x) (passes plan (scanned plan scan x) xs) (h 0 x refl) (all_pass plan (scanned plan scan x) xs (λ k e there. h (suc k) e there))

-- ---- what the scan knows

record Knows (plan : Plan) (k : ℕ) (scan : Scan) : Type 0 where
  opened : (i : ℕ) → IsLoadSegment plan i → is_open i (take k plan.events) ≡ true → scan.inside ≡ Some i
  is_opened : (i : ℕ) → scan.inside ≡ Some i → IsLoadSegment plan i × (is_open i (take k plan.events) ≡ true)
  gap : (i s m : ℕ) → scan.inside ≡ Some i → m < k → PlacesInside plan.events i s m → leaves_gap plan s ≡ true → scan.gap ≡ true
  gapped : (i : ℕ) → scan.inside ≡ Some i → scan.gap ≡ true → (s : ℕ) × (m : ℕ) × (m < k) × PlacesInside plan.events i s m × (leaves_gap plan s ≡ true)

-- where an event places none, what is placed is placed before
earlier : (es : List OrderEvent) (i s m k : ℕ) (e : OrderEvent) → slice_get es k ≡ Some e → placed_section e ≡ None → m < suc k → PlacesInside es i s m → m < k
earlier es i s m k e here none less places =
    elim (cases_lt m k) [
      | inl before ↦ before
      | inr past ↦
          let same : m ≡ k = omega arith in
          let event : Some e ≡ Some (Section s) = sym here ∙ ap (slice_get es) (sym same) ∙ places.here in
          let section : e ≡ Section s = cc in
          let placed : placed_section e ≡ Some s = ap placed_section section in
          absurd (cc)
    ]

-- an event that leaves the load segments as they are, and places none, changes nothing
quiet : (plan : Plan) (k : ℕ) (e : OrderEvent) (scan : Scan) → slice_get plan.events k ≡ Some e → placed_section e ≡ None
    → ((i : ℕ) → IsLoadSegment plan i → is_open i (take (suc k) plan.events) ≡ is_open i (take k plan.events)) → Knows plan k scan → Knows plan (suc k) scan
quiet plan k e scan here none same h =
    record {
      opened = λ i load opened. h.opened i load (sym (same i load) ∙ opened);
      is_opened = λ i is. let there = h.is_opened i is in (there.0, same i there.0 ∙ there.1);
      gap = λ i s m is less places gap. h.gap i s m is (earlier plan.events i s m k e here none less places) places gap;
      gapped = λ i is gap. let there = h.gapped i is gap in (there.0, there.1, omega (arith, there.2), there.3, there.4);
    }

-- a load segment opens, where none was open
starts : (plan : Plan) (j k : ℕ) (scan : Scan) → IsEventOrder plan → slice_get plan.events k ≡ Some (SegmentStart j) → IsLoadSegment plan j → scan.inside ≡ None → Knows plan k scan
    → Knows plan (suc k) (record scan { inside = Some j; gap = false })
starts plan j k scan order here load none h =
    record {
      opened = λ i loads opened. elim (eqb_tells j i) [
        | inl hit ↦ ap (λ n. Some n) hit.1
        | inr miss ↦
            let before : is_open i (take k plan.events) ≡ true = sym (open_same i k plan.events (SegmentStart j) here miss.0 refl) ∙ opened in
            let there = h.opened i loads before in
            absurd (cc)
      ];
      is_opened = λ i is.
          let same : j ≡ i = cc in
          (subst (IsLoadSegment plan) same load, subst (λ n. is_open n (take (suc k) plan.events) ≡ true) same (opened_now plan order j k here));
      gap = λ i s m is less places gap.
          let same : j ≡ i = cc in
          let before = earlier plan.events i s m k (SegmentStart j) here refl less places in
          let never : is_open i (take m plan.events) ≡ false = subst (λ n. is_open n (take m plan.events) ≡ false) same (unopened plan order j k m here (omega arith)) in
          let inside = places.inside in
          absurd (cc);
      gapped = λ i is gap. absurd (cc);
    }

-- the open one closes
closes : (plan : Plan) (j k : ℕ) (scan : Scan) → slice_get plan.events k ≡ Some (SegmentEnd j) → scan.inside ≡ Some j → Knows plan k scan → Knows plan (suc k) (record scan { inside = None })
closes plan j k scan here is h =
    record {
      opened = λ i loads opened. elim (eqb_tells j i) [
        | inl hit ↦ let closed = closed_now i k plan.events (SegmentEnd j) here hit.0 in absurd (cc)
        | inr miss ↦
            let before : is_open i (take k plan.events) ≡ true = sym (open_same i k plan.events (SegmentEnd j) here refl miss.0) ∙ opened in
            let there : Some i ≡ Some j = sym (h.opened i loads before) ∙ is in
            let same : j ≡ i = cc in
            absurd (miss.1 same)
      ];
      is_opened = λ i none. absurd (cc);
      gap = λ i s m none less places gap. absurd (cc);
      gapped = λ i none gap. absurd (cc);
    }

-- a section is placed
placed : (plan : Plan) (s k : ℕ) (scan : Scan) → slice_get plan.events k ≡ Some (Section s) → Knows plan k scan
    → Knows plan (suc k) (record scan { gap = scan.gap || leaves_gap plan s })
placed plan s k scan here h =
    let same : (i : ℕ) → is_open i (take (suc k) plan.events) ≡ is_open i (take k plan.events) = λ i. open_same i k plan.events (Section s) here refl refl in
    record {
      opened = λ i load opened. h.opened i load (sym (same i) ∙ opened);
      is_opened = λ i is. let there = h.is_opened i is in (there.0, same i ∙ there.1);
      gap = λ i t m is less places gap. elim (cases_lt m k) [
        | inl before ↦ ap (λ b. b || leaves_gap plan s) (h.gap i t m is before places gap)
        | inr past ↦
            let event : Some (Section t) ≡ Some (Section s) = sym places.here ∙ ap (slice_get plan.events) (let now : m ≡ k = omega arith in now) ∙ here in
            let section : s ≡ t = cc in
            ap (λ b. scan.gap || b) (ap (leaves_gap plan) section ∙ gap) ∙ or-true scan.gap
      ];
      gapped = λ i is gap. elim (or_cases scan.gap (leaves_gap plan s) gap) [
        | inl before ↦ let there = h.gapped i is before in (there.0, there.1, omega (arith, there.2), there.3, there.4)
        | inr now ↦ (s, k, omega arith, record { here = here; inside = (h.is_opened i is).1 }, now)
      ];
    }

option_is : (o : Option ℕ) (j : ℕ) → option_map_or (λ i. i == j) o false ≡ true → o ≡ Some j
option_is None j h = absurd (cc)
option_is (Some i) j h = ap (λ n. Some n) (eqb-true i j h)

other_closes : (plan : Plan) (j k : ℕ) (scan : Scan) → slice_get plan.events k ≡ Some (SegmentEnd j) → option_map_or (λ i. i == j) scan.inside false ≡ false → Knows plan k scan
    → (i : ℕ) → IsLoadSegment plan i → is_open i (take (suc k) plan.events) ≡ is_open i (take k plan.events)
other_closes plan j k scan here other h i load =
    elim (eqb_tells j i) [
      | inl hit ↦
          let closed = closed_now i k plan.events (SegmentEnd j) here hit.0 in
          elim (is_open i (take k plan.events)) as (λ b. is_open i (take k plan.events) ≡ b → is_open i (take (suc k) plan.events) ≡ b) [
            | true ↦ λ is.
                let yes : option_map_or (λ i. i == j) scan.inside false ≡ true = ap (λ o. option_map_or (λ i. i == j) o false) (h.opened i load is) ∙ eq-eqb i j (sym hit.1) in
                absurd (cc)
            | false ↦ λ is. closed
          ] refl
      | inr miss ↦ open_same i k plan.events (SegmentEnd j) here refl miss.0
    ]

-- one event
next : (plan : Plan) (k : ℕ) (e : OrderEvent) (scan : Scan) → IsEventOrder plan → slice_get plan.events k ≡ Some e → ((j : ℕ) → IsLoadSegment plan j → e ≡ SegmentStart j → scan.inside ≡ None)
    → Knows plan k scan → Knows plan (suc k) (scanned plan scan e)
next plan k (SegmentStart j) scan order here none h =
    elim (is_load (segment_at plan.segments j).kind) as (λ b. is_load (segment_at plan.segments j).kind ≡ b → Knows plan (suc k) (if b then record scan { inside = Some j; gap = false } else scan)) [
      | true ↦ λ load. starts plan j k scan order here load (none j load refl) h
      | false ↦ λ unloaded. quiet plan k (SegmentStart j) scan here refl (λ i load. elim (eqb_tells j i) [
        | inl hit ↦ let loads : is_load (segment_at plan.segments j).kind ≡ true = subst (IsLoadSegment plan) (sym hit.1) load in absurd (cc)
        | inr miss ↦ open_same i k plan.events (SegmentStart j) here miss.0 refl
      ]) h
    ] refl
next plan k (SegmentEnd j) scan order here none h =
    elim (option_map_or (λ i. i == j) scan.inside false) as (λ b. option_map_or (λ i. i == j) scan.inside false ≡ b → Knows plan (suc k) (if b then record scan { inside = None } else scan)) [
      | true ↦ λ is. closes plan j k scan here (option_is scan.inside j is) h
      | false ↦ λ other. quiet plan k (SegmentEnd j) scan here refl (other_closes plan j k scan here other h) h
    ] refl
next plan k (Section s) scan order here none h = placed plan s k scan here h
next plan k (SetLocation x) scan order here none h = quiet plan k (SetLocation x) scan here refl (λ i load. open_same i k plan.events (SetLocation x) here refl refl) h
next plan k (SetLocationRelative x s) scan order here none h = quiet plan k (SetLocationRelative x s) scan here refl (λ i load. open_same i k plan.events (SetLocationRelative x s) here refl refl) h
next plan k (SetSectionAddress x) scan order here none h = quiet plan k (SetSectionAddress x) scan here refl (λ i load. open_same i k plan.events (SetSectionAddress x) here refl refl) h

-- where no load segment opens while another is open
abbrev OneAtATime : Plan → Type 0
OneAtATime plan = (k j : ℕ) → IsLoadSegment plan j → slice_get plan.events k ≡ Some (SegmentStart j) → Knows plan k (known plan k) → (known plan k).inside ≡ None

knows : (plan : Plan) → IsEventOrder plan → OneAtATime plan → (k : ℕ) → k ≤ length plan.events → Knows plan k (known plan k)
knows plan order one zero le =
    record {
      opened = λ i load opened. absurd (cc);
      is_opened = λ i is. absurd (cc);
      gap = λ i s m is less places gap. absurd (cc);
      gapped = λ i is gap. absurd (cc);
    }
knows plan order one (suc k) le =
    let e : OrderEvent = slice_index_or plan.events k (SegmentEnd 0) in
    let here : slice_get plan.events k ≡ Some e = slice_get-get_or plan.events k (SegmentEnd 0) (omega arith) in
    let before = knows plan order one k (omega arith) in
    let none : (j : ℕ) → IsLoadSegment plan j → e ≡ SegmentStart j → (known plan k).inside ≡ None = λ j load is. one k j load (here ∙ ap (λ (x : OrderEvent). Some x) is) before in
    subst (Knows plan (suc k)) (sym (fold_more (scanned plan) unscanned plan.events k e here)) (next plan k e (known plan k) order here none before)

-- ---- exactly plain plans

none_of : (o : Option ℕ) → is_none o ≡ true → o ≡ None
none_of None h = refl
none_of (Some i) h = absurd (cc)

-- what an accepted start of a load segment says, and what makes it accepted
accepted_start : (load : Bool) (o : Option ℕ) → (not load || is_none o) ≡ true → load ≡ true → o ≡ None
accepted_start true o h is = none_of o h
accepted_start false o h is = absurd (cc)

accept_start : (load : Bool) (o : Option ℕ) → (load ≡ true → o ≡ None) → (not load || is_none o) ≡ true
accept_start true o h = ap is_none (h refl)
accept_start false o h = refl

-- the same of a section inside
accepted_section : (o : Option ℕ) (i : ℕ) (allocated backed behind : Bool) → (is_none o || (allocated && not (backed && behind))) ≡ true → o ≡ Some i → (allocated ≡ true) × ((backed && behind) ≡ false)
accepted_section None i allocated backed behind h is = absurd (cc)
accepted_section (Some j) i allocated backed behind h is = let both = and_parts allocated (not (backed && behind)) h in (both.0, not-true (backed && behind) both.1)

accept_section : (o : Option ℕ) (allocated backed behind : Bool) → ((i : ℕ) → o ≡ Some i → (allocated ≡ true) × ((backed && behind) ≡ false)) → (is_none o || (allocated && not (backed && behind))) ≡ true
accept_section None allocated backed behind h = refl
accept_section (Some i) allocated backed behind h = let both = h i refl in and_from allocated (not (backed && behind)) both.0 (ap not both.1)

unbacked : (backed behind : Bool) → (backed && behind) ≡ false → behind ≡ true → backed ≡ false
unbacked true behind h is = absurd (cc)
unbacked false behind h is = refl

about_place : (plan : Plan) (scan : Scan) (e : OrderEvent) → accepts plan scan e ≡ true → IsAboutPlace e
about_place plan scan (SegmentStart j) h = tt
about_place plan scan (SegmentEnd j) h = tt
about_place plan scan (Section s) h = tt
about_place plan scan (SetLocation x) h = absurd (cc)
about_place plan scan (SetLocationRelative x s) h = absurd (cc)
about_place plan scan (SetSectionAddress x) h = absurd (cc)

-- a plan that is found plain is plain
plain_of : (plan : Plan) (output : OutputKind) → IsEventOrder plan → is_found_plain plan output ≡ true → IsPlain plan output
plain_of plan output order h =
    let whole = not (is_partial output) in
    let regions = length plan.regions == 0 in
    let two = and_parts (whole && regions) (passes plan unscanned plan.events) h in
    let one = and_parts whole regions two.0 in
    let accepted : (k : ℕ) (e : OrderEvent) → slice_get plan.events k ≡ Some e → accepts plan (known plan k) e ≡ true = passed plan unscanned plan.events two.1 in
    let start : (k j : ℕ) → OpensLoad plan j k → (known plan k).inside ≡ None
    = λ k j opens. accepted_start (is_load (segment_at plan.segments j).kind) (known plan k).inside (accepted k (SegmentStart j) opens.here) opens.load in
    let single : OneAtATime plan = λ k j load here knowing. start k j (record { load = load; here = here }) in
    let at : (k : ℕ) (e : OrderEvent) → slice_get plan.events k ≡ Some e → Knows plan k (known plan k)
    = λ k e here. knows plan order single k (let less = slice_get_within plan.events k e here in omega (arith, less)) in
    let inside : (i s k : ℕ) → PlacesInLoad plan i s k → (known plan k).inside ≡ Some i
    = λ i s k places. (at k (Section s) places.places.here).opened i places.load places.places.inside in
    let section : (i s k : ℕ) → PlacesInLoad plan i s k
    → (is_allocated plan s ≡ true) × ((is_file_backed plan s && ((known plan k).gap || is_zero_fill_thread_local plan s)) ≡ false)
    = λ i s k places.
    accepted_section (known plan k).inside i (is_allocated plan s) (is_file_backed plan s) ((known plan k).gap || is_zero_fill_thread_local plan s)
    (accepted k (Section s) places.places.here) (inside i s k places) in
    record {
      whole = λ is. let yes : is_partial output ≡ true = ap is_partial is in let no = not-true (is_partial output) one.0 in absurd (cc);
      regions = nil_from_length plan.regions (eqb-true (length plan.regions) 0 one.1);
      unmoved = λ k e here. about_place plan (known plan k) e (accepted k e here);
      apart = λ i j k load opens. elim (is_open i (take k plan.events)) as (λ b. is_open i (take k plan.events) ≡ b → b ≡ false) [
        | true ↦ λ is.
            let some = (at k (SegmentStart j) opens.here).opened i load is in
            let none = start k j opens in
            absurd (cc)
        | false ↦ λ is. refl
      ] refl;
      allocated = λ i s k places. (section i s k places).0;
      zero_fill = λ i s k places bare.
          unbacked (is_file_backed plan s) ((known plan k).gap || is_zero_fill_thread_local plan s) (section i s k places).1 (ap (λ b. (known plan k).gap || b) bare ∙ or-true (known plan k).gap);
      backed_first = λ i s t m n less first second backed. elim (is_file_backed plan s || is_zero_fill_thread_local plan s) as (λ b. (is_file_backed plan s || is_zero_fill_thread_local plan s) ≡ b → b ≡ true) [
        | true ↦ λ is. refl
        | false ↦ λ is.
            let gap = (at n (Section t) second.places.here).gap i s m (inside i t n second) less first.places (ap not is) in
            let no = unbacked (is_file_backed plan t) ((known plan n).gap || is_zero_fill_thread_local plan t) (section i t n second).1 (ap (λ b. b || is_zero_fill_thread_local plan t) gap) in
            absurd (cc)
      ] refl;
    }

whole_output : (output : OutputKind) → output ≢ Partial → not (is_partial output) ≡ true
whole_output StaticExecutable h = refl
whole_output DynamicExecutable h = refl
whole_output SharedObject h = refl
whole_output Partial h = absurd (h refl)

no_regions : (regions : List Region) → regions ≡ [] → (length regions == 0) ≡ true
no_regions regions h = ap (λ (rs : List Region). length rs == 0) h

-- a section inside a load segment of a plain plan takes bytes of the file before any gap, and isn't zero-fill thread-local if it does
no_gap : (plan : Plan) (output : OutputKind) (i s k : ℕ) (scan : Scan) → IsPlain plan output → Knows plan k scan → PlacesInLoad plan i s k → scan.inside ≡ Some i
    → (is_file_backed plan s && (scan.gap || is_zero_fill_thread_local plan s)) ≡ false
no_gap plan output i s k scan plain h places is =
    let behind : Bool = scan.gap || is_zero_fill_thread_local plan s in
    elim (is_file_backed plan s) as (λ b. is_file_backed plan s ≡ b → (b && behind) ≡ false) [
      | true ↦ λ backed. elim behind as (λ b. behind ≡ b → b ≡ false) [
        | true ↦ λ yes. elim (or_cases scan.gap (is_zero_fill_thread_local plan s) yes) [
          | inl gap ↦
              let before = h.gapped i is gap in
              let first : PlacesInLoad plan i before.0 before.1 = record { load = places.load; places = before.3 } in
              let filled = plain.backed_first i before.0 s before.1 k before.2 first places backed in
              let left = not-true (is_file_backed plan before.0 || is_zero_fill_thread_local plan before.0) before.4 in
              absurd (cc)
          | inr bare ↦ let filled = plain.zero_fill i s k places bare in absurd (cc)
        ]
        | false ↦ λ no. refl
      ] refl
      | false ↦ λ no. refl
    ] refl

-- where a load segment of a plain plan opens, none is open
opens_well : (plan : Plan) (output : OutputKind) (j k : ℕ) (scan : Scan) → IsPlain plan output → Knows plan k scan → OpensLoad plan j k → scan.inside ≡ None
opens_well plan output j k scan plain h opens =
    elim scan.inside as (λ o. scan.inside ≡ o → o ≡ None) [
      | None ↦ λ is. refl
      | Some i ↦ λ is.
          let there = h.is_opened i is in
          let closed = plain.apart i j k there.0 opens in
          let opened = there.1 in
          absurd (cc)
    ] refl

accept : (plan : Plan) (output : OutputKind) (k : ℕ) (e : OrderEvent) (scan : Scan) → IsPlain plan output → Knows plan k scan → slice_get plan.events k ≡ Some e → accepts plan scan e ≡ true
accept plan output k (SegmentStart j) scan plain h here =
    accept_start (is_load (segment_at plan.segments j).kind) scan.inside (λ load. opens_well plan output j k scan plain h (record { load = load; here = here }))
accept plan output k (SegmentEnd j) scan plain h here = refl
accept plan output k (Section s) scan plain h here =
    accept_section scan.inside (is_allocated plan s) (is_file_backed plan s) (scan.gap || is_zero_fill_thread_local plan s) (λ i is.
    let there = h.is_opened i is in
    let places : PlacesInLoad plan i s k = record { load = there.0; places = record { here = here; inside = there.1 } } in
    (plain.allocated i s k places, no_gap plan output i s k scan plain h places is))
accept plan output k (SetLocation x) scan plain h here = absurd (plain.unmoved k (SetLocation x) here)
accept plan output k (SetLocationRelative x s) scan plain h here = absurd (plain.unmoved k (SetLocationRelative x s) here)
accept plan output k (SetSectionAddress x) scan plain h here = absurd (plain.unmoved k (SetSectionAddress x) here)

-- a plain plan is found plain
found_of : (plan : Plan) (output : OutputKind) → IsEventOrder plan → IsPlain plan output → is_found_plain plan output ≡ true
found_of plan output order plain =
    let whole = not (is_partial output) in
    let regions = length plan.regions == 0 in
    let single : OneAtATime plan = λ k j load here h. opens_well plan output j k (known plan k) plain h (record { load = load; here = here }) in
    and_from (whole && regions) (passes plan unscanned plan.events) (and_from whole regions (whole_output output plain.whole) (no_regions plan.regions plain.regions))
    (all_pass plan unscanned plan.events (λ k e here.
    accept plan output k e (known plan k) plain (knows plan order single k (let less = slice_get_within plan.events k e here in omega (arith, less))) here))

pub found_exactly : (plan : Plan) (output : OutputKind) → IsEventOrder plan → (is_found_plain plan output ≡ true) ↔ IsPlain plan output
found_exactly plan output order = (plain_of plan output order, found_of plan output order)
