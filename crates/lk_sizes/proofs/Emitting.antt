-- Which sections are emitted, from what is live and the first sizes of parts; and attributes, from what comes into the parts.
use Rattle.std.proofs.Common.{◌≡◌, ℕ, zero, suc, ◌+◌, ◌-◌, ◌<◌, ◌≤◌, ◌==◌, ◌&&◌, ◌||◌, Bool, false, cond, List, [], ◌∷◌, ◌++◌, drop, get_or, length, map, take, Some, None, Option, unwrap_or, refl, sym, ap, ◌∙◌, arith, inl, inr}
use Rattle.std.specs.Prelude.{bit_or, fold, if◌then◌else◌, nat_lt, not, slice_range}
use Rattle.std.specs.List.{enumerate_from, filter, list_any, position_from, range_with_len, slice_get, slice_index, slice_index_or}
use Rattle.std.proofs.lemmas.Bool.{cases_lt, eqb-true, false_from_ne_true}
use Rattle.std.proofs.lemmas.Iterator.Adapters.{position_from-zero}
use Rattle.std.proofs.lemmas.List.{drop-map, get_or_past, length-map, take_more, take_all, take-map}
use Rattle.std.proofs.lemmas.List.Folds.{list_any-append}
use Rattle.std.proofs.lemmas.List.FromFn.{filter_of_map_range_with_len_more, get_or-enumerate_from, length-enumerate_from}
use Rattle.std.proofs.lemmas.Option.{get_or_from_slice_get, slice_get-get_or, slice_get_within}
use Rattle.std.proofs.Math.Bool.{or-false}
use Rattle.std.proofs.Math.Path.{fun_ext}
use Rattle.lk_link.specs.declared.link.LinkInput.{LinkInput}
use Rattle.lk_link.specs.declared.plan.Plan.{Plan}
use Rattle.lk_link.specs.declared.plan.PlanSection.{PlanSection}
use Rattle.lk_link.specs.Inside.{sections_inside}
use Rattle.lk_link.proofs.GoodLinks.{primary_is_other}
use Rattle.lk_link.specs.Parts.{all_parts, first_part}
use Rattle.lk_link.specs.PlanSections.{is_singletons, own_attributes, primary_of, section_at}
use Rattle.lk_link.specs.SegmentKinds.{is_stack, segment_at}
use Rattle.lk_link.specs.WellFormed.{IsWellFormed}
use Rattle.lk_link.proofs.Elements.{at_index, map_in}
use Rattle.lk_link.proofs.Numbers.{length-made, made_at, made_of_or}
use Rattle.lk_live.specs.declared.live.Live.{Live}
use Rattle.lk_tables.specs.declared.header_info.HeaderInfo.{HeaderInfo}
use Rattle.lk_sizes.specs.declared.owners.PartContents.{PartContents}
use Rattle.lk_sizes.specs.declared.owners.PartTotal.{PartTotal}
use Rattle.lk_sizes.specs.Attributes.{all_section_attributes, by_section, part_attributes, parts_of, section_attributes}
use Rattle.lk_sizes.specs.Contents.{contents_of, part_contents}
use Rattle.lk_tables.specs.HeaderParts.{event_sections}
use Rattle.lk_sizes.specs.Emitted.{active_segments, can_be_emitted, has_content, is_active, is_emitted, is_kept, is_kept_by_symbol, output_index, told_marks}
use Rattle.lk_sizes.specs.Owners.{AreFirstSizes, Content, Filling, by_part, first_size}
use Rattle.lk_sizes.proofs.Made.{any_map, any_same, filter_alike, made_range, made_same_below, made_whole, map_id, map_map}
use Rattle.lk_link.proofs.PartNumbers.{first_part-le, first_part-rises}
use Rattle.lk_link.specs.Marks.{is_marked}
use Rattle.lk_link.specs.EmitKinds.{is_always}
use Rattle.lk_link.specs.OutputKinds.{is_partial}
use Rattle.lk_sizes.specs.Tables.{active_by, edges_by, in_section}

-- ---- by the contents of the parts

abbrev pub attributes_by : Plan → List PartContents → ℕ → ℕ
attributes_by plan contents s = if is_singletons plan s then 0 else fold bit_or (own_attributes plan s) (map (λ c. c.attrs) (in_section plan.sections s contents))

abbrev pub kept_by : Plan → List Bool → List Bool → List ℕ → ℕ → Bool
kept_by plan kept by_symbols sizes s = is_always (section_at plan.sections s).emit || is_marked kept s || is_marked by_symbols s || list_any (λ n. nat_lt 0 n) (in_section plan.sections s sizes)

abbrev pub left_by : Plan → List Bool → ℕ → Bool
left_by plan marks s = is_marked marks s && can_be_emitted plan s

pub contents_are : (filling : Filling) (s : ℕ) → s < length filling.content.link.plan.sections
    → in_section filling.content.link.plan.sections s (part_contents filling) ≡ map (contents_of filling) (parts_of filling.content.link.plan.sections s)
contents_are filling s below =
    made_range (contents_of filling) (all_parts filling.content.link.plan.sections) (first_part filling.content.link.plan.sections s) (first_part filling.content.link.plan.sections (s + 1))
    (first_part-rises filling.content.link.plan.sections s) (first_part-le filling.content.link.plan.sections (s + 1))

attributes_are : (filling : Filling) (s : ℕ) → s < length filling.content.link.plan.sections → attributes_by filling.content.link.plan (part_contents filling) s ≡ section_attributes filling.content.link filling.content.live s
attributes_are filling s below =
    let all : map (λ c. c.attrs) (in_section filling.content.link.plan.sections s (part_contents filling)) ≡ map (part_attributes filling.content.link filling.content.live) (parts_of filling.content.link.plan.sections s) =
    ap (map (λ (c : PartContents). c.attrs)) (contents_are filling s below) ∙ map_map (λ (c : PartContents). c.attrs) (contents_of filling) (parts_of filling.content.link.plan.sections s) in
    ap (λ (attrs : List ℕ). cond (is_singletons filling.content.link.plan s) 0 (fold bit_or (own_attributes filling.content.link.plan s) attrs)) all

-- a range of a list, by number
sizes_in : (sizes : List ℕ) (first behind : ℕ) → first ≤ behind → behind ≤ length sizes → slice_range sizes first behind ≡ map (slice_index sizes) (range_with_len first (behind - first))
sizes_in sizes first behind rises within =
    ap (λ (ns : List ℕ). slice_range ns first behind) (made_of_or (slice_index sizes) 0 sizes sizes refl (λ p below. refl))
    ∙ made_range (slice_index sizes) sizes first behind rises within

any_range : (p q : ℕ → Bool) (first n : ℕ) → ((k : ℕ) → first ≤ k → k < first + n → p k ≡ q k) → list_any p (range_with_len first n) ≡ list_any q (range_with_len first n)
any_range p q first zero h = refl
any_range p q first (suc n) h =
    ap (λ b. b || list_any p (range_with_len (first + 1) n)) (h first (omega arith) (omega arith))
    ∙ ap (λ b. q first || b) (any_range p q (first + 1) n (λ k from below. h k (omega (arith, from)) (omega (arith, below))))

-- whether a part of a section has bytes
bytes_are : (content : Content) (sizes : List ℕ) (s : ℕ) → AreFirstSizes content sizes
    → list_any (λ n. nat_lt 0 n) (in_section content.link.plan.sections s sizes) ≡ list_any (λ p. nat_lt 0 (first_size content p)) (parts_of content.link.plan.sections s)
bytes_are content sizes s first =
    let sections : List PlanSection = content.link.plan.sections in
    let from : ℕ = first_part sections s in
    let behind : ℕ = first_part sections (s + 1) in
    let rises = first_part-rises sections s in
    let within = first_part-le sections (s + 1) in
    ap (list_any (λ (n : ℕ). nat_lt 0 n)) (sizes_in sizes from behind rises (omega (arith, within, first.count)))
    ∙ any_map (λ (n : ℕ). nat_lt 0 n) (slice_index sizes) (range_with_len from (behind - from))
    ∙ any_range (λ p. nat_lt 0 (slice_index sizes p)) (λ p. nat_lt 0 (first_size content p)) from (behind - from)
    (λ p above below. first.each p (omega (arith, above, below, rises, within, first.count)))

-- the marks of those that symbols keep
abbrev pub AreBySymbols : LinkInput → Live → List Bool → Type 0
AreBySymbols link live marks = (s : ℕ) → s < length link.plan.sections → is_marked marks s ≡ is_kept_by_symbol link live s

kept_are : (content : Content) (marks : List Bool) (sizes : List ℕ) (s : ℕ) → AreBySymbols content.link content.live marks → AreFirstSizes content sizes → s < length content.link.plan.sections
    → kept_by content.link.plan content.live.kept marks sizes s ≡ is_kept content s
kept_are content marks sizes s by first below =
    ap (λ b. is_always (section_at content.link.plan.sections s).emit || is_marked content.live.kept s || b || list_any (λ n. nat_lt 0 n) (in_section content.link.plan.sections s sizes)) (by s below)
    ∙ ap (λ b. is_always (section_at content.link.plan.sections s).emit || is_marked content.live.kept s || is_kept_by_symbol content.link content.live s || b) (bytes_are content sizes s first)

-- what a pass over all sections makes, by number
pub whole : {X Y : Type 0} (f : ℕ → Y) (xs : List X) (n : ℕ) → n ≡ length xs → map f (range_with_len 0 n) ≡ map (λ q. f q.0) (enumerate_from 0 xs)
whole f xs n h = ap (λ k. map f (range_with_len 0 k)) h ∙ made_whole f xs 0

pub all_attributes : (filling : Filling) (n : ℕ) → n ≡ length filling.content.link.plan.sections
    → map (attributes_by filling.content.link.plan (part_contents filling)) (range_with_len 0 n) ≡ all_section_attributes filling.content.link filling.content.live
all_attributes filling n h =
    whole (attributes_by filling.content.link.plan (part_contents filling)) filling.content.link.plan.sections n h
    ∙ made_same_below (attributes_by filling.content.link.plan (part_contents filling)) (section_attributes filling.content.link filling.content.live) filling.content.link.plan.sections 0 (λ p below. attributes_are filling p (omega (arith, below)))

-- the same by what the parts have joined
range_mapped : {X Y : Type 0} (f : X → Y) (xs : List X) (a b : ℕ) → map f (slice_range xs a b) ≡ slice_range (map f xs) a b
range_mapped f xs a b = sym (ap (take (b - a)) (drop-map f a xs) ∙ take-map f (b - a) (drop a xs))

joined_are : (link : LinkInput) (live : Live) (contents : List PartContents) (s : ℕ) → map (λ c. c.attrs) contents ≡ by_part (part_attributes link live) link
    → attributes_by link.plan contents s ≡ section_attributes link live s
joined_are link live contents s is =
    let sections : List PlanSection = link.plan.sections in
    let from : ℕ = first_part sections s in
    let behind : ℕ = first_part sections (s + 1) in
    let all : map (λ (c : PartContents). c.attrs) (in_section sections s contents) ≡ map (part_attributes link live) (parts_of sections s)
    = range_mapped (λ (c : PartContents). c.attrs) contents from behind
    ∙ ap (λ (attrs : List ℕ). slice_range attrs from behind) is
    ∙ made_range (part_attributes link live) (all_parts sections) from behind (first_part-rises sections s) (first_part-le sections (s + 1)) in
    ap (λ (attrs : List ℕ). cond (is_singletons link.plan s) 0 (fold bit_or (own_attributes link.plan s) attrs)) all

pub all_joined : (link : LinkInput) (live : Live) (contents : List PartContents) (n : ℕ) → map (λ c. c.attrs) contents ≡ by_part (part_attributes link live) link
    → n ≡ length link.plan.sections → map (attributes_by link.plan contents) (range_with_len 0 n) ≡ all_section_attributes link live
all_joined link live contents n is h =
    whole (attributes_by link.plan contents) link.plan.sections n h
    ∙ made_same_below (attributes_by link.plan contents) (section_attributes link live) link.plan.sections 0 (λ p below. joined_are link live contents p is)

-- the attributes that were added up, part by part
pub joined_of : (link : LinkInput) (live : Live) (totals : List PartTotal) → length totals ≡ length (all_parts link.plan.sections)
    → ((p : ℕ) (total : PartTotal) → slice_get totals p ≡ Some total → total.attrs ≡ part_attributes link live p)
    → map (λ t. t.attrs) totals ≡ by_part (part_attributes link live) link
joined_of link live totals count each =
    let attrs : PartTotal → ℕ = λ t. t.attrs in
    let none : PartTotal = record { bytes = 0; has_image = false; attrs = 0 } in
    made_of_or (part_attributes link live) 0 (map attrs totals) (all_parts link.plan.sections) (length-map totals attrs ∙ count) (λ p below.
    let at = at_index totals p (omega (arith, below, count)) in
    let there : slice_get (map attrs totals) p ≡ Some (attrs at.0) = map_in attrs totals p at.0 at.1 in
    get_or_from_slice_get (map attrs totals) p (attrs at.0) 0 there ∙ each p at.0 at.1)

pub all_kept : (content : Content) (marks : List Bool) (sizes : List ℕ) (n : ℕ) → AreBySymbols content.link content.live marks → AreFirstSizes content sizes → n ≡ length content.link.plan.sections
    → map (kept_by content.link.plan content.live.kept marks sizes) (range_with_len 0 n) ≡ by_section (is_kept content) content.link
all_kept content marks sizes n by first h =
    whole (kept_by content.link.plan content.live.kept marks sizes) content.link.plan.sections n h
    ∙ made_same_below (kept_by content.link.plan content.live.kept marks sizes) (is_kept content) content.link.plan.sections 0
    (λ p below. kept_are content marks sizes p by first (omega (arith, below)))

-- ---- primaries

-- the marks that the first sections set, each that of its primary
abbrev pub ArePrimaries : List PlanSection → List Bool → ℕ → List Bool → Type 0
ArePrimaries sections kept n marks = (s : ℕ) → s < length sections
    → is_marked marks s ≡ list_any (λ q. primary_of sections q.0 == s && is_marked kept q.0) (take n (enumerate_from 0 sections))

pub one_primary : (sections : List PlanSection) (kept old new : List Bool) (n at : ℕ) (set : Bool) → ArePrimaries sections kept n old → n < length sections → at ≡ primary_of sections n → set ≡ is_marked kept n
    → length old ≡ length sections → ((s : ℕ) → s < length old → is_marked new s ≡ (is_marked old s || (at == s && set))) → ArePrimaries sections kept (n + 1) new
one_primary sections kept old new n at set h within here is count step s below =
    let test : ℕ × PlanSection → Bool = λ q. primary_of sections q.0 == s && is_marked kept q.0 in
    let all : List (ℕ × PlanSection) = enumerate_from 0 sections in
    let none : ℕ × PlanSection = (0, section_at [] 0) in
    let more = take_more all n none (omega (arith, length-enumerate_from 0 sections)) in
    let number : (get_or all n none).0 ≡ n = ap (λ (q : ℕ × PlanSection). q.0) (get_or-enumerate_from 0 sections n none within) ∙ omega arith in
    let last : test (get_or all n none) ≡ (at == s && set) =
    ap (λ (k : ℕ). primary_of sections k == s && is_marked kept k) number ∙ ap (λ (p : ℕ). p == s && is_marked kept n) (sym here) ∙ ap (λ b. at == s && b) (sym is) in
    step s (omega (arith, count))
    ∙ ap (λ b. b || (at == s && set)) (h s below)
    ∙ sym (ap (list_any test) more ∙ list_any-append test (take n all) (get_or all n none ∷ []) ∙ ap (λ b. list_any test (take n all) || b) (or-false (test (get_or all n none)) ∙ last))

pub primaries_end : (sections : List PlanSection) (kept : List Bool) (n : ℕ) (marks : List Bool) → ArePrimaries sections kept n marks → length sections ≤ n
    → (s : ℕ) → s < length sections → is_marked marks s ≡ list_any (λ q. primary_of sections q.0 == s && is_marked kept q.0) (enumerate_from 0 sections)
primaries_end sections kept n marks h past s below =
    h s below
    ∙ ap (list_any (λ (q : ℕ × PlanSection). primary_of sections q.0 == s && is_marked kept q.0)) (take_all n (enumerate_from 0 sections) (omega (arith, length-enumerate_from 0 sections)))

-- ---- emitted sections

any_numbered : {X : Type 0} (p q : ℕ → Bool) (xs : List X) (o : ℕ) → ((k : ℕ) → k < o + length xs → p k ≡ q k)
    → list_any (λ x. p x.0) (enumerate_from o xs) ≡ list_any (λ x. q x.0) (enumerate_from o xs)
any_numbered p q [] o h = refl
any_numbered p q (x ∷ xs) o h =
    ap (λ b. b || list_any (λ y. p y.0) (enumerate_from (o + 1) xs)) (h o (omega arith))
    ∙ ap (λ b. q o || b) (any_numbered p q xs (o + 1) (λ k below. h k (omega arith)))

pub emitted_are : (content : Content) (kept marks : List Bool) → kept ≡ by_section (is_kept content) content.link
    → ((s : ℕ) → s < length content.link.plan.sections → is_marked marks s ≡ list_any (λ q. primary_of content.link.plan.sections q.0 == s && is_marked kept q.0) (enumerate_from 0 content.link.plan.sections))
    → map (λ q. left_by content.link.plan marks q.0) (enumerate_from 0 content.link.plan.sections) ≡ by_section (is_emitted content) content.link
emitted_are content kept marks is h =
    made_same_below (left_by content.link.plan marks) (is_emitted content) content.link.plan.sections 0 (λ s below.
    let within : s < length content.link.plan.sections = omega (arith, below) in
    ap (λ b. b && can_be_emitted content.link.plan s) (
    h s within
    ∙ any_numbered (λ k. primary_of content.link.plan.sections k == s && is_marked kept k) (λ k. primary_of content.link.plan.sections k == s && is_kept content k) content.link.plan.sections 0
    (λ k less.
    let mark : is_marked kept k ≡ is_kept content k =
    ap (λ (ms : List Bool). is_marked ms k) is ∙ made_at (is_kept content) false content.link.plan.sections 0 k (omega (arith, less)) ∙ ap (is_kept content) (omega arith) in
    ap (λ b. primary_of content.link.plan.sections k == s && b) mark)))

-- a primary is one of the sections
primary_below : (link : LinkInput) (k : ℕ) → IsWellFormed link → k < length link.plan.sections → primary_of link.plan.sections k < length link.plan.sections
primary_below link k good below =
    let sections : List PlanSection = link.plan.sections in
    let section : PlanSection = section_at sections k in
    let there : slice_get sections k ≡ Some section = slice_get-get_or sections k (section_at [] 0) below in
    (elim section.primary as (λ o. section.primary ≡ o → unwrap_or o k < length sections) [
      | None ↦ λ is. below
      | Some p ↦ λ is.
          let primary = (primary_is_other link k p section good there is).1 in
          slice_get_within sections p primary.0 primary.1
    ]) refl

none_numbered : {X : Type 0} (p : ℕ → Bool) (xs : List X) (o : ℕ) → ((k : ℕ) → k < o + length xs → p k ≡ false) → list_any (λ x. p x.0) (enumerate_from o xs) ≡ false
none_numbered p [] o h = refl
none_numbered p (x ∷ xs) o h = ap (λ b. b || list_any (λ y. p y.0) (enumerate_from (o + 1) xs)) (h o (omega arith)) ∙ none_numbered p xs (o + 1) (λ k below. h k (omega arith))

-- the marks say which sections are emitted, and that others aren't
pub emitted_at : (content : Content) (emitted : List Bool) (s : ℕ) → IsWellFormed content.link → emitted ≡ by_section (is_emitted content) content.link → is_marked emitted s ≡ is_emitted content s
emitted_at content emitted s good is =
    let sections : List PlanSection = content.link.plan.sections in
    elim (cases_lt s (length sections)) [
      | inl below ↦ ap (λ (ms : List Bool). is_marked ms s) is ∙ made_at (is_emitted content) false sections 0 s below ∙ ap (is_emitted content) (omega arith)
      | inr past ↦
          let count : length emitted ≡ length sections = ap length is ∙ length-made (is_emitted content) sections 0 in
          let none = none_numbered (λ k. primary_of sections k == s && is_kept content k) sections 0 (λ k below.
          let other : (primary_of sections k == s) ≡ false = false_from_ne_true (primary_of sections k == s) (λ same.
          absurd (omega (arith, eqb-true (primary_of sections k) s same, primary_below content.link k good (omega (arith, below))))) in
          ap (λ b. b && is_kept content k) other) in
          get_or_past emitted s false (omega (arith, count)) ∙ sym (ap (λ b. b && can_be_emitted content.link.plan s) none)
    ]

-- ---- indexes and active segments

pub indexes_are : (content : Content) (emitted : List Bool) (indexes : List (Option ℕ)) → IsWellFormed content.link → emitted ≡ by_section (is_emitted content) content.link → length indexes ≡ length content.link.plan.sections
    → ((s : ℕ) → s < length content.link.plan.sections → slice_index_or indexes s None ≡ position_from (λ t. t == s) 0 (filter (is_marked emitted) (event_sections content.link.plan.events)))
    → indexes ≡ by_section (output_index content) content.link
indexes_are content emitted indexes good is count h =
    made_of_or (output_index content) None indexes content.link.plan.sections count (λ s below.
    let same : filter (is_marked emitted) (event_sections content.link.plan.events) ≡ filter (is_emitted content) (event_sections content.link.plan.events) =
    filter_alike (is_marked emitted) (is_emitted content) (event_sections content.link.plan.events) (λ t. emitted_at content emitted t good is) in
    h s below ∙ ap (position_from (λ t. t == s) 0) same ∙ sym (position_from-zero (λ t. t == s) (filter (is_emitted content) (event_sections content.link.plan.events))))

pub active_are : (content : Content) (emitted : List Bool) → IsWellFormed content.link → emitted ≡ by_section (is_emitted content) content.link
    → filter (active_by content.link emitted) (map (λ q. q.0) (enumerate_from 0 content.link.plan.segments)) ≡ active_segments content
active_are content emitted good is =
    filter_alike (active_by content.link emitted) (is_active content) (map (λ q. q.0) (enumerate_from 0 content.link.plan.segments)) (λ i.
    ap (λ b. not (is_partial content.link.options.output) && (content.link.plan.custom_phdrs || (segment_at content.link.plan.segments i).always || is_stack (segment_at content.link.plan.segments i).kind || b))
    (any_same (is_marked emitted) (is_emitted content) (sections_inside content.link.plan.events i) (λ s. emitted_at content emitted s good is)))

-- one more of the numbers that pass
pub filter_more : (p : ℕ → Bool) (n : ℕ) → filter p (range_with_len 0 (n + 1)) ≡ filter p (range_with_len 0 n) ++ cond (p n) (n ∷ []) []
filter_more p n =
    ap (filter p) (sym (map_id (range_with_len 0 (n + 1))))
    ∙ filter_of_map_range_with_len_more p (λ k. k) 0 n n (omega arith)
    ∙ ap (λ zs. filter p zs ++ cond (p n) (n ∷ []) []) (map_id (range_with_len 0 n))

pub all_active : {X : Type 0} (p : ℕ → Bool) (xs : List X) (n : ℕ) → n ≡ length xs → filter p (range_with_len 0 n) ≡ filter p (map (λ q. q.0) (enumerate_from 0 xs))
all_active p xs n h = ap (filter p) (sym (map_id (range_with_len 0 n)) ∙ whole (λ k. k) xs n h)

pub same_info : (a b t u : List Bool) (i j : List (Option ℕ)) (v w : List ℕ) (m n k l : ℕ) → a ≡ b → t ≡ u → i ≡ j → v ≡ w → m ≡ n → k ≡ l
    → ◌≡◌ {A = HeaderInfo}
    (record { emitted = a; told = t; output_section_indexes = i; active_segment_ids = v; num_output_sections_with_content = m; partial_link_section_name_bytes = k })
    (record { emitted = b; told = u; output_section_indexes = j; active_segment_ids = w; num_output_sections_with_content = n; partial_link_section_name_bytes = l })
same_info a b t u i j v w m n k l e f g h o p = cc

-- ---- edges

-- those whose edges are told, by marks of emitted ones
pub edges_are : (content : Content) (emitted : List Bool) → IsWellFormed content.link → emitted ≡ by_section (is_emitted content) content.link
    → by_section (edges_by content.link emitted) content.link ≡ told_marks content
edges_are content emitted good is =
    let link = content.link in
    ap (λ (marks : ℕ → Bool). by_section (λ s. marks s && (not (is_partial link.options.output) || has_content link.plan s)) link)
    (fun_ext (λ s. emitted_at content emitted s good is))
