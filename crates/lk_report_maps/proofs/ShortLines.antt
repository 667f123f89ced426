-- Where the numbers of a layout are below 2^64, so are those of the lines that are told of it.
use Rattle.std.proofs.Common.{◌≡◌, ℕ, zero, suc, ◌+◌, ◌-◌, ◌*◌, ◌<◌, ◌≤◌, ◌^◌, Bool, true, false, List, [], ◌∷◌, ◌++◌, Option, None, Some, Ok, Err, drop, filter, length, map, refl, subst, arith, length-append, length-drop, length-take}
use Rattle.std.specs.Prelude.{◌==◌, ◌&&◌, ◌||◌, not, if◌then◌else◌, is_some, nat_lt, option_and_then, slice_get, slice_index, slice_range}
use Rattle.std.specs.List.{All, concat, enumerate_from, flat_map, list_any, slice_index_or}
use Rattle.std.specs.Option.{IfSome}
use Rattle.std.proofs.lemmas.Bool.Decides.{nat_tests}
use Rattle.std.proofs.lemmas.List.{length-map}
use Rattle.std.proofs.lemmas.List.Elements.{All-append, All-cons, All-drop, All-filter, All-from_recursion, All-map, All-nil, All-take, All-weaker}
use Rattle.std.proofs.lemmas.List.FromFn.{length-enumerate_from}
use Rattle.std.proofs.lemmas.List.Sums.{count_by-le-length, length-filter}
use Rattle.std.proofs.lemmas.Option.{get_or_from_slice_get, slice_get_within, slice_get-get_or}
use Rattle.lk_expressions.specs.Records.{Record}
use Rattle.lk_link.specs.declared.fault.Limited.TheVariants.{InputSections, OutputSections}
use Rattle.lk_link.specs.declared.file.InputFile.{InputFile}
use Rattle.lk_link.specs.declared.ids.FileId.{FileId}
use Rattle.lk_link.specs.declared.link.LinkInput.{LinkInput}
use Rattle.lk_link.specs.declared.plan.PlanSection.{PlanSection}
use Rattle.lk_link.specs.declared.resolution.Resolution.{Resolution}
use Rattle.lk_link.specs.declared.flags.TheConstants.ValueFlags as flag
use Rattle.lk_link.specs.Flags.{has_flag}
use Rattle.lk_link.specs.Inputs.{Input, all_inputs}
use Rattle.lk_link.specs.Limits.{counted, limit_of}
use Rattle.lk_link.specs.Parts.{first_part}
use Rattle.lk_link.specs.WellFormed.{IsWellFormed}
use Rattle.lk_link.proofs.InputLemmas.{inputs_follow}
use Rattle.lk_live.specs.Reach.{marked}
use Rattle.lk_reach.proofs.Numbered.{file_of_input}
use Rattle.lk_deltas.specs.LinkDeletions.{deleted_of}
use Rattle.lk_deltas.specs.Deletions.{mapped, mapped_by}
use Rattle.lk_merge.specs.Addresses.{image_start}
use Rattle.lk_merge.specs.Hash.{fnv64}
use Rattle.lk_merge.specs.Image.{all_pieces, image_pieces, image_place}
use Rattle.lk_merge.specs.Pieces.{MergeInput, Piece}
use Rattle.lk_place.specs.declared.segments.SegmentLayout.{SegmentLayout}
use Rattle.lk_relax.specs.Scan.{as_address}
use Rattle.lk_resolution_list.specs.Lists.{resolution_at}
use Rattle.lk_resolutions.specs.declared.resolution.EntryFault.{EntryFault}
use Rattle.lk_resolutions.specs.declared.resolution.EntryFault.TheVariants.{NotAnAddress, NotLoaded}
use Rattle.lk_resolutions.specs.Resolutions.{entry_address, entry_value}
use Rattle.lk_layout.specs.LayoutRecord.{LayoutRecord}
use Rattle.lk_layout.specs.Layouts.{emitted_count, is_told_singleton, resolved_entry, thunk_address, told_live, told_section, told_singletons}
use Rattle.lk_map.specs.declared.forms.Form.TheVariants as form
use Rattle.lk_map.specs.Lines.{Line}
use Rattle.lk_report.specs.Report.{bytes_behind, takes_memory}
use Rattle.lk_report_maps.specs.MappedReports.{IsShort}
use Rattle.lk_report_maps.specs.ToldLines.{AreShort, all_parts_say, all_sections_say, block_says, block_thunks_say, block_told, each_line, entry_told, inner_lines, laid_out_says, live_told, merged_says, merged_told, part_says, part_told, piece_told, pieces_say, range_values, section_parts_say, section_says, section_told, segment_told, single_told, symbol_says, symbol_told, thunk_told, told_lines, told_parts_say}
use Rattle.lk_report_maps.proofs.ListFacts.{IsShortFileId, IsShortResolution}
use Rattle.lk_report_maps.proofs.LinkFacts.{IsShortFile, IsShortLink}
use Rattle.lk_report_maps.proofs.MergeFacts.{IsShortMerged}
use Rattle.lk_report_maps.proofs.PlaceFacts.{IsShortRecord, IsShortSegment}
use Rattle.lk_report_maps.proofs.TypeFacts.{AreFew}

-- the numbers of a layout that its report tells are below 2^64
pub record HasShortNumbers (layout : LayoutRecord) : Type 0 where
  pub sections : AreFew IsShortRecord layout.section_layouts
  pub parts : AreFew IsShortRecord layout.section_part_layouts
  pub attributes : AreFew (λ n. n < 2 ^ 64) layout.section_attributes
  pub indexes : AreFew (λ o. IfSome o (λ n. n < 2 ^ 64)) layout.output_section_indexes
  pub segments : AreFew IsShortSegment layout.segment_layouts
  pub addresses : AreFew (λ n. n < 2 ^ 64) layout.section_addresses
  pub merged : AreFew IsShortMerged layout.merged_strings
  pub starts : AreFew (λ n. n < 2 ^ 64) layout.merged_string_start_addresses
  pub owners : AreFew (λ o. IfSome o IsShortFileId) layout.thunk_block_owners
  pub blocks : AreFew (All (λ n. n < 2 ^ 64)) layout.thunk_blocks
  pub resolutions : AreFew (λ o. IfSome o IsShortResolution) layout.symbol_resolutions

-- ---- numbers in lists

get_says : {X : Type 0} (P : X → Type 0) (xs : List X) (i : ℕ) → All P xs → IfSome (slice_get xs i) P
get_says P [] i h = tt
get_says P (x ∷ xs) zero h = h 0 x (omega arith)
get_says P (x ∷ xs) (suc i) h = get_says P xs i (λ k d below. h (suc k) d (omega (arith, below)))

at_says : {X : Type 0} (P : X → Type 0) (xs : List X) (i : ℕ) (x : X) → All P xs → slice_get xs i ≡ Some x → P x
at_says P xs i x h at = subst P (get_or_from_slice_get xs i x x at) (h i x (slice_get_within xs i x at))

index_says : (xs : List ℕ) (i : ℕ) → All (λ n. n < 2 ^ 64) xs → slice_index xs i < 2 ^ 64
index_says [] i h = omega arith
index_says (x ∷ xs) zero h = h 0 x (omega arith)
index_says (x ∷ xs) (suc i) h = index_says xs i (λ k d below. h (suc k) d (omega (arith, below)))

-- ---- lines

-- a value is below 2^64, if there is one
abbrev Small : Option ℕ → Type 0
Small v = IfSome v (λ n. n < 2 ^ 64)

abbrev IsShortLine : Line → Type 0
IsShortLine l = All Small l.values

one_short : (l : Line) → IsShortLine l → AreShort (l ∷ [])
one_short l h = All-cons IsShortLine l [] h (All-nil IsShortLine)

if_short : (b : Bool) (l : Line) → IsShortLine l → AreShort (if b then l ∷ [] else [])
if_short true l h = one_short l h
if_short false l h = All-nil IsShortLine

each_short : {X : Type 0} (says : ℕ → X → List Line) (n : ℕ) (xs : List X) → ((k : ℕ) (x : X) → slice_get xs k ≡ Some x → AreShort (says (n + k) x)) → AreShort (each_line says n xs)
unfolding each_line
each_short says n [] h = All-nil IsShortLine
each_short says n (x ∷ xs) h =
    let here : n + 0 ≡ n = omega arith in
    All-append IsShortLine (says n x) (each_line says (suc n) xs) (subst (λ m. AreShort (says m x)) here (h 0 x refl))
    (each_short says (suc n) xs (λ k y at. let next : n + suc k ≡ suc n + k = omega arith in subst (λ m. AreShort (says m y)) next (h (suc k) y at)))

mapped_short : {X : Type 0} (told : X → Line) (xs : List X) → All (λ x. IsShortLine (told x)) xs → AreShort (map told xs)
mapped_short told xs h = All-map IsShortLine told xs h

-- lists of lines, each of them short
abbrev AllShort : List (List Line) → Type 0
AllShort [] = Unit {0}
AllShort (b ∷ bs) = AreShort b × AllShort bs

joined_short : (bs : List (List Line)) → AllShort bs → AreShort (flat_map (λ ls. ls) bs)
joined_short [] h = All-nil IsShortLine
joined_short (b ∷ bs) h = All-append IsShortLine b (flat_map (λ ls. ls) bs) h.0 (joined_short bs h.1)

-- ---- sections, parts and segments

section_short : (s : ℕ) → s < 2 ^ 64 → (r : Option Record) (index : Option (Option ℕ)) (attrs : Option ℕ) → IfSome r IsShortRecord → IfSome index Small → Small attrs
    → AreShort (section_says s r index attrs)
unfolding section_says
section_short s below None index attrs h i a = All-nil IsShortLine
section_short s below (Some r) None attrs h i a = All-nil IsShortLine
section_short s below (Some r) (Some index) None h i a = All-nil IsShortLine
section_short s below (Some r) (Some index) (Some attrs) h i a =
    one_short (section_told s r index attrs)
    (All-from_recursion Small (section_told s r index attrs).values
    (below, (i, (omega (arith, h.fits.mem), (omega (arith, h.fits.mem), (omega (arith, h.fits.file), (omega (arith, h.fits.file), (h.alignment, (h.loaded, (a, tt))))))))))

range_short : (r : Record) → IsShortRecord r → (n : ℕ) → n < 2 ^ 64 → All Small (Some n ∷ range_values r)
range_short r h n below =
    All-from_recursion Small (Some n ∷ range_values r)
    (below, (omega (arith, h.fits.mem), (omega (arith, h.fits.mem), (omega (arith, h.fits.file), (omega (arith, h.fits.file), (h.alignment, tt))))))

part_short : (is_empty : Bool) (first p : ℕ) (r : Record) → p < 2 ^ 64 → IsShortRecord r → AreShort (part_says is_empty first p r)
unfolding part_says
part_short is_empty first p r below h = if_short (takes_memory r || (is_empty && p == first)) (part_told p r) (range_short r h p below)

section_parts_short : (sections : List PlanSection) (parts : List Record) (first behind : ℕ) → AreFew IsShortRecord parts → AreShort (told_parts_say first (slice_range parts first behind))
section_parts_short sections parts first behind h =
    let some : List Record = slice_range parts first behind in
    let each : All IsShortRecord some = All-take IsShortRecord (behind - first) (drop first parts) (All-drop IsShortRecord first parts h.each) in
    each_short (part_says (not (list_any takes_memory some)) first) first some
    (λ k r at. part_short (not (list_any takes_memory some)) first (first + k) r
    (omega (arith, slice_get_within some k r at, length-take (behind - first) (drop first parts), length-drop first parts, h.count))
    (at_says IsShortRecord some k r each at))

segment_short : (l : SegmentLayout) → IsShortSegment l → IsShortLine (segment_told l)
segment_short l h = range_short l.sizes h.sizes l.id h.number

-- ---- input sections

-- the numbers of an input section
pub record IsShortInput (x : Input) : Type 0 where
  pub group : x.file.group < 2 ^ 64
  pub file : x.file.file < 2 ^ 64
  pub index : x.index < 2 ^ 64
  pub size : x.section.size < 2 ^ 64

in_files : (files : Option (List InputFile)) (index : ℕ) (file : InputFile) → IfSome files (AreFew IsShortFile) → option_and_then (λ fs. slice_get fs index) files ≡ Some file
    → (index < 2 ^ 63) × IsShortFile file
in_files None index file h at = absurd (cc)
in_files (Some files) index file h at = (omega (arith, h.count, slice_get_within files index file at), at_says IsShortFile files index file h.each at)

in_groups : (groups : Option (List InputFile)) (n : ℕ) (all : List (List InputFile)) → slice_get all n ≡ groups → (index : ℕ) (file : InputFile)
    → option_and_then (λ fs. slice_get fs index) groups ≡ Some file → n < length all
in_groups None n all is index file at = absurd (cc)
in_groups (Some files) n all is index file at = slice_get_within all n files is

input_short : (link : LinkInput) → IsShortLink link → (k : ℕ) (x : Input) → slice_get (all_inputs link.groups) k ≡ Some x → IsShortInput x
input_short link h k x at =
    let (file, found, there) = file_of_input link.groups k x at in
    let (few, sections) = in_files (slice_get link.groups x.file.group) x.file.file file (get_says (AreFew IsShortFile) link.groups x.file.group h.groups.each) found in
    let group = in_groups (slice_get link.groups x.file.group) x.file.group link.groups refl x.file.file file found in
    record {
      group = omega (arith, group, h.groups.count);
      file = omega (arith, few);
      index = omega (arith, slice_get_within file.sections x.index x.section there, sections.count);
      size = at_says (λ s. s.size < 2 ^ 64) file.sections x.index x.section sections.each there;
    }

all_short : (link : LinkInput) → IsShortLink link → All IsShortInput (all_inputs link.groups)
all_short link h = λ k d below. input_short link h k _ (slice_get-get_or (all_inputs link.groups) k d below)

numbered_short : (n : ℕ) (xs : List Input) → All IsShortInput xs → All (λ (q : ℕ × Input). IsShortInput q.1) (enumerate_from n xs)
numbered_short n [] h = All-nil (λ (q : ℕ × Input). IsShortInput q.1)
numbered_short n (x ∷ xs) h =
    All-cons (λ (q : ℕ × Input). IsShortInput q.1) (n, x) (enumerate_from (n + 1) xs) (h 0 x (omega arith)) (numbered_short (n + 1) xs (λ k d below. h (suc k) d (omega (arith, below))))

marked_each : {X : Type 0} (P : X → Type 0) (marks : List Bool) (xs : List X) → All P xs → All P (marked marks xs)
marked_each P [] xs h = All-nil P
marked_each P (m ∷ marks) [] h = All-nil P
marked_each P (true ∷ marks) (x ∷ xs) h = All-cons P x (marked marks xs) (h 0 x (omega arith)) (marked_each P marks xs (λ k d below. h (suc k) d (omega (arith, below))))
marked_each P (false ∷ marks) (x ∷ xs) h = marked_each P marks xs (λ k d below. h (suc k) d (omega (arith, below)))

-- an offset goes no further
mapped_below : (deleted : Option (List (ℕ × ℕ))) (offset : ℕ) → mapped_by deleted offset ≤ offset
unfolding mapped
mapped_below None offset = omega arith
mapped_below (Some ranges) offset = omega arith

live_short : (link : LinkInput) (layout : LayoutRecord) → HasShortNumbers layout → (q : ℕ × Input) → IsShortInput q.1 → IsShortLine (live_told (told_section link layout q))
live_short link layout h q s =
    All-from_recursion Small (live_told (told_section link layout q)).values
    (s.group, (s.file, (s.index, (index_says layout.section_addresses q.0 h.addresses.each, (omega (arith, s.size, mapped_below (deleted_of link.groups layout.section_deletions q.1.file q.1.index) q.1.section.size), tt)))))

-- ---- singletons

few_inputs : (link : LinkInput) → IsWellFormed link → length (all_inputs link.groups) ≤ 16777216
unfolding counted limit_of
few_inputs link good =
    let few = good.within InputSections in
    omega (arith, few, (inputs_follow).count link.groups)

single_short : (index : ℕ) (x : Input) → index < 2 ^ 64 → IsShortInput x → IsShortLine (single_told index x)
single_short index x below h = All-from_recursion Small (single_told index x).values (h.group, (h.file, (h.index, (below, tt))))

singles_short : (link : LinkInput) (layout : LayoutRecord) → IsWellFormed link → IsShortLink link → HasShortNumbers layout
    → AreShort (each_line (λ index x. single_told index x ∷ []) (emitted_count layout) (told_singletons link layout))
singles_short link layout good short h =
    let all : List (ℕ × Input) = enumerate_from 0 (all_inputs link.groups) in
    let told : List (ℕ × Input) = filter (is_told_singleton link layout) all in
    let each : All IsShortInput (told_singletons link layout)
    = All-map IsShortInput (λ (q : ℕ × Input). q.1) told
    (All-filter (is_told_singleton link layout) (λ (q : ℕ × Input). IsShortInput q.1) all (numbered_short 0 (all_inputs link.groups) (all_short link short))) in
    each_short (λ index x. single_told index x ∷ []) (emitted_count layout) (told_singletons link layout)
    (λ k x at. one_short (single_told (emitted_count layout + k) x)
    (single_short (emitted_count layout + k) x
    (omega (
      arith,
      slice_get_within (told_singletons link layout) k x at,
      length-map told (λ (q : ℕ × Input). q.1),
      length-filter (is_told_singleton link layout) all,
      count_by-le-length (is_told_singleton link layout) all,
      length-enumerate_from 0 (all_inputs link.groups),
      few_inputs link good,
      count_by-le-length is_some layout.output_section_indexes,
      h.indexes.count,
    ))
    (at_says IsShortInput (told_singletons link layout) k x each at)))

-- ---- what is merged

merged_short : (layout : LayoutRecord) → HasShortNumbers layout → (s : ℕ) (inputs : List MergeInput) → s < 2 ^ 64 → IsShortMerged inputs
    → AreShort (merged_says layout.merged_string_start_addresses s inputs)
unfolding merged_says
merged_short layout h s inputs below m =
    let start = image_start layout.merged_string_start_addresses s in
    if_short (not (length inputs == 0)) (merged_told s start inputs)
    (All-from_recursion Small (merged_told s start inputs).values
    (below, (m.image, (m.kept, (m.pieces, (m.bytes, (index_says layout.merged_string_start_addresses (16 * s) h.starts.each, tt)))))))

pieces_within : (most : ℕ) (ps : List Piece) → length (concat ps) ≤ most → All (λ p. length p ≤ most) ps
pieces_within most [] h = All-nil (λ p. length p ≤ most)
pieces_within most (p ∷ ps) h =
    let both = length-append p (concat ps) in
    All-cons (λ p. length p ≤ most) p ps (omega (arith, h, both)) (pieces_within most ps (omega (arith, h, both)))

pieces_short : (s start : ℕ) (inputs : List MergeInput) → s < 2 ^ 64 → IsShortMerged inputs → AreShort (pieces_say s start (all_pieces inputs))
pieces_short s start inputs below m =
    let pieces : List Piece = image_pieces fnv64 (all_pieces inputs) in
    let told : Piece → Line = λ p. piece_told s (bytes_behind start (image_place fnv64 (all_pieces inputs) p)) (length p) in
    mapped_short told pieces
    (All-weaker (λ p. length p ≤ length (concat pieces)) (λ p. IsShortLine (told p))
    (λ p within. All-from_recursion Small (told p).values (below, (omega arith, (omega (arith, within, m.image), tt))))
    pieces (pieces_within (length (concat pieces)) pieces (omega arith)))

-- ---- thunks

block_short : (b : ℕ) (owner : Option FileId) → b < 2 ^ 64 → IfSome owner IsShortFileId → AreShort (block_says b owner)
unfolding block_says
block_short b None below h = All-nil IsShortLine
block_short b (Some id) below h = one_short (block_told b id) (All-from_recursion Small (block_told b id).values (below, (h.0, (h.1, tt))))

address_short : (n : ℕ) → Small (as_address n)
address_short n = by (nat_lt n (2 ^ 64)) refl
  where
    by : (b : Bool) → nat_lt n (2 ^ 64) ≡ b → Small (if b then Some n else None)
    by true is = grind (arith, nat_tests)
    by false is = tt

place_short : (begin : Option ℕ) (behind : ℕ) → Small (option_and_then (λ a. as_address (a + behind)) begin)
place_short None behind = tt
place_short (Some a) behind = address_short (a + behind)

thunks_short : (layout : LayoutRecord) (b : ℕ) (symbols : List ℕ) → b < 2 ^ 64 → All (λ s. s < 2 ^ 64) symbols → AreShort (block_thunks_say layout b symbols)
thunks_short layout b symbols below each =
    each_short (λ k s. thunk_told b s (thunk_address layout b k) ∷ []) 0 symbols
    (λ k s at. one_short (thunk_told b s (thunk_address layout b (0 + k)))
    (All-from_recursion Small (thunk_told b s (thunk_address layout b (0 + k))).values
    (below, (at_says (λ s. s < 2 ^ 64) symbols k s each at, (place_short (slice_index_or layout.thunk_block_addresses b None) ((0 + k) * layout.thunk_size), tt)))))

-- ---- symbols and the entry

symbol_short : (s : ℕ) (r : Option Resolution) → s < 2 ^ 64 → IfSome r IsShortResolution → AreShort (symbol_says s r)
unfolding symbol_says
symbol_short s None below h = All-nil IsShortLine
symbol_short s (Some r) below h =
    one_short (symbol_told s r) (All-from_recursion Small (symbol_told s r).values (below, (h.value, (h.flags, (h.got, (h.plt, (h.dynamic, tt)))))))

ok_short : (address : Option ℕ) → Small address → IsShortLine (entry_told (Ok address))
unfolding entry_told
ok_short address h = All-from_recursion Small (entry_told (Ok address)).values (h, tt)

fault_short : (e : EntryFault) → IsShortLine (entry_told (Err e))
unfolding entry_told
fault_short NotLoaded = All-nil Small
fault_short NotAnAddress = All-nil Small

value_short : (r : Option Resolution) → IfSome r IsShortResolution → IsShortLine (entry_told (entry_value r))
value_short None h = fault_short NotLoaded
value_short (Some r) h = by (has_flag flag.DYNAMIC.0 r.flags.0 && not (has_flag flag.ABSOLUTE.0 r.flags.0))
  where
    by : (b : Bool) → IsShortLine (entry_told (if b then Err NotAnAddress else Ok (Some r.raw_value)))
    by true = fault_short NotAnAddress
    by false = ok_short (Some r.raw_value) h.value

or_says : {X : Type 0} (P : X → Type 0) (xs : List (Option X)) (i : ℕ) → All (λ o. IfSome o P) xs → IfSome (slice_index_or xs i None) P
or_says P [] i h = tt
or_says P (x ∷ xs) zero h = h 0 x (omega arith)
or_says P (x ∷ xs) (suc i) h = or_says P xs i (λ k d below. h (suc k) d (omega (arith, below)))

entry_short : (resolutions : List (Option Resolution)) (entry : Option ℕ) → All (λ o. IfSome o IsShortResolution) resolutions → IsShortLine (entry_told (entry_address resolutions entry))
entry_short resolutions None h = ok_short None tt
entry_short resolutions (Some s) h = value_short (resolution_at resolutions s) (or_says IsShortResolution resolutions s h)

-- ---- the report

few_sections : (link : LinkInput) → IsWellFormed link → length link.plan.sections < 2 ^ 64
unfolding counted limit_of
few_sections link good = let few = good.within OutputSections in omega (arith, few)

module _ (link : LinkInput) (layout : LayoutRecord) (good : IsWellFormed link) (short : IsShortLink link) (h : HasShortNumbers layout) where
  sections_short : AreShort (all_sections_say link.plan.sections layout)
  sections_short =
      each_short (λ s _. laid_out_says layout s) 0 link.plan.sections
      (λ k x at. section_short (0 + k) (omega (arith, slice_get_within link.plan.sections k x at, few_sections link good))
      (slice_get layout.section_layouts (0 + k)) (slice_get layout.output_section_indexes (0 + k)) (slice_get layout.section_attributes (0 + k))
      (get_says IsShortRecord layout.section_layouts (0 + k) h.sections.each) (get_says Small layout.output_section_indexes (0 + k) h.indexes.each)
      (get_says (λ n. n < 2 ^ 64) layout.section_attributes (0 + k) h.attributes.each))

  all_parts_short : AreShort (all_parts_say link.plan.sections layout.section_part_layouts)
  all_parts_short =
      each_short (λ s _. section_parts_say link.plan.sections layout.section_part_layouts s) 0 link.plan.sections
      (λ k x at. section_parts_short link.plan.sections layout.section_part_layouts (first_part link.plan.sections (0 + k)) (first_part link.plan.sections (0 + k + 1)) h.parts)

  inner_short : AllShort (inner_lines link layout)
  inner_short = (
    sections_short,
    (
      all_parts_short,
      (
        mapped_short segment_told layout.segment_layouts (All-weaker IsShortSegment (λ l. IsShortLine (segment_told l)) segment_short layout.segment_layouts h.segments.each),
        (
          mapped_short live_told (told_live link layout)
              (All-map (λ l. IsShortLine (live_told l)) (told_section link layout) (marked layout.live_marks (enumerate_from 0 (all_inputs link.groups)))
              (All-weaker (λ (q : ℕ × Input). IsShortInput q.1) (λ q. IsShortLine (live_told (told_section link layout q))) (live_short link layout h)
              (marked layout.live_marks (enumerate_from 0 (all_inputs link.groups)))
              (marked_each (λ (q : ℕ × Input). IsShortInput q.1) layout.live_marks (enumerate_from 0 (all_inputs link.groups)) (numbered_short 0 (all_inputs link.groups) (all_short link short))))),
          (
            singles_short link layout good short h,
            (
              each_short (merged_says layout.merged_string_start_addresses) 0 layout.merged_strings
                  (λ s inputs at. merged_short layout h (0 + s) inputs (omega (arith, slice_get_within layout.merged_strings s inputs at, h.merged.count)) (at_says IsShortMerged layout.merged_strings s inputs h.merged.each at)),
              (
                each_short (λ s inputs. pieces_say s (image_start layout.merged_string_start_addresses s) (all_pieces inputs)) 0 layout.merged_strings
                    (λ s inputs at. pieces_short (0 + s) (image_start layout.merged_string_start_addresses (0 + s)) inputs (omega (arith, slice_get_within layout.merged_strings s inputs at, h.merged.count))
                    (at_says IsShortMerged layout.merged_strings s inputs h.merged.each at)),
                (
                  each_short block_says 0 layout.thunk_block_owners
                      (λ b owner at. block_short (0 + b) owner (omega (arith, slice_get_within layout.thunk_block_owners b owner at, h.owners.count))
                      (at_says (λ o. IfSome o IsShortFileId) layout.thunk_block_owners b owner h.owners.each at)),
                  (
                    each_short (block_thunks_say layout) 0 layout.thunk_blocks
                        (λ b symbols at. thunks_short layout (0 + b) symbols (omega (arith, slice_get_within layout.thunk_blocks b symbols at, h.blocks.count))
                        (at_says (All (λ s. s < 2 ^ 64)) layout.thunk_blocks b symbols h.blocks.each at)),
                    (
                      each_short symbol_says 0 layout.symbol_resolutions
                          (λ s r at. symbol_short (0 + s) r (omega (arith, slice_get_within layout.symbol_resolutions s r at, h.resolutions.count))
                          (at_says (λ o. IfSome o IsShortResolution) layout.symbol_resolutions s r h.resolutions.each at)),
                      tt,
                    ),
                  ),
                ),
              ),
            ),
          ),
        ),
      ),
    ),
  )

  -- the lines that are told are short
  told_short : AreShort (told_lines link layout)
  told_short =
      let entry : Line = entry_told (resolved_entry layout) in
      let last : Line = record { form = form.End; values = [] } in
      All-cons IsShortLine (record { form = form.Layout; values = [] }) (flat_map (λ ls. ls) (inner_lines link layout) ++ entry ∷ last ∷ []) (All-nil Small)
      (All-append IsShortLine (flat_map (λ ls. ls) (inner_lines link layout)) (entry ∷ last ∷ []) (joined_short (inner_lines link layout) inner_short)
      (All-cons IsShortLine entry (last ∷ []) (entry_short layout.symbol_resolutions layout.entry_symbol_id h.resolutions.each) (one_short last (All-nil Small))))

  pub report_short : IsShort link layout
  report_short = record { lines = told_short; stack = short.stack }
