-- A report is a map, line by line.
use Rattle.std.proofs.Common.{◌≡◌, ℕ, suc, ◌+◌, ◌^◌, ◌<◌, ◌≤◌, Bool, true, false, List, [], ◌∷◌, ◌++◌, Option, Some, None, Result, Ok, Err, length, map, refl, sym, ap, ◌∙◌, subst, arith}
use Rattle.std.specs.Prelude.{◌==◌, ◌&&◌, ◌||◌, not, codes, drop, IfSome, if◌then◌else◌, slice_get, slice_range, take}
use Rattle.std.specs.Fmt.{decimal}
use Rattle.std.specs.List.{All, flat_map, join_with_byte, list_any}
use Rattle.std.proofs.lemmas.Bool.{false≢true}
use Rattle.std.proofs.lemmas.Bool.Decides.{nat_tests}
use Rattle.std.proofs.lemmas.Grind.{flat_map-append}
use Rattle.std.proofs.lemmas.List.{append-nil, append_assoc}
use Rattle.lk_map.specs.declared.forms.Field.{Field}
use Rattle.lk_map.specs.declared.forms.Field.TheVariants as is
use Rattle.lk_map.specs.declared.forms.Form.{Form}
use Rattle.lk_map.specs.declared.forms.Form.TheVariants as form
use Rattle.lk_map.specs.Forms.{fields_of, follows, rank, row_of, word_text}
use Rattle.lk_map.specs.Lines.{Line}
use Rattle.lk_map.specs.Written.{CanStand, GoOn, line_text, StandAt, value_text, words_for}
use Rattle.lk_link.specs.Inputs.{Input}
use Rattle.lk_link.specs.Parts.{first_part}
use Rattle.lk_link.specs.Texts.{joined}
use Rattle.lk_link.specs.declared.ids.FileId.{FileId}
use Rattle.lk_link.specs.declared.link.LinkInput.{LinkInput}
use Rattle.lk_link.specs.declared.plan.PlanSection.{PlanSection}
use Rattle.lk_link.specs.declared.resolution.Resolution.{Resolution}
use Rattle.lk_expressions.specs.Records.{Record}
use Rattle.lk_merge.specs.Addresses.{image_start}
use Rattle.lk_merge.specs.Hash.{fnv64}
use Rattle.lk_merge.specs.Image.{all_pieces, image_pieces, image_place}
use Rattle.lk_merge.specs.Pieces.{MergeInput, Piece}
use Rattle.lk_sizes.specs.declared.addresses.LiveSection.{LiveSection}
use Rattle.lk_place.specs.declared.segments.SegmentLayout.{SegmentLayout}
use Rattle.lk_layout.specs.LayoutRecord.{LayoutRecord}
use Rattle.lk_layout.specs.Layouts.{emitted_count, resolved_entry, thunk_address, told_live, told_singletons}
use Rattle.lk_resolutions.specs.declared.resolution.EntryFault.{EntryFault}
use Rattle.lk_resolutions.specs.declared.resolution.EntryFault.TheVariants.{NotAnAddress, NotLoaded}
use Rattle.lk_line.specs.Hexadecimal.{hexadecimal}
use Rattle.lk_report.specs.Report.{address_text, block_line, block_text, block_thunks, bytes_behind, each, entry_line, index_text, laid_out_text, live_line, merged_line, merged_text, part_line, part_text, piece_line, piece_lines, range_text, report, report_texts, section_line, section_part_lines, section_text, segment_line, single_line, symbol_line, symbol_text, takes_memory, thunk_line, told_lines as told_part_lines}
use Rattle.lk_report_maps.specs.ToldLines.{all_parts_say, AreShort, block_says, block_thunks_say, block_told, each_line, entry_told, inner_lines, laid_out_says, live_told, merged_says, merged_told, part_says, part_told, pieces_say, piece_told, section_parts_say, section_says, section_told, segment_told, single_told, symbol_says, symbol_told, thunk_told, told_lines, told_parts_say}
use Rattle.lk_report_maps.specs.Laws.{ReportsAreMaps}

-- ---- a line with its line feed

-- a line as it stands in a text
abbrev pub feed : Line → List ℕ
feed line = line_text line ++ 10 ∷ []

-- lines as they do
abbrev pub fed : List Line → List ℕ
fed lines = flat_map (λ line. line_text line ++ 10 ∷ []) lines

-- words, with a blank between each two, and a line feed
unfoldable pub ended : List (List ℕ) → List ℕ
ended [] = 10 ∷ []
ended (w ∷ []) = w ++ 10 ∷ []
ended (w ∷ y ∷ ws) = w ++ (32 ∷ ended (y ∷ ws))

pub ended_is : (ws : List (List ℕ)) → join_with_byte 32 ws ++ 10 ∷ [] ≡ ended ws
unfolding ended
ended_is [] = refl
ended_is (w ∷ []) = refl
ended_is (w ∷ y ∷ ws) = append_assoc w (32 ∷ join_with_byte 32 (y ∷ ws)) (10 ∷ []) ∙ ap (λ t. w ++ (32 ∷ t)) (ended_is (y ∷ ws))

-- a line by its words
told_is : (l : Line) → ended (words_for (fields_of l.form) l.values) ≡ feed l
told_is l = sym (ended_is (words_for (fields_of l.form) l.values))

-- texts before another
unfoldable pub onto : List (List ℕ) → List ℕ → List ℕ
onto [] t = t
onto (w ∷ ws) t = w ++ onto ws t

joined_onto : (ws : List (List ℕ)) (t : List ℕ) → joined ws ++ t ≡ onto ws t
unfolding onto
joined_onto [] t = refl
joined_onto (w ∷ []) t = refl
joined_onto (w ∷ u ∷ ws) t = append_assoc w (joined (u ∷ ws)) t ∙ ap (λ z. w ++ z) (joined_onto (u ∷ ws) t)

-- the pieces of a range
abbrev range_pieces : Record → List (List ℕ)
range_pieces r =
    codes "mem 0x" ∷ hexadecimal r.mem_offset ∷ codes " " ∷ decimal r.mem_size ∷
    codes " file 0x" ∷ hexadecimal r.file_offset ∷ codes " " ∷ decimal r.file_size ∷
    codes " align " ∷ decimal r.alignment ∷ []

range_onto : (r : Record) (t : List ℕ) → range_text r ++ t ≡ onto (range_pieces r) t
unfolding range_text
range_onto r t = joined_onto (range_pieces r) t

-- ---- each kind of line is a line of its form

section_is : (s : ℕ) (r : Record) (index : Option ℕ) (attrs : ℕ) → section_line s r index attrs ≡ feed (section_told s r index attrs)
unfolding section_line onto ended fields_of row_of words_for word_text value_text
section_is s r None attrs =
    ap (λ z. codes "section " ++ (decimal s ++ (codes " index " ++ (codes "-" ++ (codes " " ++ z)))))
    (range_onto r (codes " lma 0x" ++ (hexadecimal r.lma_offset ++ (codes " attrs " ++ (decimal attrs ++ codes "\n")))))
    ∙ told_is (section_told s r None attrs)
section_is s r (Some index) attrs =
    ap (λ z. codes "section " ++ (decimal s ++ (codes " index " ++ (decimal index ++ (codes " " ++ z)))))
    (range_onto r (codes " lma 0x" ++ (hexadecimal r.lma_offset ++ (codes " attrs " ++ (decimal attrs ++ codes "\n")))))
    ∙ told_is (section_told s r (Some index) attrs)

part_is : (p : ℕ) (r : Record) → part_line p r ≡ feed (part_told p r)
unfolding part_line onto ended fields_of row_of words_for word_text value_text
part_is p r = ap (λ z. codes "part " ++ (decimal p ++ (codes " " ++ z))) (range_onto r (codes "\n")) ∙ told_is (part_told p r)

segment_is : (g : SegmentLayout) → segment_line g ≡ feed (segment_told g)
unfolding segment_line onto ended fields_of row_of words_for word_text value_text
segment_is g = ap (λ z. codes "segment " ++ (decimal g.id ++ (codes " " ++ z))) (range_onto g.sizes (codes "\n")) ∙ told_is (segment_told g)

live_is : (l : LiveSection) → live_line l ≡ feed (live_told l)
unfolding live_line ended fields_of row_of words_for word_text value_text
live_is l = told_is (live_told l)

single_is : (index : ℕ) (x : Input) → single_line index x ≡ feed (single_told index x)
unfolding single_line ended fields_of row_of words_for word_text value_text
single_is index x = told_is (single_told index x)

merged_is : (s start : ℕ) (inputs : List MergeInput) → merged_line s start inputs ≡ feed (merged_told s start inputs)
unfolding merged_line ended fields_of row_of words_for word_text value_text
merged_is s start inputs = told_is (merged_told s start inputs)

piece_is : (s address len : ℕ) → piece_line s address len ≡ feed (piece_told s address len)
unfolding piece_line ended fields_of row_of words_for word_text value_text
piece_is s address len = told_is (piece_told s address len)

block_is : (b : ℕ) (id : FileId) → block_line b id ≡ feed (block_told b id)
unfolding block_line ended fields_of row_of words_for word_text value_text
block_is b id = told_is (block_told b id)

thunk_is : (b s : ℕ) (address : Option ℕ) → thunk_line b s address ≡ feed (thunk_told b s address)
unfolding thunk_line ended fields_of row_of words_for word_text value_text
thunk_is b s None = told_is (thunk_told b s None)
thunk_is b s (Some a) = told_is (thunk_told b s (Some a))

same_address : (o : Option ℕ) → address_text o ≡ value_text is.AddressOrNone o
unfolding value_text
same_address None = refl
same_address (Some a) = refl

same_index : (o : Option ℕ) → index_text o ≡ value_text is.NumberOrNone o
unfolding value_text
same_index None = refl
same_index (Some k) = refl

-- a symbol's line, by the texts of its entries
symbol_with : ℕ → Resolution → List ℕ → List ℕ → List ℕ → List ℕ
symbol_with s r got plt dyn =
    codes "symbol " ++ (decimal s ++ (codes " 0x" ++ (hexadecimal r.raw_value ++ (codes " " ++ (decimal r.flags.0 ++ (codes " got " ++ (got ++
    (codes " plt " ++ (plt ++ (codes " dyn " ++ (dyn ++ codes "\n")))))))))))

symbol_is : (s : ℕ) (r : Resolution) → symbol_line s r ≡ feed (symbol_told s r)
unfolding symbol_line symbol_with ended fields_of row_of words_for word_text value_text
symbol_is s r =
    ap (λ t. symbol_with s r t (address_text r.plt) (index_text r.dynamic)) (same_address r.got)
    ∙ ap (λ t. symbol_with s r (value_text is.AddressOrNone r.got) t (index_text r.dynamic)) (same_address r.plt)
    ∙ ap (λ t. symbol_with s r (value_text is.AddressOrNone r.got) (value_text is.AddressOrNone r.plt) t) (same_index r.dynamic)
    ∙ told_is (symbol_told s r)

entry_is : (e : Result (Option ℕ) EntryFault) → entry_line e ≡ feed (entry_told e)
unfolding entry_line entry_told ended fields_of row_of words_for word_text value_text
entry_is (Ok None) = told_is (entry_told (Ok None))
entry_is (Ok (Some a)) = told_is (entry_told (Ok (Some a)))
entry_is (Err NotLoaded) = told_is (entry_told (Err NotLoaded))
entry_is (Err NotAnAddress) = told_is (entry_told (Err NotAnAddress))

-- ---- lists of lines

one : (l : Line) → feed l ≡ fed (l ∷ [])
one l = sym (append-nil (feed l))

each_is : {X : Type 0} (text : ℕ → X → List ℕ) (says : ℕ → X → List Line) → ((n : ℕ) (x : X) → text n x ≡ fed (says n x)) → (n : ℕ) (xs : List X) → each text n xs ≡ fed (each_line says n xs)
unfolding each each_line
each_is text says is n [] = refl
each_is text says is n (x ∷ xs) =
    ap (λ t. t ++ each text (suc n) xs) (is n x)
    ∙ ap (λ t. fed (says n x) ++ t) (each_is text says is (suc n) xs)
    ∙ sym (flat_map-append (λ line. line_text line ++ 10 ∷ []) (says n x) (each_line says (suc n) xs))

mapped_is : {X : Type 0} (text : X → List ℕ) (told : X → Line) → ((x : X) → text x ≡ feed (told x)) → (xs : List X) → flat_map text xs ≡ fed (map told xs)
mapped_is text told is [] = refl
mapped_is text told is (x ∷ xs) = ap (λ t. t ++ flat_map text xs) (is x) ∙ ap (λ t. feed (told x) ++ t) (mapped_is text told is xs)

each_mapped : {X : Type 0} (text : X → List ℕ) (told : X → Line) → ((x : X) → text x ≡ feed (told x)) → (n : ℕ) (xs : List X) → each (λ _ x. text x) n xs ≡ fed (map told xs)
unfolding each
each_mapped text told is n [] = refl
each_mapped text told is n (x ∷ xs) = ap (λ t. t ++ each (λ _ y. text y) (suc n) xs) (is x) ∙ ap (λ t. feed (told x) ++ t) (each_mapped text told is (suc n) xs)

section_text_is : (s : ℕ) (r : Option Record) (index : Option (Option ℕ)) (attrs : Option ℕ) → section_text s r index attrs ≡ fed (section_says s r index attrs)
unfolding section_text section_says
section_text_is s None index attrs = refl
section_text_is s (Some r) None attrs = refl
section_text_is s (Some r) (Some index) None = refl
section_text_is s (Some r) (Some index) (Some attrs) = section_is s r index attrs ∙ one (section_told s r index attrs)

if_line : (b : Bool) (text : List ℕ) (l : Line) → text ≡ feed l → (if b then text else []) ≡ fed (if b then l ∷ [] else [])
if_line true text l is = is ∙ one l
if_line false text l is = refl

part_text_is : (is_empty : Bool) (first p : ℕ) (r : Record) → part_text is_empty first p r ≡ fed (part_says is_empty first p r)
unfolding part_text part_says
part_text_is is_empty first p r = if_line (takes_memory r || (is_empty && p == first)) (part_line p r) (part_told p r) (part_is p r)

parts_are : (first : ℕ) (parts : List Record) → told_part_lines first parts ≡ fed (told_parts_say first parts)
parts_are first parts =
    each_is (part_text (not (list_any takes_memory parts)) first) (part_says (not (list_any takes_memory parts)) first)
    (part_text_is (not (list_any takes_memory parts)) first) first parts

merged_text_is : (starts : List ℕ) (s : ℕ) (inputs : List MergeInput) → merged_text starts s inputs ≡ fed (merged_says starts s inputs)
unfolding merged_text merged_says
merged_text_is starts s inputs =
    if_line (not (length inputs == 0)) (merged_line s (image_start starts s) inputs) (merged_told s (image_start starts s) inputs) (merged_is s (image_start starts s) inputs)

pieces_are : (s start : ℕ) (pieces : List Piece) → piece_lines s start pieces ≡ fed (pieces_say s start pieces)
pieces_are s start pieces =
    mapped_is (λ p. piece_line s (bytes_behind start (image_place fnv64 pieces p)) (length p)) (λ p. piece_told s (bytes_behind start (image_place fnv64 pieces p)) (length p))
    (λ p. piece_is s (bytes_behind start (image_place fnv64 pieces p)) (length p)) (image_pieces fnv64 pieces)

block_text_is : (b : ℕ) (owner : Option FileId) → block_text b owner ≡ fed (block_says b owner)
unfolding block_text block_says
block_text_is b None = refl
block_text_is b (Some id) = block_is b id ∙ one (block_told b id)

symbol_text_is : (s : ℕ) (r : Option Resolution) → symbol_text s r ≡ fed (symbol_says s r)
unfolding symbol_text symbol_says
symbol_text_is s None = refl
symbol_text_is s (Some r) = symbol_is s r ∙ one (symbol_told s r)

-- ---- the text of a report

cons_is : {x y : List ℕ} {xs ys : List (List ℕ)} → x ≡ y → xs ≡ ys → x ∷ xs ≡ y ∷ ys
cons_is p q = cc

blocks_onto : (blocks : List (List Line)) (t : List ℕ) → onto (map fed blocks) t ≡ fed (flat_map (λ ls. ls) blocks) ++ t
unfolding onto
blocks_onto [] t = refl
blocks_onto (b ∷ bs) t =
    ap (λ z. fed b ++ z) (blocks_onto bs t)
    ∙ sym (append_assoc (fed b) (fed (flat_map (λ ls. ls) bs)) t)
    ∙ ap (λ z. z ++ t) (sym (flat_map-append (λ line. line_text line ++ 10 ∷ []) b (flat_map (λ ls. ls) bs)))

module _ (link : LinkInput) (layout : LayoutRecord) where
  -- the texts of all kinds between the first line and the last two, in their order
  abbrev texts : List (List ℕ)
  texts = take 10 (drop 1 (report_texts link layout))

  texts_are : texts ≡ map fed (inner_lines link layout)
  texts_are =
      cons_is (each_is (λ s _. laid_out_text layout s) (λ s _. laid_out_says layout s)
      (λ s _. section_text_is s (slice_get layout.section_layouts s) (slice_get layout.output_section_indexes s) (slice_get layout.section_attributes s)) 0 link.plan.sections)
      (cons_is (each_is (λ s _. section_part_lines link.plan.sections layout.section_part_layouts s) (λ s _. section_parts_say link.plan.sections layout.section_part_layouts s)
      (λ s _. parts_are (first_part link.plan.sections s) (slice_range layout.section_part_layouts (first_part link.plan.sections s) (first_part link.plan.sections (s + 1)))) 0 link.plan.sections)
      (cons_is (each_mapped segment_line segment_told segment_is 0 layout.segment_layouts)
      (cons_is (mapped_is live_line live_told live_is (told_live link layout))
      (cons_is (each_is single_line (λ index x. single_told index x ∷ []) (λ index x. single_is index x ∙ one (single_told index x)) (emitted_count layout) (told_singletons link layout))
      (cons_is (each_is (merged_text layout.merged_string_start_addresses) (merged_says layout.merged_string_start_addresses) (merged_text_is layout.merged_string_start_addresses) 0 layout.merged_strings)
      (cons_is (each_is (λ s inputs. piece_lines s (image_start layout.merged_string_start_addresses s) (all_pieces inputs)) (λ s inputs. pieces_say s (image_start layout.merged_string_start_addresses s) (all_pieces inputs))
      (λ s inputs. pieces_are s (image_start layout.merged_string_start_addresses s) (all_pieces inputs)) 0 layout.merged_strings)
      (cons_is (each_is block_text block_says block_text_is 0 layout.thunk_block_owners)
      (cons_is (each_is (block_thunks layout) (block_thunks_say layout)
      (λ b symbols. each_is (λ k s. thunk_line b s (thunk_address layout b k)) (λ k s. thunk_told b s (thunk_address layout b k) ∷ [])
      (λ k s. thunk_is b s (thunk_address layout b k) ∙ one (thunk_told b s (thunk_address layout b k))) 0 symbols) 0 layout.thunk_blocks)
      (cons_is (each_is symbol_text symbol_says symbol_text_is 0 layout.symbol_resolutions) refl)))))))))

  -- the last two lines
  abbrev pub last_lines : List Line
  last_lines = entry_told (resolved_entry layout) ∷ record { form = form.End; values = [] } ∷ []

  last_are : entry_line (resolved_entry layout) ++ codes "end\n" ≡ fed last_lines
  unfolding fields_of row_of words_for word_text
  last_are = ap (λ t. t ++ codes "end\n") (entry_is (resolved_entry layout))

  first_is : codes "layout\n" ≡ feed (record { form = form.Layout; values = [] })
  unfolding fields_of row_of words_for word_text
  first_is = refl

  pub text_is : report link layout ≡ fed (told_lines link layout)
  unfolding onto
  text_is =
      ap (λ z. codes "layout\n" ++ z)
      (ap (λ ts. onto ts (entry_line (resolved_entry layout) ++ codes "end\n")) texts_are
      ∙ blocks_onto (inner_lines link layout) (entry_line (resolved_entry layout) ++ codes "end\n")
      ∙ ap (λ t. fed (flat_map (λ ls. ls) (inner_lines link layout)) ++ t) last_are
      ∙ sym (flat_map-append (λ line. line_text line ++ 10 ∷ []) (flat_map (λ ls. ls) (inner_lines link layout)) last_lines))
      ∙ ap (λ t. t ++ fed (flat_map (λ ls. ls) (inner_lines link layout) ++ last_lines)) first_is

-- ---- values that stand in their fields

-- whether values have the shape of fields: a value in each but words, and none where `-` may stand alone
unfoldable pub fits : List Field → List (Option ℕ) → Bool
fits [] [] = true
fits [] (v ∷ vs) = false
fits (is.Word w ∷ fs) vs = fits fs vs
fits (is.Number ∷ fs) [] = false
fits (is.Number ∷ fs) (None ∷ vs) = false
fits (is.Number ∷ fs) (Some n ∷ vs) = fits fs vs
fits (is.Address ∷ fs) [] = false
fits (is.Address ∷ fs) (None ∷ vs) = false
fits (is.Address ∷ fs) (Some n ∷ vs) = fits fs vs
fits (is.NumberOrNone ∷ fs) [] = false
fits (is.NumberOrNone ∷ fs) (v ∷ vs) = fits fs vs
fits (is.AddressOrNone ∷ fs) [] = false
fits (is.AddressOrNone ∷ fs) (v ∷ vs) = fits fs vs

-- each number is below 2^64
abbrev ShortValues : List (Option ℕ) → Type 0
ShortValues vs = All (λ v. IfSome v (λ n. n < 2 ^ 64)) vs

stand_or : (v : Option ℕ) → IfSome v (λ n. n < 2 ^ 64) → CanStand is.NumberOrNone v × CanStand is.AddressOrNone v
unfolding CanStand
stand_or None h = (tt, tt)
stand_or (Some n) h = (h, h)

stand_from : (fs : List Field) (vs : List (Option ℕ)) → fits fs vs ≡ true → ShortValues vs → StandAt fs vs
unfolding StandAt CanStand fits
stand_from [] [] h short = tt
stand_from [] (v ∷ vs) h short = absurd (false≢true h)
stand_from (is.Word w ∷ fs) vs h short = stand_from fs vs h short
stand_from (is.Number ∷ fs) [] h short = absurd (false≢true h)
stand_from (is.Number ∷ fs) (None ∷ vs) h short = absurd (false≢true h)
stand_from (is.Number ∷ fs) (Some n ∷ vs) h short = (short 0 None (omega arith), stand_from fs vs h (λ k d b. short (suc k) d (omega arith)))
stand_from (is.Address ∷ fs) [] h short = absurd (false≢true h)
stand_from (is.Address ∷ fs) (None ∷ vs) h short = absurd (false≢true h)
stand_from (is.Address ∷ fs) (Some n ∷ vs) h short = (short 0 None (omega arith), stand_from fs vs h (λ k d b. short (suc k) d (omega arith)))
stand_from (is.NumberOrNone ∷ fs) [] h short = absurd (false≢true h)
stand_from (is.NumberOrNone ∷ fs) (v ∷ vs) h short = ((stand_or v (short 0 None (omega arith))).0, stand_from fs vs h (λ k d b. short (suc k) d (omega arith)))
stand_from (is.AddressOrNone ∷ fs) [] h short = absurd (false≢true h)
stand_from (is.AddressOrNone ∷ fs) (v ∷ vs) h short = ((stand_or v (short 0 None (omega arith))).1, stand_from fs vs h (λ k d b. short (suc k) d (omega arith)))

-- ---- lines of one kind

-- lines whose forms have this place in a map, and whose values have the shape of their form
unfoldable pub Shaped : ℕ → List Line → Type 0
Shaped r [] = Unit {0}
Shaped r (l ∷ ls) = (rank l.form ≡ r) × (fits (fields_of l.form) l.values ≡ true) × Shaped r ls

shaped_both : (r : ℕ) (xs ys : List Line) → Shaped r xs → Shaped r ys → Shaped r (xs ++ ys)
unfolding Shaped
shaped_both r [] ys h k = k
shaped_both r (x ∷ xs) ys (a, b, h) k = (a, b, shaped_both r xs ys h k)

shaped_each : {X : Type 0} (r : ℕ) (says : ℕ → X → List Line) → ((n : ℕ) (x : X) → Shaped r (says n x)) → (n : ℕ) (xs : List X) → Shaped r (each_line says n xs)
unfolding each_line Shaped
shaped_each r says is n [] = tt
shaped_each r says is n (x ∷ xs) = shaped_both r (says n x) (each_line says (suc n) xs) (is n x) (shaped_each r says is (suc n) xs)

shaped_map : {X : Type 0} (r : ℕ) (told : X → Line) → ((x : X) → (rank (told x).form ≡ r) × (fits (fields_of (told x).form) (told x).values ≡ true)) → (xs : List X) → Shaped r (map told xs)
unfolding Shaped
shaped_map r told is [] = tt
shaped_map r told is (x ∷ xs) = ((is x).0, (is x).1, shaped_map r told is xs)

shaped_if : (r : ℕ) (b : Bool) (l : Line) → rank l.form ≡ r → fits (fields_of l.form) l.values ≡ true → Shaped r (if b then l ∷ [] else [])
unfolding Shaped
shaped_if r true l h k = (h, k, tt)
shaped_if r false l h k = tt

section_shaped : (s : ℕ) (r : Option Record) (index : Option (Option ℕ)) (attrs : Option ℕ) → Shaped 1 (section_says s r index attrs)
unfolding section_says Shaped rank fields_of row_of fits
section_shaped s None index attrs = tt
section_shaped s (Some r) None attrs = tt
section_shaped s (Some r) (Some index) None = tt
section_shaped s (Some r) (Some index) (Some attrs) = (refl, refl, tt)

part_shaped : (is_empty : Bool) (first p : ℕ) (r : Record) → Shaped 2 (part_says is_empty first p r)
unfolding part_says rank fields_of row_of fits
part_shaped is_empty first p r = shaped_if 2 (takes_memory r || (is_empty && p == first)) (part_told p r) refl refl

segment_shaped : (g : SegmentLayout) → (rank (segment_told g).form ≡ 3) × (fits (fields_of (segment_told g).form) (segment_told g).values ≡ true)
unfolding rank fields_of row_of fits
segment_shaped g = (refl, refl)

live_shaped : (l : LiveSection) → (rank (live_told l).form ≡ 4) × (fits (fields_of (live_told l).form) (live_told l).values ≡ true)
unfolding rank fields_of row_of fits
live_shaped l = (refl, refl)

single_shaped : (index : ℕ) (x : Input) → Shaped 5 (single_told index x ∷ [])
unfolding Shaped rank fields_of row_of fits
single_shaped index x = (refl, refl, tt)

merged_shaped : (starts : List ℕ) (s : ℕ) (inputs : List MergeInput) → Shaped 6 (merged_says starts s inputs)
unfolding merged_says rank fields_of row_of fits
merged_shaped starts s inputs = shaped_if 6 (not (length inputs == 0)) (merged_told s (image_start starts s) inputs) refl refl

pieces_shaped : (s start : ℕ) (pieces : List Piece) → Shaped 7 (pieces_say s start pieces)
unfolding rank fields_of row_of fits
pieces_shaped s start pieces = shaped_map 7 (λ p. piece_told s (bytes_behind start (image_place fnv64 pieces p)) (length p)) (λ p. (refl, refl)) (image_pieces fnv64 pieces)

block_shaped : (b : ℕ) (owner : Option FileId) → Shaped 8 (block_says b owner)
unfolding block_says Shaped rank fields_of row_of fits
block_shaped b None = tt
block_shaped b (Some id) = (refl, refl, tt)

thunk_shaped : (b s : ℕ) (address : Option ℕ) → Shaped 9 (thunk_told b s address ∷ [])
unfolding Shaped rank fields_of row_of fits
thunk_shaped b s address = (refl, refl, tt)

symbol_shaped : (s : ℕ) (r : Option Resolution) → Shaped 10 (symbol_says s r)
unfolding symbol_says Shaped rank fields_of row_of fits
symbol_shaped s None = tt
symbol_shaped s (Some r) = (refl, refl, tt)

pub entry_shaped : (e : Result (Option ℕ) EntryFault) → (rank (entry_told e).form ≡ 11) × (fits (fields_of (entry_told e).form) (entry_told e).values ≡ true)
unfolding entry_told rank fields_of row_of fits
entry_shaped (Ok address) = (refl, refl)
entry_shaped (Err NotLoaded) = (refl, refl)
entry_shaped (Err NotAnAddress) = (refl, refl)

parts_shaped : (sections : List PlanSection) (records : List Record) → Shaped 2 (all_parts_say sections records)
parts_shaped sections records =
    shaped_each 2 (λ s _. section_parts_say sections records s)
    (λ s _.
    let parts = slice_range records (first_part sections s) (first_part sections (s + 1)) in
    shaped_each 2 (part_says (not (list_any takes_memory parts)) (first_part sections s)) (part_shaped (not (list_any takes_memory parts)) (first_part sections s)) (first_part sections s) parts)
    0 sections

all_pieces_shaped : (starts : List ℕ) (merged : List (List MergeInput)) → Shaped 7 (each_line (λ s inputs. pieces_say s (image_start starts s) (all_pieces inputs)) 0 merged)
all_pieces_shaped starts merged =
    shaped_each 7 (λ s inputs. pieces_say s (image_start starts s) (all_pieces inputs)) (λ s inputs. pieces_shaped s (image_start starts s) (all_pieces inputs)) 0 merged

thunks_shaped : (layout : LayoutRecord) → Shaped 9 (each_line (block_thunks_say layout) 0 layout.thunk_blocks)
thunks_shaped layout =
    shaped_each 9 (block_thunks_say layout)
    (λ b symbols. shaped_each 9 (λ k s. thunk_told b s (thunk_address layout b k) ∷ []) (λ k s. thunk_shaped b s (thunk_address layout b k)) 0 symbols) 0 layout.thunk_blocks

-- blocks of lines, each of one kind, in the order of kinds from this one on
unfoldable pub ShapedFrom : ℕ → List (List Line) → Type 0
ShapedFrom r [] = Unit {0}
ShapedFrom r (b ∷ bs) = Shaped r b × ShapedFrom (suc r) bs

pub inner_shaped : (link : LinkInput) (layout : LayoutRecord) → ShapedFrom 1 (inner_lines link layout)
unfolding ShapedFrom
inner_shaped link layout = (
  shaped_each 1 (λ s _. laid_out_says layout s) (λ s _. section_shaped s (slice_get layout.section_layouts s) (slice_get layout.output_section_indexes s) (slice_get layout.section_attributes s)) 0 link.plan.sections,
  (
    parts_shaped link.plan.sections layout.section_part_layouts,
    (
      shaped_map 3 segment_told segment_shaped layout.segment_layouts,
      (
        shaped_map 4 live_told live_shaped (told_live link layout),
        (
          shaped_each 5 (λ index x. single_told index x ∷ []) single_shaped (emitted_count layout) (told_singletons link layout),
          (
            shaped_each 6 (merged_says layout.merged_string_start_addresses) (merged_shaped layout.merged_string_start_addresses) 0 layout.merged_strings,
            (
              all_pieces_shaped layout.merged_string_start_addresses layout.merged_strings,
              (
                shaped_each 8 block_says block_shaped 0 layout.thunk_block_owners,
                (
                  thunks_shaped layout,
                  (
                    shaped_each 10 symbol_says symbol_shaped 0 layout.symbol_resolutions,
                    tt,
                  ),
                ),
              ),
            ),
          ),
        ),
      ),
    ),
  ),
)

-- ---- lines go on a map

follows_so : (f g : Form) (r : ℕ) → rank g ≡ r → 1 ≤ r → r ≤ 10 → rank f ≤ r → follows (Some f) g ≡ true
unfolding follows
follows_so f g r is low high below = grind (arith, nat_tests)

follows_entry : (f g : Form) → rank g ≡ 11 → rank f ≤ 10 → follows (Some f) g ≡ true
unfolding follows
follows_entry f g is below = grind (arith, nat_tests)

follows_end : (f g : Form) → rank f ≡ 11 → rank g ≡ 12 → follows (Some f) g ≡ true
unfolding follows
follows_end f g is last = grind (arith, nat_tests)

end_rank : rank form.End ≡ 12
unfolding rank row_of
end_rank = refl

layout_first : follows None form.Layout ≡ true
unfolding follows rank row_of
layout_first = refl

layout_low : rank form.Layout < 1
unfolding rank row_of
layout_low = omega arith

rest_short : (l : Line) (ls : List Line) → AreShort (l ∷ ls) → AreShort ls
rest_short l ls short = λ k d b. short (suc k) d (omega arith)

first_short : (l : Line) (ls : List Line) → AreShort (l ∷ ls) → ShortValues l.values
first_short l ls short = short 0 l (omega arith)

module _ (r : ℕ) (low : 1 ≤ r) (high : r ≤ 10) where
  block_on : (ls rest : List Line) (f : Form) → Shaped r ls → AreShort (ls ++ rest) → rank f ≤ r → ((g : Form) → rank g ≤ r → AreShort rest → GoOn (Some g) rest) → GoOn (Some f) (ls ++ rest)
  unfolding GoOn Shaped
  block_on [] rest f shaped short below next = next f below short
  block_on (l ∷ ls) rest f (is, fit, shaped) short below next = (
    follows_so f l.form r is low high below,
    stand_from (fields_of l.form) l.values fit (first_short l (ls ++ rest) short),
    block_on ls rest l.form shaped (rest_short l (ls ++ rest) short) (omega arith) next,
  )

blocks_on : (r : ℕ) (blocks : List (List Line)) (rest : List Line) (f : Form) → ShapedFrom r blocks → 1 ≤ r → r + length blocks ≡ 11 → AreShort (flat_map (λ ls. ls) blocks ++ rest) → rank f < r
    → ((g : Form) → rank g ≤ 10 → AreShort rest → GoOn (Some g) rest) → GoOn (Some f) (flat_map (λ ls. ls) blocks ++ rest)
unfolding ShapedFrom
blocks_on r [] rest f shaped low all short below next = next f (omega arith) short
blocks_on r (b ∷ bs) rest f (here, shaped) low all short below next =
    let same : (b ++ flat_map (λ ls. ls) bs) ++ rest ≡ b ++ (flat_map (λ ls. ls) bs ++ rest) = append_assoc b (flat_map (λ ls. ls) bs) rest in
    subst (GoOn (Some f)) (sym same)
    (block_on r low (omega arith) b (flat_map (λ ls. ls) bs ++ rest) f here (subst AreShort same short) (omega arith)
    (λ g h more. blocks_on (suc r) bs rest g shaped (omega arith) (omega arith) more (omega arith) next))

module _ (link : LinkInput) (layout : LayoutRecord) where
  last_on : (g : Form) → rank g ≤ 10 → AreShort (last_lines link layout) → GoOn (Some g) (last_lines link layout)
  unfolding GoOn StandAt fields_of row_of
  last_on g below short =
      let entry = entry_told (resolved_entry layout) in
      let (is, fit) = entry_shaped (resolved_entry layout) in (
        follows_entry g entry.form is below,
        stand_from (fields_of entry.form) entry.values fit (first_short entry (record { form = form.End; values = [] } ∷ []) short),
        (follows_end entry.form form.End is end_rank, tt, refl),
      )

  pub goes_on : AreShort (told_lines link layout) → GoOn None (told_lines link layout)
  unfolding GoOn StandAt fields_of row_of
  goes_on short = (
    layout_first,
    tt,
    blocks_on 1 (inner_lines link layout) (last_lines link layout) form.Layout (inner_shaped link layout) (omega arith) refl
        (rest_short (record { form = form.Layout; values = [] }) (flat_map (λ ls. ls) (inner_lines link layout) ++ last_lines link layout) short) layout_low (last_on),
  )

-- ---- the law

pub reports_are_maps : ReportsAreMaps
reports_are_maps link layout short = (goes_on link layout short, text_is link layout)
