-- A report says its layout's own sections and segments.
use Rattle.std.proofs.Common.{◌≡◌, ℕ, suc, ◌+◌, ◌<◌, ◌≤◌, false, List, [], ◌∷◌, ◌++◌, Some, None, length, get_or, map, refl, sym, ap, ◌∙◌, arith}
use Rattle.std.specs.Prelude.{◌==◌, if◌then◌else◌, slice_get, slice_index}
use Rattle.std.specs.List.{enumerate_from, flat_map}
use Rattle.std.proofs.lemmas.Bool.Decides.{nat_tests}
use Rattle.std.proofs.lemmas.List.{append_assoc}
use Rattle.std.proofs.lemmas.Option.{slice_get-get_or}
use Rattle.lk_map.specs.declared.map_text.SectionLine.{SectionLine}
use Rattle.lk_map.specs.declared.map_text.SegmentLine.{SegmentLine}
use Rattle.lk_map.specs.Forms.{rank, row_of}
use Rattle.lk_map.specs.Lines.{Line}
use Rattle.lk_map.specs.MapText.{section_at, section_told as section_in, sections_of, segment_at, segment_told as segment_in, segments_of}
use Rattle.lk_link.specs.declared.link.LinkInput.{LinkInput}
use Rattle.lk_link.specs.declared.plan.PlanSection.{PlanSection}
use Rattle.lk_expressions.specs.Records.{nowhere, record_at}
use Rattle.lk_place.specs.declared.segments.SegmentLayout.{SegmentLayout}
use Rattle.lk_layout.specs.LayoutRecord.{LayoutRecord}
use Rattle.lk_layout.specs.Layouts.{resolved_entry}
use Rattle.lk_report_maps.specs.ToldLines.{all_parts_say, all_sections_say, each_line, inner_lines, laid_out_says, section_says, section_told, segment_told, told_lines}
use Rattle.lk_report_maps.specs.Laws.{first_segment_line, IsWhole, map_section, map_sections, map_segment, map_segments, ReportsAreRead}
use Rattle.lk_report_maps.proofs.Told.{entry_shaped, goes_on, inner_shaped, last_lines, Shaped, ShapedFrom, text_is}

-- ---- lines of other kinds

-- no line has this place in a map
unfoldable pub Free : ℕ → List Line → Type 0
Free r [] = Unit {0}
Free r (l ∷ ls) = ((rank l.form == r) ≡ false) × Free r ls

differ : (k r : ℕ) → r < k → (k == r) ≡ false
differ k r h = grind (arith, nat_tests)

differ_below : (k r : ℕ) → k < r → (k == r) ≡ false
differ_below k r h = grind (arith, nat_tests)

free_of : (k r : ℕ) (ls : List Line) → (k == r) ≡ false → Shaped k ls → Free r ls
unfolding Free Shaped
free_of k r [] other h = tt
free_of k r (l ∷ ls) other (is, fit, h) = (ap (λ n. n == r) is ∙ other, free_of k r ls other h)

free_both : (r : ℕ) (xs ys : List Line) → Free r xs → Free r ys → Free r (xs ++ ys)
unfolding Free
free_both r [] ys h k = k
free_both r (x ∷ xs) ys (other, h) k = (other, free_both r xs ys h k)

free_from : (k r : ℕ) (bs : List (List Line)) → r < k → ShapedFrom k bs → Free r (flat_map (λ ls. ls) bs)
unfolding Free ShapedFrom
free_from k r [] h s = tt
free_from k r (b ∷ bs) h (here, more) = free_both r b (flat_map (λ ls. ls) bs) (free_of k r b (differ k r h) here) (free_from (suc k) r bs (omega arith) more)

free_last : (r : ℕ) → r < 11 → (link : LinkInput) (layout : LayoutRecord) → Free r (last_lines link layout)
unfolding Free rank row_of
free_last r h link layout =
    (ap (λ n. n == r) (entry_shaped (resolved_entry layout)).0 ∙ differ 11 r h, (differ 12 r (omega arith), tt))

-- ---- sections of lines

sections_free : (n : ℕ) (ls : List Line) → Free 1 ls → sections_of n ls ≡ []
unfolding sections_of section_in Free
sections_free n [] h = refl
sections_free n (l ∷ ls) (other, h) = ap (λ b. (if b then section_at n l.values ∷ [] else []) ++ sections_of (n + 1) ls) other ∙ sections_free (n + 1) ls h

cut_sections : (n : ℕ) (xs rest : List Line) → Free 1 rest → sections_of n (xs ++ rest) ≡ sections_of n xs
unfolding sections_of
cut_sections n [] rest h = sections_free n rest h
cut_sections n (x ∷ xs) rest h = ap (λ t. section_in n x.form x.values ++ t) (cut_sections (n + 1) xs rest h)

segments_free : (n : ℕ) (ls : List Line) → Free 3 ls → segments_of n ls ≡ []
unfolding segments_of segment_in Free
segments_free n [] h = refl
segments_free n (l ∷ ls) (other, h) = ap (λ b. (if b then segment_at n l.values ∷ [] else []) ++ segments_of (n + 1) ls) other ∙ segments_free (n + 1) ls h

cut_segments : (n : ℕ) (xs rest : List Line) → Free 3 rest → segments_of n (xs ++ rest) ≡ segments_of n xs
unfolding segments_of
cut_segments n [] rest h = segments_free n rest h
cut_segments n (x ∷ xs) rest h = ap (λ t. segment_in n x.form x.values ++ t) (cut_segments (n + 1) xs rest h)

skip_segments : (n : ℕ) (xs rest : List Line) → Free 3 xs → segments_of n (xs ++ rest) ≡ segments_of (n + length xs) rest
unfolding segments_of segment_in Free
skip_segments n [] rest h = let same : n ≡ n + 0 = omega arith in ap (λ m. segments_of m rest) same
skip_segments n (x ∷ xs) rest (other, h) =
    let same : n + 1 + length xs ≡ n + suc (length xs) = omega arith in
    ap (λ b. (if b then segment_at n x.values ∷ [] else []) ++ segments_of (n + 1) (xs ++ rest)) other
    ∙ skip_segments (n + 1) xs rest h
    ∙ ap (λ m. segments_of m rest) same

segments_each : (n k : ℕ) (gs : List SegmentLayout) → segments_of (n + k) (map segment_told gs) ≡ map (λ q. map_segment (n + q.0) q.1.sizes) (enumerate_from k gs)
unfolding segments_of segment_in rank row_of
segments_each n k [] = refl
segments_each n k (g ∷ gs) =
    let same : n + k + 1 ≡ n + (k + 1) = omega arith in
    ap (λ m. map_segment (n + k) g.sizes ∷ segments_of m (map segment_told gs)) same
    ∙ ap (λ t. map_segment (n + k) g.sizes ∷ t) (segments_each n (k + 1) gs)

-- ---- the lines of sections

module _ (layout : LayoutRecord) (count : ℕ) (records : length layout.section_layouts ≡ count) (indexes : length layout.output_section_indexes ≡ count) (attributes : length layout.section_attributes ≡ count) where
  -- the line of a section that is there
  section_line_of : ℕ → Line
  section_line_of s = section_told s (record_at layout.section_layouts s) (get_or layout.output_section_indexes s None) (slice_index layout.section_attributes s)

  laid : (s : ℕ) → s < count → laid_out_says layout s ≡ section_line_of s ∷ []
  unfolding section_says section_line_of
  laid s below =
      ap (λ r. section_says s r (slice_get layout.output_section_indexes s) (slice_get layout.section_attributes s)) (slice_get-get_or layout.section_layouts s nowhere (omega arith))
      ∙ ap (λ i. section_says s (Some (record_at layout.section_layouts s)) i (slice_get layout.section_attributes s)) (slice_get-get_or layout.output_section_indexes s None (omega arith))
      ∙ ap (λ a. section_says s (Some (record_at layout.section_layouts s)) (Some (get_or layout.output_section_indexes s None)) a) (slice_get-get_or layout.section_attributes s 0 (omega arith))

  sections_each : (n : ℕ) (xs : List PlanSection) → n + length xs ≤ count → sections_of (n + 2) (each_line (λ s _. laid_out_says layout s) n xs) ≡ map (λ q. map_section layout q.0) (enumerate_from n xs)
  unfolding sections_of section_in rank row_of each_line section_line_of
  sections_each n [] h = refl
  sections_each n (x ∷ xs) h =
      let same : n + 2 + 1 ≡ suc n + 2 = omega arith in
      let next : suc n ≡ n + 1 = omega arith in
      ap (λ ls. sections_of (n + 2) (ls ++ each_line (λ s _. laid_out_says layout s) (suc n) xs)) (laid n (omega arith))
      ∙ ap (λ m. map_section layout n ∷ sections_of m (each_line (λ s _. laid_out_says layout s) (suc n) xs)) same
      ∙ ap (λ t. map_section layout n ∷ t) (sections_each (suc n) xs (omega arith))
      ∙ ap (λ m. map_section layout n ∷ map (λ q. map_section layout q.0) (enumerate_from m xs)) next

  each_length : (n : ℕ) (xs : List PlanSection) → n + length xs ≤ count → length (each_line (λ s _. laid_out_says layout s) n xs) ≡ length xs
  unfolding each_line
  each_length n [] h = refl
  each_length n (x ∷ xs) h =
      ap (λ ls. length (ls ++ each_line (λ s _. laid_out_says layout s) (suc n) xs)) (laid n (omega arith))
      ∙ ap suc (each_length (suc n) xs (omega arith))

-- ---- the report

drop_one : List (List Line) → List (List Line)
drop_one [] = []
drop_one (b ∷ bs) = bs

module _ (link : LinkInput) (layout : LayoutRecord) (whole : IsWhole link layout) where
  -- the lines of sections, of parts and of segments
  abbrev of_sections : List Line
  of_sections = all_sections_say link.plan.sections layout

  abbrev of_parts : List Line
  of_parts = all_parts_say link.plan.sections layout.section_part_layouts

  abbrev of_segments : List Line
  of_segments = map segment_told layout.segment_layouts

  -- those behind them, up to that of the entry
  others : List Line
  others = flat_map (λ ls. ls) (drop_one (drop_one (drop_one (inner_lines link layout))))

  inner_are : flat_map (λ ls. ls) (inner_lines link layout) ≡ of_sections ++ (of_parts ++ (of_segments ++ others))
  unfolding others drop_one
  inner_are = refl

  all_are : flat_map (λ ls. ls) (inner_lines link layout) ++ last_lines link layout ≡ of_sections ++ (of_parts ++ (of_segments ++ (others ++ last_lines link layout)))
  all_are =
      ap (λ ls. ls ++ last_lines link layout) inner_are
      ∙ append_assoc of_sections (of_parts ++ (of_segments ++ others)) (last_lines link layout)
      ∙ ap (λ ls. of_sections ++ ls) (append_assoc of_parts (of_segments ++ others) (last_lines link layout))
      ∙ ap (λ ls. of_sections ++ (of_parts ++ ls)) (append_assoc of_segments others (last_lines link layout))

  behind_free : (r : ℕ) → r < 4 → Free r (others ++ last_lines link layout)
  unfolding others drop_one ShapedFrom
  behind_free r h = free_both r others (last_lines link layout) (free_from 4 r (drop_one (drop_one (drop_one (inner_lines link layout)))) h (inner_shaped link layout).1.1.1) (free_last r (omega arith) link layout)

  sections_first : sections_of 1 (told_lines link layout) ≡ sections_of 2 (flat_map (λ ls. ls) (inner_lines link layout) ++ last_lines link layout)
  unfolding sections_of section_in rank row_of
  sections_first = refl

  segments_first : segments_of 1 (told_lines link layout) ≡ segments_of 2 (flat_map (λ ls. ls) (inner_lines link layout) ++ last_lines link layout)
  unfolding segments_of segment_in rank row_of
  segments_first = refl

  no_sections : Free 1 (of_parts ++ (of_segments ++ (others ++ last_lines link layout)))
  unfolding ShapedFrom
  no_sections =
      let shaped = inner_shaped link layout in
      free_both 1 of_parts (of_segments ++ (others ++ last_lines link layout)) (free_of 2 1 of_parts (differ 2 1 (omega arith)) shaped.1.0)
      (free_both 1 of_segments (others ++ last_lines link layout) (free_of 3 1 of_segments (differ 3 1 (omega arith)) shaped.1.1.0) (behind_free 1 (omega arith)))

  read_sections : sections_of 1 (told_lines link layout) ≡ map_sections link layout
  read_sections =
      sections_first
      ∙ ap (λ ls. sections_of 2 ls) all_are
      ∙ cut_sections 2 of_sections (of_parts ++ (of_segments ++ (others ++ last_lines link layout))) no_sections
      ∙ sections_each layout (length link.plan.sections) whole.records whole.indexes whole.attributes 0 link.plan.sections (omega arith)

  line_is : 2 + length of_sections + length of_parts ≡ first_segment_line link layout + 0
  line_is =
      let same : length of_sections ≡ length link.plan.sections = each_length layout (length link.plan.sections) whole.records whole.indexes whole.attributes 0 link.plan.sections (omega arith) in
      omega (arith, same)

  read_segments : segments_of 1 (told_lines link layout) ≡ map_segments link layout
  unfolding ShapedFrom
  read_segments =
      let shaped = inner_shaped link layout in
      segments_first
      ∙ ap (λ ls. segments_of 2 ls) all_are
      ∙ skip_segments 2 of_sections (of_parts ++ (of_segments ++ (others ++ last_lines link layout))) (free_of 1 3 of_sections (differ_below 1 3 (omega arith)) shaped.0)
      ∙ skip_segments (2 + length of_sections) of_parts (of_segments ++ (others ++ last_lines link layout)) (free_of 2 3 of_parts (differ_below 2 3 (omega arith)) shaped.1.0)
      ∙ cut_segments (2 + length of_sections + length of_parts) of_segments (others ++ last_lines link layout) (behind_free 3 (omega arith))
      ∙ ap (λ n. segments_of n of_segments) line_is
      ∙ segments_each (first_segment_line link layout) 0 layout.segment_layouts

both_are : {x y : List SectionLine} {u v : List SegmentLine} → x ≡ y → u ≡ v → ◌≡◌ {A = List SectionLine × List SegmentLine} (x, u) (y, v)
both_are p q = cc

pub reports_are_read : ReportsAreRead
reports_are_read link layout short whole =
    (told_lines link layout, (goes_on link layout short, text_is link layout), sym (both_are (read_sections link layout whole) (read_segments link layout whole)))
