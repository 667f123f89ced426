-- A map, line by line.
use Rattle.std.proofs.Common.{◌≡◌, ℕ, zero, suc, ◌+◌, ◌<◌, ◌≤◌, Bool, true, false, cond, List, [], ◌∷◌, ◌++◌, Option, Some, None, Result, Ok, Err, length, get_or, refl, sym, ap, ◌∙◌, subst, arith}
use Rattle.std.specs.Prelude.{◌&&◌, ◌==◌, if◌then◌else◌}
use Rattle.std.specs.List.{slice_split, onto_first, All}
use Rattle.std.specs.Str.{bytes_eq}
use Rattle.std.proofs.lemmas.List.{append-nil, append_assoc}
use Rattle.std.proofs.lemmas.List.Elements.{All-append, All-cons, All-nil, All-weaker}
use Rattle.std.proofs.lemmas.Bool.Decides.{nat_tests}
use Rattle.lk_map.specs.declared.forms.Form.{Form}
use Rattle.lk_map.specs.declared.map_text.SectionLine.{SectionLine}
use Rattle.lk_map.specs.declared.map_text.SegmentLine.{SegmentLine}
use Rattle.lk_map.specs.Cutting.{is_byte}
use Rattle.lk_map.specs.Forms.{follows, rank}
use Rattle.lk_map.specs.Lines.{Line}
use Rattle.lk_map.specs.MapText.{LinesRise, section_at, section_told, sections_of, segment_told, segments_of}
use Rattle.lk_map.specs.Reading.{is_end, line_of, line_then, lines_from, map_lines, map_of, onto, told_map}
use Rattle.lk_map.specs.Verdicts.{MapsRise}
use Rattle.lk_map.specs.Written.{parts_of}

-- what is told once these were told, and lines follow of which the first is line n
unfoldable pub told_by : List SectionLine → List SegmentLine → ℕ → Result (List Line) ℕ → Result (List SectionLine × List SegmentLine) ℕ
told_by ss gs n (Ok lines) = Ok (ss ++ sections_of n lines, gs ++ segments_of n lines)
told_by ss gs n (Err line) = Err line

told_first : (r : Result (List Line) ℕ) → told_by [] [] 1 r ≡ told_map r
unfolding told_by told_map
told_first (Ok lines) = refl
told_first (Err n) = refl

pub reading_first : (text : List ℕ) → told_by [] [] 1 (lines_from 1 None (parts_of text)) ≡ map_of text
reading_first text = told_first (map_lines text)

pairs : {x y : List SectionLine} {u v : List SegmentLine} → x ≡ y → u ≡ v → ◌≡◌ {A = List SectionLine × List SegmentLine} (x, u) (y, v)
pairs p q = cc

told_onto : (ss : List SectionLine) (gs : List SegmentLine) (n : ℕ) (l : Line) (r : Result (List Line) ℕ) →
    told_by ss gs n (onto l r) ≡ told_by (ss ++ section_told n l.form l.values) (gs ++ segment_told n l.form l.values) (n + 1) r
unfolding told_by sections_of segments_of
told_onto ss gs n l (Ok ls) =
    ap Ok (pairs (sym (append_assoc ss (section_told n l.form l.values) (sections_of (n + 1) ls))) (sym (append_assoc gs (segment_told n l.form l.values) (segments_of (n + 1) ls))))
told_onto ss gs n l (Err e) = refl

-- a text has a part
pub first_part : (p : ℕ → Bool) (xs : List ℕ) → (part : List ℕ) × (parts : List (List ℕ)) × (slice_split p xs ≡ part ∷ parts)
first_part p [] = ([], [], refl)
first_part p (x ∷ xs) =
    let (part, parts, is) = first_part p xs in
    elim (p x) as (λ b. (first : List ℕ) × (more : List (List ℕ)) × (cond b ([] ∷ slice_split p xs) (onto_first x (slice_split p xs)) ≡ first ∷ more)) [
      | true ↦ ([], slice_split p xs, refl)
      | false ↦ (x ∷ part, parts, ap (onto_first x) is)
    ]

module _ (n : ℕ) (before : Option Form) where
  -- a line with a line feed
  pub lines_more : (here behind : List ℕ) → lines_from n before (here ∷ parts_of behind) ≡ line_then n before (line_of here) (λ form. lines_from (n + 1) (Some form) (parts_of behind))
  unfolding lines_from
  lines_more here behind =
      let (part, parts, is) = first_part (is_byte 10) behind in
      subst (λ ps. lines_from n before (here ∷ ps) ≡ line_then n before (line_of here) (λ form. lines_from (n + 1) (Some form) ps)) (sym is) refl

  then_on : (l : Line) (more : Form → Result (List Line) ℕ) → true ≡ follows before l.form → line_then n before (Some l) more ≡ onto l (more l.form)
  unfolding line_then
  then_on l more can = ap (λ b. if b then onto l (more l.form) else Err n) (sym can)

  then_not : (l : Line) (more : Form → Result (List Line) ℕ) → false ≡ follows before l.form → line_then n before (Some l) more ≡ Err n
  unfolding line_then
  then_not l more cannot = ap (λ b. if b then onto l (more l.form) else Err n) (sym cannot)

module _ (ss : List SectionLine) (gs : List SegmentLine) (n : ℕ) (before : Option Form) (here : List ℕ) (whole : Result (List SectionLine × List SegmentLine) ℕ) where
  -- a line that can stand here
  pub reading_more : (behind : List ℕ) (form : Form) (values : List (Option ℕ)) → Some (record { form = form; values = values }) ≡ line_of here → true ≡ follows before form →
      told_by ss gs n (lines_from n before (here ∷ parts_of behind)) ≡ whole →
      told_by (ss ++ section_told n form values) (gs ++ segment_told n form values) (n + 1) (lines_from (n + 1) (Some form) (parts_of behind)) ≡ whole
  reading_more behind form values says can so =
      let line : Line = record { form = form; values = values } in
      let more : Form → Result (List Line) ℕ = λ f. lines_from (n + 1) (Some f) (parts_of behind) in
      sym (told_onto ss gs n line (more form))
      ∙ ap (told_by ss gs n) (sym (lines_more n before here behind ∙ ap (λ o. line_then n before o more) (sym says) ∙ then_on n before line more can))
      ∙ so

  -- one that says nothing
  pub reading_unread : (behind : List ℕ) → None ≡ line_of here → told_by ss gs n (lines_from n before (here ∷ parts_of behind)) ≡ whole → whole ≡ Err n
  unfolding told_by line_then
  reading_unread behind says so =
      let more : Form → Result (List Line) ℕ = λ f. lines_from (n + 1) (Some f) (parts_of behind) in
      sym so ∙ ap (told_by ss gs n) (lines_more n before here behind ∙ ap (λ o. line_then n before o more) (sym says))

  -- one of a kind that can't stand here
  pub reading_misplaced : (behind : List ℕ) (form : Form) (values : List (Option ℕ)) → Some (record { form = form; values = values }) ≡ line_of here → false ≡ follows before form →
      told_by ss gs n (lines_from n before (here ∷ parts_of behind)) ≡ whole → whole ≡ Err n
  unfolding told_by
  reading_misplaced behind form values says cannot so =
      let line : Line = record { form = form; values = values } in
      let more : Form → Result (List Line) ℕ = λ f. lines_from (n + 1) (Some f) (parts_of behind) in
      sym so ∙ ap (told_by ss gs n) (lines_more n before here behind ∙ ap (λ o. line_then n before o more) (sym says) ∙ then_not n before line more cannot)

  -- nothing behind the last line feed
  pub reading_ends : told_by ss gs n (lines_from n before (here ∷ [])) ≡ whole → (bytes_eq here [] && is_end before) ≡ true → whole ≡ Ok (ss, gs)
  unfolding lines_from told_by sections_of segments_of
  reading_ends so last =
      sym so
      ∙ ap (λ b. told_by ss gs n (if b then Ok [] else Err n)) last
      ∙ ap Ok (pairs (append-nil ss) (append-nil gs))

  -- something behind it, or no end before it
  pub reading_breaks : told_by ss gs n (lines_from n before (here ∷ [])) ≡ whole → (bytes_eq here [] && is_end before) ≡ false → whole ≡ Err n
  unfolding lines_from told_by
  reading_breaks so not_last = sym so ∙ ap (λ b. told_by ss gs n (if b then Ok [] else Err n)) not_last

-- ---- section lines rise

lines_high : (n : ℕ) (ls : List Line) → All (λ s. n ≤ s.line) (sections_of n ls)
unfolding sections_of section_told
lines_high n [] = All-nil (λ s. n ≤ s.line)
lines_high n (l ∷ ls) =
    All-append (λ s. n ≤ s.line) (section_told n l.form l.values) (sections_of (n + 1) ls)
    (elim (rank l.form == 1) as (λ b. All (λ s. n ≤ s.line) (if b then section_at n l.values ∷ [] else [])) [
      | true ↦ All-cons (λ s. n ≤ s.line) (section_at n l.values) [] (omega arith) (All-nil (λ s. n ≤ s.line))
      | false ↦ All-nil (λ s. n ≤ s.line)
    ])
    (All-weaker (λ s. n + 1 ≤ s.line) (λ s. n ≤ s.line) (λ s h. omega arith) (sections_of (n + 1) ls) (lines_high (n + 1) ls))

rise_cons : (s : SectionLine) (ss : List SectionLine) → All (λ t. s.line < t.line) ss → LinesRise ss → (i j : ℕ) (d : SectionLine) → i < j → j < length (s ∷ ss) → (get_or (s ∷ ss) i d).line < (get_or (s ∷ ss) j d).line
rise_cons s ss above rise zero zero d h k = absurd (omega arith)
rise_cons s ss above rise zero (suc j) d h k = above j d (omega arith)
rise_cons s ss above rise (suc i) zero d h k = absurd (omega arith)
rise_cons s ss above rise (suc i) (suc j) d h k = rise i j d (omega arith) (omega arith)

lines_rise : (n : ℕ) (ls : List Line) → LinesRise (sections_of n ls)
unfolding sections_of section_told
lines_rise n [] = λ i j d h k. absurd (omega arith)
lines_rise n (l ∷ ls) =
    elim (rank l.form == 1) as (λ b. LinesRise ((if b then section_at n l.values ∷ [] else []) ++ sections_of (n + 1) ls)) [
      | true ↦ rise_cons (section_at n l.values) (sections_of (n + 1) ls) (All-weaker (λ s. n + 1 ≤ s.line) (λ s. n < s.line) (λ s h. omega arith) (sections_of (n + 1) ls) (lines_high (n + 1) ls)) (lines_rise (n + 1) ls)
      | false ↦ lines_rise (n + 1) ls
    ]

sections_in : Result (List SectionLine × List SegmentLine) ℕ → List SectionLine
sections_in (Ok map) = map.0
sections_in (Err n) = []

told_rise : (ss : List SectionLine) (gs : List SegmentLine) (r : Result (List Line) ℕ) → told_map r ≡ Ok (ss, gs) → LinesRise ss
unfolding told_map sections_in
told_rise ss gs (Ok ls) is = let same : sections_of 1 ls ≡ ss = ap sections_in is in subst LinesRise same (lines_rise 1 ls)
told_rise ss gs (Err n) is = cc

-- what is read of a map has its section lines in rising order
pub map_rises : (text : List ℕ) (ss : List SectionLine) (gs : List SegmentLine) → map_of text ≡ Ok (ss, gs) → LinesRise ss
map_rises text ss gs is = told_rise ss gs (map_lines text) is

-- and so has what a map says
pub maps_rise : MapsRise
maps_rise text ss gs (lines, is, same) = subst LinesRise (ap (λ (told : List SectionLine × List SegmentLine). told.0) (sym same)) (lines_rise 1 lines)

pub is_empty_text : (xs : List ℕ) → bytes_eq xs [] ≡ (length xs == 0)
is_empty_text [] = refl
is_empty_text (x ∷ xs) = grind (arith, nat_tests)

pub and_both : {a b : Bool} → a ≡ true → b ≡ true → (a && b) ≡ true
and_both p q = rw (p, q) refl

pub and_left : {a : Bool} (b : Bool) → a ≡ false → (a && b) ≡ false
and_left b p = rw p refl

pub and_right : (a : Bool) {b : Bool} → b ≡ false → (a && b) ≡ false
and_right true q = q
and_right false q = refl
