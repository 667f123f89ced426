-- A line that is read where it stands, among the lines of a map.
use Rattle.std.proofs.Common.{◌≡◌, ◌≢◌, ℕ, ◌+◌, ◌<◌, true, List, [], ◌∷◌, ◌++◌, Option, Some, None, Result, length, refl, sym, ap, ◌∙◌, arith}
use Rattle.std.specs.Prelude.{IfSome}
use Rattle.std.specs.Borrow.{Bor}
use Rattle.std.proofs.lemmas.Bool.{false≢true}
use Rattle.std.proofs.lemmas.List.{length-append}
use Rattle.std.proofs.lemmas.List.Splits.{slice_split_at}
use Rattle.lk_map.specs.declared.forms.Form.{Form}
use Rattle.lk_map.specs.declared.forms.Form.TheVariants as form
use Rattle.lk_map.specs.declared.map_text.SectionLine.{SectionLine}
use Rattle.lk_map.specs.declared.map_text.SegmentLine.{SegmentLine}
use Rattle.lk_map.specs.Ahead.{SaysSome, Tells}
use Rattle.lk_map.specs.Cutting.{is_byte}
use Rattle.lk_map.specs.Forms.{fields_of, follows, rank, row_of}
use Rattle.lk_map.specs.MapText.{section_told, segment_told}
use Rattle.lk_map.specs.Reading.{lines_from, words_of}
use Rattle.lk_map.specs.Written.{parts_of}
use Rattle.lk_map.proofs.Reading.{reading_more, told_by}
use Rattle.lk_map.proofs.Spelled.{form_first}

-- no form but these is one of which more than one line can stand
pub stands_once : (f : Form) → (f ≢ form.Part) × (f ≢ form.Live) × (f ≢ form.Single) × (f ≢ form.Merged) × (f ≢ form.Piece) × (f ≢ form.Block) × (f ≢ form.Thunk) × (f ≢ form.Symbol) × (f ≢ form.Section) × (f ≢ form.Segment)
    → follows (Some f) f ≡ true → ⊥
unfolding follows rank row_of
stands_once form.Layout apart can = false≢true can
stands_once form.Section apart can = apart.8 refl
stands_once form.Part apart can = apart.0 refl
stands_once form.Segment apart can = apart.9 refl
stands_once form.Live apart can = apart.1 refl
stands_once form.Single apart can = apart.2 refl
stands_once form.Merged apart can = apart.3 refl
stands_once form.Piece apart can = apart.4 refl
stands_once form.Block apart can = apart.5 refl
stands_once form.Thunk apart can = apart.6 refl
stands_once form.Symbol apart can = apart.7 refl
stands_once form.Entry apart can = false≢true can
stands_once form.NotLoaded apart can = false≢true can
stands_once form.NotAnAddress apart can = false≢true can
stands_once form.End apart can = false≢true can

-- a line of which nothing is kept
pub tells_other : (n : ℕ) (form : Form) (text : List ℕ) (o : Option (Bor (List ℕ))) →
    ((values : List (Option ℕ)) → section_told n form values ≡ []) → ((values : List (Option ℕ)) → segment_told n form values ≡ []) → follows (Some form) form ≡ true →
    IfSome o (λ rest. SaysSome (fields_of form) text rest.now) → IfSome o (λ rest. Tells n form text rest.now [] [])
tells_other n form text None no_section no_segment can says = says
tells_other n form text (Some rest) no_section no_segment can (values, says) = (values, says, no_section values, no_segment values, can)

module _ (n : ℕ) (form : Form) (text rest : List ℕ) (sections : List SectionLine) (segments : List SegmentLine) (tells : Tells n form text rest sections segments) where
  pub less_behind : length rest < length text
  less_behind =
      let (values, (line, parts, clear, says), of_section, of_segment, can) = tells in
      let whole : length text ≡ length line + length (10 ∷ rest) = ap length parts ∙ length-append line (10 ∷ rest) in
      omega (arith, whole)

  -- the line is told, and what stands behind it is left
  pub reading_alike : (ss : List SectionLine) (gs : List SegmentLine) (before : Option Form) (whole : Result (List SectionLine × List SegmentLine) ℕ) → before ≡ Some form →
      told_by ss gs n (lines_from n before (parts_of text)) ≡ whole → told_by (ss ++ sections) (gs ++ segments) (n + 1) (lines_from (n + 1) before (parts_of rest)) ≡ whole
  reading_alike ss gs before whole is so =
      let (values, (line, parts, clear, says), of_section, of_segment, can) = tells in
      let at : parts_of text ≡ line ∷ parts_of rest = ap parts_of parts ∙ slice_split_at (is_byte 10) line 10 rest clear refl in
      let here : told_by ss gs n (lines_from n (Some form) (line ∷ parts_of rest)) ≡ whole =
      ap (λ b. told_by ss gs n (lines_from n b (line ∷ parts_of rest))) (sym is) ∙ ap (λ ps. told_by ss gs n (lines_from n before ps)) (sym at) ∙ so in
      ap (λ b. told_by (ss ++ sections) (gs ++ segments) (n + 1) (lines_from (n + 1) b (parts_of rest))) is
      ∙ ap (λ xs. told_by (ss ++ xs) (gs ++ segments) (n + 1) (lines_from (n + 1) (Some form) (parts_of rest))) (sym of_section)
      ∙ ap (λ xs. told_by (ss ++ section_told n form values) (gs ++ xs) (n + 1) (lines_from (n + 1) (Some form) (parts_of rest))) (sym of_segment)
      ∙ reading_more ss gs n (Some form) line whole rest form values (form_first form (fields_of form) (words_of line) values refl (sym says)) (sym can) here
