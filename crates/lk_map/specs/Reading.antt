-- Private: how a text is read, line by line, with the laws that this tells what it says.
use Rattle.std.specs.Prelude.{◌≡◌, ℕ, ◌+◌, ◌==◌, ◌&&◌, ◌↔◌, Bool, false, if◌then◌else◌, List, [], ◌∷◌, ◌++◌, Option, Some, None, Result, Ok, Err, codes, option_map}
use Rattle.std.specs.List.{slice_split}
use Rattle.std.specs.Str.{bytes_eq}
use Rattle.lk_map.specs.declared.forms.Field.{Field}
use Rattle.lk_map.specs.declared.forms.Field.TheVariants as is
use Rattle.lk_map.specs.declared.forms.Form.{Form}
use Rattle.lk_map.specs.declared.forms.Form.TheVariants as form
use Rattle.lk_map.specs.declared.map_text.SectionLine.{SectionLine}
use Rattle.lk_map.specs.declared.map_text.SegmentLine.{SegmentLine}
use Rattle.lk_map.specs.Cutting.{is_byte}
use Rattle.lk_map.specs.Forms.{fields_of, follows, rank, word_text}
use Rattle.lk_map.specs.Lines.{Line}
use Rattle.lk_map.specs.MapText.{sections_of, segments_of}
use Rattle.lk_map.specs.Numbers.{address_in, number_in}
use Rattle.lk_map.specs.Written.{IsFirstWrong, IsMap, parts_of, TextSays}

-- ---- a field

-- one value, or none
abbrev pub value_or_none : (List ℕ → Option ℕ) → List ℕ → Option (List (Option ℕ))
value_or_none read word = if bytes_eq word (codes "-") then Some (None ∷ []) else option_map (λ n. Some n ∷ []) (read word)

-- what a word says in a field: no value in the place of a word, else one; or it doesn't fit
unfoldable pub value_of : Field → List ℕ → Option (List (Option ℕ))
value_of (is.Word w) word = if bytes_eq word (word_text w) then Some [] else None
value_of is.Number word = option_map (λ n. Some n ∷ []) (number_in 10 word)
value_of is.Address word = option_map (λ n. Some n ∷ []) (address_in word)
value_of is.NumberOrNone word = value_or_none (number_in 10) word
value_of is.AddressOrNone word = value_or_none address_in word

-- ---- a line

-- values in front of others, if there are others
abbrev pub behind : List (Option ℕ) → Option (List (Option ℕ)) → Option (List (Option ℕ))
behind values more = option_map (λ vs. values ++ vs) more

-- both values, if both are there
unfoldable pub joined : Option (List (Option ℕ)) → Option (List (Option ℕ)) → Option (List (Option ℕ))
joined None more = None
joined (Some values) more = behind values more

-- what words say in so many fields, each in its own; or they don't fit
unfoldable pub values_of : List Field → List (List ℕ) → Option (List (Option ℕ))
values_of [] [] = Some []
values_of [] (word ∷ words) = None
values_of (field ∷ fields) [] = None
values_of (field ∷ fields) (word ∷ words) = joined (value_of field word) (values_of fields words)

-- the words of a line: blanks part them
abbrev pub words_of : List ℕ → List (List ℕ)
words_of line = slice_split (is_byte 32) line

-- all forms
abbrev pub forms : List Form
forms = form.Layout ∷ form.Section ∷ form.Part ∷ form.Segment ∷ form.Live ∷ form.Single ∷ form.Merged ∷ form.Piece ∷ form.Block ∷ form.Thunk ∷ form.Symbol ∷ form.Entry ∷ form.NotLoaded ∷ form.NotAnAddress ∷ form.End ∷ []

-- a line of this form with these values, or else another
unfoldable pub line_or : Form → Option (List (Option ℕ)) → Option Line → Option Line
line_or f None other = other
line_or f (Some values) other = Some (record { form = f; values = values })

-- what words say as a line of the first of these forms that they fit
unfoldable pub line_among : List Form → List (List ℕ) → Option Line
line_among [] words = None
line_among (f ∷ more) words = line_or f (values_of (fields_of f) words) (line_among more words)

-- what a line says
abbrev pub line_of : List ℕ → Option Line
line_of line = line_among forms (words_of line)

-- ---- a text

-- whether the last line was the end
unfoldable pub is_end : Option Form → Bool
is_end None = false
is_end (Some before) = rank before == 12

-- a line in front of others, if those are a map's
abbrev pub onto : Line → Result (List Line) ℕ → Result (List Line) ℕ
onto line (Ok lines) = Ok (line ∷ lines)
onto line (Err n) = Err n

-- what line n says, and what follows, if it can stand behind one of this form; else it is wrong
unfoldable pub line_then : ℕ → Option Form → Option Line → (Form → Result (List Line) ℕ) → Result (List Line) ℕ
line_then n before None more = Err n
line_then n before (Some line) more = if follows before line.form then onto line (more line.form) else Err n

-- the lines in parts of a text, of which the first is line n and stands behind a line of this form; or the first line that is wrong.
-- Nothing stands behind the last line feed, and nothing behind the end
unfoldable pub lines_from : ℕ → Option Form → List (List ℕ) → Result (List Line) ℕ
lines_from n before [] = Err n
lines_from n before (rest ∷ []) = if bytes_eq rest [] && is_end before then Ok [] else Err n
lines_from n before (text ∷ part ∷ parts) = line_then n before (line_of text) (λ f. lines_from (n + 1) (Some f) (part ∷ parts))

-- the lines of a map, or the first line, counted from 1, where no map goes on
abbrev pub map_lines : List ℕ → Result (List Line) ℕ
map_lines text = lines_from 1 None (parts_of text)

-- the sections and segments of a map, if it is one
unfoldable pub told_map : Result (List Line) ℕ → Result (List SectionLine × List SegmentLine) ℕ
told_map (Ok lines) = Ok (sections_of 1 lines, segments_of 1 lines)
told_map (Err n) = Err n

-- the sections and segments of a map, or the first line where no map goes on
abbrev pub map_of : List ℕ → Result (List SectionLine × List SegmentLine) ℕ
map_of text = told_map (map_lines text)

-- ---- the laws

-- a text is read as these lines exactly where it is the map of them
abbrev pub ReadsMaps : Type 0
ReadsMaps = (text : List ℕ) (lines : List Line) → (map_lines text ≡ Ok lines) ↔ IsMap text lines

-- what is refused is refused at the first line at which no map goes on
abbrev pub RefusesFirst : Type 0
RefusesFirst = (text : List ℕ) (line : ℕ) → map_lines text ≡ Err line → IsFirstWrong text line

-- what is read of a text is what it says, and no text says anything else
abbrev pub TextsAreRead : Type 0
TextsAreRead = (text : List ℕ) (said : Result (List SectionLine × List SegmentLine) ℕ) → (map_of text ≡ said) ↔ TextSays text said
