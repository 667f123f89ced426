-- Private: a text's first words and its first line, read where they stand.
use Rattle.std.specs.Prelude.{◌≡◌, ℕ, ◌<◌, ◌≤◌, true, false, List, ◌∷◌, ◌++◌, Option, Some, None, length}
use Rattle.std.specs.List.{All}
use Rattle.lk_map.specs.declared.forms.Field.{Field}
use Rattle.lk_map.specs.declared.forms.Form.{Form}
use Rattle.lk_map.specs.declared.map_text.SectionLine.{SectionLine}
use Rattle.lk_map.specs.declared.map_text.SegmentLine.{SegmentLine}
use Rattle.lk_map.specs.Cutting.{is_byte}
use Rattle.lk_map.specs.Forms.{fields_of, follows}
use Rattle.lk_map.specs.MapText.{section_told, segment_told}
use Rattle.lk_map.specs.Reading.{values_of, words_of}

-- a text begins with a word that says this, and behind it stand this byte and the rest; no byte of the word is a blank or below, as a line feed is
abbrev pub Begins : ℕ → List ℕ → List ℕ → (List ℕ → Type 0) → Type 0
Begins stop text rest says = (word : List ℕ) × (text ≡ word ++ stop ∷ rest) × All (λ x. 32 < x) word × says word

-- a text's first line has these values in these fields, and behind its line feed stands the rest
abbrev pub Says : List Field → List ℕ → List (Option ℕ) → List ℕ → Type 0
Says fields text values rest =
    (line : List ℕ) × (text ≡ line ++ 10 ∷ rest) × All (λ x. is_byte 10 x ≡ false) line × (values_of fields (words_of line) ≡ Some values)

-- a line that begins with a text has these values in its first fields, where its other fields are read in the rest
abbrev pub Opens : List Field → List ℕ → List (Option ℕ) → List ℕ → Type 0
Opens fields text values rest =
    (more : List Field) (others : List (Option ℕ)) (end : List ℕ) → Says more rest others end → Says (fields ++ more) text (values ++ others) end

-- a text's first line has some values in these fields
abbrev pub SaysSome : List Field → List ℕ → List ℕ → Type 0
SaysSome fields text rest = (values : List (Option ℕ)) × Says fields text values rest

-- what is told of a text's first line, as line n, which has this form: its section or its segment, if it is one's. Behind it the rest stands, where another of the form can
abbrev pub Tells : ℕ → Form → List ℕ → List ℕ → List SectionLine → List SegmentLine → Type 0
Tells n form text rest sections segments =
    (values : List (Option ℕ)) × Says (fields_of form) text values rest × (section_told n form values ≡ sections) × (segment_told n form values ≡ segments) × (follows (Some form) form ≡ true)

-- ---- what isn't there

-- a text begins with no word that is read so, with this byte behind it, if the word has at most so many bytes
abbrev pub BeginsNot : ℕ → ℕ → List ℕ → (List ℕ → Option ℕ) → Type 0
BeginsNot most stop text read = (word rest : List ℕ) → text ≡ word ++ stop ∷ rest → length word ≤ most → read word ≡ None

-- a text begins with no line of these fields, if each of the line's words has at most 19 bytes, as all have but decimals of 20 digits
abbrev pub SaysNot : List Field → List ℕ → Type 0
SaysNot fields text = (line rest : List ℕ) → text ≡ line ++ 10 ∷ rest → All (λ word. length word ≤ 19) (words_of line) → values_of fields (words_of line) ≡ None

-- nor with one of these fields and others behind them
abbrev pub OpensNot : List Field → List ℕ → Type 0
OpensNot fields text = (next : Field) (more : List Field) → SaysNot (fields ++ next ∷ more) text

-- unless the rest begins with those others
abbrev pub OpensOnly : List Field → List ℕ → List ℕ → Type 0
OpensOnly fields text rest = (next : Field) (more : List Field) → SaysNot (next ∷ more) rest → SaysNot (fields ++ next ∷ more) text
