-- How a map is written, and what a text says: the map that it is, or the first line at which no map goes on.
use Rattle.std.specs.Prelude.{◌≡◌, ℕ, ◌+◌, ◌^◌, ◌<◌, ◌≤◌, ◌==◌, true, false, List, [], ◌∷◌, ◌++◌, Option, Some, None, Result, Ok, Err, codes, length, take, map}
use Rattle.std.specs.Fmt.{decimal, digits}
use Rattle.std.specs.List.{flat_map, join_with_byte, slice_split}
use Rattle.lk_map.specs.declared.forms.Field.{Field}
use Rattle.lk_map.specs.declared.forms.Field.TheVariants as is
use Rattle.lk_map.specs.declared.forms.Form.{Form}
use Rattle.lk_map.specs.declared.forms.Form.TheVariants as form
use Rattle.lk_map.specs.declared.map_text.SectionLine.{SectionLine}
use Rattle.lk_map.specs.declared.map_text.SegmentLine.{SegmentLine}
use Rattle.lk_map.specs.declared.map_text.MapText.{MapText}
use Rattle.lk_map.specs.declared.map_text.MapError.{MapError}
use Rattle.lk_map.specs.declared.map_text.MapError.TheVariants.{NotMap, NoMemory}
use Rattle.lk_map.specs.Forms.{fields_of, follows, word_text}
use Rattle.lk_map.specs.Lines.{Line}
use Rattle.lk_map.specs.MapText.{sections_of, segments_of}

-- ---- how a line is written

-- an address: behind `0x`, in base 16
abbrev pub address_text : ℕ → List ℕ
address_text n = codes "0x" ++ digits 16 false n

-- a value as it is written in a field that has one
unfoldable pub value_text : Field → Option ℕ → List ℕ
value_text field None = codes "-"
value_text is.Address (Some n) = address_text n
value_text is.AddressOrNone (Some n) = address_text n
value_text field (Some n) = decimal n

-- the words of a line with these fields and these values, in their order
unfoldable pub words_for : List Field → List (Option ℕ) → List (List ℕ)
words_for [] values = []
words_for (is.Word w ∷ fields) values = word_text w ∷ words_for fields values
words_for (field ∷ fields) [] = []
words_for (field ∷ fields) (value ∷ values) = value_text field value ∷ words_for fields values

-- a line as it is written: its words, with a blank between each two
abbrev pub line_text : Line → List ℕ
line_text line = join_with_byte 32 (words_for (fields_of line.form) line.values)

-- ---- which values a line can have

-- whether a value can stand in a field: a number of 64 bits, or none where `-` may stand
unfoldable pub CanStand : Field → Option ℕ → Type 0
CanStand (is.Word w) value = ⊥
CanStand is.Number None = ⊥
CanStand is.Address None = ⊥
CanStand field None = Unit {0}
CanStand field (Some n) = n < 2 ^ 64

-- whether values can stand in fields, each in its own; words have none
unfoldable pub StandAt : List Field → List (Option ℕ) → Type 0
StandAt [] [] = Unit {0}
StandAt [] (value ∷ values) = ⊥
StandAt (is.Word w ∷ fields) values = StandAt fields values
StandAt (field ∷ fields) [] = ⊥
StandAt (field ∷ fields) (value ∷ values) = CanStand field value × StandAt fields values

-- ---- maps

-- lines go on a map behind a line of this form, up to its end: each can stand behind the one before it, and has the values of its form
unfoldable pub GoOn : Option Form → List Line → Type 0
GoOn before [] = before ≡ Some form.End
GoOn before (line ∷ lines) = (follows before line.form ≡ true) × StandAt (fields_of line.form) line.values × GoOn (Some line.form) lines

-- a text is the map of these lines: they are a map's, and the text is what is written of them, each ended by a line feed
abbrev pub IsMap : List ℕ → List Line → Type 0
IsMap text lines = GoOn None lines × (text ≡ flat_map (λ line. line_text line ++ 10 ∷ []) lines)

-- the parts of a text: line feeds part them
abbrev pub parts_of : List ℕ → List (List ℕ)
parts_of text = slice_split (λ byte. byte == 10) text

-- a line is the first at which no map goes on: it is there, or it is what is missing behind the last line feed; the lines before it begin a map; no map begins with
-- these and with it, if it has its line feed; and the text is no map
pub record IsFirstWrong (text : List ℕ) (line : ℕ) : Type 0 where
  pub within : line ≤ length (parts_of text)
  pub before : (n : ℕ) × (line ≡ n + 1) × (lines : List Line) × GoOn None lines × (take n (parts_of text) ≡ take n (map line_text lines))
  pub wrong : (lines : List Line) → GoOn None lines → line < length (parts_of text) → take line (parts_of text) ≡ take line (map line_text lines) → ⊥
  pub other : (lines : List Line) → IsMap text lines → ⊥

-- ---- what a text says

-- the sections and segments of the map that it is; or the first line, counted from 1, at which no map goes on
abbrev pub TextSays : List ℕ → Result (List SectionLine × List SegmentLine) ℕ → Type 0
TextSays text (Ok told) = (lines : List Line) × IsMap text lines × (told ≡ (sections_of 1 lines, segments_of 1 lines))
TextSays text (Err line) = IsFirstWrong text line

-- what was read is what the text says; nothing is said of a want of memory
abbrev pub Gives : Result MapText MapError → List ℕ → Type 0
Gives (Ok read) text = TextSays text (Ok (read.sections.items, read.segments.items))
Gives (Err (NotMap line)) text = TextSays text (Err line)
Gives (Err NoMemory) text = Unit {0}

-- each text says something, and no text says two things
pub record TextsSayOneThing : Type 0 where
  pub one : (text : List ℕ) (said other : Result (List SectionLine × List SegmentLine) ℕ) → TextSays text said → TextSays text other → said ≡ other
  pub some : (text : List ℕ) → (said : Result (List SectionLine × List SegmentLine) ℕ) × TextSays text said
