-- The forms of a map's lines: the one table by which a line is written and read, and in which order lines stand.
use Rattle.std.specs.Prelude.{ℕ, ◌==◌, ◌&&◌, nat_le, nat_lt, Bool, if◌then◌else◌, List, [], ◌∷◌, Option, Some, None, codes}
use Rattle.lk_map.specs.declared.forms.Word.{Word}
use Rattle.lk_map.specs.declared.forms.Word.TheVariants as word
use Rattle.lk_map.specs.declared.forms.Field.{Field}
use Rattle.lk_map.specs.declared.forms.Field.TheVariants as is
use Rattle.lk_map.specs.declared.forms.Form.{Form}
use Rattle.lk_map.specs.declared.forms.Form.TheVariants as form

-- a word as it is written
unfoldable pub word_text : Word → List ℕ
word_text word.Layout = codes "layout"
word_text word.Section = codes "section"
word_text word.Index = codes "index"
word_text word.Mem = codes "mem"
word_text word.File = codes "file"
word_text word.Align = codes "align"
word_text word.Lma = codes "lma"
word_text word.Attrs = codes "attrs"
word_text word.Part = codes "part"
word_text word.Segment = codes "segment"
word_text word.Live = codes "live"
word_text word.Single = codes "single"
word_text word.Merged = codes "merged"
word_text word.Piece = codes "piece"
word_text word.Block = codes "block"
word_text word.Thunk = codes "thunk"
word_text word.Symbol = codes "symbol"
word_text word.Got = codes "got"
word_text word.Plt = codes "plt"
word_text word.Dyn = codes "dyn"
word_text word.Entry = codes "entry"
word_text word.Not = codes "not"
word_text word.Loaded = codes "loaded"
word_text word.An = codes "an"
word_text word.Address = codes "address"
word_text word.End = codes "end"

-- a form's row: the place of its lines among all lines of a map, and the fields of such a line, in their order
unfoldable pub row_of : Form → ℕ × List Field
row_of form.Layout = (0, is.Word word.Layout ∷ [])
row_of form.Section = (1, is.Word word.Section ∷ is.Number ∷ is.Word word.Index ∷ is.NumberOrNone ∷ is.Word word.Mem ∷ is.Address ∷ is.Number ∷ is.Word word.File ∷ is.Address ∷ is.Number ∷ is.Word word.Align ∷ is.Number ∷ is.Word word.Lma ∷ is.Address ∷ is.Word word.Attrs ∷ is.Number ∷ [])
row_of form.Part = (2, is.Word word.Part ∷ is.Number ∷ is.Word word.Mem ∷ is.Address ∷ is.Number ∷ is.Word word.File ∷ is.Address ∷ is.Number ∷ is.Word word.Align ∷ is.Number ∷ [])
row_of form.Segment = (3, is.Word word.Segment ∷ is.Number ∷ is.Word word.Mem ∷ is.Address ∷ is.Number ∷ is.Word word.File ∷ is.Address ∷ is.Number ∷ is.Word word.Align ∷ is.Number ∷ [])
row_of form.Live = (4, is.Word word.Live ∷ is.Number ∷ is.Number ∷ is.Number ∷ is.Address ∷ is.Number ∷ [])
row_of form.Single = (5, is.Word word.Single ∷ is.Number ∷ is.Number ∷ is.Number ∷ is.Number ∷ [])
row_of form.Merged = (6, is.Word word.Merged ∷ is.Number ∷ is.Number ∷ is.Number ∷ is.Number ∷ is.Number ∷ is.Address ∷ [])
row_of form.Piece = (7, is.Word word.Piece ∷ is.Number ∷ is.Address ∷ is.Number ∷ [])
row_of form.Block = (8, is.Word word.Block ∷ is.Number ∷ is.Number ∷ is.Number ∷ [])
row_of form.Thunk = (9, is.Word word.Thunk ∷ is.Number ∷ is.Number ∷ is.AddressOrNone ∷ [])
row_of form.Symbol = (10, is.Word word.Symbol ∷ is.Number ∷ is.Address ∷ is.Number ∷ is.Word word.Got ∷ is.AddressOrNone ∷ is.Word word.Plt ∷ is.AddressOrNone ∷ is.Word word.Dyn ∷ is.NumberOrNone ∷ [])
row_of form.Entry = (11, is.Word word.Entry ∷ is.AddressOrNone ∷ [])
row_of form.NotLoaded = (11, is.Word word.Entry ∷ is.Word word.Not ∷ is.Word word.Loaded ∷ [])
row_of form.NotAnAddress = (11, is.Word word.Entry ∷ is.Word word.Not ∷ is.Word word.An ∷ is.Word word.Address ∷ [])
row_of form.End = (12, is.Word word.End ∷ [])

-- the place of a form's lines
unfoldable pub rank : Form → ℕ
rank f = (row_of f).0

-- the fields of a form's lines
unfoldable pub fields_of : Form → List Field
fields_of f = (row_of f).1

-- whether a line of this form can stand behind one of the other form, or be the first. Behind the entry stands the end; behind any other line
-- one that stands no earlier, but neither the first line nor the end
unfoldable pub follows : Option Form → Form → Bool
follows None f = rank f == 0
follows (Some before) f = if rank before == 11 then rank f == 12 else nat_le (rank before) (rank f) && (nat_lt 0 (rank f) && nat_lt (rank f) 12)
