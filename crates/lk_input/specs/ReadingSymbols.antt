-- What is read of a symbol, in the order of its fields.
use Rattle.std.specs.Prelude.{ℕ, List, [], ◌∷◌, Result, Ok, false}
use Rattle.serde_json.specs.Data.{Data}
use Rattle.lk_link.specs.declared.symbol.SymbolLoc.{SymbolLoc}
use Rattle.lk_link.specs.declared.symbol.SymbolLoc.TheVariants as loc
use Rattle.lk_link.specs.declared.symbol.SymbolPlacement.{SymbolPlacement}
use Rattle.lk_link.specs.declared.symbol.SymbolPlacement.TheVariants as placed
use Rattle.lk_link.specs.declared.symbol.InputSymbol.{InputSymbol}
use Rattle.lk_input.specs.declared.read.symbol.LocForm.{LocForm}
use Rattle.lk_input.specs.declared.read.symbol.LocForm.TheVariants as loc_form
use Rattle.lk_input.specs.declared.read.symbol.PlacementForm.{PlacementForm}
use Rattle.lk_input.specs.declared.read.symbol.PlacementForm.TheVariants as form
use Rattle.lk_input.specs.ReadingSteps.{Path, ◌>>=◌, number_of, index_of, truth_of, text_of, one_of, object, required, defaulted, optional, fixed_list, element, at_most, alone, single, double, written}
use Rattle.lk_input.specs.ReadingExpressions.{expression_of}

-- ---- the location counter

-- what its place can begin with
abbrev pub locs : List (List ℕ × LocForm)
locs = (written "none", loc_form.None) ∷ (written "start", loc_form.Start) ∷ (written "end", loc_form.End) ∷ (written "counter", loc_form.Counter) ∷ []

-- `["none"]`, `["start", section]`, `["end", section]`, `["counter", n]`
unfoldable pub loc_in : LocForm → Data → Result SymbolLoc Path
loc_in loc_form.None d = alone loc.None d
loc_in loc_form.Start d = single index_of d >>= λ i. Ok (loc.SectionStart i)
loc_in loc_form.End d = single index_of d >>= λ i. Ok (loc.SectionEnd i)
loc_in loc_form.Counter d = single index_of d >>= λ i. Ok (loc.Counter i)

-- where the location counter stands
unfoldable pub symbol_loc_of : Data → Result SymbolLoc Path
symbol_loc_of d = do
  _ ← fixed_list d
  f ← element (one_of locs) 0 d
  loc_in f d

-- ---- placements

-- what one can begin with, in a file of any kind
abbrev pub placements : List (List ℕ × PlacementForm)
placements =
    (written "sec", form.Section) ∷ (written "common", form.Common) ∷ (written "abs", form.Absolute) ∷ (written "undef", form.Undef) ∷
    (written "dyn", form.Dynamic) ∷ (written "undefined", form.Undefined) ∷ (written "force", form.ForceUndefined) ∷
    (written "start", form.SectionStart) ∷ (written "end", form.SectionEnd) ∷ (written "groupend", form.SectionGroupEnd) ∷
    (written "tlsend", form.TlsEnd) ∷ (written "loadbase", form.LoadBaseAddress) ∷ (written "redirect", form.Redirect) ∷ []

-- `["redirect", expression, location, provide]`
unfoldable pub redirect_of : Data → Result SymbolPlacement Path
redirect_of d = do
  expression ← element expression_of 1 d
  l ← element symbol_loc_of 2 d
  provide ← element truth_of 3 d
  _ ← at_most 4 d
  Ok (placed.Redirect expression l provide)

-- `["sec", index, offset]`, `["common", part, size]`, `["abs", value]`, those that name a section, those that stand alone, and redirects
unfoldable pub placement_in : PlacementForm → Data → Result SymbolPlacement Path
placement_in form.Section d = double index_of number_of d >>= λ (i, offset). Ok (placed.Section i offset)
placement_in form.Common d = double index_of number_of d >>= λ (part, size). Ok (placed.Common part size)
placement_in form.Absolute d = single number_of d >>= λ n. Ok (placed.Absolute n)
placement_in form.Undef d = alone placed.Undef d
placement_in form.Dynamic d = alone placed.Dynamic d
placement_in form.Undefined d = alone placed.Undefined d
placement_in form.ForceUndefined d = alone placed.ForceUndefined d
placement_in form.SectionStart d = single index_of d >>= λ i. Ok (placed.SectionStart i)
placement_in form.SectionEnd d = single index_of d >>= λ i. Ok (placed.SectionEnd i)
placement_in form.SectionGroupEnd d = single index_of d >>= λ i. Ok (placed.SectionGroupEnd i)
placement_in form.TlsEnd d = alone placed.TlsEnd d
placement_in form.LoadBaseAddress d = alone placed.LoadBaseAddress d
placement_in form.Redirect d = redirect_of d

-- what a symbol stands for
unfoldable pub symbol_placement_of : Data → Result SymbolPlacement Path
symbol_placement_of d = do
  _ ← fixed_list d
  f ← element (one_of placements) 0 d
  placement_in f d

-- ---- symbols

-- a symbol: its placement must be given
unfoldable pub input_symbol_of : Data → Result InputSymbol Path
input_symbol_of d = do
  _ ← object d
  name ← defaulted [] text_of (written "name") d
  at ← required symbol_placement_of (written "at") d
  def ← optional index_of (written "def") d
  flags ← defaulted 0 index_of (written "flags") d
  local ← defaulted false truth_of (written "local") d
  weak ← defaulted false truth_of (written "weak") d
  hidden ← defaulted false truth_of (written "hidden") d
  Ok (record { name = name; at = at; def = def; flags = record { 0 = flags }; local = local; weak = weak; hidden = hidden })
