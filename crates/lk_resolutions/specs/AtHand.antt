-- What the code has at hand of values, as definitions see it. Contracts of private functions speak of it.
use Rattle.std.specs.Prelude.{◌≡◌, ◌+◌, ◌<◌, ◌^◌, Some, length, slice_get}
use Rattle.std.specs.Option.{option_copied}
use Rattle.lk_link.specs.declared.symbol.SymbolPlacement.{SymbolPlacement}
use Rattle.lk_link.specs.Files.{file_in}
use Rattle.lk_link.specs.Inputs.{first_input}
use Rattle.lk_link.specs.Symbols.{file_number, first_symbol}
use Rattle.lk_link.specs.TableSizes.{TableSizes}
use Rattle.lk_merge.specs.Addresses.{image_start}
use Rattle.lk_resolutions.specs.declared.resolution.FileAtHand.{FileAtHand}
use Rattle.lk_resolutions.specs.declared.resolution.Tables.{Tables}
use Rattle.lk_resolutions.specs.Entries.{EntrySetting, entry_setting}
use Rattle.lk_resolutions.specs.EntryWords.{TablesFit}
use Rattle.lk_resolutions.specs.Resolutions.{ValueAddresses, merged_value}
use Rattle.lk_resolutions.specs.Tables.{AllStandInside, AreMergedOf, AreRising, StandsInside, common_in, place_in}

-- what values go by
abbrev pub places_at_hand : Tables → ValueAddresses
places_at_hand t = record {
  live = place_in t.merged.link.now.groups t.deltas.now t.live.now.marks t.addresses.now;
  common = λ p s. common_in t.commons.now s;
  merged = merged_value t.merged.link.now (image_start t.merged.starts.now);
  edges = t.edges.now;
}

-- what entries go by
abbrev pub setting_at_hand : TableSizes → Tables → EntrySetting
setting_at_hand sizes t = entry_setting sizes t.merged.link.now t.live.now t.told.now t.starts.now

-- it is of a well-formed link, the places of all symbols lie inside their sections, and got and plt end below 2^64
pub record AreAtHand (sizes : TableSizes) (t : Tables) : Type 0 where
  pub belong : AreMergedOf t.merged.link.now t.merged.sections.now t.merged.starts.now
  pub rising : AreRising t.commons.now
  pub inside : AllStandInside t.merged.link.now.groups t.deltas.now t.live.now.marks t.addresses.now
  pub fit : TablesFit (setting_at_hand sizes t)

-- this is found of a file of the link
pub record IsAtHand (t : Tables) (f : FileAtHand) : Type 0 where
  pub there : file_in t.merged.link.now.groups f.file.id ≡ Some f.file.file.now
  pub input : f.first_input ≡ first_input t.merged.link.now.groups f.file.id
  pub few_inputs : f.first_input < 2 ^ 32
  pub symbol : f.first_symbol ≡ first_symbol t.merged.link.now.groups f.file.id
  pub few_symbols : f.first_symbol + length f.file.file.now.symbols < 2 ^ 32
  pub entries : option_copied f.entries ≡ slice_get t.deltas.now (file_number t.merged.link.now.groups f.file.id)

-- a placement in the file lies inside its section
abbrev pub StandsAtHand : Tables → FileAtHand → SymbolPlacement → Type 0
StandsAtHand t f p = StandsInside t.merged.link.now.groups t.deltas.now t.live.now.marks t.addresses.now f.file.id p
