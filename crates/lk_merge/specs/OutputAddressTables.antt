-- Of the insides of addresses in merged sections. Cited by private parts alone.
use Rattle.std.specs.Prelude.{◌≡◌, Some, slice_get, true}
use Rattle.lk_link.specs.declared.link.LinkInput.{LinkInput}
use Rattle.lk_link.specs.InputSlots.{is_merge}
use Rattle.lk_link.specs.Inputs.{Input, all_inputs}
use Rattle.lk_merge.specs.declared.output_address.SymbolPlace.{SymbolPlace}
use Rattle.lk_merge.specs.OutputAddresses.{MergePlace}

-- a lent place, as contracts see it
abbrev pub lent_place : SymbolPlace → MergePlace
lent_place p = record { number = p.number; section = p.section.now; offset = p.offset; named = p.is_named }

-- a place in a merged section of a link
pub record IsMergePlace (link : LinkInput) (place : MergePlace) : Type 0 where
  pub input : Input
  pub there : slice_get (all_inputs link.groups) place.number ≡ Some input
  pub section : input.section ≡ place.section
  pub merged : is_merge place.section.slot ≡ true
