-- Symbols of objects and of dynamic files that stand nowhere in the output are worth their numbers, and unnamed ones in merged data 0.
use Rattle.std.proofs.Common.{◌≡◌, ℕ, ◌+◌, true, if◌then◌else◌, Option, Some, None, ap, ◌∙◌}
use Rattle.std.specs.Prelude.{option_map, pos, slice_get, unwrap_or}
use Rattle.lk_own_symbols.specs.EdgeLaws.{OthersAreNoRedirects}
use Rattle.lk_live.specs.Reach.{AreLive}
use Rattle.lk_link.specs.declared.file.InputFile.{InputFile}
use Rattle.lk_link.specs.declared.ids.FileId.{FileId}
use Rattle.lk_link.specs.declared.section.InputSection.{InputSection}
use Rattle.lk_link.specs.declared.symbol.InputSymbol.{InputSymbol}
use Rattle.lk_link.specs.declared.symbol.SymbolPlacement.{SymbolPlacement}
use Rattle.lk_link.specs.declared.symbol.SymbolPlacement.TheVariants as at
use Rattle.lk_link.specs.Inputs.{Input, all_inputs, first_input, input_number}
use Rattle.lk_link.specs.Symbols.{first_symbol}
use Rattle.lk_link.proofs.InputLemmas.{inputs_follow}
use Rattle.lk_merge.specs.OutputAddresses.{MergePlace, place_address, symbol_place}
use Rattle.lk_deltas.specs.LinkDeletions.{output_offset}
use Rattle.lk_sizes.specs.PartOwners.{live_address}
use Rattle.lk_resolutions.specs.Resolutions.{ValueAddresses, found_or_0, images_at, placed_value}
use Rattle.lk_resolutions.specs.Starts.{starts_of}
use Rattle.lk_resolution_list.specs.StoreLaws.{ChangesValuesAlone}
use Rattle.lk_layout.specs.Defined.{layout_of}
use Rattle.lk_layout.specs.Made.{Made, made_deletions, made_filling}
use Rattle.lk_layout.specs.Redirects.{made_resolutions, placed_resolutions}
use Rattle.lk_soundness.specs.Sound.{number_of}
use Rattle.lk_soundness.proofs.Stands.{NumbersStand}
use Rattle.lk_soundness.proofs.BySymbol.{IsOfFile, of_its_file, worth_by_place}
use Rattle.lk_soundness.proofs.NamedSymbols.{Stands, names, not_live, place_of}
use Rattle.lk_soundness.proofs.Resolving.{made_at}

-- one that stands nowhere is worth its number
number_is : (places : ValueAddresses) (first s n : ℕ) (p : SymbolPlacement) → number_of p ≡ Some n → placed_value places first s p ≡ n
number_is places first s n (at.Section i offset) h = absurd (cc)
number_is places first s n (at.Common p size) h = absurd (cc)
number_is places first s n (at.Absolute m) h = cc
number_is places first s n at.Undef h = cc
number_is places first s n at.Dynamic h = cc
number_is places first s n at.Undefined h = absurd (cc)
number_is places first s n at.ForceUndefined h = absurd (cc)
number_is places first s n (at.SectionStart t) h = absurd (cc)
number_is places first s n (at.SectionEnd t) h = absurd (cc)
number_is places first s n (at.SectionGroupEnd t) h = absurd (cc)
number_is places first s n at.TlsEnd h = absurd (cc)
number_is places first s n at.LoadBaseAddress h = absurd (cc)
number_is places first s n (at.Redirect e l provide) h = absurd (cc)

-- one without a name in merged data is worth 0
unnamed_is : (made : Made) (s i offset k : ℕ) (id : FileId) (file : InputFile) (x : InputSymbol) (section : InputSection) → AreLive made.link made.live
    → Stands made.link id file i offset k x section true → s ≡ first_symbol made.link.groups id + k → placed_value (made_at made) (first_input made.link.groups id) s x.at ≡ 0
unnamed_is made s i offset k id file x section are h number =
    let groups = made.link.groups in
    let places : ValueAddresses = made_at made in
    let first : ℕ = first_input groups id in
    let place : MergePlace = place_of made.link id i offset section true in
    let input : Input = record { file = id; index = i; section = section } in
    let there : slice_get (all_inputs groups) (input_number groups id i) ≡ Some input = inputs_follow.at groups id file i section h.there h.at_i in
    let none : places.live (first + i) offset ≡ None
    = ap (λ b. if b then option_map (λ z. live_address (made_filling made) (starts_of made.stage.records) z + output_offset groups (made_deletions made) z.file z.index offset) (slice_get (all_inputs groups) (first + i)) else None)
    (not_live made.link made.live (first + i) input are there h.merged) in
    let named : symbol_place groups s ≡ Some place = ap (symbol_place groups) number ∙ names made.link id file i offset k x section true h in
    ap (placed_value places first s) h.placed
    ∙ ap (λ (o : Option ℕ). unwrap_or o (places.merged s)) none
    ∙ ap (λ (o : Option MergePlace). found_or_0 (place_address made.link (images_at (made_filling made) (starts_of made.stage.records)) (pos 0) true o)) named

pub numbers_stand : OthersAreNoRedirects → (made : Made) → AreLive made.link made.live → ChangesValuesAlone made.link.groups (placed_resolutions made) (made_resolutions made)
    → NumbersStand made (layout_of made)
numbers_stand others made are changed = record {
  nowhere = λ s n value f x named outside number told.
      worth_by_place others made changed s value f x named outside told ∙ number_is (made_at made) (first_input made.link.groups f.id) s n x.at number;
  unnamed = λ s i offset value f x section named outside empty placed at_i merged told.
      let is : IsOfFile made.link.groups s f x = of_its_file made.link.groups s f x named in
      worth_by_place others made changed s value f x named outside told
      ∙ unnamed_is made s i offset is.index f.id f.file x section are
      (record { there = is.there; at_k = is.at; placed = placed; at_i = at_i; merged = merged; named = empty }) is.number;
}
