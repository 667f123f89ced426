-- The value of a symbol that stands for a place in a section is the section's address, as it is told, and the offset there.
use Rattle.std.proofs.Common.{◌≡◌, ℕ, ◌+◌, true, if◌then◌else◌, List, Option, Some, None, sym, ap, ◌∙◌}
use Rattle.std.specs.Prelude.{option_map, slice_get, slice_index, unwrap_or}
use Rattle.lk_link.specs.Inputs.{Input, all_inputs, first_input, input_number}
use Rattle.lk_link.specs.Marks.{is_marked}
use Rattle.lk_link.specs.declared.resolution.Resolution.{Resolution}
use Rattle.lk_link.proofs.InputLemmas.{inputs_follow}
use Rattle.lk_own_symbols.specs.EdgeLaws.{OthersAreNoRedirects}
use Rattle.lk_sizes.specs.Addresses.{section_addresses}
use Rattle.lk_sizes.specs.Owners.{Filling}
use Rattle.lk_sizes.specs.PartOwners.{live_address}
use Rattle.lk_sizes.proofs.Numbering.{table_at}
use Rattle.lk_deltas.specs.LinkDeletions.{output_offset}
use Rattle.lk_layout.specs.Defined.{layout_of}
use Rattle.lk_layout.specs.Made.{Made, made_deletions, made_filling}
use Rattle.lk_layout.specs.Redirects.{made_resolutions, placed_resolutions}
use Rattle.lk_soundness.specs.Laws.{SymbolsStandInLiveSections}
use Rattle.lk_soundness.proofs.BySymbol.{IsOfFile, object_outside, of_its_file, resolved_in, told_at_number}
use Rattle.lk_soundness.proofs.Resolving.{made_at, made_entries, object_value}
use Rattle.lk_soundness.proofs.Stands.{ValuesStand}
use Rattle.lk_resolution_list.specs.StoreLaws.{ChangesValuesAlone}
use Rattle.lk_resolutions.specs.Entries.{EntrySetting}
use Rattle.lk_resolutions.specs.Resolutions.{ValueAddresses, address_at, placed_value}
use Rattle.lk_resolutions.specs.Starts.{starts_of}

pub values_stand : OthersAreNoRedirects → (made : Made) → ChangesValuesAlone made.link.groups (placed_resolutions made) (made_resolutions made) → SymbolsStandInLiveSections made.link made.live
    → ValuesStand made (layout_of made)
values_stand others made changed placed s i offset f x section is unmerged =
    let filling : Filling = made_filling made in
    let starts : List ℕ = starts_of made.stage.records in
    let groups = made.link.groups in
    let of : IsOfFile groups s f x = of_its_file groups s f x is.named in
    let input : Input = record { file = f.id; index = i; section = section } in
    let k : ℕ = input_number groups f.id i in
    let first : ℕ = first_input groups f.id in
    let set : is_marked made.live.marks k ≡ true = placed f.id f.file i section of.there (resolved_in made s i offset f x section is of) is.there unmerged in
    let at_k : slice_get (all_inputs groups) k ≡ Some input = inputs_follow.at groups f.id f.file i section of.there is.there in
    let place : ℕ = slice_index (section_addresses filling starts) k + output_offset groups (made_deletions made) f.id i offset in
    let moved : Input → ℕ = λ y. live_address filling starts y + output_offset groups (made_deletions made) y.file y.index offset in
    let address : address_at filling (made_deletions made) starts k offset ≡ Some place
    = ap (λ b. if b then option_map moved (slice_get (all_inputs groups) k) else None) set ∙ ap (option_map moved) at_k
    ∙ ap (λ (m : ℕ). Some (m + output_offset groups (made_deletions made) f.id i offset)) (sym (table_at filling starts k input at_k set)) in
    let places : ValueAddresses = made_at made in
    let by : EntrySetting = made_entries made in (
      set,
      ap (option_map (λ (r : Resolution). r.raw_value)) (told_at_number others made changed s f x of (object_outside f.file.kind is.object))
          ∙ object_value places by f.file.kind first (s, x) is.object is.resolved
          ∙ ap (λ (n : ℕ). Some n) (ap (placed_value places first s) is.placed)
          ∙ ap (λ (o : Option ℕ). Some (unwrap_or o (places.merged s))) address,
    )
