-- The linker's own symbols stand where they are placed, and each redirect is worth its expression.
use Rattle.std.proofs.Common.{◌≡◌, None, Ok, refl, sym, ap, ◌∙◌}
use Rattle.std.specs.Prelude.{if◌then◌else◌, option_map}
use Rattle.lk_own_symbols.specs.Edges.{edge_value}
use Rattle.lk_own_symbols.specs.Redirects.{AllPlaced}
use Rattle.lk_own_symbols.specs.Stores.{kept_alone}
use Rattle.lk_own_symbols.proofs.RedirectLaws.{redirects_hold}
use Rattle.lk_link.specs.declared.flags.ValueFlags.{ValueFlags}
use Rattle.lk_link.specs.declared.resolution.Resolution.{Resolution}
use Rattle.lk_link.specs.Inputs.{first_input}
use Rattle.lk_link.specs.Symbols.{is_wanted}
use Rattle.lk_layout.specs.Defined.{layout_of}
use Rattle.lk_layout.specs.Made.{Made}
use Rattle.lk_layout.specs.Redirects.{made_edges, made_redirected, made_resolutions, placed_resolutions, placed_with}
use Rattle.lk_soundness.proofs.BySymbol.{of_its_file, placed_at_number}
use Rattle.lk_layout.specs.Spans.{made_joined, made_sections}
use Rattle.lk_soundness.proofs.Resolving.{internal_value, made_at, made_entries}
use Rattle.lk_soundness.proofs.Stands.{EdgesStand, FlagsStand, RedirectsStand}
use Rattle.lk_resolution_list.specs.StoreLaws.{ChangesValuesAlone}
use Rattle.lk_resolution_list.specs.Stores.{resolution_store, valued}

pub edges_stand : (made : Made) → FlagsStand made (layout_of made) → ChangesValuesAlone made.link.groups (placed_resolutions made) (made_resolutions made) → EdgesStand made (layout_of made)
edges_stand made flags changed s f x named internal other =
    ap (option_map (λ (r : Resolution). r.raw_value)) (changed.others s other ∙ placed_at_number made s f x (of_its_file made.link.groups s f x named))
    ∙ internal_value (made_at made) (made_entries made) f.file.kind (first_input made.link.groups f.id) (s, x) internal
    ∙ ap (λ (fl : ValueFlags). if is_wanted f.file.kind s x fl then edge_value (made_edges made) x.at else None) (sym (flags s f x named))

pub redirects_stand : (made : Made) → made_redirected made ≡ Ok (made_resolutions made) → RedirectsStand made (layout_of made)
redirects_stand made redirected =
    let placed : AllPlaced = placed_with made (made_sections made) (made_joined made) in
    redirects_hold resolution_store (kept_alone (λ (r : Resolution). r.raw_value) (λ r n. valued n r) (λ r n. refl)) placed (placed_resolutions made) (made_resolutions made) redirected
