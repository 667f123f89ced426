-- What stands in the parts, by where they are found to stand.
use Rattle.std.proofs.Common.{◌≡◌, List, ap, ◌∙◌}
use Rattle.lk_own_symbols.specs.Edges.{Edges}
use Rattle.lk_expressions.specs.Records.{Record}
use Rattle.lk_link.specs.declared.link.LinkInput.{LinkInput}
use Rattle.lk_merge.specs.Addresses.{start_addresses}
use Rattle.lk_merge.specs.Hash.{fnv64}
use Rattle.lk_merge.specs.LinkInputs.{link_inputs}
use Rattle.lk_deltas.specs.LinkDeletions.{Deletions}
use Rattle.lk_sizes.specs.Addresses.{block_addresses, section_addresses}
use Rattle.lk_sizes.specs.Images.{image_addresses}
use Rattle.lk_resolutions.specs.declared.addresses.Addresses.{Addresses}
use Rattle.lk_resolutions.specs.Resolutions.{symbol_resolutions}
use Rattle.lk_resolutions.specs.Starts.{starts_of}
use Rattle.lk_layout.specs.declared.stages.SpannedLink.{SpannedLink}
use Rattle.lk_layout.specs.Machines.{Machine}
use Rattle.lk_layout.specs.Made.{Made, made_deletions, made_filling}
use Rattle.lk_layout.specs.Redirects.{made_edges}
use Rattle.lk_layout.specs.Stages.{IsSpannedLink, IsValuedLink, made_spanned}
use Rattle.lk_compute.proofs.Redirecting.{resolutions_are}

pub valued : (machine : Machine) (link : LinkInput) (spanned : SpannedLink) (is : IsSpannedLink machine link spanned) (parts : List Record) (deletions : Deletions) (edges : Edges) (addresses : Addresses)
    → parts ≡ (made_spanned is).stage.records → deletions ≡ made_deletions (made_spanned is) → edges ≡ made_edges (made_spanned is)
    → addresses.sections.items ≡ section_addresses (made_filling (made_spanned is)) (starts_of parts)
    → addresses.blocks.items ≡ block_addresses (made_filling (made_spanned is)) (starts_of parts)
    → addresses.buckets ≡ start_addresses fnv64 (link_inputs link).outputs (image_addresses (made_filling (made_spanned is)) (starts_of parts))
    → addresses.resolutions ≡ symbol_resolutions (made_filling (made_spanned is)) deletions edges (starts_of parts)
    → IsValuedLink machine link spanned addresses
valued machine link spanned is parts deletions edges addresses read deleted at sections blocks buckets resolutions =
    let made : Made = made_spanned is in
    let filling = made_filling made in
    record {
      spanned = is;
      sections = sections ∙ ap (λ (rs : List Record). section_addresses filling (starts_of rs)) read;
      blocks = blocks ∙ ap (λ (rs : List Record). block_addresses filling (starts_of rs)) read;
      buckets = buckets ∙ ap (λ (rs : List Record). start_addresses fnv64 (link_inputs link).outputs (image_addresses filling (starts_of rs))) read;
      resolutions = resolutions_are made parts deletions edges addresses.resolutions resolutions read deleted at;
    }
