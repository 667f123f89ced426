use Rattle.std.proofs.Common.{◌≡◌, List, ℕ, length, refl, sym, ap, ◌∙◌, subst, arith}
use Rattle.std.specs.List.{slice_index}
use Rattle.lk_merge.specs.Addresses.{ImagesFit, start_addresses}
use Rattle.lk_merge.specs.Hash.{fnv64}
use Rattle.lk_merge.specs.LinkInputs.{link_inputs}
use Rattle.lk_merge.specs.Pieces.{MergeInput}
use Rattle.lk_sizes.specs.Images.{image_addresses}
use Rattle.lk_sizes.specs.Addresses.{block_addresses, common_addresses, section_addresses}
use Rattle.lk_sizes.specs.Owners.{AreThunkOwners, Filling}
use Rattle.lk_sizes.specs.PartOwners.{EndsFit}
use Rattle.lk_resolutions.specs.OutputContent.{in_layout}
use Rattle.lk_resolutions.specs.Starts.{starts_of}
use Rattle.lk_resolutions.proofs.Imaging.{images_fit}
use Rattle.lk_resolutions.proofs.PartCounts.{contents_count}
use Rattle.lk_resolutions.proofs.Placing.{ends_fit, starts_count}
use Rattle.lk_resolutions.proofs.addresses.found_addresses.Goals as goal

pub owner_addresses-requires-clause-thunks : goal.owner_addresses-requires-clause-thunks
owner_addresses-requires-clause-thunks g c = subst (AreThunkOwners c.args.link.now) (sym c.requires.placed.1.filled.thunks) c.requires.placed.1.thunks

pub owner_addresses-requires-clause-room : goal.owner_addresses-requires-clause-room
owner_addresses-requires-clause-room g c =
    let filling : Filling = in_layout (g.P.Platform.table_sizes c.args._platform.now) c.args.link.now c.args.live.now c.requires.placed.0 in
    let starts : List ℕ = c.in_ok-starts.starts.items in
    let fit : EndsFit filling starts = ends_fit filling c.args.placed.now.parts.now starts c.in_ok-starts.ensures.value c.in_ok-starts.ensures.fit c.requires.placed.1.takes in
    (filling, c.requires.placed.1.filled, subst (λ (ss : List ℕ). EndsFit filling ss) (sym c.deref.ensures.value) fit)

pub image_addresses-requires-clause-count : goal.image_addresses-requires-clause-count
image_addresses-requires-clause-count g c =
    let filling : Filling = in_layout (g.P.Platform.table_sizes c.args._platform.now) c.args.link.now c.args.live.now c.requires.placed.0 in
    contents_count filling c.contents.result.now (c.contents.ensures ∙ c.requires.placed.1.filled.contents)

pub compute-requires : goal.compute-requires
compute-requires g c =
    let link = c.args.link.now in
    let filling : Filling = in_layout (g.P.Platform.table_sizes c.args._platform.now) link c.args.live.now c.requires.placed.0 in
    let parts = c.args.placed.now.parts.now in
    let starts : List ℕ = c.in_ok-starts.starts.items in
    let fit : EndsFit filling starts = ends_fit filling parts starts c.in_ok-starts.ensures.value c.in_ok-starts.ensures.fit c.requires.placed.1.takes in
    let count = starts_count link parts starts c.in_ok-starts.ensures.value c.requires.each in
    let places : c.deref-3.result.now ≡ image_addresses filling starts
    = c.deref-3.ensures.value ∙ c.in_ok-places.ensures filling (c.contents.ensures ∙ c.requires.placed.1.filled.contents) ∙ ap (image_addresses filling) c.deref-2.ensures.value in
    let merged : c.args.merged.now ≡ (link_inputs link).outputs = c.requires.merged in
    subst (λ (m : List (List MergeInput)). ImagesFit m c.deref-3.result.now) (sym merged)
    (subst (λ (ss : List ℕ). ImagesFit (link_inputs link).outputs ss) (sym places) (images_fit filling starts refl c.requires.good count fit))

pub returns-clause-belong : goal.returns-clause-belong
returns-clause-belong g c = record {
  good = c.requires.good;
  sections = c.requires.merged;
  starts = c.in_ok-buckets.ensures.each;
}

pub returns-clause-found : goal.returns-clause-found
returns-clause-found g c = λ by h.
    let link = c.args.link.now in
    let filling : Filling = in_layout (g.P.Platform.table_sizes c.args._platform.now) link c.args.live.now by in
    let wanted : List ℕ = starts_of c.args.placed.now.parts.now in
    let starts : c.deref.result.now ≡ wanted = c.deref.ensures.value ∙ c.in_ok-starts.ensures.value in
    let places : c.deref-3.result.now ≡ image_addresses filling wanted
    = c.deref-3.ensures.value ∙ c.in_ok-places.ensures filling (c.contents.ensures ∙ h.contents) ∙ ap (image_addresses filling) (c.deref-2.ensures.value ∙ c.in_ok-starts.ensures.value) in
    let merged : c.args.merged.now ≡ (link_inputs link).outputs = c.requires.merged in
    record {
      starts = c.in_ok-starts.ensures.value;
      sections = c.in_ok-found.ensures.sections filling h ∙ ap (section_addresses filling) starts;
      commons = c.in_ok-found.ensures.commons filling h ∙ ap (common_addresses filling) starts;
      blocks = c.in_ok-found.ensures.blocks filling h ∙ ap (block_addresses filling) starts;
      buckets = c.in_ok-buckets.ensures.addresses ∙ ap (λ (m : List (List MergeInput)). start_addresses fnv64 m c.deref-3.result.now) merged
          ∙ ap (start_addresses fnv64 (link_inputs link).outputs) places;
      images = λ t below. c.in_ok-buckets.ensures.images t (omega (arith, below, ap (λ (m : List (List MergeInput)). length m) merged)) ∙ ap (λ (ss : List ℕ). slice_index ss t) places;
    }
