-- Where sections have the sizes of the description, each takes its own.
use Rattle.std.proofs.Common.{◌≡◌, ℕ, List, ◌++◌, map, Some, ap, ◌∙◌}
use Rattle.std.specs.Prelude.{Contains}
use Rattle.std.specs.List.{flat_map, slice_get, slice_index}
use Rattle.std.proofs.lemmas.List.{append-nil}
use Rattle.std.proofs.lemmas.Option.{get_or_from_slice_get}
use Rattle.lk_link.specs.declared.link.LinkInput.{LinkInput}
use Rattle.lk_link.specs.Inputs.{Input, all_inputs, numbered_files}
use Rattle.lk_link.proofs.Elements.{at_contained, map_in}
use Rattle.lk_live.specs.Reach.{live_inputs}
use Rattle.lk_sizes.specs.Owners.{Content, SectionOwner, Taker, all_file_takers, common_taker, commons_of, file_takers, live_of, own_sizes, plain_filling, section_taker, size_in, size_of, sized_filling}
use Rattle.lk_sizes.specs.PartOwners.{owner_number, owners_of}
use Rattle.lk_sizes.specs.Tables.{file_takers_by}
use Rattle.lk_sizes.proofs.Addressing.{live_sections_are_owners}
use Rattle.lk_sizes.proofs.Lists.{flat_alike}
use Rattle.lk_sizes.proofs.LiveByFiles.{number_of}
use Rattle.lk_sizes.proofs.LiveOnes.{marked_at}
use Rattle.lk_sizes.proofs.ThunkTakers.{no_blocks}

-- a section has its own size under its number
pub own_size_at : (link : LinkInput) (k : ℕ) (x : Input) → slice_get (all_inputs link.groups) k ≡ Some x → slice_index (own_sizes link) k ≡ x.section.size
unfolding own_sizes
own_size_at link k x there = get_or_from_slice_get (own_sizes link) k x.section.size 0 (map_in (λ (y : Input). y.section.size) (all_inputs link.groups) k x there)

-- so its size is its own
pub own_size : (content : Content) (k : ℕ) (x : Input) → slice_get (all_inputs content.link.groups) k ≡ Some x → size_of (plain_filling content) x ≡ x.section.size
own_size content k x there = ap (slice_index (own_sizes content.link)) (number_of content.link k x there) ∙ own_size_at content.link k x there

-- what files bring
pub sized_of_files : (content : Content) (sizes : List ℕ) → all_file_takers (sized_filling content sizes) ≡ flat_map (file_takers_by (size_in content.link sizes) content.link content.live) (numbered_files content.link.groups)
sized_of_files content sizes =
    flat_alike (file_takers (sized_filling content sizes)) (file_takers_by (size_in content.link sizes) content.link content.live) (numbered_files content.link.groups) (λ i f at.
    let sections : List Taker = map (section_taker (sized_filling content sizes)) (live_of content.link content.live f) in
    let commons : List Taker = map common_taker (commons_of content.link content.live f) in
    ap (λ (ts : List Taker). sections ++ (commons ++ ts)) (no_blocks content sizes f) ∙ ap (λ (ts : List Taker). sections ++ ts) (append-nil commons))

-- a live section of the link is one of its sections
live_in_link : (content : Content) (k : ℕ) (x : Input) → slice_get (live_inputs content.link content.live) k ≡ Some x → (j : ℕ) × (slice_get (all_inputs content.link.groups) j ≡ Some x)
live_in_link content k x there = let at = marked_at content.live.marks (all_inputs content.link.groups) k x there in (at.0, at.1)

-- a live section has its own size among the owners of its part
pub live_own_size : (content : Content) (k : ℕ) (x : Input) → slice_get (live_inputs content.link content.live) k ≡ Some x → size_of (plain_filling content) x ≡ x.section.size
live_own_size content k x there =
    let place = live_in_link content k x there in
    own_size content place.0 x place.1

pub own_sections_are_owners : (content : Content) (x : Input) → Contains (live_inputs content.link content.live) x
    → slice_get (owners_of (plain_filling content) x.section.part) (owner_number (plain_filling content) x) ≡ Some (SectionOwner x x.section.size)
own_sections_are_owners content x h =
    let at = at_contained (live_inputs content.link content.live) x h in
    live_sections_are_owners (plain_filling content) x h ∙ ap (λ (n : ℕ). Some (SectionOwner x n)) (live_own_size content at.0 x at.1)
