-- Each owner of a part is an image, a live section or a common.
use Rattle.std.proofs.Common.{◌≡◌, ℕ, zero, suc, ◌==◌, true, false, cond, List, [], ◌∷◌, ◌++◌, map, filter, None, Some, refl, sym, subst, inl, inr}
use Rattle.std.specs.Prelude.{option_map}
use Rattle.std.specs.List.{slice_get, slice_index}
use Rattle.std.specs.Option.{option_to_list}
use Rattle.std.proofs.lemmas.Bool.{eqb-true}
use Rattle.lk_link.specs.declared.link.LinkInput.{LinkInput}
use Rattle.lk_link.specs.Inputs.{NumberedFile, numbered_files}
use Rattle.lk_link.proofs.Elements.{append_at, contains_at, filter_at, flat_map_at, map_at}
use Rattle.lk_live.specs.declared.live.Live.{Live}
use Rattle.lk_live.specs.Reach.{live_inputs}
use Rattle.lk_reach.proofs.Numbered.{file_at}
use Rattle.lk_sizes.specs.Owners.{EntryOwner, Filling, IdentityOwner, ImageOwner, Owner, Taker, all_file_takers, common_taker, commons_of, content_owners, file_takers, has_image, identity_of, identity_size, images_of, leading_of, live_of, owners_in, section_taker, sorted_takers, takers, thunk_takers}
use Rattle.lk_sizes.specs.PartOwners.{tables_of}
use Rattle.lk_size_laws.specs.OwnerLaws.{IsOwnerOf, OwnersAreLive}
use Rattle.lk_sizes.specs.Sorted.{sorted_inputs}
use Rattle.lk_tables.specs.SymbolTable.{TableEntry}
use Rattle.lk_tables.specs.TableLists.{table_of}
use Rattle.lk_link.specs.Parts.{part_sections}
use Rattle.lk_sizes.proofs.CommonOnes.{is_common_in}
use Rattle.lk_sizes.proofs.LiveByFiles.{unsorted_is_live}
use Rattle.lk_sizes.proofs.SortedOnes.{sorted_at}
use Rattle.lk_sizes.proofs.ThunkTakers.{one_block}

-- an image is that of the part's section
image_is : (filling : Filling) (p k : ℕ) (o : Owner) → slice_get (images_of filling.content.link filling.content.merged_lens p) k ≡ Some o → IsOwnerOf filling p o
image_is filling p k o there =
    let section : ℕ = slice_index (part_sections filling.content.link.plan.sections) p in
    let image : Owner = ImageOwner section (slice_index filling.content.merged_lens section) in
    (elim (has_image filling.content.link p) as (λ b. has_image filling.content.link p ≡ b → slice_get (cond b (image ∷ []) []) k ≡ Some o → IsOwnerOf filling p o) [
      | true ↦ λ has at. only k at has
      | false ↦ λ has at. absurd (cc)
    ]) refl there
  where
    only : (j : ℕ) → slice_get (ImageOwner (slice_index (part_sections filling.content.link.plan.sections) p) (slice_index filling.content.merged_lens (slice_index (part_sections filling.content.link.plan.sections) p)) ∷ []) j ≡ Some o
        → has_image filling.content.link p ≡ true → IsOwnerOf filling p o
    only zero at has =
        let section : ℕ = slice_index (part_sections filling.content.link.plan.sections) p in
        let same : ImageOwner section (slice_index filling.content.merged_lens section) ≡ o = cc in
        subst (IsOwnerOf filling p) same (has, refl, refl)
    only (suc j) at has = absurd (cc)

-- what a file brings to the part
brought : (filling : Filling) (i : ℕ) (f : NumberedFile) (k : ℕ) (t : Taker) → slice_get (numbered_files filling.content.link.groups) i ≡ Some f → slice_get (file_takers filling f) k ≡ Some t
    → IsOwnerOf filling t.part t.owner
brought filling i f k t at_f at_t =
    let link : LinkInput = filling.content.link in
    let live : Live = filling.content.live in
    let of_taker : Taker → Type 0 = λ u. IsOwnerOf filling u.part u.owner in
    elim (append_at (map (section_taker filling) (live_of link live f)) (map common_taker (commons_of link live f) ++ thunk_takers filling f) k t at_t) [
      | inl section ↦
          let from = map_at (section_taker filling) (live_of filling.content.link filling.content.live f) k t section in
          let lives = unsorted_is_live link live i f k from.0 at_f from.1 in
          subst (λ (u : Taker). IsOwnerOf filling u.part u.owner) from.2 (contains_at (live_inputs link live) lives.0 from.0 lives.1, refl, refl)
      | inr behind ↦ elim (append_at (map common_taker (commons_of link live f)) (thunk_takers filling f) behind.0 t behind.2) [
        | inl common ↦
            let from = map_at common_taker (commons_of link live f) behind.0 t common in
            subst of_taker from.2 (is_common_in link live f behind.0 from.0 (file_at link.groups i f at_f).there from.1)
        | inr thunk ↦
            let is = one_block filling f thunk.0 t thunk.2 in
            subst (IsOwnerOf filling t.part) (sym is.owner) (is.primary, is.bytes)
      ]
    ]

-- so is all that takes bytes
taken_is : (filling : Filling) (k : ℕ) (t : Taker) → slice_get (takers filling) k ≡ Some t → IsOwnerOf filling t.part t.owner
taken_is filling k t there =
    let link : LinkInput = filling.content.link in
    let live : Live = filling.content.live in
    elim (append_at (all_file_takers filling) (sorted_takers filling) k t there) [
      | inl files ↦
          let at = flat_map_at (file_takers filling) (numbered_files link.groups) k t files in
          brought filling at.outer at.from at.inner t at.there at.gives
      | inr sorted ↦
          let from = map_at (section_taker filling) (sorted_inputs link live) sorted.0 t sorted.2 in
          let lives = sorted_at link live sorted.0 from.0 from.1 in
          subst (λ (u : Taker). IsOwnerOf filling u.part u.owner) from.2 (contains_at (live_inputs link live) lives.place from.0 lives.there, refl, refl)
    ]

-- the identity is that of the part
identity_is : (filling : Filling) (p j : ℕ) (o : Owner) → slice_get (identity_of filling.content.link p) j ≡ Some o → IsOwnerOf filling p o
identity_is filling p j o there =
    (elim (identity_size filling.content.link p) as (λ m. identity_size filling.content.link p ≡ m → slice_get (option_to_list (option_map IdentityOwner m)) j ≡ Some o → IsOwnerOf filling p o) [
      | None ↦ λ is at. absurd (cc)
      | Some size ↦ λ is at. only j size at is
    ]) refl there
  where
    only : (i size : ℕ) → slice_get (IdentityOwner size ∷ []) i ≡ Some o → identity_size filling.content.link p ≡ Some size → IsOwnerOf filling p o
    only zero size at is =
        let same : IdentityOwner size ≡ o = cc in
        subst (IsOwnerOf filling p) same is
    only (suc i) size at is = absurd (cc)

leads : (filling : Filling) (p k : ℕ) (o : Owner) → slice_get (leading_of filling.content.link filling.content.merged_lens p) k ≡ Some o → IsOwnerOf filling p o
leads filling p k o there =
    elim (append_at (images_of filling.content.link filling.content.merged_lens p) (identity_of filling.content.link p) k o there) [
      | inl image ↦ image_is filling p k o image
      | inr identity ↦ identity_is filling p identity.0 o identity.2
    ]

own : (filling : Filling) (p k : ℕ) (o : Owner) → slice_get (content_owners filling p) k ≡ Some o → IsOwnerOf filling p o
own filling p k o there =
    elim (append_at (leading_of filling.content.link filling.content.merged_lens p) (owners_in p (takers filling)) k o there) [
      | inl leading ↦ leads filling p k o leading
      | inr taken ↦
          let here : List Taker = filter (λ (t : Taker). t.part == p) (takers filling) in
          let from = map_at (λ (t : Taker). t.owner) here taken.0 o taken.2 in
          let t : Taker = from.0 in
          let among = filter_at (λ (u : Taker). u.part == p) (takers filling) taken.0 t from.1 in
          let goes : t.part ≡ p = eqb-true t.part p among.2 in
          subst (λ (q : ℕ). IsOwnerOf filling q o) goes (subst (λ (u : Owner). IsOwnerOf filling t.part u) from.2 (taken_is filling among.0 t among.1))
    ]

pub owners_are_live : OwnersAreLive
owners_are_live filling p k o there =
    let entries : List TableEntry = table_of filling.content.link.plan.named (tables_of filling.content) p in
    elim (append_at (content_owners filling p) (map EntryOwner entries) k o there) [
      | inl before ↦ own filling p k o before
      | inr entry ↦
          let from = map_at EntryOwner entries entry.0 o entry.2 in
          subst (IsOwnerOf filling p) from.2 (contains_at entries entry.0 from.0 from.1)
    ]
