-- A table part has the entries of its tables, and nothing else.
use Rattle.std.proofs.Common.{◌≡◌, ℕ, suc, ◌+◌, ◌==◌, true, false, cond, length, List, [], ◌∷◌, ◌++◌, map, Option, None, Some, refl, sym, ap, ◌∙◌, inl, inr}
use Rattle.std.specs.Prelude.{if◌then◌else◌, option_map}
use Rattle.std.specs.List.{slice_get, slice_index}
use Rattle.std.specs.Option.{option_to_list}
use Rattle.std.proofs.lemmas.Bool.{eqb-true}
use Rattle.lk_link.specs.declared.link.LinkInput.{LinkInput}
use Rattle.lk_link.specs.declared.plan.NamedParts.{NamedParts}
use Rattle.lk_link.specs.Inputs.{Input, all_inputs, numbered_files}
use Rattle.lk_link.specs.PartRules.{is_part, is_table_part}
use Rattle.lk_link.specs.Parts.{part_sections}
use Rattle.lk_link.specs.WellFormed.{IsWellFormed}
use Rattle.lk_link.proofs.GoodPartFields.{good_part_fields}
use Rattle.lk_link.proofs.Elements.{append_at, filter_at, flat_map_at, map_at}
use Rattle.lk_live.specs.declared.live.Live.{Live}
use Rattle.lk_live.specs.Reach.{AreLive}
use Rattle.lk_reach.proofs.Numbered.{file_at}
use Rattle.lk_tables.specs.declared.commons.Common.{Common}
use Rattle.lk_sizes.specs.Owners.{EntryOwner, Filling, IdentityOwner, ImageOwner, Owner, Taker, all_file_takers, common_taker, commons_of, file_takers, has_image, identity_of, images_of, into, is_merged, live_of, owners_in, section_taker, sorted_takers, takers, thunk_takers}
use Rattle.lk_sizes.specs.Sorted.{sorted_inputs}
use Rattle.lk_sizes.specs.PartOwners.{tables_of}
use Rattle.lk_size_laws.specs.OwnerLaws.{TablePartsHaveEntriesAlone}
use Rattle.lk_tables.specs.TableLists.{table_of}
use Rattle.lk_sizes.proofs.LiveByFiles.{unsorted_is_live}
use Rattle.lk_sizes.proofs.SortedOnes.{sorted_at}
use Rattle.lk_sizes.proofs.CommonOnes.{common_is_placed, is_common_in}
use Rattle.lk_sizes.proofs.ImagePlaces.{any_at}
use Rattle.lk_sizes.proofs.KeptOnes.{merged_good}
use Rattle.lk_sizes.proofs.LiveOnes.{live_good}
use Rattle.lk_sizes.proofs.Takers.{owners_in_other}
use Rattle.lk_sizes.proofs.ThunkTakers.{one_block}

-- what goes to a part that is no table part doesn't go to one
elsewhere : (named : NamedParts) (p q : ℕ) → is_table_part named p ≡ true → is_table_part named q ≡ false → q ≡ p → ⊥
elsewhere named p q table free same = let clash : true ≡ false = sym table ∙ ap (is_table_part named) (sym same) ∙ free in absurd (cc)

-- ---- what leads

no_image : (link : LinkInput) (lens : List ℕ) (p : ℕ) → IsWellFormed link → is_table_part link.plan.named p ≡ true → images_of link lens p ≡ []
no_image link lens p good table =
    let section : ℕ = slice_index (part_sections link.plan.sections) p in
    (elim (has_image link p) as (λ b. has_image link p ≡ b → cond b (ImageOwner section (slice_index lens section) ∷ []) [] ≡ []) [
      | true ↦ λ has.
          let at = any_at is_merged (into p (all_inputs link.groups)) has in
          let from = filter_at (λ (y : Input). y.section.part == p) (all_inputs link.groups) at.0 at.1 at.2 in
          absurd (elsewhere link.plan.named p at.1.section.part table (merged_good link from.0 at.1 good from.1 at.3).1.to_no_table (eqb-true at.1.section.part p from.2))
      | false ↦ λ has. refl
    ]) refl

-- the part for comments isn't one
no_comment : (link : LinkInput) (p : ℕ) (o : Option ℕ) → IsWellFormed link → is_table_part link.plan.named p ≡ true → link.plan.named.comment ≡ o → is_part p o ≡ false
no_comment link p None good table is = refl
no_comment link p (Some q) good table is =
    (elim (q == p) as (λ b. (q == p) ≡ b → b ≡ false) [
      | true ↦ λ same. absurd (elsewhere link.plan.named p q table ((good_part_fields link good).comment q is).0.no_table (eqb-true q p same))
      | false ↦ λ other. refl
    ]) refl

no_identity : (link : LinkInput) (p : ℕ) → IsWellFormed link → is_table_part link.plan.named p ≡ true → identity_of link p ≡ []
no_identity link p good table =
    ap (λ b. option_to_list (option_map IdentityOwner (if b then option_map (λ text. length text + 9) link.options.identity else None)))
    (no_comment link p link.plan.named.comment good table refl)

-- ---- what files bring

none_brought : (p : ℕ) (ts : List Taker) → ((k : ℕ) (t : Taker) → slice_get ts k ≡ Some t → t.part ≡ p → ⊥) → owners_in p ts ≡ []
none_brought p [] h = refl
none_brought p (t ∷ ts) h = owners_in_other p t ts (h 0 t refl) ∙ none_brought p ts (λ k. h (suc k))

-- the primary part is no table part
primary_is_free : (link : LinkInput) (p : ℕ) → IsWellFormed link → link.plan.named.primary ≡ Some p → is_table_part link.plan.named p ≡ false
primary_is_free link p good is = ((good_part_fields link good).primary p is).0.no_table

file_goes_elsewhere : (filling : Filling) (p k : ℕ) (t : Taker) → IsWellFormed filling.content.link → AreLive filling.content.link filling.content.live
    → is_table_part filling.content.link.plan.named p ≡ true → slice_get (all_file_takers filling) k ≡ Some t → t.part ≡ p → ⊥
file_goes_elsewhere filling p k t good are table there same =
    let link : LinkInput = filling.content.link in
    let live : Live = filling.content.live in
    let at = flat_map_at (file_takers filling) (numbered_files link.groups) k t there in
    elim (append_at (map (section_taker filling) (live_of link live at.from)) (map common_taker (commons_of link live at.from) ++ thunk_takers filling at.from) at.inner t at.gives) [
      | inl section ↦
          let from = map_at (section_taker filling) (live_of link live at.from) at.inner t section in
          let lives = unsorted_is_live link live at.outer at.from at.inner from.0 at.there from.1 in
          elsewhere link.plan.named p from.0.section.part table (live_good link live lives.0 from.0 good are lives.1).1.to_no_table (ap (λ (u : Taker). u.part) from.2 ∙ same)
      | inr behind ↦ elim (append_at (map common_taker (commons_of link live at.from)) (thunk_takers filling at.from) behind.0 t behind.2) [
        | inl common ↦
            let from = map_at common_taker (commons_of link live at.from) behind.0 t common in
            let c : Common = from.0 in
            let is = is_common_in link live at.from behind.0 c (file_at link.groups at.outer at.from at.there).there from.1 in
            elsewhere link.plan.named p c.part table (common_is_placed link live c.part c.symbol c.size good is).1 (ap (λ (u : Taker). u.part) from.2 ∙ same)
        | inr thunk ↦
            let is = one_block filling at.from thunk.0 t thunk.2 in
            elsewhere link.plan.named p t.part table (primary_is_free link t.part good is.primary) same
      ]
    ]

goes_elsewhere : (filling : Filling) (p k : ℕ) (t : Taker) → IsWellFormed filling.content.link → AreLive filling.content.link filling.content.live
    → is_table_part filling.content.link.plan.named p ≡ true → slice_get (takers filling) k ≡ Some t → t.part ≡ p → ⊥
goes_elsewhere filling p k t good are table there same =
    let link : LinkInput = filling.content.link in
    let live : Live = filling.content.live in
    elim (append_at (all_file_takers filling) (sorted_takers filling) k t there) [
      | inl files ↦ file_goes_elsewhere filling p k t good are table files same
      | inr sorted ↦
          let from = map_at (section_taker filling) (sorted_inputs link live) sorted.0 t sorted.2 in
          let lives = sorted_at link live sorted.0 from.0 from.1 in
          elsewhere link.plan.named p from.0.section.part table (live_good link live lives.place from.0 good are lives.there).1.to_no_table (ap (λ (u : Taker). u.part) from.2 ∙ same)
    ]

pub table_parts_have_entries_alone : TablePartsHaveEntriesAlone
table_parts_have_entries_alone filling p good are table =
    let lens : List ℕ = filling.content.merged_lens in
    let entries : List Owner = map EntryOwner (table_of filling.content.link.plan.named (tables_of filling.content) p) in
    ap (λ (os : List Owner). ((os ++ identity_of filling.content.link p) ++ owners_in p (takers filling)) ++ entries) (no_image filling.content.link lens p good table)
    ∙ ap (λ (os : List Owner). (os ++ owners_in p (takers filling)) ++ entries) (no_identity filling.content.link p good table)
    ∙ ap (λ (os : List Owner). os ++ entries) (none_brought p (takers filling) (λ k t. goes_elsewhere filling p k t good are table))
