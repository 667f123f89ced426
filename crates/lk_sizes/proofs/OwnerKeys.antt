-- The keys of what files bring: they rise, file by file, so none stands twice among the owners of a part.
use Rattle.std.proofs.Common.{◌≡◌, ℕ, ◌+◌, ◌<◌, ◌==◌, Bool, true, false, cond, List, [], ◌∷◌, ◌++◌, Option, length, map, filter, take, None, Some, refl, sym, ap, ◌∙◌, subst, arith}
use Rattle.std.specs.Prelude.{option_and_then, option_map}
use Rattle.std.specs.List.{cons_option, filter_map, flat_map, slice_index, sum_by}
use Rattle.std.specs.Option.{option_to_list}
use Rattle.std.proofs.lemmas.List.{append-nil, length-map, length-take-le, map-append}
use Rattle.std.proofs.lemmas.List.Elements.{filter_map-append}
use Rattle.std.proofs.lemmas.List.Sums.{sum_by-cons}
use Rattle.std.proofs.lemmas.Option.{slice_get_within}
use Rattle.lk_link.specs.declared.file.InputFile.{InputFile}
use Rattle.lk_link.specs.declared.link.LinkInput.{LinkInput}
use Rattle.lk_link.specs.Inputs.{Input, NumberedFile, numbered_files}
use Rattle.lk_link.specs.Parts.{part_sections}
use Rattle.lk_link.specs.Symbols.{all_files, file_number}
use Rattle.lk_link.proofs.InputLemmas.{files_from_are}
use Rattle.lk_live.specs.declared.live.Live.{Live}
use Rattle.lk_tables.specs.declared.commons.Common.{Common}
use Rattle.lk_tables.specs.SymbolTable.{TableEntry}
use Rattle.lk_tables.specs.TableLists.{table_of}
use Rattle.lk_sizes.specs.Owners.{EntryOwner, Filling, IdentityOwner, ImageOwner, Owner, SectionOwner, Taker, all_file_takers, common_taker, commons_of, file_takers, has_image, identity_of, identity_size, images_of, leading_of, live_of, owners_in, section_taker, size_of, sorted_takers, takers, thunk_bytes, thunk_taker, thunk_takers}
use Rattle.lk_sizes.specs.Sorted.{sorted_inputs}
use Rattle.lk_sizes.specs.PartOwners.{owners_of, section_key, tables_of, thunk_key}
pub use Rattle.lk_sizes.proofs.LiveNumbers.{FilesRise, file_more, files_rise, number_in, place_is_number}
use Rattle.lk_ranks.proofs.Rising.{IsRising, NoneTwice, rising_once}
use Rattle.lk_sizes.proofs.Keys.{all_keys, flat_keys, made_keys, no_keys, some_once}
use Rattle.lk_sizes.proofs.Lists.{flat_alike}
use Rattle.lk_sizes.proofs.LiveByFiles.{unsorted_by_files, unsorted_ones}
use Rattle.lk_sizes.proofs.SortedOnes.{parted_once}
use Rattle.lk_sizes.proofs.Takers.{mapped_flat}
use Rattle.lk_sizes.proofs.ThunkTakers.{no_block_keys}

-- ---- of a part

-- what files don't bring has no key
pub record IsOfFiles (key : Owner → Option ℕ) : Type 0 where
  pub image : (section len : ℕ) → key (ImageOwner section len) ≡ None
  pub identity : (size : ℕ) → key (IdentityOwner size) ≡ None
  pub entry : (e : TableEntry) → key (EntryOwner e) ≡ None

-- the keys of what takers bring
abbrev pub taker_keys : (Owner → Option ℕ) → List Taker → List ℕ
taker_keys key ts = filter_map (λ (t : Taker). key t.owner) ts

leading_keys : (key : Owner → Option ℕ) (link : LinkInput) (lens : List ℕ) (p : ℕ) → IsOfFiles key → filter_map key (leading_of link lens p) ≡ []
leading_keys key link lens p of =
    let section : ℕ = slice_index (part_sections link.plan.sections) p in
    let images : filter_map key (images_of link lens p) ≡ []
    = elim (has_image link p) as (λ b. filter_map key (cond b (ImageOwner section (slice_index lens section) ∷ []) []) ≡ []) [
      | true ↦ ap (λ (o : Option ℕ). cons_option o []) (of.image section (slice_index lens section))
      | false ↦ refl
    ] in
    let identity : filter_map key (identity_of link p) ≡ []
    = elim (identity_size link p) as (λ o. filter_map key (option_to_list (option_map IdentityOwner o)) ≡ []) [
      | None ↦ refl
      | Some size ↦ ap (λ (o : Option ℕ). cons_option o []) (of.identity size)
    ] in
    filter_map-append key (images_of link lens p) (identity_of link p)
    ∙ ap (λ (ns : List ℕ). ns ++ filter_map key (identity_of link p)) images
    ∙ identity

-- none stands twice in a part, where none does among what files bring
pub once_in_part : (key : Owner → Option ℕ) (filling : Filling) (p : ℕ) → IsOfFiles key → NoneTwice (taker_keys key (takers filling))
    → NoneTwice (filter_map key (owners_of filling p))
once_in_part key filling p of once =
    let goes : Taker → Bool = λ t. t.part == p in
    let all : List Taker = takers filling in
    let leading : List Owner = leading_of filling.content.link filling.content.merged_lens p in
    let brought : List Owner = owners_in p all in
    let entries : List TableEntry = table_of filling.content.link.plan.named (tables_of filling.content) p in
    let none : filter_map key (map EntryOwner entries) ≡ [] = made_keys key EntryOwner entries ∙ no_keys (λ e. key (EntryOwner e)) entries of.entry in
    let some : filter_map key (owners_of filling p) ≡ taker_keys key (filter goes all)
    = filter_map-append key (leading ++ brought) (map EntryOwner entries)
    ∙ ap (λ (ns : List ℕ). filter_map key (leading ++ brought) ++ ns) none
    ∙ append-nil (filter_map key (leading ++ brought))
    ∙ filter_map-append key leading brought
    ∙ ap (λ (ns : List ℕ). ns ++ filter_map key brought) (leading_keys key filling.content.link filling.content.merged_lens p of)
    ∙ made_keys key (λ (t : Taker). t.owner) (filter goes all) in
    subst NoneTwice (sym some) (some_once (λ (t : Taker). key t.owner) goes all once)

-- ---- file by file

-- where the keys that files bring rise, and sorted sections have none, none stands twice
pub keys_once : (key : Owner → Option ℕ) (filling : Filling) (size : InputFile → ℕ) → ((x : Input) (n : ℕ) → key (SectionOwner x n) ≡ None)
    → FilesRise filling.content.link size (λ f. taker_keys key (file_takers filling f)) → NoneTwice (taker_keys key (takers filling))
keys_once key filling size none each =
    let link : LinkInput = filling.content.link in
    let files : List NumberedFile = numbered_files link.groups in
    let of_taker : Taker → Option ℕ = λ t. key t.owner in
    let keys : NumberedFile → List ℕ = λ f. taker_keys key (file_takers filling f) in
    let xs : List Input = sorted_inputs link filling.content.live in
    let told : taker_keys key (takers filling) ≡ flat_map keys files
    = filter_map-append of_taker (all_file_takers filling) (sorted_takers filling)
    ∙ ap (λ (ns : List ℕ). taker_keys key (all_file_takers filling) ++ ns)
    (made_keys of_taker (section_taker filling) xs ∙ no_keys (λ x. of_taker (section_taker filling x)) xs (λ x. none x (size_of filling x)))
    ∙ append-nil (taker_keys key (all_file_takers filling))
    ∙ flat_keys of_taker (file_takers filling) files in
    subst NoneTwice (sym told)
    (rising_once 0 (sum_by size (take (0 + length files) (all_files link.groups))) (flat_map keys files) (files_rise link size keys each))

-- ---- sections

-- of a file's takers, its live sections have such keys
sections_told : (filling : Filling) (f : NumberedFile) → taker_keys (section_key filling.content.link) (file_takers filling f)
    ≡ map (number_in filling.content.link) (live_of filling.content.link filling.content.live f)
sections_told filling f =
    let link : LinkInput = filling.content.link in
    let live : Live = filling.content.live in
    let key : Taker → Option ℕ = λ t. section_key link t.owner in
    let xs : List Input = live_of link live f in
    let cs : List Common = commons_of link live f in
    filter_map-append key (map (section_taker filling) xs) (map common_taker cs ++ thunk_takers filling f)
    ∙ ap (λ (ns : List ℕ). filter_map key (map (section_taker filling) xs) ++ ns)
    (filter_map-append key (map common_taker cs) (thunk_takers filling f)
    ∙ ap (λ (ns : List ℕ). ns ++ filter_map key (thunk_takers filling f)) (made_keys key common_taker cs ∙ no_keys (λ c. key (common_taker c)) cs (λ c. refl))
    ∙ no_block_keys key filling f (λ p size. refl))
    ∙ append-nil (filter_map key (map (section_taker filling) xs))
    ∙ made_keys key (section_taker filling) xs
    ∙ all_keys (number_in link) xs

-- all that takes bytes has those of the live sections: of the ones that stand with their files, then of the sorted ones
all_sections_told : (filling : Filling) → taker_keys (section_key filling.content.link) (takers filling)
    ≡ map (number_in filling.content.link) (unsorted_ones filling.content.link filling.content.live ++ sorted_inputs filling.content.link filling.content.live)
all_sections_told filling =
    let link : LinkInput = filling.content.link in
    let live : Live = filling.content.live in
    let key : Taker → Option ℕ = λ t. section_key link t.owner in
    let files : List NumberedFile = numbered_files link.groups in
    let xs : List Input = sorted_inputs link live in
    filter_map-append key (all_file_takers filling) (sorted_takers filling)
    ∙ ap (λ (ns : List ℕ). ns ++ filter_map key (sorted_takers filling))
    (flat_keys key (file_takers filling) files
    ∙ flat_alike (λ f. filter_map key (file_takers filling f)) (λ f. map (number_in link) (live_of link live f)) files (λ k f at. sections_told filling f)
    ∙ mapped_flat (number_in link) (live_of link live) files
    ∙ ap (map (number_in link)) (unsorted_by_files link live))
    ∙ ap (λ (ns : List ℕ). map (number_in link) (unsorted_ones link live) ++ ns) (made_keys key (section_taker filling) xs ∙ all_keys (number_in link) xs)
    ∙ sym (map-append (number_in link) (unsorted_ones link live) xs)

-- the number of none stands twice among the owners of a part
pub sections_once : (filling : Filling) (p : ℕ) → NoneTwice (filter_map (section_key filling.content.link) (owners_of filling p))
sections_once filling p =
    once_in_part (section_key filling.content.link) filling p (record { image = λ section len. refl; identity = λ size. refl; entry = λ e. refl })
    (subst NoneTwice (sym (all_sections_told filling)) (parted_once filling.content.link filling.content.live))

-- ---- blocks of thunks

ones : {X : Type 0} (xs : List X) → sum_by (λ _. 1) xs ≡ length xs
ones [] = refl
ones (x ∷ xs) = omega (arith, sum_by-cons (λ _. 1) x xs, ones xs)

-- of a file's takers, the block has such a key
blocks_told : (filling : Filling) (f : NumberedFile) → taker_keys (thunk_key filling.content.link) (file_takers filling f)
    ≡ taker_keys (thunk_key filling.content.link) (thunk_takers filling f)
blocks_told filling f =
    let link : LinkInput = filling.content.link in
    let live : Live = filling.content.live in
    let key : Taker → Option ℕ = λ t. thunk_key link t.owner in
    let xs : List Input = live_of link live f in
    let cs : List Common = commons_of link live f in
    filter_map-append key (map (section_taker filling) xs) (map common_taker cs ++ thunk_takers filling f)
    ∙ ap (λ (ns : List ℕ). ns ++ filter_map key (map common_taker cs ++ thunk_takers filling f))
    (made_keys key (section_taker filling) xs ∙ no_keys (λ x. key (section_taker filling x)) xs (λ x. refl))
    ∙ filter_map-append key (map common_taker cs) (thunk_takers filling f)
    ∙ ap (λ (ns : List ℕ). ns ++ filter_map key (thunk_takers filling f)) (made_keys key common_taker cs ∙ no_keys (λ c. key (common_taker c)) cs (λ c. refl))

block_rises : (filling : Filling) (f : NumberedFile) (n : ℕ) → file_number filling.content.link.groups f.id ≡ n
    → IsRising n (taker_keys (thunk_key filling.content.link) (thunk_takers filling f)) (n + 1)
block_rises filling f n is = by filling.content.link.plan.named.primary (thunk_bytes filling f.id)
  where
    by : (part bytes : Option ℕ)
        → IsRising n (taker_keys (thunk_key filling.content.link) (option_to_list (option_and_then (λ p. option_map (thunk_taker f.id p) bytes) part))) (n + 1)
    by None bytes = omega arith
    by (Some p) None = omega arith
    by (Some p) (Some size) = (omega (arith, is), omega (arith, is))

blocks_rise : (filling : Filling) → FilesRise filling.content.link (λ _. 1) (λ f. taker_keys (thunk_key filling.content.link) (file_takers filling f))
blocks_rise filling k f at =
    let link : LinkInput = filling.content.link in
    let all : List InputFile = all_files link.groups in
    let within : k < length (numbered_files link.groups) = slice_get_within (numbered_files link.groups) k f at in
    let count : length all ≡ length (numbered_files link.groups)
    = ap length (sym (files_from_are 0 link.groups)) ∙ length-map (numbered_files link.groups) (λ (g : NumberedFile). g.file) in
    let before : sum_by (λ (_ : InputFile). 1) (take k all) ≡ k = ones (take k all) ∙ length-take-le k all (omega (arith, within, count)) in
    subst (λ (n : ℕ). IsRising n (taker_keys (thunk_key link) (file_takers filling f)) (n + 1)) (sym before)
    (subst (λ (ns : List ℕ). IsRising k ns (k + 1)) (sym (blocks_told filling f)) (block_rises filling f k (sym (place_is_number link k f at))))

-- the file of none stands twice among the owners of a part
pub blocks_once : (filling : Filling) (p : ℕ) → NoneTwice (filter_map (thunk_key filling.content.link) (owners_of filling p))
blocks_once filling p =
    once_in_part (thunk_key filling.content.link) filling p (record { image = λ section len. refl; identity = λ size. refl; entry = λ e. refl })
    (keys_once (thunk_key filling.content.link) filling (λ _. 1) (λ x n. refl) (blocks_rise filling))
