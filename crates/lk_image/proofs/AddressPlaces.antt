-- The address of a live section among the owners of its part, and the room that it has there.
use Rattle.std.proofs.Common.{rules, ◌≡◌, ℕ, ◌+◌, ◌-◌, true, List, [], ◌∷◌, Option, Some, None, refl, ap, ◌∙◌, arith, if◌then◌else◌}
use Rattle.std.specs.Prelude.{slice_index, sum_by, IsSome}
use Rattle.std.specs.List.{enumerate_from, slice_get}
use Rattle.std.proofs.lemmas.Option.{get_or_from_slice_get}
use Rattle.lk_link.specs.Inputs.{Input, all_inputs}
use Rattle.lk_link.specs.Marks.{is_marked}
use Rattle.lk_link.proofs.Elements.{map_in}
use Rattle.lk_link.proofs.InputLemmas.{numbered_get}
use Rattle.lk_deltas.specs.Candidates.{ranges_in}
use Rattle.lk_deltas.specs.LinkDeletions.{Deletions, deleted_of, size_after, sizes_after}
use Rattle.lk_deltas.specs.Deletions.{bytes_before, mapped, mapped_by}
use Rattle.lk_sizes.specs.Addresses.{section_address, section_addresses}
use Rattle.lk_sizes.specs.Owners.{Filling, size_of}
use Rattle.lk_sizes.specs.PartOwners.{live_address}
use Rattle.lk_sizes.proofs.LiveByFiles.{number_of}

-- what the table has at its number
pub address_told : (filling : Filling) (starts : List ℕ) (k : ℕ) (x : Input) → slice_get (all_inputs filling.content.link.groups) k ≡ Some x → is_marked filling.content.live.marks k ≡ true
    → slice_index (section_addresses filling starts) k ≡ live_address filling starts x
address_told filling starts k x there set =
    let number : 0 + k ≡ k = omega arith in
    let pair : ℕ → ℕ × Input = λ n. (n, x) in
    let at : slice_get (enumerate_from 0 (all_inputs filling.content.link.groups)) k ≡ Some (pair k)
    = numbered_get 0 (all_inputs filling.content.link.groups) k x there ∙ ap (λ (n : ℕ). Some (pair n)) number in
    let told = map_in (section_address filling starts) (enumerate_from 0 (all_inputs filling.content.link.groups)) k (pair k) at in
    get_or_from_slice_get (section_addresses filling starts) k (section_address filling starts (pair k)) 0 told
    ∙ ap (λ b. if b then live_address filling starts x else 0) set

no_first : {X : Type 0} (xs : List X) → (IsSome (slice_get xs 0) → ⊥) → xs ≡ []
no_first [] h = refl
no_first (x ∷ xs) h = absurd (h (search rules))

kept_by : (ranges : Option (List (ℕ × ℕ))) (offset : ℕ) → ranges_in ranges ≡ [] → mapped_by ranges offset ≡ offset
unfolding mapped
kept_by None offset none = refl
kept_by (Some ranges) offset none =
    let whole : offset - 0 ≡ offset = omega arith in
    ap (λ (rs : List (ℕ × ℕ)). offset - sum_by (bytes_before offset) rs) none ∙ whole

-- where nothing is deleted of a section, its size stays
pub size_stays : (filling : Filling) (deletions : Deletions) (k : ℕ) (x : Input) → slice_get (all_inputs filling.content.link.groups) k ≡ Some x
    → filling.sizes ≡ sizes_after filling.content.link.groups deletions
    → (IsSome (slice_get (ranges_in (deleted_of filling.content.link.groups deletions x.file x.index)) 0) → ⊥) → size_of filling x ≡ x.section.size
size_stays filling deletions k x there sizes none =
    let groups = filling.content.link.groups in
    let at = map_in (size_after groups deletions) (all_inputs groups) k x there in
    ap (slice_index filling.sizes) (number_of filling.content.link k x there) ∙ ap (λ (ns : List ℕ). slice_index ns k) sizes
    ∙ get_or_from_slice_get (sizes_after groups deletions) k (size_after groups deletions x) 0 at
    ∙ kept_by (deleted_of groups deletions x.file x.index) x.section.size (no_first _ none)
