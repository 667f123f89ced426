-- Live sections are told with their sizes, without what is deleted of them.
use Rattle.std.proofs.Common.{◌≡◌, ℕ, suc, ◌+◌, Bool, true, false, List, [], ◌∷◌, map, Some, refl, sym, ap, ◌∙◌, arith}
use Rattle.std.specs.List.{enumerate_from, slice_get, slice_index, slice_index_or}
use Rattle.std.proofs.lemmas.Option.{get_or_from_slice_get}
use Rattle.lk_link.specs.Inputs.{Input, all_inputs}
use Rattle.lk_link.proofs.Elements.{map_in}
use Rattle.lk_live.specs.Reach.{marked}
use Rattle.lk_deltas.specs.LinkDeletions.{size_after, sizes_after}
use Rattle.lk_sizes.specs.declared.addresses.LiveSection.{LiveSection}
use Rattle.lk_sizes.specs.Addresses.{live_section, live_sections, section_addresses}
use Rattle.lk_sizes.specs.Owners.{Filling, size_of}
use Rattle.lk_sizes.specs.PartOwners.{live_address}
use Rattle.lk_sizes.proofs.LiveByFiles.{number_of}
use Rattle.lk_sizes.proofs.Numbering.{table_at}
use Rattle.lk_layout.specs.Defined.{layout_of}
use Rattle.lk_layout.specs.Layouts.{told_live}
use Rattle.lk_layout.specs.Made.{Made, made_deletions, made_filling}
use Rattle.lk_resolutions.specs.Starts.{starts_of}

-- the size of a section in the filling is what is left of it
left_of : (made : Made) (k : ℕ) (x : Input) → slice_get (all_inputs made.link.groups) k ≡ Some x → size_of (made_filling made) x ≡ size_after made.link.groups (made_deletions made) x
left_of made k x there =
    let left : Input → ℕ = size_after made.link.groups (made_deletions made) in
    ap (slice_index (made_filling made).sizes) (number_of made.link k x there)
    ∙ get_or_from_slice_get (sizes_after made.link.groups (made_deletions made)) k (left x) 0 (map_in left (all_inputs made.link.groups) k x there)

-- an input section with its number, told by a table of addresses, and by sizes
abbrev told_by : List ℕ → (Input → ℕ) → ℕ × Input → LiveSection
told_by table size q = record { file = q.1.file; index = q.1.index; address = slice_index table q.0; size = size q.1 }

-- those that have a mark, numbered from n on, are told by a table that has their addresses
told_from : (filling : Filling) (starts table : List ℕ) (size : Input → ℕ) (marks : List Bool) (xs : List Input) (n : ℕ)
    → ((k : ℕ) (x : Input) → slice_get xs k ≡ Some x → size_of filling x ≡ size x)
    → ((k : ℕ) (x : Input) → slice_get xs k ≡ Some x → slice_index_or marks k false ≡ true → slice_index table (n + k) ≡ live_address filling starts x)
    → map (told_by table size) (marked marks (enumerate_from n xs)) ≡ map (live_section filling starts) (marked marks xs)
told_from filling starts table size [] xs n sized h = refl
told_from filling starts table size (m ∷ marks) [] n sized h = refl
told_from filling starts table size (true ∷ marks) (x ∷ xs) n sized h =
    let here : slice_index table n ≡ live_address filling starts x = let number : n + 0 ≡ n = omega arith in ap (slice_index table) (sym number) ∙ h 0 x refl refl in
    let told : ℕ → ℕ → LiveSection = λ address bytes. record { file = x.file; index = x.index; address = address; size = bytes } in
    ap (λ (a : ℕ). told a (size x) ∷ map (told_by table size) (marked marks (enumerate_from (n + 1) xs))) here
    ∙ ap (λ (s : ℕ). told (live_address filling starts x) s ∷ map (told_by table size) (marked marks (enumerate_from (n + 1) xs))) (sym (sized 0 x refl))
    ∙ ap (λ (ls : List LiveSection). live_section filling starts x ∷ ls) (told_from filling starts table size marks xs (n + 1) (λ k. sized (suc k)) (λ k y at set.
    let number : n + 1 + k ≡ n + suc k = omega arith in
    ap (slice_index table) number ∙ h (suc k) y at set))
told_from filling starts table size (false ∷ marks) (x ∷ xs) n sized h =
    told_from filling starts table size marks xs (n + 1) (λ k. sized (suc k)) (λ k y at set.
    let number : n + 1 + k ≡ n + suc k = omega arith in
    ap (slice_index table) number ∙ h (suc k) y at set)

pub told_live_are : (made : Made) → told_live made.link (layout_of made) ≡ live_sections (made_filling made) (starts_of made.stage.records)
told_live_are made =
    let filling : Filling = made_filling made in
    let starts : List ℕ = starts_of made.stage.records in
    told_from filling starts (section_addresses filling starts) (size_after made.link.groups (made_deletions made)) made.live.marks (all_inputs made.link.groups) 0 (left_of made) (λ k x there set.
    let number : 0 + k ≡ k = omega arith in
    ap (slice_index (section_addresses filling starts)) number ∙ table_at filling starts k x there set)
