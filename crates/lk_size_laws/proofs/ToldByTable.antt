-- Live sections are told by their marks and a table of addresses.
use Rattle.std.proofs.Common.{◌≡◌, ℕ, suc, ◌+◌, Bool, true, false, List, [], ◌∷◌, map, Some, refl, sym, ap, ◌∙◌, arith}
use Rattle.std.specs.List.{enumerate_from, slice_get, slice_index, slice_index_or}
use Rattle.lk_link.specs.declared.link.LinkInput.{LinkInput}
use Rattle.lk_link.specs.Inputs.{Input, all_inputs}
use Rattle.lk_live.specs.Reach.{marked}
use Rattle.lk_sizes.specs.declared.addresses.LiveSection.{LiveSection}
use Rattle.lk_sizes.specs.Addresses.{TableTellsLiveSections, live_section, section_addresses, told_section}
use Rattle.lk_sizes.specs.Owners.{Filling, size_in, size_of}
use Rattle.lk_sizes.specs.PartOwners.{live_address}
use Rattle.lk_sizes.proofs.Numbering.{table_at}
use Rattle.lk_sizes.proofs.OwnSizes.{own_size}

-- those that have a mark, numbered from n on, are told by a table that has their addresses
told_from : (filling : Filling) (starts table : List ℕ) (marks : List Bool) (xs : List Input) (n : ℕ)
    → ((k : ℕ) (x : Input) → slice_get xs k ≡ Some x → size_of filling x ≡ x.section.size)
    → ((k : ℕ) (x : Input) → slice_get xs k ≡ Some x → slice_index_or marks k false ≡ true → slice_index table (n + k) ≡ live_address filling starts x)
    → map (told_section table) (marked marks (enumerate_from n xs)) ≡ map (live_section filling starts) (marked marks xs)
told_from filling starts table [] xs n sized h = refl
told_from filling starts table (m ∷ marks) [] n sized h = refl
told_from filling starts table (true ∷ marks) (x ∷ xs) n sized h =
    let here : slice_index table n ≡ live_address filling starts x = let number : n + 0 ≡ n = omega arith in ap (slice_index table) (sym number) ∙ h 0 x refl refl in
    let told : ℕ → ℕ → LiveSection = λ address size. record { file = x.file; index = x.index; address = address; size = size } in
    ap (λ (a : ℕ). told a x.section.size ∷ map (told_section table) (marked marks (enumerate_from (n + 1) xs))) here
    ∙ ap (λ (s : ℕ). told (live_address filling starts x) s ∷ map (told_section table) (marked marks (enumerate_from (n + 1) xs))) (sym (sized 0 x refl))
    ∙ ap (λ (ls : List LiveSection). live_section filling starts x ∷ ls) (told_from filling starts table marks xs (n + 1) (λ k. sized (suc k)) (λ k y at set.
    let number : n + 1 + k ≡ n + suc k = omega arith in
    ap (slice_index table) number ∙ h (suc k) y at set))
told_from filling starts table (false ∷ marks) (x ∷ xs) n sized h =
    told_from filling starts table marks xs (n + 1) (λ k. sized (suc k)) (λ k y at set.
    let number : n + 1 + k ≡ n + suc k = omega arith in
    ap (slice_index table) number ∙ h (suc k) y at set)

pub table_tells_live_sections : TableTellsLiveSections
table_tells_live_sections filling starts is =
    let link : LinkInput = filling.content.link in
    told_from filling starts (section_addresses filling starts) filling.content.live.marks (all_inputs link.groups) 0
    (λ k x there. ap (λ (sizes : List ℕ). size_in link sizes x) is ∙ own_size filling.content k x there) (λ k x there set.
    let number : 0 + k ≡ k = omega arith in
    ap (slice_index (section_addresses filling starts)) number ∙ table_at filling starts k x there set)
