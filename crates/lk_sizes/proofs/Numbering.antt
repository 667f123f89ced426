-- Numbered elements, and the addresses that a table has of live sections, by number.
use Rattle.std.proofs.Common.{◌≡◌, ℕ, suc, ◌+◌, true, if◌then◌else◌, List, [], ◌∷◌, ◌++◌, length, Some, ap, ◌∙◌, arith}
use Rattle.std.specs.List.{enumerate_from, slice_get, slice_index}
use Rattle.std.proofs.lemmas.Option.{get_or_from_slice_get}
use Rattle.lk_link.specs.Inputs.{Input, all_inputs}
use Rattle.lk_link.specs.Marks.{is_marked}
use Rattle.lk_link.proofs.Elements.{map_in}
use Rattle.lk_link.proofs.InputLemmas.{numbered_get}
use Rattle.lk_sizes.specs.Addresses.{section_address, section_addresses}
use Rattle.lk_sizes.specs.Owners.{Filling}
use Rattle.lk_sizes.specs.PartOwners.{live_address}

-- one element more, with its number
pub numbered_push : {X : Type 0} (o : ℕ) (xs : List X) (x : X) → enumerate_from o (xs ++ x ∷ []) ≡ enumerate_from o xs ++ (o + length xs, x) ∷ []
numbered_push o [] x = let e : o ≡ o + 0 = omega arith in ap (λ n. (n, x) ∷ []) e
numbered_push o (y ∷ xs) x =
    let e : o + 1 + length xs ≡ o + suc (length xs) = omega arith in
    ap (λ ys. (o, y) ∷ ys) (numbered_push (o + 1) xs x ∙ ap (λ n. enumerate_from (o + 1) xs ++ (n, x) ∷ []) e)

-- the table has the address of each live section
pub table_at : (filling : Filling) (starts : List ℕ) (k : ℕ) (x : Input) → slice_get (all_inputs filling.content.link.groups) k ≡ Some x → is_marked filling.content.live.marks k ≡ true
    → slice_index (section_addresses filling starts) k ≡ live_address filling starts x
table_at filling starts k x there set =
    let f : ℕ × Input → ℕ = section_address filling starts in
    let number : 0 + k ≡ k = omega arith in
    let numbered : slice_get (enumerate_from 0 (all_inputs filling.content.link.groups)) k ≡ Some (k, x) = numbered_get 0 (all_inputs filling.content.link.groups) k x there ∙ ap (λ (n : ℕ). Some (n, x)) number in
    get_or_from_slice_get (section_addresses filling starts) k (f (k, x)) 0 (map_in f (enumerate_from 0 (all_inputs filling.content.link.groups)) k (k, x) numbered)
    ∙ ap (λ b. if b then live_address filling starts x else 0) set
