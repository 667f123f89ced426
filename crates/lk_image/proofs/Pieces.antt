-- The pieces of buckets, one behind the other, are the bytes of an image.
use Rattle.std.proofs.Common.{◌≡◌, ℕ, ◌+◌, ◌<◌, List, [], ◌∷◌, ◌++◌, length, map, take, get_or, fold, refl, sym, ap, ◌∙◌, arith}
use Rattle.std.specs.Prelude.{Some}
use Rattle.std.specs.List.{concat, enumerate_from, flat_map, range_with_len, slice_get}
use Rattle.std.proofs.lemmas.Grind.{flat_map-append}
use Rattle.std.proofs.lemmas.List.{append-nil, length-map, take_more}
use Rattle.std.proofs.lemmas.List.Folds.{concat-append}
use Rattle.std.proofs.lemmas.List.FromFn.{length-range_with_len}
use Rattle.std.proofs.lemmas.List.Sums.{fold-append}
use Rattle.std.proofs.lemmas.Option.{get_or_from_slice_get, slice_get-get_or, slice_get_within}
use Rattle.lk_link.specs.declared.link.LinkInput.{LinkInput}
use Rattle.lk_link.proofs.InputLemmas.{numbered_get}
use Rattle.lk_merge.specs.Hash.{fnv64}
use Rattle.lk_merge.specs.Image.{all_buckets, all_pieces, bucket_list, firsts_behind, image}
use Rattle.lk_merge.specs.LinkInputs.{link_inputs, merge_inputs}
use Rattle.lk_merge.specs.Merging.{kept_lists}
use Rattle.lk_merge.specs.Pieces.{MergeInput, Piece}

-- the bytes of each, one behind the other
pub joined : {X : Type 0} (f : X → List ℕ) (xs : List X) → flat_map f xs ≡ concat (map f xs)
joined f [] = refl
joined f (x ∷ xs) = ap (λ (zs : List ℕ). f x ++ zs) (joined f xs)

each_joined : {X : Type 0} (f : X → List (List ℕ)) (xs : List X) → flat_map (λ x. concat (f x)) xs ≡ flat_map concat (map f xs)
each_joined f [] = refl
each_joined f (x ∷ xs) = ap (λ (zs : List ℕ). concat (f x) ++ zs) (each_joined f xs)

all_joined : {X : Type 0} (g : X → List (List ℕ)) (xs : List X) → flat_map concat (map g xs) ≡ concat (flat_map g xs)
all_joined g [] = refl
all_joined g (x ∷ xs) = ap (λ (zs : List ℕ). concat (g x) ++ zs) (all_joined g xs) ∙ sym (concat-append (g x) (flat_map g xs))

kept_joined : (inputs : List MergeInput) → flat_map concat (kept_lists fnv64 inputs) ≡ image fnv64 (all_pieces inputs)
unfolding all_buckets firsts_behind
kept_joined [] = refl
kept_joined (x ∷ xs) = all_joined (bucket_list fnv64 (all_pieces (x ∷ xs))) all_buckets

pub buckets_hold : {X : Type 0} (f : X → List Piece) (buckets : List X) (inputs : List MergeInput) → map f buckets ≡ kept_lists fnv64 inputs → flat_map (λ b. concat (f b)) buckets ≡ image fnv64 (all_pieces inputs)
buckets_hold f buckets inputs kept = each_joined f buckets ∙ ap (flat_map concat) kept ∙ kept_joined inputs

-- an output section with a list of merged inputs is there
pub output_there : (link : LinkInput) (merged : List (List MergeInput)) (s : ℕ) (inputs : List MergeInput) → merged ≡ (link_inputs link).outputs → slice_get merged s ≡ Some inputs
    → s < length link.plan.sections
output_there link merged s inputs same there =
    let n : ℕ = length link.plan.sections in
    omega (arith, slice_get_within merged s inputs there, ap length same, length-map (range_with_len 0 n) (merge_inputs link), length-range_with_len 0 n)

-- what is folded over what comes of one more numbered thing
pub folds_next : {Y Z A : Type 0} (h : A → Z → A) (g : ℕ × Y → List Z) (ys told : List Y) (k : ℕ) (y : Y) (a b c : A) → told ≡ ys → k < length told → y ≡ get_or told k y
    → b ≡ fold h a (flat_map g (take k (enumerate_from 0 ys))) → c ≡ fold h b (g (k, y)) → c ≡ fold h a (flat_map g (take (k + 1) (enumerate_from 0 ys)))
folds_next {Y} {Z} {A} h g ys told k y a b c same lt is so_far next =
    let qs : List (ℕ × Y) = enumerate_from 0 ys in
    let pair : ℕ → ℕ × Y = λ n. (n, y) in
    let number : 0 + k ≡ k = omega arith in
    let there : slice_get ys k ≡ Some y = ap (λ (zs : List Y). slice_get zs k) (sym same) ∙ slice_get-get_or told k y lt ∙ ap (λ (z : Y). Some z) (sym is) in
    let at : slice_get qs k ≡ Some (pair k) = numbered_get 0 ys k y there ∙ ap (λ (n : ℕ). Some (pair n)) number in
    let within : k < length qs = slice_get_within qs k (pair k) at in
    let read : get_or qs k (pair k) ≡ pair k = get_or_from_slice_get qs k (pair k) (pair k) at in
    let done : List Z = flat_map g (take k qs) in
    let more : flat_map g (take (k + 1) qs) ≡ done ++ g (pair k)
    = ap (flat_map g) (take_more qs k (pair k) within) ∙ flat_map-append g (take k qs) (get_or qs k (pair k) ∷ [])
    ∙ ap (λ (q : ℕ × Y). done ++ (g q ++ [])) read ∙ ap (λ (zs : List Z). done ++ zs) (append-nil (g (pair k))) in
    next ∙ ap (λ (z : A). fold h z (g (pair k))) so_far ∙ sym (ap (λ (zs : List Z). fold h a zs) more ∙ fold-append h a done (g (pair k)))
