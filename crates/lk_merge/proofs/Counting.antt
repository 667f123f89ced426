-- How much is kept of inputs, and how much they have.
use Rattle.std.proofs.Common.{◌≡◌, ℕ, suc, ◌+◌, ◌<◌, ◌≤◌, ◌^◌, List, [], ◌∷◌, ◌++◌, length, map, take, get_or, option_map, None, Some, true, sum_by, refl, sym, ap, ◌∙◌, arith, length-append}
use Rattle.std.specs.List.{concat, flat_map, list_all, range_with_len, slice_get}
use Rattle.std.proofs.lemmas.List.{length-map}
use Rattle.std.proofs.lemmas.List.Concat.{length-flat_map}
use Rattle.std.proofs.lemmas.List.FromFn.{get_or-map-range_with_len, length-map-range_with_len}
use Rattle.std.proofs.lemmas.List.Sums.{sum_by-cons, sum_by-le-sum_by, sum_by_more_le}
use Rattle.std.proofs.lemmas.Option.{get_or_from_slice_get, slice_get-map}
use Rattle.lk_link.proofs.Elements.{at_index}
use Rattle.lk_merge.specs.declared.inputs.StringMergeInputSection.{StringMergeInputSection}
use Rattle.lk_merge.specs.declared.offset_map.OffsetMap.{OffsetMap}
use Rattle.lk_merge.specs.Buckets.{Bucket}
use Rattle.lk_merge.specs.Hash.{fnv64}
use Rattle.lk_merge.specs.Image.{all_buckets, all_pieces, bucket_list, image, image_pieces}
use Rattle.lk_merge.specs.Inputs.{AreInputs, input_of, padded_len}
use Rattle.lk_merge.specs.MergedTables.{IsMerged}
use Rattle.lk_merge.specs.Merging.{kept_lists}
use Rattle.lk_merge.specs.Pieces.{Piece, MergeInput, is_terminated, pieces_of}
use Rattle.lk_merge.proofs.AmongLemmas.{concat-append}
use Rattle.lk_merge.proofs.Beginning.{no_list}
use Rattle.lk_merge.proofs.GoodPieces.{concat_pieces, terminated_at}
use Rattle.lk_merge.proofs.LaidOut.{data_fits}
use Rattle.lk_merge.proofs.MergeBytes.{sum_map}

-- ---- sums

no_sum : {X : Type 0} (f : X → ℕ) → ((x : X) → f x ≡ 0) → (xs : List X) → sum_by f xs ≡ 0
no_sum f h [] = refl
no_sum f h (x ∷ xs) =
    let more = sum_by-cons f x xs in
    let rest = no_sum f h xs in
    omega (arith, more, rest, h x)

pub length_concat_flat : {X : Type 0} (f : X → List Piece) (xs : List X) → length (concat (flat_map f xs)) ≡ sum_by (λ x. length (concat (f x))) xs
length_concat_flat f [] = refl
length_concat_flat f (x ∷ xs) =
    let both : length (concat (f x ++ flat_map f xs)) ≡ length (concat (f x)) + length (concat (flat_map f xs))
    = ap length (concat-append (f x) (flat_map f xs)) ∙ length-append (concat (f x)) (concat (flat_map f xs)) in
    let more = sum_by-cons (λ y. length (concat (f y))) x xs in
    let rest = length_concat_flat f xs in
    omega (arith, both, more, rest)

sum_where : {X : Type 0} (f g : X → ℕ) (xs : List X) → ((k : ℕ) (x : X) → slice_get xs k ≡ Some x → f x ≡ g x) → sum_by f xs ≡ sum_by g xs
sum_where f g [] h = refl
sum_where f g (x ∷ xs) h =
    let left = sum_by-cons f x xs in
    let right = sum_by-cons g x xs in
    let rest = sum_where f g xs (λ k y e. h (suc k) y e) in
    let one = h 0 x refl in
    omega (arith, left, right, rest, one)

-- ---- what the buckets keep

kept_sum : (g : List Piece → ℕ) → g [] ≡ 0 → (inputs : List MergeInput)
    → sum_by g (kept_lists fnv64 inputs) ≡ sum_by (λ b. g (bucket_list fnv64 (all_pieces inputs) b)) all_buckets
kept_sum g none [] = sym (no_sum (λ b. g (bucket_list fnv64 [] b)) (λ b. ap g (no_list b) ∙ none) all_buckets)
kept_sum g none (x ∷ xs) = sum_map g (bucket_list fnv64 (all_pieces (x ∷ xs))) all_buckets

-- a sum over buckets is one over the lists of the definition
over_buckets : (g : List Piece → ℕ) → g [] ≡ 0 → (inputs : List MergeInput) (buckets : List Bucket) (entries : OffsetMap) → IsMerged inputs buckets entries
    → sum_by (λ (k : Bucket). g k.pieces) buckets ≡ sum_by (λ b. g (bucket_list fnv64 (all_pieces inputs) b)) all_buckets
over_buckets g none inputs buckets entries h = sym (sum_map g (λ (k : Bucket). k.pieces) buckets) ∙ ap (sum_by g) h.kept ∙ kept_sum g none inputs

pub kept_bytes : (inputs : List MergeInput) (buckets : List Bucket) (entries : OffsetMap) → IsMerged inputs buckets entries
    → sum_by (λ (k : Bucket). length (concat k.pieces)) buckets ≡ length (image fnv64 (all_pieces inputs))
kept_bytes inputs buckets entries h =
    over_buckets (λ ps. length (concat ps)) refl inputs buckets entries h ∙ sym (length_concat_flat (bucket_list fnv64 (all_pieces inputs)) all_buckets)

pub kept_count : (inputs : List MergeInput) (buckets : List Bucket) (entries : OffsetMap) → IsMerged inputs buckets entries
    → sum_by (λ (k : Bucket). length k.pieces) buckets ≡ length (image_pieces fnv64 (all_pieces inputs))
kept_count inputs buckets entries h =
    over_buckets (λ ps. length ps) refl inputs buckets entries h ∙ sym (length-flat_map (bucket_list fnv64 (all_pieces inputs)) all_buckets)

few_lists : (inputs : List MergeInput) → length (kept_lists fnv64 inputs) ≤ 16
unfolding all_buckets
few_lists [] = omega arith
few_lists (x ∷ xs) = let n = length-map-range_with_len (bucket_list fnv64 (all_pieces (x ∷ xs))) 0 16 in omega (arith, n)

pub few_buckets : (inputs : List MergeInput) (buckets : List Bucket) (entries : OffsetMap) → IsMerged inputs buckets entries → length buckets ≤ 16
few_buckets inputs buckets entries h =
    let count : length buckets ≡ length (kept_lists fnv64 inputs) = sym (length-map buckets (λ (k : Bucket). k.pieces)) ∙ ap length h.kept in
    let few = few_lists inputs in
    omega (arith, count, few)

-- a bucket keeps the list of the definition
kept_in : (xs : List MergeInput) (b : ℕ) (ps : List Piece) → b < 16 → slice_get (kept_lists fnv64 xs) b ≡ Some ps → ps ≡ bucket_list fnv64 (all_pieces xs) b
unfolding all_buckets
kept_in [] b ps below none = absurd (cc)
kept_in (x ∷ xs) b ps below some =
    sym (get_or_from_slice_get (map (bucket_list fnv64 (all_pieces (x ∷ xs))) (range_with_len 0 16)) b ps [] some)
    ∙ get_or-map-range_with_len (bucket_list fnv64 (all_pieces (x ∷ xs))) 0 16 b b [] below (omega arith)

pub kept_at : (inputs : List MergeInput) (buckets : List Bucket) (entries : OffsetMap) → IsMerged inputs buckets entries → (b : ℕ) (k : Bucket) → b < 16
    → slice_get buckets b ≡ Some k → k.pieces ≡ bucket_list fnv64 (all_pieces inputs) b
kept_at inputs buckets entries h b k below there =
    kept_in inputs b k.pieces below
    (ap (λ l. slice_get l b) (sym h.kept) ∙ slice_get-map (λ (z : Bucket). z.pieces) buckets b ∙ ap (option_map (λ (z : Bucket). z.pieces)) there)

none_in : (xs : List MergeInput) (buckets : List Bucket) (b : ℕ) → b < 16 → slice_get buckets b ≡ None → map (λ (z : Bucket). z.pieces) buckets ≡ kept_lists fnv64 xs
    → [] ≡ bucket_list fnv64 (all_pieces xs) b
unfolding all_buckets
none_in [] buckets b below none kept = sym (no_list b)
none_in (x ∷ xs) buckets b below none kept =
    let many = length-map-range_with_len (bucket_list fnv64 (all_pieces (x ∷ xs))) 0 16 in
    let count : length buckets ≡ length (map (bucket_list fnv64 (all_pieces (x ∷ xs))) (range_with_len 0 16))
    = sym (length-map buckets (λ (z : Bucket). z.pieces)) ∙ ap length kept in
    let there = at_index buckets b (omega (arith, count, many, below)) in
    absurd (let both : None ≡ Some there.0 = sym none ∙ there.1 in cc)

pub kept_none : (inputs : List MergeInput) (buckets : List Bucket) (entries : OffsetMap) → IsMerged inputs buckets entries → (b : ℕ) → b < 16
    → slice_get buckets b ≡ None → [] ≡ bucket_list fnv64 (all_pieces inputs) b
kept_none inputs buckets entries h b below none = none_in inputs buckets b below none h.kept

-- ---- what the inputs have

-- the bytes of sections' data
abbrev pub data_len : StringMergeInputSection → ℕ
data_len s = length s.section_data.now

pub data_bytes : (ss : List StringMergeInputSection) (inputs : List MergeInput) → map input_of ss ≡ inputs → list_all is_terminated inputs ≡ true
    → sum_by data_len ss ≡ length (concat (all_pieces inputs))
data_bytes ss inputs same h =
    sym (sum_map (λ (x : MergeInput). length x.bytes) input_of ss) ∙ ap (sum_by (λ (x : MergeInput). length x.bytes)) same
    ∙ sum_where (λ (x : MergeInput). length x.bytes) (λ x. length (concat (pieces_of x))) inputs (λ k x there. ap length (sym (concat_pieces x (terminated_at inputs k x h there))))
    ∙ sym (length_concat_flat pieces_of inputs)

pub data_sum_fits : (total : ℕ) (ss : List StringMergeInputSection) (k : ℕ) (s : StringMergeInputSection) → AreInputs total ss → k < length ss
    → sum_by data_len (take k ss) + data_len (get_or ss k s) < 2 ^ 63
data_sum_fits total ss k s h within =
    let more = sum_by_more_le data_len ss k s within in
    let all = sum_by-le-sum_by data_len (λ s. padded_len (input_of s)) ss (λ s. data_fits (input_of s)) in
    let padded = sum_map padded_len input_of ss in
    omega (arith, more, all, padded, h.sum, h.fits)
