-- Where buckets start, in images and in memory.
use Rattle.std.proofs.Common.{◌≡◌, ℕ, zero, suc, ◌+◌, ◌-◌, ◌*◌, ◌<◌, ◌≤◌, List, [], ◌∷◌, ◌++◌, length, map, drop, get_or, Some, sum_by, refl, sym, ap, ◌∙◌, arith, append_assoc, append-nil, length-append}
use Rattle.std.specs.List.{concat, enumerate_from, flat_map, range_with_len, slice_get}
use Rattle.std.proofs.lemmas.List.{drop_all, drop_more, get_or_append_left, get_or-append-add}
use Rattle.std.proofs.lemmas.List.FromFn.{get_or-map-range_with_len, length-enumerate_from, length-map-range_with_len, map-range_with_len_more, sum_by-map-range_with_len_more}
use Rattle.lk_link.proofs.InputLemmas.{numbered_get}
use Rattle.lk_link.proofs.Elements.{at_index}
use Rattle.lk_merge.specs.Addresses.{AreStartsOf, ImagesFit, bucket_addresses, image_start, start_addresses}
use Rattle.lk_merge.specs.Hash.{fnv64}
use Rattle.lk_merge.specs.Image.{all_buckets, all_pieces, bucket_list, image}
use Rattle.lk_merge.specs.Pieces.{Piece, MergeInput}
use Rattle.lk_merge.specs.Places.{bucket_start}
use Rattle.lk_merge.proofs.Counting.{length_concat_flat}
use Rattle.lk_merge.proofs.MergeBytes.{sum_map}

-- ---- in images

module _ (hash : Piece → ℕ) (pieces : List Piece) where
  abbrev bytes : List Piece → ℕ
  bytes ps = length (concat ps)

  as_sum : (b : ℕ) → bucket_start hash pieces b ≡ sum_by bytes (map (bucket_list hash pieces) (range_with_len 0 b))
  as_sum b = length_concat_flat (bucket_list hash pieces) (range_with_len 0 b) ∙ sym (sum_map bytes (bucket_list hash pieces) (range_with_len 0 b))

  -- the next bucket starts behind the bytes of this one
  pub start_more : (b : ℕ) → bucket_start hash pieces (b + 1) ≡ bucket_start hash pieces b + length (concat (bucket_list hash pieces b))
  start_more b =
      let more : sum_by bytes (map (bucket_list hash pieces) (range_with_len 0 (b + 1)))
      ≡ sum_by bytes (map (bucket_list hash pieces) (range_with_len 0 b)) + bytes (bucket_list hash pieces b)
      = sum_by-map-range_with_len_more bytes (bucket_list hash pieces) 0 b b (omega arith) in
      as_sum (b + 1) ∙ more ∙ ap (λ n. n + bytes (bucket_list hash pieces b)) (sym (as_sum b))

  pub start_first : bucket_start hash pieces 0 ≡ 0
  start_first = refl

  starts_rise : (b n : ℕ) → bucket_start hash pieces b ≤ bucket_start hash pieces (b + n)
  starts_rise b zero = let same : bucket_start hash pieces (b + 0) ≡ bucket_start hash pieces b = let n : b + 0 ≡ b = omega arith in ap (bucket_start hash pieces) n in omega (arith, same)
  starts_rise b (suc n) =
      let next : b + suc n ≡ (b + n) + 1 = omega arith in
      let same : bucket_start hash pieces (b + suc n) ≡ bucket_start hash pieces ((b + n) + 1) = ap (bucket_start hash pieces) next in
      let more = start_more (b + n) in
      omega (arith, same, more, starts_rise b n)

  start_last : bucket_start hash pieces 16 ≡ length (image hash pieces)
  unfolding all_buckets
  start_last = refl

  -- a bucket ends within the image
  pub bucket_within : (b : ℕ) → b < 16 → bucket_start hash pieces b + length (concat (bucket_list hash pieces b)) ≤ length (image hash pieces)
  bucket_within b below =
      let more = start_more b in
      let rise = starts_rise (b + 1) (15 - b) in
      let end : (b + 1) + (15 - b) ≡ 16 = omega (arith, below) in
      let last : bucket_start hash pieces ((b + 1) + (15 - b)) ≡ bucket_start hash pieces 16 = ap (bucket_start hash pieces) end in
      omega (arith, more, rise, last, start_last)

-- ---- the addresses of one output section

pub sixteen : (start : ℕ) (inputs : List MergeInput) → length (bucket_addresses fnv64 start inputs) ≡ 16
unfolding all_buckets
sixteen start inputs = length-map-range_with_len (λ b. start + bucket_start fnv64 (all_pieces inputs) b) 0 16

pub address_of : (start : ℕ) (inputs : List MergeInput) (b : ℕ) → b < 16 → get_or (bucket_addresses fnv64 start inputs) b 0 ≡ start + bucket_start fnv64 (all_pieces inputs) b
unfolding all_buckets
address_of start inputs b below = get_or-map-range_with_len (λ k. start + bucket_start fnv64 (all_pieces inputs) k) 0 16 b b 0 below (omega arith)

-- the first buckets
abbrev pub first_addresses : ℕ → List MergeInput → ℕ → List ℕ
first_addresses start inputs n = map (λ k. start + bucket_start fnv64 (all_pieces inputs) k) (range_with_len 0 n)

pub addresses_more : (start : ℕ) (inputs : List MergeInput) (old : List ℕ) (n : ℕ)
    → (old ++ first_addresses start inputs n) ++ (start + bucket_start fnv64 (all_pieces inputs) n) ∷ [] ≡ old ++ first_addresses start inputs (n + 1)
addresses_more start inputs old n =
    append_assoc old (first_addresses start inputs n) _
    ∙ ap (λ l. old ++ l) (sym (map-range_with_len_more (λ k. start + bucket_start fnv64 (all_pieces inputs) k) 0 n n (omega arith)))

pub addresses_all : (start : ℕ) (inputs : List MergeInput) → first_addresses start inputs 16 ≡ bucket_addresses fnv64 start inputs
unfolding all_buckets
addresses_all start inputs = refl

-- ---- those of all output sections

abbrev pub addresses_in : List ℕ → ℕ × List MergeInput → List ℕ
addresses_in starts q = bucket_addresses fnv64 (get_or starts q.0 0) q.1

pub sections_next : (starts old : List ℕ) (merged : List (List MergeInput)) (k : ℕ) (inputs : List MergeInput) → k < length merged → inputs ≡ get_or merged k inputs
    → old ++ flat_map (addresses_in starts) (enumerate_from k (drop k merged))
    ≡ (old ++ bucket_addresses fnv64 (get_or starts k 0) inputs) ++ flat_map (addresses_in starts) (enumerate_from (k + 1) (drop (k + 1) merged))
sections_next starts old merged k inputs within is =
    let split : drop k merged ≡ inputs ∷ drop (k + 1) merged = drop_more merged k inputs within ∙ ap (λ (x : List MergeInput). x ∷ drop (k + 1) merged) (sym is) in
    ap (λ (l : List (List MergeInput)). old ++ flat_map (addresses_in starts) (enumerate_from k l)) split
    ∙ sym (append_assoc old (bucket_addresses fnv64 (get_or starts k 0) inputs) (flat_map (addresses_in starts) (enumerate_from (k + 1) (drop (k + 1) merged))))

pub sections_all : (starts old : List ℕ) (merged : List (List MergeInput)) (k : ℕ) → length merged ≤ k
    → old ++ flat_map (addresses_in starts) (enumerate_from k (drop k merged)) ≡ start_addresses fnv64 merged starts → old ≡ start_addresses fnv64 merged starts
sections_all starts old merged k past is =
    sym (append-nil old) ∙ ap (λ (ms : List (List MergeInput)). old ++ flat_map (addresses_in starts) (enumerate_from k ms)) (sym (drop_all k merged past)) ∙ is

flat_sixteen : {X : Type 0} (f : X → List ℕ) → ((x : X) → length (f x) ≡ 16) → (xs : List X) → length (flat_map f xs) ≡ 16 * length xs
flat_sixteen f h [] = omega arith
flat_sixteen f h (x ∷ xs) = let both = length-append (f x) (flat_map f xs) in omega (arith, both, h x, flat_sixteen f h xs)

flat_at : {X : Type 0} (f : X → List ℕ) → ((x : X) → length (f x) ≡ 16) → (xs : List X) (k i : ℕ) (x : X) → slice_get xs k ≡ Some x → i < 16
    → get_or (flat_map f xs) (16 * k + i) 0 ≡ get_or (f x) i 0
flat_at f h [] k i x there below = absurd (cc)
flat_at f h (y ∷ xs) zero i x there below =
    let same : y ≡ x = cc in
    let first : 16 * 0 + i ≡ i = omega arith in
    ap (λ n. get_or (f y ++ flat_map f xs) n 0) first ∙ get_or_append_left (f y) (flat_map f xs) 0 i (omega (arith, h y, below)) ∙ ap (λ z. get_or (f z) i 0) same
flat_at f h (y ∷ xs) (suc k) i x there below =
    let far : 16 * suc k + i ≡ length (f y) + (16 * k + i) = omega (arith, h y) in
    ap (λ n. get_or (f y ++ flat_map f xs) n 0) far ∙ get_or-append-add (f y) (flat_map f xs) (16 * k + i) 0 ∙ flat_at f h xs k i x there below

module _ (merged : List (List MergeInput)) (starts : List ℕ) where
  pub in_section : (s b : ℕ) (inputs : List MergeInput) → slice_get merged s ≡ Some inputs → b < 16
      → get_or (start_addresses fnv64 merged starts) (16 * s + b) 0 ≡ get_or starts s 0 + bucket_start fnv64 (all_pieces inputs) b
  in_section s b inputs there below =
      let numbered : slice_get (enumerate_from 0 merged) s ≡ Some (s, inputs) = numbered_get 0 merged s inputs there ∙ ap (λ n. Some (n, inputs)) (omega arith) in
      flat_at (addresses_in starts) (λ q. sixteen (get_or starts q.0 0) q.1) (enumerate_from 0 merged) s b (s, inputs) numbered below
      ∙ address_of (get_or starts s 0) inputs b below

  pub starts_at : (s : ℕ) (inputs : List MergeInput) → slice_get merged s ≡ Some inputs → image_start (start_addresses fnv64 merged starts) s ≡ get_or starts s 0
  starts_at s inputs there =
      let first : 16 * s ≡ 16 * s + 0 = omega arith in
      let at = in_section s 0 inputs there (omega arith) in
      let none = start_first fnv64 (all_pieces inputs) in
      ap (λ n. get_or (start_addresses fnv64 merged starts) n 0) first ∙ omega (arith, at, none)

  pub are_starts : ImagesFit merged starts → AreStartsOf merged (start_addresses fnv64 merged starts)
  are_starts fit = record {
    count = let n = flat_sixteen (addresses_in starts) (λ q. sixteen (get_or starts q.0 0) q.1) (enumerate_from 0 merged) in omega (arith, n, length-enumerate_from 0 merged);
    each = λ s b inputs there below. omega (arith, in_section s b inputs there below, starts_at s inputs there);
    ends = λ s inputs there. let e = fit.ends s inputs there in omega (arith, e, starts_at s inputs there);
  }

  pub all_starts : (s : ℕ) → s < length merged → image_start (start_addresses fnv64 merged starts) s ≡ get_or starts s 0
  all_starts s within = let inputs = at_index merged s within in starts_at s inputs.0 inputs.1
