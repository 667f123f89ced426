-- What a bucket answers, by its table.
use Rattle.std.proofs.Common.{◌≡◌, ℕ, ◌+◌, ◌-◌, ◌^◌, ◌<◌, ◌≤◌, Bool, true, false, cond, ◌||◌, List, [], ◌∷◌, ◌++◌, length, map, None, Some, Ok, Err, inl, inr, refl, sym, ap, subst, ◌∙◌, arith, leb, suc, length-append}
use Rattle.std.specs.List.{concat, slice_get}
use Rattle.std.specs.Map.{keys_of, lookup}
use Rattle.std.proofs.lemmas.Bool.{le-leb, lt-leb}
use Rattle.std.proofs.lemmas.List.{map-append}
use Rattle.lk_merge.specs.declared.error.MergeError.TheVariants.{TooLarge}
use Rattle.lk_merge.specs.declared.string.MergeString.{MergeString}
use Rattle.lk_merge.specs.Buckets.{Bucket, Tells, bucket_place, fits_behind, adding, piece_of, with_piece}
use Rattle.lk_merge.specs.BucketTables.{placed_from, IsTable}
use Rattle.lk_merge.specs.Image.{is_among, place_in}
use Rattle.lk_merge.specs.Pieces.{Piece}
use Rattle.lk_merge.proofs.AmongLemmas.{place_within}
use Rattle.lk_merge.proofs.InputLemmas.{push_at}
use Rattle.lk_merge.proofs.TableLemmas.{is_key, lookup_there, lookup_absent, placed-push, concat-push, place_behind}

-- the pieces of a table
abbrev pub stored : List (MergeString × ℕ) → List Piece
stored entries = map piece_of (keys_of entries)

-- the bucket that has a table
abbrev pub bucket_by : ℕ → ℕ → ℕ → List (MergeString × ℕ) → Bucket
bucket_by section number limit entries = record { section = section; number = number; limit = limit; pieces = stored entries }

-- a bucket and an offset below 2^28 come back from their place
pub tells : (number offset at place : ℕ) → place ≡ bucket_place number offset → offset < 2 ^ 28 → offset ≡ at → Tells number at place
tells number offset at place is below same = (omega (arith, is, below), omega (arith, is, below, same))

module _ (section number limit next : ℕ) (entries : List (MergeString × ℕ)) (table : IsTable number limit next entries) (p : Piece) where
  by_key : (t : Bool) → is_among (stored entries) p ≡ t → lookup (is_key p) entries ≡ cond t (Some (place_in (stored entries) p)) None
  by_key true e = ap (lookup (is_key p)) table.places ∙ lookup_there 0 (keys_of entries) p e ∙ ap Some (omega arith)
  by_key false e = ap (lookup (is_key p)) table.places ∙ lookup_absent 0 (keys_of entries) p e

  some_place : (t : Bool) → is_among (stored entries) p ≡ t → (v : ℕ) → lookup (is_key p) entries ≡ Some v → (is_among (stored entries) p ≡ true) × (v ≡ place_in (stored entries) p)
  some_place true e v h = (e, let same : Some v ≡ Some (place_in (stored entries) p) = sym h ∙ by_key true e in cc)
  some_place false e v h = absurd (let none : Some v ≡ None = sym h ∙ by_key false e in cc)

  pub there : (v : ℕ) → lookup (is_key p) entries ≡ Some v → (is_among (stored entries) p ≡ true) × (v ≡ place_in (stored entries) p)
  there v h = some_place (is_among (stored entries) p) refl v h

  none_place : (t : Bool) → is_among (stored entries) p ≡ t → lookup (is_key p) entries ≡ None → is_among (stored entries) p ≡ false
  none_place true e h = absurd (let some : None ≡ Some (place_in (stored entries) p) = sym h ∙ by_key true e in cc)
  none_place false e h = e

  pub absent : lookup (is_key p) entries ≡ None → is_among (stored entries) p ≡ false
  absent h = none_place (is_among (stored entries) p) refl h

  -- a place is below 2^28
  pub small_place : (v : ℕ) → 0 < length p → lookup (is_key p) entries ≡ Some v → v < 2 ^ 28
  small_place v some h =
      let found = there v h in
      let within = place_within (stored entries) p found.0 in
      omega (arith, found.1, within, table.ends, table.within, table.limited)

  -- so is the end, where a piece goes next
  pub next_small : 0 < length p → length p ≤ limit - next → next < 2 ^ 28
  next_small some short = omega (arith, some, short, table.limited, table.within)

  pub next_is : lookup (is_key p) entries ≡ None → next ≡ place_in (stored entries) p
  next_is h = table.ends ∙ sym (place_behind (stored entries) p (absent h))

  pub answer_there : (v : ℕ) → lookup (is_key p) entries ≡ Some v
      → (adding (bucket_by section number limit entries) p ≡ Ok (bucket_place number v))
      × (bucket_by section number limit entries ≡ with_piece (bucket_by section number limit entries) p)
  answer_there v h =
      let found = there v h in
      let bucket : Bucket = bucket_by section number limit entries in (
        ap (λ t. cond (t || fits_behind bucket p) (Ok (bucket_place number (place_in (stored entries) p)))
            (Err (TooLarge section number (length (concat (stored entries))) (length p)))) found.0
            ∙ ap (λ n. Ok (bucket_place number n)) (sym found.1),
        ap (λ t. record bucket { pieces = cond t (stored entries) (stored entries ++ p ∷ []) }) (sym found.0),
      )

  pub answer_refused : lookup (is_key p) entries ≡ None → limit - next < length p
      → adding (bucket_by section number limit entries) p ≡ Err (TooLarge section number next (length p))
  answer_refused h long =
      let fresh = absent h in
      let past : leb (length (concat (stored entries)) + length p) limit ≡ false = lt-leb _ _ (omega (arith, table.ends, table.within)) in
      ap (λ t. cond (t || leb (length (concat (stored entries)) + length p) limit) (Ok (bucket_place number (place_in (stored entries) p)))
      (Err (TooLarge section number (length (concat (stored entries))) (length p)))) fresh
      ∙ ap (λ t. cond t (Ok (bucket_place number (place_in (stored entries) p))) (Err (TooLarge section number (length (concat (stored entries))) (length p)))) past
      ∙ ap (λ n. Err (TooLarge section number n (length p))) (sym table.ends)

  pub answer_added : lookup (is_key p) entries ≡ None → length p ≤ limit - next
      → adding (bucket_by section number limit entries) p ≡ Ok (bucket_place number next)
  answer_added h short =
      let fresh = absent h in
      let fits : leb (length (concat (stored entries)) + length p) limit ≡ true = le-leb _ _ (omega (arith, table.ends, table.within)) in
      ap (λ t. cond (t || leb (length (concat (stored entries)) + length p) limit) (Ok (bucket_place number (place_in (stored entries) p)))
      (Err (TooLarge section number (length (concat (stored entries))) (length p)))) fresh
      ∙ ap (λ t. cond t (Ok (bucket_place number (place_in (stored entries) p))) (Err (TooLarge section number (length (concat (stored entries))) (length p)))) fits
      ∙ ap (λ n. Ok (bucket_place number n)) (place_behind (stored entries) p fresh ∙ sym table.ends)

-- the table with one more string
module _ (section number limit next : ℕ) (entries : List (MergeString × ℕ)) (table : IsTable number limit next entries) (s : MergeString) where
  abbrev more : List (MergeString × ℕ)
  more = entries ++ (s, next) ∷ []

  more_keys : keys_of more ≡ keys_of entries ++ s ∷ []
  more_keys = map-append (λ e. e.0) entries ((s, next) ∷ [])

  more_stored : stored more ≡ stored entries ++ s.bytes.now ∷ []
  more_stored = ap (map piece_of) more_keys ∙ map-append piece_of (keys_of entries) (s ∷ [])

  pub table_more : length s.bytes.now ≤ limit - next → 0 < length s.bytes.now → IsTable number limit (next + length s.bytes.now) more
  table_more short has = record {
    numbered = table.numbered;
    limited = table.limited;
    within = omega (arith, table.within);
    ends = let n = concat-push (stored entries) s.bytes.now in omega (arith, table.ends, n, ap (λ ps. length (concat ps)) more_stored);
    places =
        let at : next ≡ 0 + length (concat (stored entries)) = omega (arith, table.ends) in
        ap (λ es. es ++ (s, next) ∷ []) table.places ∙ ap (λ n. placed_from 0 (keys_of entries) ++ (s, n) ∷ []) at
        ∙ sym (placed-push 0 (keys_of entries) s) ∙ ap (placed_from 0) (sym more_keys);
    some = λ k r there. elim (push_at (keys_of entries) s r k (ap (λ l. slice_get l k) (sym more_keys) ∙ there)) [
      | inl a ↦ table.some k r a
      | inr b ↦ subst (λ (x : MergeString). 0 < length x.bytes.now) b.1 has
    ];
  }

  pub bucket_more : lookup (is_key s.bytes.now) entries ≡ None
      → bucket_by section number limit more ≡ with_piece (bucket_by section number limit entries) s.bytes.now
  bucket_more h =
      let bucket : Bucket = bucket_by section number limit entries in
      let fresh = absent section number limit next entries table s.bytes.now h in
      ap (λ ps. record bucket { pieces = ps }) more_stored
      ∙ ap (λ t. record bucket { pieces = cond t (stored entries) (stored entries ++ s.bytes.now ∷ []) }) (sym fresh)

-- a bucket has at most as many pieces as bytes
fewer : (ss : List MergeString) → ((k : ℕ) (s : MergeString) → slice_get ss k ≡ Some s → 0 < length s.bytes.now) → length ss ≤ length (concat (map piece_of ss))
fewer [] h = omega arith
fewer (s ∷ ss) h =
    let rest = fewer ss (λ k r e. h (suc k) r e) in
    let one = h 0 s refl in
    let more : length (s.bytes.now ++ concat (map piece_of ss)) ≡ length s.bytes.now + length (concat (map piece_of ss))
    = length-append s.bytes.now (concat (map piece_of ss)) in
    omega (arith, rest, one, more)

pub few_strings : (number limit next : ℕ) (entries : List (MergeString × ℕ)) → IsTable number limit next entries → length (keys_of entries) ≤ 2 ^ 28
few_strings number limit next entries h = let n = fewer (keys_of entries) h.some in omega (arith, n, h.ends, h.within, h.limited)
