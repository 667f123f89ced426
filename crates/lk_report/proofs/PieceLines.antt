-- The lines of pieces that follow each other, and those of an image.
use Rattle.std.proofs.Common.{◌≡◌, ℕ, suc, ◌+◌, ◌%◌, ◌^◌, ◌<◌, ◌≤◌, List, [], ◌∷◌, ◌++◌, length, take, drop, get_or, map, Some, refl, sym, ap, ◌∙◌, arith, append_assoc, length-append}
use Rattle.std.specs.List.{concat, flat_map, slice_get}
use Rattle.std.proofs.Math.Nat.{mod-add-mod, mod-eq_of_lt}
use Rattle.std.proofs.lemmas.List.{append-nil, drop_all, drop_more}
use Rattle.lk_merge.specs.Buckets.{Bucket}
use Rattle.lk_merge.specs.Buckets.{piece_of}
use Rattle.lk_merge.specs.declared.string.MergeString.{MergeString}
use Rattle.lk_merge.specs.Hash.{fnv64}
use Rattle.lk_merge.specs.Image.{all_buckets, all_pieces, bucket_list, image_pieces, image_place}
use Rattle.lk_merge.specs.Merging.{kept_lists}
use Rattle.lk_merge.specs.Pieces.{Piece, MergeInput}
use Rattle.lk_merge.specs.Places.{ImageIsDistinct}
use Rattle.lk_merge.proofs.Beginning.{no_list}
use Rattle.lk_report.specs.MergedLines.{behind_all, lines_from}
use Rattle.lk_report.specs.Report.{bytes_behind, piece_line, piece_lines}

-- ---- pieces that follow each other

lines_append : (s a : ℕ) (ps qs : List Piece) → lines_from s a (ps ++ qs) ≡ lines_from s a ps ++ lines_from s (behind_all a ps) qs
unfolding lines_from behind_all
lines_append s a [] qs = refl
lines_append s a (p ∷ ps) qs =
    let b = bytes_behind a (length p) in
    ap (λ (t : List ℕ). piece_line s a (length p) ++ t) (lines_append s b ps qs)
    ∙ sym (append_assoc (piece_line s a (length p)) (lines_from s b ps) (lines_from s (behind_all b ps) qs))

-- ---- the loop over the strings of a bucket

-- where what is left is to follow the text, those behind a string are to follow the text with the string's line
pub string_goes_on : (s a : ℕ) (xs : List MergeString) (i : ℕ) (x : MergeString) (before after whole : List ℕ) → i < length xs → x ≡ get_or xs i x
    → before ++ lines_from s a (map piece_of (drop i xs)) ≡ whole → after ≡ before ++ piece_line s a (length x.bytes.now)
    → after ++ lines_from s (bytes_behind a (length x.bytes.now)) (map piece_of (drop (i + 1) xs)) ≡ whole
unfolding lines_from
string_goes_on s a xs i x before after whole within is left written =
    let rest = lines_from s (bytes_behind a (length x.bytes.now)) (map piece_of (drop (i + 1) xs)) in
    let more : drop i xs ≡ x ∷ drop (i + 1) xs = drop_more xs i x within ∙ ap (λ (y : MergeString). y ∷ drop (i + 1) xs) (sym is) in
    ap (λ (t : List ℕ). t ++ rest) written
    ∙ append_assoc before (piece_line s a (length x.bytes.now)) rest
    ∙ ap (λ (ys : List MergeString). before ++ lines_from s a (map piece_of ys)) (sym more)
    ∙ left

pub end_goes_on : (a : ℕ) (xs : List MergeString) (i : ℕ) (x : MergeString) (end : ℕ) → i < length xs → x ≡ get_or xs i x
    → behind_all a (map piece_of (drop i xs)) ≡ end → behind_all (bytes_behind a (length x.bytes.now)) (map piece_of (drop (i + 1) xs)) ≡ end
unfolding behind_all
end_goes_on a xs i x end within is left =
    let more : drop i xs ≡ x ∷ drop (i + 1) xs = drop_more xs i x within ∙ ap (λ (y : MergeString). y ∷ drop (i + 1) xs) (sym is) in
    ap (λ (ys : List MergeString). behind_all a (map piece_of ys)) (sym more) ∙ left

-- ---- the loop over buckets

-- the pieces of buckets, one bucket after the other
abbrev pub pieces_in : List Bucket → List Piece
pieces_in buckets = flat_map (λ (k : Bucket). k.pieces) buckets

pub bucket_goes_on : (s a b : ℕ) (ks : List Bucket) (i : ℕ) (k : Bucket) (before after whole : List ℕ) → i < length ks → k ≡ get_or ks i k
    → before ++ lines_from s a (pieces_in (drop i ks)) ≡ whole → after ≡ before ++ lines_from s a k.pieces → b ≡ behind_all a k.pieces
    → after ++ lines_from s b (pieces_in (drop (i + 1) ks)) ≡ whole
bucket_goes_on s a b ks i k before after whole within is left written end =
    let rest = pieces_in (drop (i + 1) ks) in
    let more : drop i ks ≡ k ∷ drop (i + 1) ks = drop_more ks i k within ∙ ap (λ (y : Bucket). y ∷ drop (i + 1) ks) (sym is) in
    ap (λ (n : ℕ). after ++ lines_from s n rest) end
    ∙ ap (λ (t : List ℕ). t ++ lines_from s (behind_all a k.pieces) rest) written
    ∙ append_assoc before (lines_from s a k.pieces) (lines_from s (behind_all a k.pieces) rest)
    ∙ ap (λ (t : List ℕ). before ++ t) (sym (lines_append s a k.pieces rest))
    ∙ ap (λ (ys : List Bucket). before ++ lines_from s a (pieces_in ys)) (sym more)
    ∙ left

-- past the last bucket nothing is left
pub pieces_past : (s a : ℕ) (ks : List Bucket) (i : ℕ) (text whole : List ℕ) → length ks ≤ i → text ++ lines_from s a (pieces_in (drop i ks)) ≡ whole → text ≡ whole
unfolding lines_from
pieces_past s a ks i text whole end left =
    let none : drop i ks ≡ [] = drop_all i ks end in
    sym (append-nil text) ∙ ap (λ (ys : List Bucket). text ++ lines_from s a (pieces_in ys)) (sym none) ∙ left

-- ---- the lines of an image

-- pieces that stand where the ones before them end have the lines of pieces that follow each other
standing : (f : Piece → ℕ) (s start at : ℕ) (ps : List Piece) → ((k : ℕ) (p : Piece) → slice_get ps k ≡ Some p → f p ≡ at + length (concat (take k ps)))
    → lines_from s (bytes_behind start at) ps ≡ flat_map (λ p. piece_line s (bytes_behind start (f p)) (length p)) ps
unfolding lines_from
standing f s start at [] h = refl
standing f s start at (p ∷ ps) h =
    let here : at ≡ f p = let zeroth = h 0 p refl in omega (arith, zeroth) in
    let next : bytes_behind (bytes_behind start at) (length p) ≡ bytes_behind start (at + length p) =
    mod-add-mod (start + at) (2 ^ 64) (length p) ∙ ap (λ n. n % 2 ^ 64) (let same : start + at + length p ≡ start + (at + length p) = omega arith in same) in
    let later : (k : ℕ) (q : Piece) → slice_get ps k ≡ Some q → f q ≡ at + length p + length (concat (take k ps)) = λ k q e.
    let whole = h (suc k) q e in
    let both = length-append p (concat (take k ps)) in
    omega (arith, whole, both) in
    let rest = standing f s start (at + length p) ps later in
    ap (λ (n : ℕ). piece_line s (bytes_behind start n) (length p) ++ lines_from s (bytes_behind (bytes_behind start at) (length p)) ps) here
    ∙ ap (λ (n : ℕ). piece_line s (bytes_behind start (f p)) (length p) ++ lines_from s n ps) next
    ∙ ap (λ (t : List ℕ). piece_line s (bytes_behind start (f p)) (length p) ++ t) rest

-- the pieces that the buckets keep are those of the image
flat_of : {X : Type 0} (f : X → List Piece) (xs : List X) → flat_map f xs ≡ flat_map (λ (ps : List Piece). ps) (map f xs)
flat_of f [] = refl
flat_of f (x ∷ xs) = ap (λ (ps : List Piece). f x ++ ps) (flat_of f xs)

none_in : (bs : List ℕ) → flat_map (bucket_list fnv64 []) bs ≡ []
none_in [] = refl
none_in (b ∷ bs) = ap (λ (ps : List Piece). ps ++ flat_map (bucket_list fnv64 []) bs) (no_list b) ∙ none_in bs

kept_are : (inputs : List MergeInput) → flat_map (λ (ps : List Piece). ps) (kept_lists fnv64 inputs) ≡ image_pieces fnv64 (all_pieces inputs)
kept_are [] = sym (none_in all_buckets)
kept_are (x ∷ xs) = sym (flat_of (bucket_list fnv64 (all_pieces (x ∷ xs))) all_buckets)

pub image_lines : ImageIsDistinct → (s start : ℕ) (inputs : List MergeInput) (ks : List Bucket) → start < 2 ^ 64
    → map (λ (k : Bucket). k.pieces) ks ≡ kept_lists fnv64 inputs → lines_from s start (pieces_in ks) ≡ piece_lines s start (all_pieces inputs)
image_lines law s start inputs ks small kept =
    let pieces = all_pieces inputs in
    let all : pieces_in ks ≡ image_pieces fnv64 pieces = flat_of (λ (k : Bucket). k.pieces) ks ∙ ap (flat_map (λ (ps : List Piece). ps)) kept ∙ kept_are inputs in
    let none : start + 0 ≡ start = omega arith in
    let within : start + 0 < 2 ^ 64 = omega (arith, small) in
    let whole : (start + 0) % 2 ^ 64 ≡ start + 0 = mod-eq_of_lt within in
    let first : start ≡ bytes_behind start 0 = sym none ∙ sym whole in
    let places : (k : ℕ) (p : Piece) → slice_get (image_pieces fnv64 pieces) k ≡ Some p → image_place fnv64 pieces p ≡ 0 + length (concat (take k (image_pieces fnv64 pieces)))
    = λ k p e. let is = law.places fnv64 pieces k p e in omega (arith, is) in
    ap (lines_from s start) all
    ∙ ap (λ (n : ℕ). lines_from s n (image_pieces fnv64 pieces)) first
    ∙ standing (image_place fnv64 pieces) s start 0 (image_pieces fnv64 pieces) places
