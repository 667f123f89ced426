-- Which pieces stand in lists, and where.
use Rattle.std.proofs.Common.{◌≡◌, ◌≢◌, ℕ, suc, ◌+◌, ◌≤◌, Bool, true, false, cond, ◌||◌, List, [], ◌∷◌, ◌++◌, length, take, drop, refl, sym, ap, ◌∙◌, inl, inr, ◌⊎◌, arith, append_assoc, append-nil, length-append}
use Rattle.std.specs.List.{concat}
use Rattle.std.specs.Str.{bytes_eq}
use Rattle.std.specs.Cmp.Lexicographic.{bytes_decides}
use Rattle.std.proofs.lemmas.Bool.{true≢false, both_ways}
use Rattle.std.proofs.lemmas.List.{take_at}
use Rattle.lk_merge.specs.Pieces.{Piece}
use Rattle.lk_merge.specs.Image.{is_among, firsts_behind, place_in}

-- ---- equal pieces

pub same_piece : (p q : Piece) → bytes_eq p q ≡ true → p ≡ q
same_piece p q h = (bytes_decides p q).0 h

pub equal_piece : (p q : Piece) → p ≡ q → bytes_eq p q ≡ true
equal_piece p q h = (bytes_decides p q).1 h

pub other_piece : (p q : Piece) → bytes_eq p q ≡ false → p ≢ q
other_piece p q h e = both_ways _ h (equal_piece p q e)

pub unequal_piece : (p q : Piece) → p ≢ q → bytes_eq p q ≡ false
unequal_piece p q h = by (bytes_eq p q) refl
  where
    by : (t : Bool) → bytes_eq p q ≡ t → bytes_eq p q ≡ false
    by true e = absurd (h (same_piece p q e))
    by false e = e

-- ---- lists one behind another

or_assoc : (a b c : Bool) → (a || b) || c ≡ (a || (b || c))
or_assoc true b c = refl
or_assoc false b c = refl

or_false : (a : Bool) → (a || false) ≡ a
or_false true = refl
or_false false = refl

pub among-append : (xs ys : List Piece) (p : Piece) → is_among (xs ++ ys) p ≡ (is_among xs p || is_among ys p)
among-append [] ys p = refl
among-append (x ∷ xs) ys p = ap (λ t. bytes_eq p x || t) (among-append xs ys p) ∙ sym (or_assoc (bytes_eq p x) (is_among xs p) (is_among ys p))

pub concat-append : (xs ys : List Piece) → concat (xs ++ ys) ≡ concat xs ++ concat ys
concat-append [] ys = refl
concat-append (x ∷ xs) ys = ap (λ l. x ++ l) (concat-append xs ys) ∙ sym (append_assoc x (concat xs) (concat ys))

-- ---- those before which no equal one stands

pub firsts_none : (before : List Piece) → firsts_behind before [] ≡ []
unfolding firsts_behind
firsts_none before = refl

pub firsts_step : (before : List Piece) (p : Piece) (ps : List Piece) (t : Bool) → is_among before p ≡ t
    → firsts_behind before (p ∷ ps) ≡ cond t (firsts_behind (before ++ p ∷ []) ps) (p ∷ firsts_behind (before ++ p ∷ []) ps)
unfolding firsts_behind
firsts_step before p ps t h = ap (λ b. cond b (firsts_behind (before ++ p ∷ []) ps) (p ∷ firsts_behind (before ++ p ∷ []) ps)) h

-- the law of appending: what comes later adds the pieces that don't stand before
pub firsts-append : (before a b : List Piece) → firsts_behind before (a ++ b) ≡ firsts_behind before a ++ firsts_behind (before ++ a) b
firsts-append before [] b = ap (λ l. firsts_behind l b) (sym (append-nil before)) ∙ ap (λ l. l ++ firsts_behind (before ++ []) b) (sym (firsts_none before))
firsts-append before (p ∷ a) b = by (firsts-append (before ++ p ∷ []) a b) (is_among before p) refl
  where
    later : firsts_behind ((before ++ p ∷ []) ++ a) b ≡ firsts_behind (before ++ p ∷ a) b
    later = ap (λ l. firsts_behind l b) (append_assoc before (p ∷ []) a)

    by : firsts_behind (before ++ p ∷ []) (a ++ b) ≡ firsts_behind (before ++ p ∷ []) a ++ firsts_behind ((before ++ p ∷ []) ++ a) b
        → (t : Bool) → is_among before p ≡ t
        → firsts_behind before (p ∷ a ++ b) ≡ firsts_behind before (p ∷ a) ++ firsts_behind (before ++ p ∷ a) b
    by rest true e =
        firsts_step before p (a ++ b) true e ∙ rest ∙ ap (λ l. firsts_behind (before ++ p ∷ []) a ++ l) later
        ∙ ap (λ l. l ++ firsts_behind (before ++ p ∷ a) b) (sym (firsts_step before p a true e))
    by rest false e =
        firsts_step before p (a ++ b) false e ∙ ap (λ l. p ∷ l) (rest ∙ ap (λ l. firsts_behind (before ++ p ∷ []) a ++ l) later)
        ∙ ap (λ l. l ++ firsts_behind (before ++ p ∷ a) b) (sym (firsts_step before p a false e))

-- one more piece
pub firsts_push : (before a : List Piece) (p : Piece) (t : Bool) → is_among (before ++ a) p ≡ t
    → firsts_behind before (a ++ p ∷ []) ≡ firsts_behind before a ++ cond t [] (p ∷ [])
firsts_push before a p t h = firsts-append before a (p ∷ []) ∙ ap (λ l. firsts_behind before a ++ l) (last t h)
  where
    last : (s : Bool) → is_among (before ++ a) p ≡ s → firsts_behind (before ++ a) (p ∷ []) ≡ cond s [] (p ∷ [])
    last true e = firsts_step (before ++ a) p [] true e ∙ firsts_none ((before ++ a) ++ p ∷ [])
    last false e = firsts_step (before ++ a) p [] false e ∙ ap (λ l. p ∷ l) (firsts_none ((before ++ a) ++ p ∷ []))

-- what is kept has the pieces that all have
known : (before : List Piece) (p q : Piece) (x : Bool) → is_among before q ≡ true
    → (is_among before p || x) ≡ ((is_among before p || (bytes_eq p q || false)) || x)
known before p q x h = by (bytes_eq p q) refl
  where
    by : (t : Bool) → bytes_eq p q ≡ t → (is_among before p || x) ≡ ((is_among before p || (t || false)) || x)
    by true e = let here : is_among before p ≡ true = ap (is_among before) (same_piece p q e) ∙ h in ap (λ b. b || x) here ∙ ap (λ b. (b || true) || x) (sym here)
    by false e = ap (λ b. b || x) (sym (or_false (is_among before p)))

pub among-firsts_behind : (before ps : List Piece) (p : Piece) → (is_among before p || is_among (firsts_behind before ps) p) ≡ is_among (before ++ ps) p
among-firsts_behind before [] p = ap (λ l. is_among before p || is_among l p) (firsts_none before) ∙ sym (among-append before [] p)
among-firsts_behind before (q ∷ qs) p = by (among-firsts_behind (before ++ q ∷ []) qs p) (is_among before q) refl
  where
    rest : Bool
    rest = is_among (firsts_behind (before ++ q ∷ []) qs) p

    split : (is_among (before ++ q ∷ []) p || rest) ≡ ((is_among before p || (bytes_eq p q || false)) || rest)
    split = ap (λ b. b || rest) (among-append before (q ∷ []) p)

    whole : is_among ((before ++ q ∷ []) ++ qs) p ≡ is_among (before ++ q ∷ qs) p
    whole = ap (λ l. is_among l p) (append_assoc before (q ∷ []) qs)

    by : (is_among (before ++ q ∷ []) p || rest) ≡ is_among ((before ++ q ∷ []) ++ qs) p → (t : Bool) → is_among before q ≡ t
        → (is_among before p || is_among (firsts_behind before (q ∷ qs)) p) ≡ is_among (before ++ q ∷ qs) p
    by later true e =
        ap (λ l. is_among before p || is_among l p) (firsts_step before q qs true e) ∙ known before p q rest e ∙ sym split ∙ later ∙ whole
    by later false e =
        ap (λ l. is_among before p || is_among l p) (firsts_step before q qs false e)
        ∙ ap (λ b. is_among before p || (b || rest)) (sym (or_false (bytes_eq p q)))
        ∙ sym (or_assoc (is_among before p) (bytes_eq p q || false) rest) ∙ sym split ∙ later ∙ whole

pub among-firsts : (ps : List Piece) (p : Piece) → is_among (firsts_behind [] ps) p ≡ is_among ps p
among-firsts ps p = among-firsts_behind [] ps p

-- ---- places

pub place_none : (p : Piece) → place_in [] p ≡ 0
unfolding place_in
place_none p = refl

pub place_step : (q : Piece) (qs : List Piece) (p : Piece) (t : Bool) → bytes_eq p q ≡ t → place_in (q ∷ qs) p ≡ cond t 0 (length q + place_in qs p)
unfolding place_in
place_step q qs p t h = ap (λ b. cond b 0 (length q + place_in qs p)) h

-- a place stays, whatever stands behind
pub place-append_in : (xs ys : List Piece) (p : Piece) → is_among xs p ≡ true → place_in (xs ++ ys) p ≡ place_in xs p
place-append_in [] ys p h = absurd (true≢false (sym h))
place-append_in (x ∷ xs) ys p h = by (place-append_in xs ys p) (bytes_eq p x) refl
  where
    by : (is_among xs p ≡ true → place_in (xs ++ ys) p ≡ place_in xs p) → (t : Bool) → bytes_eq p x ≡ t → place_in (x ∷ xs ++ ys) p ≡ place_in (x ∷ xs) p
    by rest true e = place_step x (xs ++ ys) p true e ∙ sym (place_step x xs p true e)
    by rest false e =
        let there : is_among xs p ≡ true = ap (λ b. b || is_among xs p) (sym e) ∙ h in
        place_step x (xs ++ ys) p false e ∙ ap (λ n. length x + n) (rest there) ∙ sym (place_step x xs p false e)

-- behind pieces that differ, it comes after their bytes
pub place-append_out : (xs ys : List Piece) (p : Piece) → is_among xs p ≡ false → place_in (xs ++ ys) p ≡ length (concat xs) + place_in ys p
place-append_out [] ys p h = sym (omega arith)
place-append_out (x ∷ xs) ys p h = by (place-append_out xs ys p) (bytes_eq p x) refl
  where
    by : (is_among xs p ≡ false → place_in (xs ++ ys) p ≡ length (concat xs) + place_in ys p) → (t : Bool) → bytes_eq p x ≡ t
        → place_in (x ∷ xs ++ ys) p ≡ length (concat (x ∷ xs)) + place_in ys p
    by rest true e = absurd (true≢false (ap (λ b. b || is_among xs p) (sym e) ∙ h))
    by rest false e =
        let there : is_among xs p ≡ false = ap (λ b. b || is_among xs p) (sym e) ∙ h in
        let n : length (x ++ concat xs) ≡ length x + length (concat xs) = length-append x (concat xs) in
        place_step x (xs ++ ys) p false e ∙ omega (arith, rest there, n)

pub dropped : (xs ys : List ℕ) (n : ℕ) → drop (length xs + n) (xs ++ ys) ≡ drop n ys
dropped [] ys n = ap (λ k. drop k ys) (omega arith)
dropped (x ∷ xs) ys n =
    let more : length (x ∷ xs) + n ≡ suc (length xs + n) = omega arith in
    ap (λ k. drop k (x ∷ xs ++ ys)) more ∙ dropped xs ys n

-- a piece that stands in a list stands in its bytes, at its place
pub bytes_at_place : (qs : List Piece) (p : Piece) → is_among qs p ≡ true → take (length p) (drop (place_in qs p) (concat qs)) ≡ p
bytes_at_place [] p h = absurd (true≢false (sym h))
bytes_at_place (q ∷ qs) p h = by (bytes_at_place qs p) (bytes_eq p q) refl
  where
    by : (is_among qs p ≡ true → take (length p) (drop (place_in qs p) (concat qs)) ≡ p) → (t : Bool) → bytes_eq p q ≡ t
        → take (length p) (drop (place_in (q ∷ qs) p) (concat (q ∷ qs))) ≡ p
    by rest true e =
        let is : p ≡ q = same_piece p q e in
        ap (λ n. take (length p) (drop n (q ++ concat qs))) (place_step q qs p true e) ∙ ap (λ r. take (length p) (r ++ concat qs)) (sym is)
        ∙ take_at p (concat qs) (length p) refl
    by rest false e =
        let there : is_among qs p ≡ true = ap (λ b. b || is_among qs p) (sym e) ∙ h in
        ap (λ n. take (length p) (drop n (q ++ concat qs))) (place_step q qs p false e) ∙ ap (take (length p)) (dropped q (concat qs) (place_in qs p)) ∙ rest there

-- and ends within them
pub place_within : (qs : List Piece) (p : Piece) → is_among qs p ≡ true → place_in qs p + length p ≤ length (concat qs)
place_within [] p h = absurd (true≢false (sym h))
place_within (q ∷ qs) p h = by (place_within qs p) (bytes_eq p q) refl
  where
    n : length (q ++ concat qs) ≡ length q + length (concat qs)
    n = length-append q (concat qs)

    by : (is_among qs p ≡ true → place_in qs p + length p ≤ length (concat qs)) → (t : Bool) → bytes_eq p q ≡ t
        → place_in (q ∷ qs) p + length p ≤ length (concat (q ∷ qs))
    by rest true e = let same : length p ≡ length q = ap length (same_piece p q e) in let at = place_step q qs p true e in omega (arith, n, same, at)
    by rest false e =
        let there : is_among qs p ≡ true = ap (λ b. b || is_among qs p) (sym e) ∙ h in
        let at = place_step q qs p false e in
        omega (arith, n, at, rest there)

-- two pieces that differ don't overlap
pub places_apart : (qs : List Piece) (p r : Piece) → is_among qs p ≡ true → is_among qs r ≡ true → p ≢ r
    → (place_in qs p + length p ≤ place_in qs r) ⊎ (place_in qs r + length r ≤ place_in qs p)
places_apart [] p r h k differ = absurd (true≢false (sym h))
places_apart (q ∷ qs) p r h k differ = by (places_apart qs p r) (bytes_eq p q) (bytes_eq r q) refl refl
  where
    by : (is_among qs p ≡ true → is_among qs r ≡ true → p ≢ r → (place_in qs p + length p ≤ place_in qs r) ⊎ (place_in qs r + length r ≤ place_in qs p))
        → (t u : Bool) → bytes_eq p q ≡ t → bytes_eq r q ≡ u
        → (place_in (q ∷ qs) p + length p ≤ place_in (q ∷ qs) r) ⊎ (place_in (q ∷ qs) r + length r ≤ place_in (q ∷ qs) p)
    by rest true true e f = absurd (differ (same_piece p q e ∙ sym (same_piece r q f)))
    by rest true false e f =
        let same : length p ≡ length q = ap length (same_piece p q e) in
        inl (omega (arith, same, place_step q qs p true e, place_step q qs r false f))
    by rest false true e f =
        let same : length r ≡ length q = ap length (same_piece r q f) in
        inr (omega (arith, same, place_step q qs p false e, place_step q qs r true f))
    by rest false false e f =
        let p_there : is_among qs p ≡ true = ap (λ b. b || is_among qs p) (sym e) ∙ h in
        let r_there : is_among qs r ≡ true = ap (λ b. b || is_among qs r) (sym f) ∙ k in
        let p_at = place_step q qs p false e in
        let r_at = place_step q qs r false f in
        elim (rest p_there r_there differ) [ inl a ↦ inl (omega (arith, a, p_at, r_at)) | inr b ↦ inr (omega (arith, b, p_at, r_at)) ]
