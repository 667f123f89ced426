-- What becomes of a bucket and of its refusal with one more piece.
use Rattle.std.proofs.Common.{◌≡◌, ℕ, ◌+◌, ◌<◌, ◌≤◌, Bool, true, false, cond, ◌||◌, List, [], ◌∷◌, ◌++◌, length, Option, None, Some, Ok, Err, option_map, refl, sym, ap, ◌∙◌, arith, ltb, inl, inr, ◌⊎◌, append_assoc, append-nil}
use Rattle.std.specs.List.{concat, find}
use Rattle.std.specs.Str.{bytes_eq}
use Rattle.std.proofs.lemmas.Bool.{lt-ltb, le-ltb, leb-true, leb-false, ltb-false, true≢false}
use Rattle.lk_link.specs.Files.{first_some}
use Rattle.lk_merge.specs.declared.error.MergeError.{MergeError}
use Rattle.lk_merge.specs.declared.error.MergeError.TheVariants.{TooLarge}
use Rattle.lk_merge.specs.Buckets.{Bucket, bucket_place, fits_behind, adding, with_piece}
use Rattle.lk_merge.specs.Image.{firsts_behind, is_among, place_in}
use Rattle.lk_merge.specs.Merging.{FittingIsNotTooLong, bucket_refusal, first_too_long, is_too_long}
use Rattle.lk_merge.specs.Pieces.{Piece}
use Rattle.lk_merge.proofs.AmongLemmas.{among-append, among-firsts, equal_piece, firsts_none, firsts_push, firsts_step, place-append_in, place-append_out, place_step}
use Rattle.lk_merge.proofs.TableLemmas.{concat-push, place_behind}

-- ---- the first of some pieces that is too long, by their places among others

abbrev first_long : ℕ → List Piece → List Piece → Option (ℕ × ℕ)
first_long limit kept ps = option_map (λ p. (place_in kept p, length p)) (find (is_too_long limit kept) ps)

long_step : (limit : ℕ) (kept : List Piece) (p : Piece) (ps : List Piece) (t : Bool) → ltb limit (place_in kept p + length p) ≡ t
    → first_long limit kept (p ∷ ps) ≡ cond t (Some (place_in kept p, length p)) (first_long limit kept ps)
long_step limit kept p ps true h = ap (λ b. option_map (λ (q : Piece). (place_in kept q, length q)) (cond b (Some p) (find (is_too_long limit kept) ps))) h
long_step limit kept p ps false h = ap (λ b. option_map (λ (q : Piece). (place_in kept q, length q)) (cond b (Some p) (find (is_too_long limit kept) ps))) h

pub some_first : {X : Type 0} (x : X) (o : Option X) → first_some (Some x) o ≡ Some x
unfolding first_some
some_first x o = refl

pub none_first : {X : Type 0} (o : Option X) → first_some None o ≡ o
unfolding first_some
none_first o = refl

long_append : (limit : ℕ) (kept xs ys : List Piece) → first_long limit kept (xs ++ ys) ≡ first_some (first_long limit kept xs) (first_long limit kept ys)
long_append limit kept [] ys = sym (none_first (first_long limit kept ys))
long_append limit kept (x ∷ xs) ys = by (long_append limit kept xs ys) (ltb limit (place_in kept x + length x)) refl
  where
    later : Option (ℕ × ℕ)
    later = first_long limit kept ys

    by : first_long limit kept (xs ++ ys) ≡ first_some (first_long limit kept xs) later → (t : Bool) → ltb limit (place_in kept x + length x) ≡ t
        → first_long limit kept (x ∷ xs ++ ys) ≡ first_some (first_long limit kept (x ∷ xs)) later
    by rest true e =
        long_step limit kept x (xs ++ ys) true e ∙ sym (some_first (place_in kept x, length x) later)
        ∙ ap (λ o. first_some o later) (sym (long_step limit kept x xs true e))
    by rest false e = long_step limit kept x (xs ++ ys) false e ∙ rest ∙ ap (λ o. first_some o later) (sym (long_step limit kept x xs false e))

-- a piece that stands in a list stands there with one before it, too
or_true : (a b : Bool) → b ≡ true → (a || b) ≡ true
or_true true b h = refl
or_true false b h = h

-- places stay, whatever stands behind
long_wider : (limit : ℕ) (kept more ps : List Piece) → ((q : Piece) → is_among ps q ≡ true → is_among kept q ≡ true) → first_long limit (kept ++ more) ps ≡ first_long limit kept ps
long_wider limit kept more [] among = refl
long_wider limit kept more (p ∷ ps) among =
    let own : is_among kept p ≡ true = among p (ap (λ t. t || is_among ps p) (equal_piece p p refl)) in
    let place : place_in (kept ++ more) p ≡ place_in kept p = place-append_in kept more p own in
    let rest = long_wider limit kept more ps (λ q h. among q (or_true (bytes_eq q p) (is_among ps q) h)) in
    let t : Bool = ltb limit (place_in kept p + length p) in
    long_step limit (kept ++ more) p ps t (ap (λ k. ltb limit (k + length p)) place)
    ∙ ap (λ k. cond t (Some (k, length p)) (first_long limit (kept ++ more) ps)) place
    ∙ ap (λ o. cond t (Some (place_in kept p, length p)) o) rest ∙ sym (long_step limit kept p ps t refl)

-- with one more piece the first that is too long stays the first
too_long_push : (limit : ℕ) (kept : List Piece) (p : Piece) (t : Bool) → is_among kept p ≡ false → ltb limit (length (concat kept) + length p) ≡ t
    → first_too_long limit (kept ++ p ∷ []) ≡ first_some (first_too_long limit kept) (cond t (Some (length (concat kept), length p)) None)
too_long_push limit kept p t out e =
    let head : place_in (p ∷ []) p ≡ 0 = place_step p [] p true (equal_piece p p refl) in
    let place : place_in (kept ++ p ∷ []) p ≡ length (concat kept) = place-append_out kept (p ∷ []) p out ∙ omega (arith, head) in
    let last : first_long limit (kept ++ p ∷ []) (p ∷ []) ≡ cond t (Some (length (concat kept), length p)) None
    = long_step limit (kept ++ p ∷ []) p [] t (ap (λ k. ltb limit (k + length p)) place ∙ e) ∙ ap (λ k. cond t (Some (k, length p)) None) place in
    long_append limit (kept ++ p ∷ []) kept (p ∷ [])
    ∙ ap (λ o. first_some o (first_long limit (kept ++ p ∷ []) (p ∷ []))) (long_wider limit kept (p ∷ []) kept (λ q h. h))
    ∙ ap (first_some (first_too_long limit kept)) last

-- ---- pieces none of which is too long end within the limit

-- what stands in a list with one more piece stands in a wider one with it
among_more : (narrow wide : List Piece) (p : Piece) → ((q : Piece) → is_among narrow q ≡ true → is_among wide q ≡ true) → (q : Piece) → is_among (narrow ++ p ∷ []) q ≡ true
    → is_among (wide ++ p ∷ []) q ≡ true
among_more narrow wide p h q there = among-append wide (p ∷ []) q ∙ by (is_among narrow q) refl
  where
    by : (t : Bool) → is_among narrow q ≡ t → (is_among wide q || is_among (p ∷ []) q) ≡ true
    by true e = ap (λ t. t || is_among (p ∷ []) q) (h q e)
    by false e = or_true (is_among wide q) (is_among (p ∷ []) q) (ap (λ t. t || is_among (p ∷ []) q) (sym e) ∙ sym (among-append narrow (p ∷ []) q) ∙ there)

-- behind those that are held, which stand before, come the firsts of some pieces
abbrev Fit : ℕ → List Piece → List Piece → Type 0
Fit limit before ps = (held whole : List Piece) → ((q : Piece) → is_among held q ≡ true → is_among before q ≡ true) → whole ≡ held ++ firsts_behind before ps
    → first_long limit whole (firsts_behind before ps) ≡ None → length (concat held) ≤ limit → length (concat whole) ≤ limit

firsts_fit : (limit : ℕ) (before ps : List Piece) → Fit limit before ps
firsts_fit limit before [] held whole among is none fits =
    let same : whole ≡ held = is ∙ ap (λ l. held ++ l) (firsts_none before) ∙ append-nil held in
    omega (arith, ap (λ l. length (concat l)) same, fits)
firsts_fit limit before (p ∷ ps) held whole among is none fits = by (firsts_fit limit (before ++ p ∷ []) ps) (is_among before p) refl
  where
    next : List Piece
    next = before ++ p ∷ []

    rest : List Piece
    rest = firsts_behind next ps

    by : Fit limit next ps → (t : Bool) → is_among before p ≡ t → length (concat whole) ≤ limit
    by later true e =
        let step : firsts_behind before (p ∷ ps) ≡ rest = firsts_step before p ps true e in
        later held whole (λ q h. among-append before (p ∷ []) q ∙ ap (λ t. t || is_among (p ∷ []) q) (among q h)) (is ∙ ap (λ l. held ++ l) step)
        (ap (first_long limit whole) (sym step) ∙ none) fits
    by later false e = kept (ltb limit (length (concat held) + length p)) refl
      where
        step : firsts_behind before (p ∷ ps) ≡ p ∷ rest
        step = firsts_step before p ps false e

        apart : (t : Bool) → is_among held p ≡ t → is_among held p ≡ false
        apart true h = absurd (true≢false (sym (among p h) ∙ e))
        apart false h = h

        place : place_in whole p ≡ length (concat held)
        place =
            let head : place_in (p ∷ rest) p ≡ 0 = place_step p rest p true (equal_piece p p refl) in
            ap (λ l. place_in l p) (is ∙ ap (λ l. held ++ l) step) ∙ place-append_out held (p ∷ rest) p (apart (is_among held p) refl) ∙ omega (arith, head)

        none_here : (t : Bool) → ltb limit (length (concat held) + length p) ≡ t → cond t (Some (place_in whole p, length p)) (first_long limit whole rest) ≡ None
        none_here t h = sym (long_step limit whole p rest t (ap (λ k. ltb limit (k + length p)) place ∙ h)) ∙ ap (first_long limit whole) (sym step) ∙ none

        kept : (t : Bool) → ltb limit (length (concat held) + length p) ≡ t → length (concat whole) ≤ limit
        kept true h = absurd (let some : Some (place_in whole p, length p) ≡ None = none_here true h in cc)
        kept false h =
            let within : length (concat held) + length p ≤ limit = ltb-false _ _ h in
            let wider : whole ≡ (held ++ p ∷ []) ++ rest = is ∙ ap (λ l. held ++ l) step ∙ sym (append_assoc held (p ∷ []) rest) in
            later (held ++ p ∷ []) whole (among_more held before p among) wider (none_here false h) (omega (arith, within, concat-push held p))

-- a list that isn't refused has no piece that is too long
unrefused_list : (section limit b : ℕ) (kept : List Piece) → bucket_refusal section limit b kept ≡ None → first_too_long limit kept ≡ None
unrefused_list section limit b kept h = by (first_too_long limit kept) refl
  where
    by : (o : Option (ℕ × ℕ)) → first_too_long limit kept ≡ o → first_too_long limit kept ≡ None
    by None f = f
    by (Some q) f = absurd (let some : Some (TooLarge section b q.0 q.1) ≡ None = sym (ap (option_map (λ q. TooLarge section b q.0 q.1)) f) ∙ h in cc)

-- so what a bucket keeps is within its limit
pub unrefused_fits : (section limit b : ℕ) (pieces : List Piece) → bucket_refusal section limit b (firsts_behind [] pieces) ≡ None → length (concat (firsts_behind [] pieces)) ≤ limit
unrefused_fits section limit b pieces h =
    firsts_fit limit [] pieces [] (firsts_behind [] pieces) (λ q e. e) refl (unrefused_list section limit b (firsts_behind [] pieces) h) (omega arith)

-- ---- the law

pub fitting_is_not_too_long : FittingIsNotTooLong
fitting_is_not_too_long bucket p out none = by (fits_behind bucket p) refl
  where
    long : Option (ℕ × ℕ)
    long = Some (length (concat bucket.pieces), length p)

    told : (t : Bool) → ltb bucket.limit (length (concat bucket.pieces) + length p) ≡ t → first_too_long bucket.limit (bucket.pieces ++ p ∷ []) ≡ cond t long None
    told t e = too_long_push bucket.limit bucket.pieces p t out e ∙ ap (λ o. first_some o (cond t long None)) none ∙ none_first (cond t long None)

    by : (f : Bool) → fits_behind bucket p ≡ f → first_too_long bucket.limit (bucket.pieces ++ p ∷ []) ≡ cond (fits_behind bucket p) None long
    by true g = told false (le-ltb _ _ (leb-true _ _ g)) ∙ ap (λ f. cond f None long) (sym g)
    by false g = told true (lt-ltb _ _ (leb-false _ _ g)) ∙ ap (λ f. cond f None long) (sym g)

-- ---- a bucket and one more piece

module _ (section limit b : ℕ) (pieces : List Piece) (p : Piece) where
  abbrev kept : List Piece
  kept = firsts_behind [] pieces

  abbrev wider : List Piece
  wider = firsts_behind [] (pieces ++ p ∷ [])

  abbrev bucket : Bucket
  bucket = record { section = section; number = b; limit = limit; pieces = kept }

  pub wider_is : (t : Bool) → is_among kept p ≡ t → wider ≡ kept ++ cond t [] (p ∷ [])
  wider_is t h = firsts_push [] pieces p t (sym (among-firsts pieces p) ∙ h)

  -- a bucket that has stopped stays so
  pub stays_refused : (e : MergeError) → bucket_refusal section limit b kept ≡ Some e → bucket_refusal section limit b wider ≡ Some e
  stays_refused e h = by (is_among kept p) refl (first_too_long limit kept) refl
    where
      by : (t : Bool) → is_among kept p ≡ t → (o : Option (ℕ × ℕ)) → first_too_long limit kept ≡ o → bucket_refusal section limit b wider ≡ Some e
      by true there o f = ap (bucket_refusal section limit b) (wider_is true there ∙ append-nil kept) ∙ h
      by false out None f = absurd (let none : None ≡ Some e = sym (ap (option_map (λ q. TooLarge section b q.0 q.1)) f) ∙ h in cc)
      by false out (Some q) f =
          let t : Bool = ltb limit (length (concat kept) + length p) in
          let last : Option (ℕ × ℕ) = cond t (Some (length (concat kept), length p)) None in
          let same : first_too_long limit (kept ++ p ∷ []) ≡ first_too_long limit kept
          = too_long_push limit kept p t out refl ∙ ap (λ o. first_some o last) f ∙ some_first q last ∙ sym f in
          ap (bucket_refusal section limit b) (wider_is false out) ∙ ap (option_map (λ q. TooLarge section b q.0 q.1)) same ∙ h

  -- the bucket takes the piece
  pub record Taken : Type 0 where
    pub refusal : bucket_refusal section limit b wider ≡ None
    pub holds : with_piece bucket p ≡ record { section = section; number = b; limit = limit; pieces = wider }
    pub answer : adding bucket p ≡ Ok (bucket_place b (place_in wider p))

  -- or stops at it
  pub record Stopped : Type 0 where
    pub error : MergeError
    pub refusal : bucket_refusal section limit b wider ≡ Some error
    pub answer : adding bucket p ≡ Err error
    pub more : wider ≡ kept ++ p ∷ []
    pub long : limit < length (concat kept) + length p

  pub one_more : bucket_refusal section limit b kept ≡ None → Taken ⊎ Stopped
  one_more h = by (is_among kept p) (fits_behind bucket p) refl refl
    where
      whole : (t f : Bool) → is_among kept p ≡ t → fits_behind bucket p ≡ f
          → adding bucket p ≡ cond (t || f) (Ok (bucket_place b (place_in kept p))) (Err (TooLarge section b (length (concat kept)) (length p)))
      whole t f e g = λ i. cond (e i || g i) (Ok (bucket_place b (place_in kept p))) (Err (TooLarge section b (length (concat kept)) (length p)))

      with_it : (t : Bool) → is_among kept p ≡ t → with_piece bucket p ≡ record { section = section; number = b; limit = limit; pieces = cond t kept (kept ++ p ∷ []) }
      with_it t e = λ i. record { section = section; number = b; limit = limit; pieces = cond (e i) kept (kept ++ p ∷ []) }

      last_place : is_among kept p ≡ false → place_in (kept ++ p ∷ []) p ≡ place_in kept p
      last_place e =
          let head : place_in (p ∷ []) p ≡ 0 = place_step p [] p true (equal_piece p p refl) in
          place-append_out kept (p ∷ []) p e ∙ omega (arith, head, place_behind kept p e)

      last_long : is_among kept p ≡ false → (t : Bool) → ltb limit (length (concat kept) + length p) ≡ t → first_too_long limit (kept ++ p ∷ []) ≡ cond t (Some (length (concat kept), length p)) None
      last_long out t e =
          let last : Option (ℕ × ℕ) = cond t (Some (length (concat kept), length p)) None in
          too_long_push limit kept p t out e ∙ ap (λ o. first_some o last) (unrefused_list section limit b kept h) ∙ none_first last

      by : (t f : Bool) → is_among kept p ≡ t → fits_behind bucket p ≡ f → Taken ⊎ Stopped
      by true f e g =
          let same : wider ≡ kept = wider_is true e ∙ append-nil kept in
          inl (record {
            refusal = ap (bucket_refusal section limit b) same ∙ h;
            holds = with_it true e ∙ (λ i. record { section = section; number = b; limit = limit; pieces = sym same i });
            answer = whole true f e g ∙ ap (λ ps. Ok (bucket_place b (place_in ps p))) (sym same);
          })
      by false true e g =
          let more : wider ≡ kept ++ p ∷ [] = wider_is false e in
          let fits : ltb limit (length (concat kept) + length p) ≡ false = le-ltb _ _ (leb-true _ _ g) in
          inl (record {
            refusal = ap (bucket_refusal section limit b) more ∙ ap (option_map (λ q. TooLarge section b q.0 q.1)) (last_long e false fits);
            holds = with_it false e ∙ (λ i. record { section = section; number = b; limit = limit; pieces = sym more i });
            answer = whole false true e g ∙ ap (λ n. Ok (bucket_place b n)) (sym (last_place e)) ∙ ap (λ ps. Ok (bucket_place b (place_in ps p))) (sym more);
          })
      by false false e g =
          let more : wider ≡ kept ++ p ∷ [] = wider_is false e in
          let long : ltb limit (length (concat kept) + length p) ≡ true = lt-ltb _ _ (leb-false _ _ g) in
          inr (record {
            error = TooLarge section b (length (concat kept)) (length p);
            refusal = ap (bucket_refusal section limit b) more ∙ ap (option_map (λ q. TooLarge section b q.0 q.1)) (last_long e true long);
            answer = whole false false e g;
            more = more;
            long = leb-false _ _ g;
          })
