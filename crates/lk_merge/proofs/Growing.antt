-- What merging has made, with one more piece.
use Rattle.std.proofs.Common.{◌≡◌, ◌≢◌, ℕ, zero, suc, ◌+◌, ◌%◌, ◌<◌, Bool, true, false, cond, ◌||◌, eqb, List, [], ◌∷◌, ◌++◌, length, map, set, Option, None, Some, option_map, refl, sym, ap, ◌∙◌, subst, arith, inl, inr, append-nil}
use Rattle.std.specs.List.{slice_get}
use Rattle.std.specs.Option.{option_to_list}
use Rattle.std.specs.Str.{bytes_eq}
use Rattle.std.proofs.Math.Nat.{mod-lt}
use Rattle.std.proofs.lemmas.Bool.{eqb-true, eqb-false, eq-eqb, ne_eqb}
use Rattle.std.proofs.lemmas.Bool.Decides.{eqb_tells}
use Rattle.std.proofs.lemmas.List.{map-append, length-set}
use Rattle.std.proofs.lemmas.List.Elements.{filter-append}
use Rattle.std.proofs.lemmas.Option.{slice_get_within}
use Rattle.lk_merge.specs.declared.error.MergeError.{MergeError}
use Rattle.lk_merge.specs.declared.merging.BucketState.{BucketState}
use Rattle.lk_merge.specs.declared.merging.Merging.{Merging as Merges}
use Rattle.lk_merge.specs.declared.offset_map.PieceEntry.{PieceEntry}
use Rattle.lk_merge.specs.Buckets.{bucket_place}
use Rattle.lk_merge.specs.Hash.{fnv64}
use Rattle.lk_merge.specs.Image.{is_among, firsts_behind, place_in, in_bucket, bucket_list}
use Rattle.lk_merge.specs.Inputs.{Located}
use Rattle.lk_merge.specs.Merging.{bucket_refusal, place_of}
use Rattle.lk_merge.specs.MergingTables.{HasTaken, HasMerged, AllFit, pieces_in, entry_of}
use Rattle.lk_merge.specs.OffsetMapTables.{HoldsIn}
use Rattle.lk_merge.specs.Pieces.{Piece}
use Rattle.lk_merge.proofs.AmongLemmas.{same_piece, among-firsts, firsts-append, place-append_in, equal_piece}
use Rattle.lk_merge.proofs.TooLong.{stays_refused}

-- ---- pieces of a bucket

-- a piece stands in its bucket where it stands among all
bucket_step : (hash : Piece → ℕ) (b : ℕ) (p : Piece) (ps : List Piece) (t : Bool) → eqb (hash p % 16) b ≡ t
    → in_bucket hash b (p ∷ ps) ≡ cond t (p ∷ in_bucket hash b ps) (in_bucket hash b ps)
bucket_step hash b p ps t h = ap (λ c. cond c (p ∷ in_bucket hash b ps) (in_bucket hash b ps)) h

pub among-in_bucket : (hash : Piece → ℕ) (ps : List Piece) (q : Piece) → is_among (in_bucket hash (hash q % 16) ps) q ≡ is_among ps q
among-in_bucket hash [] q = refl
among-in_bucket hash (p ∷ ps) q = by (among-in_bucket hash ps q) (eqb (hash p % 16) (hash q % 16)) refl (bytes_eq q p) refl
  where
    by : is_among (in_bucket hash (hash q % 16) ps) q ≡ is_among ps q → (t : Bool) → eqb (hash p % 16) (hash q % 16) ≡ t
        → (u : Bool) → bytes_eq q p ≡ u → is_among (in_bucket hash (hash q % 16) (p ∷ ps)) q ≡ is_among (p ∷ ps) q
    by rest true e u f = ap (λ l. is_among l q) (bucket_step hash (hash q % 16) p ps true e) ∙ ap (λ b. bytes_eq q p || b) rest
    by rest false e true f =
        let same : hash p % 16 ≡ hash q % 16 = ap (λ r. hash r % 16) (sym (same_piece q p f)) in
        absurd (eqb-false _ _ e same)
    by rest false e false f = ap (λ l. is_among l q) (bucket_step hash (hash q % 16) p ps false e) ∙ rest ∙ ap (λ b. b || is_among ps q) (sym f)

pub among_bucket_list : (hash : Piece → ℕ) (ps : List Piece) (q : Piece) → is_among (bucket_list hash ps (hash q % 16)) q ≡ is_among ps q
among_bucket_list hash ps q = among-firsts (in_bucket hash (hash q % 16) ps) q ∙ among-in_bucket hash ps q

-- and in no other
pub not_in_bucket : (hash : Piece → ℕ) (b : ℕ) (ps : List Piece) (q : Piece) → hash q % 16 ≢ b → is_among (in_bucket hash b ps) q ≡ false
not_in_bucket hash b [] q other = refl
not_in_bucket hash b (p ∷ ps) q other = by (not_in_bucket hash b ps q other) (eqb (hash p % 16) b) refl (bytes_eq q p) refl
  where
    by : is_among (in_bucket hash b ps) q ≡ false → (t : Bool) → eqb (hash p % 16) b ≡ t → (u : Bool) → bytes_eq q p ≡ u → is_among (in_bucket hash b (p ∷ ps)) q ≡ false
    by rest false e u f = ap (λ l. is_among l q) (bucket_step hash b p ps false e) ∙ rest
    by rest true e true f = absurd (other (ap (λ r. hash r % 16) (same_piece q p f) ∙ eqb-true _ _ e))
    by rest true e false f = ap (λ l. is_among l q) (bucket_step hash b p ps true e) ∙ ap (λ c. c || is_among (in_bucket hash b ps) q) f ∙ rest

-- a place stays, whatever pieces come later
pub place_stays : (hash : Piece → ℕ) (ps more : List Piece) (q : Piece) → is_among ps q ≡ true → place_of hash ps q ≡ place_of hash (ps ++ more) q
place_stays hash ps more q h =
    let b : ℕ = hash q % 16 in
    let there : is_among (bucket_list hash ps b) q ≡ true = among_bucket_list hash ps q ∙ h in
    let grown : bucket_list hash (ps ++ more) b ≡ bucket_list hash ps b ++ firsts_behind (in_bucket hash b ps) (in_bucket hash b more)
    = ap (firsts_behind []) (filter-append _ ps more) ∙ firsts-append [] (in_bucket hash b ps) (in_bucket hash b more) in
    ap (bucket_place b) (sym (place-append_in (bucket_list hash ps b) (firsts_behind (in_bucket hash b ps) (in_bucket hash b more)) q there))
    ∙ ap (λ l. bucket_place b (place_in l q)) (sym grown)

pub entries_stay_of : (all more : List Piece) (done : List Located) → ((l : Located) (k : ℕ) → slice_get done k ≡ Some l → is_among all l.piece ≡ true)
    → map (entry_of all) done ≡ map (entry_of (all ++ more)) done
entries_stay_of all more [] h = refl
entries_stay_of all more (l ∷ done) h =
    let at : place_of fnv64 all l.piece ≡ place_of fnv64 (all ++ more) l.piece = place_stays fnv64 all more l.piece (h l 0 refl) in
    let entry : ℕ → PieceEntry = λ n. record { start = l.start; place = n } in
    (λ i. entry (at i) ∷ entries_stay_of all more done (λ r k there. h r (k + 1) (let n : k + 1 ≡ suc k = omega arith in ap (λ j. slice_get (l ∷ done) j) n ∙ there)) i)

pub among_pieces : (done : List Located) (k : ℕ) (l : Located) → slice_get done k ≡ Some l → is_among (pieces_in done) l.piece ≡ true
among_pieces [] k l h = absurd (cc)
among_pieces (r ∷ done) zero l h =
    let same : r ≡ l = cc in
    ap (λ b. b || is_among (pieces_in done) l.piece) (equal_piece l.piece r.piece (ap (λ (x : Located). x.piece) (sym same)))
among_pieces (r ∷ done) (suc k) l h = ap (λ b. bytes_eq l.piece r.piece || b) (among_pieces done k l h) ∙ or_true (bytes_eq l.piece r.piece)
  where
    or_true : (b : Bool) → (b || true) ≡ true
    or_true true = refl
    or_true false = refl

pub entries_stay : (done : List Located) (more : List Piece) → map (entry_of (pieces_in done)) done ≡ map (entry_of (pieces_in done ++ more)) done
entries_stay done more = entries_stay_of (pieces_in done) more done (λ l k h. among_pieces done k l h)

-- ---- the buckets with one more piece

pub bucket_more : (ps : List Piece) (p : Piece) (b : ℕ) (t : Bool) → eqb (fnv64 p % 16) b ≡ t
    → in_bucket fnv64 b (ps ++ p ∷ []) ≡ in_bucket fnv64 b ps ++ cond t (p ∷ []) []
bucket_more ps p b t h = filter-append _ ps (p ∷ []) ∙ ap (λ c. in_bucket fnv64 b ps ++ cond c (p ∷ []) []) h

other_list : (ps : List Piece) (p : Piece) (b : ℕ) → eqb (fnv64 p % 16) b ≡ false → bucket_list fnv64 (ps ++ p ∷ []) b ≡ bucket_list fnv64 ps b
other_list ps p b h = ap (firsts_behind []) (bucket_more ps p b false h ∙ append-nil (in_bucket fnv64 b ps))

own_list : (ps : List Piece) (p : Piece) (b : ℕ) → eqb (fnv64 p % 16) b ≡ true → bucket_list fnv64 (ps ++ p ∷ []) b ≡ firsts_behind [] (in_bucket fnv64 b ps ++ p ∷ [])
own_list ps p b h = ap (firsts_behind []) (bucket_more ps p b true h)

fit_before : (section limit : ℕ) (ps : List Piece) (p : Piece) → AllFit section limit (ps ++ p ∷ []) → AllFit section limit ps
fit_before section limit ps p h b small = by (bucket_refusal section limit b (bucket_list fnv64 ps b)) refl (eqb (fnv64 p % 16) b) refl
  where
    by : (o : Option MergeError) → bucket_refusal section limit b (bucket_list fnv64 ps b) ≡ o → (t : Bool) → eqb (fnv64 p % 16) b ≡ t
        → bucket_refusal section limit b (bucket_list fnv64 ps b) ≡ None
    by None e t f = e
    by (Some error) e true f =
        let later = stays_refused section limit b (in_bucket fnv64 b ps) p error e in
        absurd (let some : Some error ≡ None = sym later ∙ ap (bucket_refusal section limit b) (sym (own_list ps p b f)) ∙ h b small in cc)
    by (Some error) e false f = ap (bucket_refusal section limit b) (sym (other_list ps p b f)) ∙ h b small

pub some_same : {X : Type 0} (x y : X) → Some x ≡ Some y → x ≡ y
some_same x y e = cc

pub set_at : {X : Type 0} (xs : List X) (i : ℕ) (y : X) → i < length xs → slice_get (set xs i y) i ≡ Some y
set_at [] i y h = absurd (omega arith)
set_at (x ∷ xs) zero y h = refl
set_at (x ∷ xs) (suc i) y h = set_at xs i y (omega arith)

pub set_other : {X : Type 0} (xs : List X) (i j : ℕ) (y : X) → j ≢ i → slice_get (set xs i y) j ≡ slice_get xs j
set_other [] i j y h = refl
set_other (x ∷ xs) zero zero y h = absurd (h refl)
set_other (x ∷ xs) zero (suc j) y h = refl
set_other (x ∷ xs) (suc i) zero y h = refl
set_other (x ∷ xs) (suc i) (suc j) y h = set_other xs i j y (λ e. h (ap (λ n. suc n) e))

-- what the state of a bucket has become
abbrev pub Becomes : BucketState → Piece → BucketState → Option ℕ → Type 0
Becomes state p new place = (section limit b : ℕ) (pieces : List Piece) → HasTaken section limit b (firsts_behind [] pieces) state
    → HasTaken section limit b (firsts_behind [] (pieces ++ p ∷ [])) new
    × (new.refusal ≡ None → place ≡ Some (bucket_place b (place_in (firsts_behind [] (pieces ++ p ∷ [])) p)))

-- the entry of a piece whose place is told
abbrev pub told : ℕ → Option ℕ → List PieceEntry
told start place = option_to_list (option_map (λ (n : ℕ). record { start = start; place = n }) place)

module _ (section limit : ℕ) (done : List Located) (old new : Merges) (p : Piece) (input start : ℕ) (state after : BucketState) (place : Option ℕ) where
  abbrev ps : List Piece
  ps = pieces_in done

  abbrev own : ℕ
  own = fnv64 p % 16

  small : own < 16
  small = mod-lt (fnv64 p) (omega arith)

  abbrev here : Located
  here = record { input = input; start = start; piece = p }

  more_pieces : pieces_in (done ++ here ∷ []) ≡ ps ++ p ∷ []
  more_pieces = map-append (λ (l : Located). l.piece) done (here ∷ [])

  pub grown : HasMerged section limit done old → slice_get old.buckets.items own ≡ Some state → Becomes state p after place
      → new.buckets.items ≡ set old.buckets.items own after
      → ((es : List PieceEntry) → HoldsIn es old.entries → HoldsIn (es ++ told start place) new.entries)
      → HasMerged section limit (done ++ here ∷ []) new
  grown h at become items entries =
      let mine = become section limit own (in_bucket fnv64 own ps) (h.buckets own state at) in
      let within : own < length old.buckets.items = slice_get_within old.buckets.items own state at in
      record {
        count = ap length items ∙ length-set old.buckets.items own after ∙ h.count;
        buckets = λ b s there. subst (λ qs. HasTaken section limit b (bucket_list fnv64 qs b) s) (sym more_pieces)
            (elim (eqb_tells own b) [
              | inl hit ↦
                  let set_here : slice_get new.buckets.items b ≡ Some after = ap (slice_get new.buckets.items) (sym hit.1) ∙ ap (λ l. slice_get l own) items ∙ set_at old.buckets.items own after within in
                  let same : after ≡ s = some_same after s (sym set_here ∙ there) in
                  subst (λ z. HasTaken section limit b (bucket_list fnv64 (ps ++ p ∷ []) b) z) same
                  (subst (λ k. HasTaken section limit k (bucket_list fnv64 (ps ++ p ∷ []) k) after) hit.1
                  (subst (λ l. HasTaken section limit own l after) (sym (own_list ps p own (eq-eqb own own refl))) mine.0))
              | inr miss ↦
                  let kept : slice_get old.buckets.items b ≡ Some s = sym (set_other old.buckets.items own b after (λ e. miss.1 (sym e))) ∙ ap (λ l. slice_get l b) (sym items) ∙ there in
                  subst (λ l. HasTaken section limit b l s) (sym (other_list ps p b (ne_eqb own b miss.1))) (h.buckets b s kept)
            ]);
        entries = λ fit.
            let fits : AllFit section limit (ps ++ p ∷ []) = subst (AllFit section limit) more_pieces fit in
            let before : HoldsIn (map (entry_of ps) done) old.entries = h.entries (fit_before section limit ps p fits) in
            let none : after.refusal ≡ None = mine.0.refusal ∙ ap (bucket_refusal section limit own) (sym (own_list ps p own (eq-eqb own own refl))) ∙ fits own small in
            let at_place : place ≡ Some (place_of fnv64 (ps ++ p ∷ []) p)
            = mine.1 none ∙ ap (λ l. Some (bucket_place own (place_in l p))) (sym (own_list ps p own (eq-eqb own own refl))) in
            subst (λ es. HoldsIn es new.entries)
            (ap (λ l. l ++ told start place) (entries_stay done (p ∷ []))
            ∙ ap (λ o. map (entry_of (ps ++ p ∷ [])) done ++ told start o) at_place
            ∙ sym (map-append (entry_of (ps ++ p ∷ [])) done (here ∷ []))
            ∙ ap (λ qs. map (entry_of qs) (done ++ here ∷ [])) (sym more_pieces)) (entries (map (entry_of ps) done) before);
      }
