-- The entries of the offset map: the pieces of all groups, each with the next place of its bucket.
use Rattle.std.proofs.Common.{◌≡◌, ℕ, zero, suc, ◌+◌, ◌%◌, ◌<◌, true, false, cond, eqb, get_or, List, [], ◌∷◌, ◌++◌, length, map, set, take, drop, Some, Vec, Global, option_map, refl, sym, ap, ◌∙◌, subst, arith, add-one, inl, inr, append-nil, append_assoc, length-append}
use Rattle.std.specs.List.{flat_map, slice_get}
use Rattle.std.specs.Option.{option_map_or}
use Rattle.std.proofs.lemmas.Bool.{eq-eqb, ne_eqb}
use Rattle.std.proofs.lemmas.Bool.Decides.{eqb_tells}
use Rattle.std.proofs.lemmas.Grind.{flat_map-append}
use Rattle.std.proofs.lemmas.List.{map-append, take-append-drop, take_all, take_more}
use Rattle.std.proofs.lemmas.List.Concat.{flat_map-cons}
use Rattle.std.proofs.lemmas.List.Elements.{filter-append}
use Rattle.std.proofs.lemmas.Option.{slice_get-map, slice_get-get_or, slice_get_within}
use Rattle.lk_merge.specs.declared.group_starts.Entries.{Entries}
use Rattle.lk_merge.specs.declared.groups.SectionGroup.{SectionGroup}
use Rattle.lk_merge.specs.declared.offset.BucketOffset.{BucketOffset}
use Rattle.lk_merge.specs.declared.offset_map.PieceEntry.{PieceEntry}
use Rattle.lk_merge.specs.Buckets.{bucket_place}
use Rattle.lk_merge.specs.GroupStarts.{ArePlaces, HasEntries}
use Rattle.lk_merge.specs.Hash.{fnv64}
use Rattle.lk_merge.specs.Image.{firsts_behind, in_bucket, place_in}
use Rattle.lk_merge.specs.Inputs.{Located, located}
use Rattle.lk_merge.specs.MatrixWork.{IsWork, MatrixWork, front_located, group_located, located_between, places_of}
use Rattle.lk_merge.specs.Merging.{place_of}
use Rattle.lk_merge.specs.MergingTables.{entry_of, pieces_in}
use Rattle.lk_merge.specs.OffsetMapTables.{HoldsIn}
use Rattle.lk_merge.specs.Pieces.{Piece}
use Rattle.lk_merge.proofs.Covering.{located_in_groups}
use Rattle.lk_merge.proofs.Growing.{bucket_more, set_at, set_other, some_same}

-- ---- one piece more

at_seam : {X : Type 0} (xs : List X) (y : X) (ys : List X) → slice_get (xs ++ y ∷ ys) (length xs) ≡ Some y
at_seam [] y ys = refl
at_seam (x ∷ xs) y ys = at_seam xs y ys

module _ (all done rest : List Located) (l : Located) (is : all ≡ done ++ l ∷ rest) where
  abbrev own : ℕ
  own = fnv64 l.piece % 16

  own_pieces : in_bucket fnv64 own (pieces_in all) ≡ in_bucket fnv64 own (pieces_in done) ++ l.piece ∷ in_bucket fnv64 own (pieces_in rest)
  own_pieces =
      ap (λ (ls : List Located). in_bucket fnv64 own (pieces_in ls)) is ∙ ap (in_bucket fnv64 own) (map-append (λ (x : Located). x.piece) done (l ∷ rest))
      ∙ filter-append (λ p. eqb (fnv64 p % 16) own) (pieces_in done) (l.piece ∷ pieces_in rest)
      ∙ ap (λ t. in_bucket fnv64 own (pieces_in done) ++ cond t (l.piece ∷ in_bucket fnv64 own (pieces_in rest)) (in_bucket fnv64 own (pieces_in rest))) (eq-eqb own own refl)

  more_pieces : pieces_in (done ++ l ∷ []) ≡ pieces_in done ++ l.piece ∷ []
  more_pieces = map-append (λ (x : Located). x.piece) done (l ∷ [])

  -- the next place of the piece's bucket is the piece's
  next_place : (places : List ℕ) (place : ℕ) → places ≡ places_of own (in_bucket fnv64 own (pieces_in all)) → slice_get places (length (in_bucket fnv64 own (pieces_in done))) ≡ Some place
      → place ≡ place_of fnv64 (pieces_in all) l.piece
  next_place places place are there =
      let f : Piece → ℕ = λ p. bucket_place own (place_in (firsts_behind [] (in_bucket fnv64 own (pieces_in all))) p) in
      let n : ℕ = length (in_bucket fnv64 own (pieces_in done)) in
      let found : slice_get places n ≡ Some (f l.piece)
      = ap (λ ps. slice_get ps n) are ∙ slice_get-map f (in_bucket fnv64 own (pieces_in all)) n
      ∙ ap (λ ps. option_map f (slice_get ps n)) own_pieces ∙ ap (option_map f) (at_seam (in_bucket fnv64 own (pieces_in done)) l.piece (in_bucket fnv64 own (pieces_in rest))) in
      some_same place (f l.piece) (sym there ∙ found)

  pub entry_added : (old new : Entries) (bucket at : ℕ) (found : Vec BucketOffset Global) (place : ℕ) → bucket ≡ own → HasEntries all done old
      → slice_get old.taken.items bucket ≡ Some at → slice_get old.places.items bucket ≡ Some found → slice_get found.items at ≡ Some place
      → new.places ≡ old.places → new.taken.items ≡ set old.taken.items bucket (at + 1) → ((es : List PieceEntry) → HoldsIn es old.entries → HoldsIn (es ++ record { start = l.start; place = place } ∷ []) new.entries)
      → HasEntries all (done ++ l ∷ []) new
  entry_added old new bucket at found place b h took stands there same taken entries =
      let count : at ≡ length (in_bucket fnv64 own (pieces_in done)) = h.taken own at (ap (slice_get old.taken.items) (sym b) ∙ took) in
      let within : own < length old.taken.items = slice_get_within old.taken.items own at (ap (slice_get old.taken.items) (sym b) ∙ took) in
      let put : new.taken.items ≡ set old.taken.items own (at + 1) = taken ∙ ap (λ k. set old.taken.items k (at + 1)) b in
      let is_place : place ≡ place_of fnv64 (pieces_in all) l.piece
      = next_place found.items place (h.places own found (ap (slice_get old.places.items) (sym b) ∙ stands)) (ap (slice_get found.items) (sym count) ∙ there) in
      record {
        places = subst (λ (v : Vec (Vec BucketOffset Global) Global). ArePlaces (pieces_in all) v.items) (sym same) h.places;
        taken = λ k n here. elim (eqb_tells own k) [
          | inl hit ↦
              let now : slice_get new.taken.items k ≡ Some (at + 1) = ap (slice_get new.taken.items) (sym hit.1) ∙ ap (λ ls. slice_get ls own) put ∙ set_at old.taken.items own (at + 1) within in
              let len : length (in_bucket fnv64 k (pieces_in (done ++ l ∷ []))) ≡ length (in_bucket fnv64 own (pieces_in done)) + 1
              = ap (λ ps. length (in_bucket fnv64 k ps)) more_pieces ∙ ap length (bucket_more (pieces_in done) l.piece k true (eq-eqb own k hit.1))
              ∙ length-append (in_bucket fnv64 k (pieces_in done)) (l.piece ∷ []) ∙ ap (λ j. length (in_bucket fnv64 j (pieces_in done)) + 1) (sym hit.1) in
              let same_count : n ≡ at + 1 = some_same n (at + 1) (sym here ∙ now) in
              omega (arith, same_count, count, len)
          | inr miss ↦
              let before : slice_get old.taken.items k ≡ Some n = sym (set_other old.taken.items own k (at + 1) (λ e. miss.1 (sym e))) ∙ ap (λ ls. slice_get ls k) (sym put) ∙ here in
              h.taken k n before ∙ sym (ap (λ ps. length (in_bucket fnv64 k ps)) more_pieces
              ∙ ap length (bucket_more (pieces_in done) l.piece k false (ne_eqb own k miss.1) ∙ append-nil (in_bucket fnv64 k (pieces_in done))))
        ];
        entries = subst (λ es. HoldsIn es new.entries)
            (ap (λ p. map (entry_of (pieces_in all)) done ++ record { start = l.start; place = p } ∷ []) is_place ∙ sym (map-append (entry_of (pieces_in all)) done (l ∷ [])))
            (entries (map (entry_of (pieces_in all)) done) h.entries);
      }

-- ---- pieces that follow each other

pub record IsNext (more : List Located) (k : ℕ) (piece : Located) : Type 0 where
  pub rest : List Located
  pub split : more ≡ take k more ++ piece ∷ rest
  pub one : take (k + 1) more ≡ take k more ++ piece ∷ []

pub next_piece : (more : List Located) (k : ℕ) (l : Located) → slice_get more k ≡ Some l → IsNext more k l
next_piece [] k l h = absurd (cc)
next_piece (m ∷ more) zero l h =
    let same : m ≡ l = some_same m l h in
    record {
      rest = more;
      split = ap (λ (x : Located). x ∷ more) same;
      one = ap (λ n. take n (m ∷ more)) (add-one 0) ∙ ap (λ (x : Located). x ∷ []) same;
    }
next_piece (m ∷ more) (suc k) l h =
    let r = next_piece more k l h in
    record {
      rest = r.rest;
      split = ap (λ (ls : List Located). m ∷ ls) r.split;
      one = ap (λ n. take n (m ∷ more)) (add-one (suc k)) ∙ ap (λ n. m ∷ take n more) (sym (add-one k)) ∙ ap (λ (ls : List Located). m ∷ ls) r.one;
    }

-- ---- groups

pub group_next : (w : MatrixWork) (g : ℕ) → IsWork w → g < length w.groups
    → (rest : List Located) × (located w.inputs ≡ front_located w g ++ (group_located w g ++ rest)) × (front_located w (g + 1) ≡ front_located w g ++ group_located w g)
group_next w g h there =
    let lb = located_between w in
    let x : SectionGroup = get_or w.groups g (record { start = 0; end = 0 }) in
    let at : slice_get w.groups g ≡ Some x = slice_get-get_or w.groups g (record { start = 0; end = 0 }) there in
    let here : lb x ≡ group_located w g = sym (ap (λ o. option_map_or lb o []) at) in
    let front : front_located w (g + 1) ≡ front_located w g ++ group_located w g
    = ap (flat_map lb) (take_more w.groups g (record { start = 0; end = 0 }) there) ∙ flat_map-append lb (take g w.groups) (x ∷ [])
    ∙ ap (λ (ls : List Located). front_located w g ++ ls) (flat_map-cons lb x [] ∙ append-nil (lb x) ∙ here) in
    let rest : List Located = flat_map lb (drop (g + 1) w.groups) in
    let all : located w.inputs ≡ front_located w (g + 1) ++ rest
    = sym (located_in_groups w.inputs h.size w.groups h.terminated h.groups) ∙ ap (flat_map lb) (sym (take-append-drop (g + 1) w.groups))
    ∙ flat_map-append lb (take (g + 1) w.groups) (drop (g + 1) w.groups) in
    (rest, all ∙ ap (λ (ls : List Located). ls ++ rest) front ∙ append_assoc (front_located w g) (group_located w g) rest, front)

pub groups_all : (w : MatrixWork) → IsWork w → front_located w (length w.groups) ≡ located w.inputs
groups_all w h = ap (flat_map (located_between w)) (take_all (length w.groups) w.groups (omega arith)) ∙ located_in_groups w.inputs h.size w.groups h.terminated h.groups
