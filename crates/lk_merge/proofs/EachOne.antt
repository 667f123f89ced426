-- What holds of each of some things, and that each piece of a cell has bytes.
use Rattle.std.proofs.Common.{◌≡◌, ℕ, zero, suc, ◌+◌, ◌<◌, Bool, true, false, cond, List, [], ◌∷◌, ◌++◌, length, map, filter, Option, None, Some, refl, sym, ap, subst}
use Rattle.std.specs.List.{slice_get}
use Rattle.std.specs.Option.{option_map_or}
use Rattle.lk_merge.specs.declared.groups.SectionGroup.{SectionGroup}
use Rattle.lk_merge.specs.declared.string.MergeString.{MergeString}
use Rattle.lk_merge.specs.Groups.{group_pieces}
use Rattle.lk_merge.specs.Inputs.{Located, located, located_from, located_in, padded_len}
use Rattle.lk_merge.specs.MatrixCells.{pieces_of_strings}
use Rattle.lk_merge.specs.MatrixWork.{MatrixWork, cell_pieces}
use Rattle.lk_merge.specs.Pieces.{MergeInput, Piece, pieces_of}
use Rattle.lk_merge.proofs.GoodPieces.{have_bytes}
use Rattle.lk_merge.proofs.LocatedLemmas.{HaveBytes}

abbrev pub Each : {X : Type 0} → (X → Type 0) → List X → Type 0
Each P [] = Unit {0}
Each P (x ∷ xs) = P x × Each P xs

pub each_append : {X : Type 0} (P : X → Type 0) (xs ys : List X) → Each P xs → Each P ys → Each P (xs ++ ys)
each_append P [] ys h g = g
each_append P (x ∷ xs) ys h g = (h.0, each_append P xs ys h.1 g)

pub each_filter : {X : Type 0} (P : X → Type 0) (f : X → Bool) (xs : List X) → Each P xs → Each P (filter f xs)
each_filter P f [] h = tt
each_filter {X} P f (x ∷ xs) h = by (f x) (each_filter P f xs h.1)
  where
    by : (t : Bool) → Each P (filter f xs) → Each P (cond t (x ∷ filter f xs) (filter f xs))
    by true rest = (h.0, rest)
    by false rest = rest

pub each_at : {X : Type 0} (P : X → Type 0) (xs : List X) (k : ℕ) (x : X) → Each P xs → slice_get xs k ≡ Some x → P x
each_at P [] k x h at = absurd (cc)
each_at P (y ∷ xs) zero x h at = let same : y ≡ x = cc in subst P same h.0
each_at P (y ∷ xs) (suc k) x h at = each_at P xs k x h.1 at

-- ---- pieces that have bytes

abbrev HasBytes : Piece → Type 0
HasBytes p = 0 < length p

abbrev IsThere : Located → Type 0
IsThere l = 0 < length l.piece

there_in : (k at : ℕ) (ps : List Piece) → HaveBytes ps → Each IsThere (located_in k at ps)
unfolding located_in
there_in k at [] h = tt
there_in k at (p ∷ ps) h = (h 0 p refl, there_in k (at + length p) ps (λ j q e. h (suc j) q e))

there_from : (k at : ℕ) (xs : List MergeInput) → Each IsThere (located_from k at xs)
unfolding located_from
there_from k at [] = tt
there_from k at (x ∷ xs) = each_append IsThere (located_in k at (pieces_of x)) (located_from (k + 1) (at + padded_len x) xs)
    (there_in k at (pieces_of x) (have_bytes x)) (there_from (k + 1) (at + padded_len x) xs)

bytes_there : (ls : List Located) → Each IsThere ls → Each HasBytes (map (λ (l : Located). l.piece) ls)
bytes_there [] h = tt
bytes_there (l ∷ ls) h = (h.0, bytes_there ls h.1)

group_there : (inputs : List MergeInput) (g : Option SectionGroup) → Each HasBytes (option_map_or (group_pieces inputs) g [])
group_there inputs None = tt
group_there inputs (Some g) = bytes_there _ (each_filter IsThere _ (located inputs) (there_from 0 0 inputs))

-- the strings of a cell have bytes
pub cell_some : (w : MatrixWork) (g b : ℕ) (ss : List MergeString) → pieces_of_strings ss ≡ cell_pieces w g b
    → (k : ℕ) (s : MergeString) → slice_get ss k ≡ Some s → 0 < length s.bytes.now
cell_some w g b ss e k s at = each_at HasBytes (pieces_of_strings ss) k s.bytes.now
    (subst (Each HasBytes) (sym e) (each_filter HasBytes _ _ (group_there w.inputs (slice_get w.groups g)))) (in_map ss k at)
  where
    in_map : (ts : List MergeString) (j : ℕ) → slice_get ts j ≡ Some s → slice_get (pieces_of_strings ts) j ≡ Some s.bytes.now
    in_map [] j h = absurd (cc)
    in_map (r ∷ ts) zero h = let same : r ≡ s = cc in ap (λ (x : MergeString). Some x.bytes.now) same
    in_map (r ∷ ts) (suc j) h = in_map ts j h
