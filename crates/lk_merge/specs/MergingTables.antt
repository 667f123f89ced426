-- Of the insides of merging: what the pieces so far have made of the buckets and of the offset map. Cited by private parts
-- alone.
use Rattle.std.specs.Prelude.{◌≡◌, ℕ, ◌+◌, ◌<◌, ◌≤◌, ◌^◌, List, ◌∷◌, ◌++◌, None, Some, Result, Ok, Err, length, map, slice_get}
use Rattle.std.specs.List.{concat}
use Rattle.lk_merge.specs.declared.error.MergeError.{MergeError}
use Rattle.lk_merge.specs.declared.error.MergeError.TheVariants.{NoMemory}
use Rattle.lk_merge.specs.declared.merging.BucketState.{BucketState}
use Rattle.lk_merge.specs.declared.merging.Merging.{Merging}
use Rattle.lk_merge.specs.declared.offset_map.PieceEntry.{PieceEntry}
use Rattle.lk_merge.specs.Buckets.{Bucket}
use Rattle.lk_merge.specs.Hash.{fnv64}
use Rattle.lk_merge.specs.Image.{bucket_list}
use Rattle.lk_merge.specs.Inputs.{Located, located, located_in}
use Rattle.lk_merge.specs.Merging.{bucket_refusal, long_refusal, place_of}
use Rattle.lk_merge.specs.OffsetMapTables.{HoldsIn}
use Rattle.lk_merge.specs.Pieces.{Piece, MergeInput, IsString}

-- a bucket has stopped before one of the pieces that it should keep: it holds those that stand before it, which fit, and that one would not
pub record StopsBefore (section limit b : ℕ) (kept : List Piece) (bucket : Bucket) : Type 0 where
  pub held : List Piece
  pub piece : Piece
  pub rest : List Piece
  pub split : kept ≡ held ++ piece ∷ rest
  pub fits : length (concat held) ≤ limit
  pub long : limit < length (concat held) + length piece
  pub holds : bucket ≡ record { section = section; number = b; limit = limit; pieces = held }

-- the state of a bucket after the pieces that it should keep: it has them, or has stopped at its first one that is too long
pub record HasTaken (section limit b : ℕ) (kept : List Piece) (state : BucketState) : Type 0 where
  pub refusal : state.refusal ≡ bucket_refusal section limit b kept
  pub holds : bucket_refusal section limit b kept ≡ None → state.bucket ≡ record { section = section; number = b; limit = limit; pieces = kept }
  pub stopped : (e : MergeError) → state.refusal ≡ Some e → StopsBefore section limit b kept state.bucket

-- the pieces of some located ones
abbrev pub pieces_in : List Located → List Piece
pieces_in done = map (λ l. l.piece) done

-- no bucket refuses any of some pieces
abbrev pub AllFit : ℕ → ℕ → List Piece → Type 0
AllFit section limit pieces = (b : ℕ) → b < 16 → bucket_refusal section limit b (bucket_list fnv64 pieces b) ≡ None

-- what the offset map says of a piece, among all pieces
abbrev pub entry_of : List Piece → Located → PieceEntry
entry_of pieces l = record { start = l.start; place = place_of fnv64 pieces l.piece }

-- what located pieces have made of the buckets and of the map
pub record HasMerged (section limit : ℕ) (done : List Located) (merging : Merging) : Type 0 where
  pub count : length merging.buckets.items ≡ 16
  pub buckets : (b : ℕ) (state : BucketState) → slice_get merging.buckets.items b ≡ Some state
      → HasTaken section limit b (bucket_list fnv64 (pieces_in done) b) state
  pub entries : AllFit section limit (pieces_in done) → HoldsIn (map (entry_of (pieces_in done)) done) merging.entries

-- strings that were taken of some data, one after the other, and what is left
pub record AreTaken (bytes : List ℕ) (taken : List Piece) (rest : List ℕ) : Type 0 where
  pub each : (k : ℕ) (p : Piece) → slice_get taken k ≡ Some p → IsString p
  pub whole : bytes ≡ concat taken ++ rest

-- pieces of an input that follow each other have been added: the first starts at an offset into all inputs, and the last ends at one
pub record AreAdded (input from : ℕ) (old : Merging) (taken : List Piece) (end : ℕ) (new : Merging) : Type 0 where
  pub at : end ≡ from + length (concat taken)
  pub count : length new.buckets.items ≡ length old.buckets.items
  pub made : (section limit : ℕ) (done : List Located) → HasMerged section limit done old
      → HasMerged section limit (done ++ located_in input from taken) new

-- the strings that were taken of some data, what is left, and what they have made
pub record TookStrings (bytes : List ℕ) (input from : ℕ) (old : Merging) (rest : List ℕ) (at : ℕ) (new : Merging) : Type 0 where
  pub taken : List Piece
  pub strings : AreTaken bytes taken rest
  pub added : AreAdded input from old taken at new

-- all pieces of some inputs have been added, for some output section and limit
pub record HasMergedAll (inputs : List MergeInput) (merging : Merging) : Type 0 where
  pub section : ℕ
  pub limit : ℕ
  pub small : limit ≤ 2 ^ 28
  pub merged : HasMerged section limit (located inputs) merging

-- what the merging of pieces answers, by the buckets alone
abbrev pub GivesFitting : ℕ → ℕ → List Piece → List MergeInput → Result (List MergeInput) MergeError → Type 0
GivesFitting section limit pieces inputs (Ok merged) = (long_refusal fnv64 section limit pieces ≡ None) × (merged ≡ inputs)
GivesFitting section limit pieces inputs (Err NoMemory) = Unit {0}
GivesFitting section limit pieces inputs (Err error) = long_refusal fnv64 section limit pieces ≡ Some error
