-- Pieces that several workers read.
use Rattle.std.specs.Prelude.{◌≡◌, ℕ, ◌*◌, ◌<◌, List, [], ◌∷◌, ◌++◌, take, drop, slice_index_or, Option, IfSome, Result}
use Rattle.std.specs.Borrow.{Bor}
use Rattle.serde_json.specs.Data.{Data}
use Rattle.lk_pieces.specs.declared.pieces.Part.{Part}
use Rattle.lk_pieces.specs.Pieces.{bytes_of, AreHeld}

-- the pieces of a worker: so many, behind those of the workers before it
abbrev pub share_of : {X : Type 0} → ℕ → ℕ → List X → List X
share_of size worker ps = take size (drop (worker * size) ps)

-- what a worker answered, if it did, was read of its pieces
abbrev pub ReadsShare : {A E : Type 0} → (Data → Result A E) → ℕ → ℕ → List (Bor (List ℕ)) → ℕ → Option (Part A) → Type 0
ReadsShare f depth size ps worker answer = IfSome answer (λ part. AreHeld f depth (bytes_of (share_of size worker ps)) part)

-- the same of each worker
abbrev pub ReadShares : {A E : Type 0} → (Data → Result A E) → ℕ → ℕ → List (Bor (List ℕ)) → ℕ → List (Option (Part A)) → Type 0
ReadShares {A} f depth size ps workers answers = (worker : ℕ) (d : Option (Part A)) → worker < workers → ReadsShare f depth size ps worker (slice_index_or answers worker d)

-- the pieces are those of one worker after the other, and what each answered, if it did, was read of its own
unfoldable pub AreShares : {A E : Type 0} → (Data → Result A E) → ℕ → List (List ℕ) → List (Option (Part A)) → Type 0
AreShares f depth ps [] = ps ≡ []
AreShares f depth ps (answer ∷ answers) =
    (qs rest : List (List ℕ)) × (ps ≡ qs ++ rest) × IfSome answer (λ part. AreHeld f depth qs part) × AreShares f depth rest answers
