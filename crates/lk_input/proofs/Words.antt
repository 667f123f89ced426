-- Words, found by how they are written, or in the table of them.
use Rattle.std.proofs.Common.{◌≡◌, ℕ, List, [], ◌∷◌, Bool, true, false, cond, Some, option_map, refl}
use Rattle.std.specs.Prelude.{find}
use Rattle.std.specs.Str.{bytes_eq}
use Rattle.lk_input.specs.ReadingSteps.{word_of}
use Rattle.lk_input.specs.Words.{spelled}

spelled_by : {A : Type 0} (spelling : A → List ℕ) (w : A) (words : List A) (t : List ℕ) → find (λ v. bytes_eq t (spelling v)) words ≡ word_of (spelled spelling words) t → (b : Bool)
    → cond b (Some w) (find (λ v. bytes_eq t (spelling v)) words) ≡ option_map (λ p. p.1) (cond b (Some (spelling w, w)) (find (λ p. bytes_eq t p.0) (spelled spelling words)))
spelled_by spelling w words t rest true = refl
spelled_by spelling w words t rest false = rest

-- the first word that is written so is what stands beside the text
pub first-spelled : {A : Type 0} (spelling : A → List ℕ) (words : List A) (t : List ℕ) → find (λ v. bytes_eq t (spelling v)) words ≡ word_of (spelled spelling words) t
first-spelled spelling [] t = refl
first-spelled spelling (w ∷ words) t = spelled_by spelling w words t (first-spelled spelling words t) (bytes_eq t (spelling w))
