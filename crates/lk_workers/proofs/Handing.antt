-- What is done in states is handed on.
use Rattle.std.proofs.Common.{◌≡◌, ◌||◌, ℕ, Bool, true, false, List, [], ◌∷◌, ◌++◌, refl, sym, ap, ◌∙◌}
use Rattle.std.specs.List.{list_any}
use Rattle.std.proofs.lemmas.List.Folds.{list_any-append}
use Rattle.lk_link.specs.Marks.{is_marked}
use Rattle.lk_workers.specs.Closings.{AreMarksOf}
use Rattle.lk_workers.specs.States.{Ranged, is_in}

or_none : (b : Bool) → b ≡ b || false
or_none true = refl
or_none false = refl

-- to the marks of some lists come those of two more
pub two_more : (all : List Ranged) (symbols sections : Ranged) (old new : List Bool) → AreMarksOf all old
    → ((n : ℕ) → is_marked new n ≡ is_marked old n || (is_in symbols n || is_in sections n)) → AreMarksOf (all ++ symbols ∷ sections ∷ []) new
two_more all symbols sections old new are more n =
    more n
    ∙ ap (λ b. b || (is_in symbols n || is_in sections n)) (are n)
    ∙ ap (λ b. list_any (λ r. is_in r n) all || (is_in symbols n || b)) (or_none (is_in sections n))
    ∙ sym (list_any-append (λ r. is_in r n) all (symbols ∷ sections ∷ []))
