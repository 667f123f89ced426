-- Symbols with entries in the dynamic symbol table, one more at a time.
use Rattle.std.proofs.Common.{◌≡◌, ℕ, ◌+◌, ◌<◌, Bool, true, false, if◌then◌else◌, List, [], ◌∷◌, ◌++◌, filter, length, map, take, get_or, refl, sym, ap, ◌∙◌, append_assoc}
use Rattle.std.specs.List.{enumerate_from}
use Rattle.std.proofs.lemmas.List.{map-append}
use Rattle.std.proofs.lemmas.List.Elements.{filter-append}
use Rattle.lk_tables.proofs.TableSums.{numbered_next}

kept_one : {X : Type 0} (p : ℕ × X → Bool) (q : ℕ × X) (b : Bool) → p q ≡ b → map (λ r. r.0) (filter p (q ∷ [])) ≡ (if p q then q.0 ∷ [] else [])
kept_one p q true h = ap (λ c. map (λ r. r.0) (if c then q ∷ [] else [])) h ∙ sym (ap (λ c. if c then q.0 ∷ [] else []) h)
kept_one p q false h = ap (λ c. map (λ r. r.0) (if c then q ∷ [] else [])) h ∙ sym (ap (λ c. if c then q.0 ∷ [] else []) h)

-- the numbers of those that pass, with one more
pub numbers_more : {X : Type 0} (p : ℕ × X → Bool) (o n : ℕ) (xs : List X) (x d : X) (init table new : List ℕ) → n < length xs → x ≡ get_or xs n d
    → table ≡ init ++ map (λ q. q.0) (filter p (enumerate_from o (take n xs)))
    → new ≡ table ++ (if p (o + n, x) then (o + n) ∷ [] else [])
    → new ≡ init ++ map (λ q. q.0) (filter p (enumerate_from o (take (n + 1) xs)))
numbers_more {X = X} p o n xs x d init table new lt read so_far step =
    let before = enumerate_from o (take n xs) in
    let q : ℕ × X = (o + n, x) in
    let told : List (ℕ × X) → List ℕ = λ ys. map (λ r. r.0) (filter p ys) in
    step ∙ ap (λ ys. ys ++ (if p q then (o + n) ∷ [] else [])) so_far
    ∙ append_assoc init (told before) (if p q then (o + n) ∷ [] else [])
    ∙ ap (λ ys. init ++ (told before ++ ys)) (sym (kept_one p q (p q) refl))
    ∙ ap (λ ys. init ++ ys)
    (sym (map-append (λ r. r.0) (filter p before) (filter p (q ∷ []))) ∙ ap (map (λ r. r.0)) (sym (filter-append p before (q ∷ []))) ∙ ap told (sym (numbered_next o n xs x d lt read)))
