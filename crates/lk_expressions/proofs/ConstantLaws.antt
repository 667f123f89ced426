-- Constants go by those before them, as all that is added to a list one by one.
use Rattle.std.proofs.Common.{◌≡◌, ◌∙◌, ap, arith, refl, sym, ℕ, zero, suc, ◌+◌, List, [], ◌∷◌, ◌++◌, length, map, subst}
use Rattle.std.specs.Prelude.{Option, Some, slice_get, take}
use Rattle.std.specs.List.{fold}
use Rattle.std.proofs.Math.Seq.{take-append_seam}
use Rattle.std.proofs.lemmas.List.Sums.{sum_by-cons}
use Rattle.std.proofs.lemmas.List.{append_assoc, append-nil, length-append, length-map}
use Rattle.lk_link.specs.declared.file.InputFile.{InputFile}
use Rattle.lk_link.specs.declared.symbol.InputSymbol.{InputSymbol}
use Rattle.lk_link.specs.SymbolRules.{file_symbols}
use Rattle.lk_link.specs.Symbols.{all_files, symbol_count}
use Rattle.lk_expressions.specs.Constants.{Before, constants_of, next_constant}
use Rattle.lk_expressions.specs.ExpressionLaws.{ConstantsGoByThoseBefore}
use Rattle.lk_expressions.specs.Expressions.{Valued}

-- a list, and behind it what g makes of an item by the list
abbrev added : {A B : Type 0} → (List B → A → B) → List B → A → List B
added g acc p = acc ++ g acc p ∷ []

-- what is there stays there
stays : {A B : Type 0} (g : List B → A → B) (acc : List B) (ps : List A) → (rest : List B) × (fold (added g) acc ps ≡ acc ++ rest)
stays g acc [] = ([], sym (append-nil acc))
stays g acc (p ∷ ps) =
    let more = stays g (added g acc p) ps in
    (g acc p ∷ more.0, more.1 ∙ append_assoc acc (g acc p ∷ []) more.0)

-- the item behind a list
at_seam : {B : Type 0} (xs ys : List B) (x : B) → slice_get (xs ++ x ∷ ys) (length xs) ≡ Some x
at_seam [] ys x = refl
at_seam (w ∷ ws) ys x = at_seam ws ys x

-- each item goes by those before it
each_by : {A B : Type 0} (g : List B → A → B) (acc : List B) (ps : List A) (k : ℕ) (p : A) → slice_get ps k ≡ Some p
    → slice_get (fold (added g) acc ps) (length acc + k) ≡ Some (g (take (length acc + k) (fold (added g) acc ps)) p)
each_by g acc [] k p h = absurd (cc)
each_by {A} {B} g acc (q ∷ qs) zero p h =
    let more = stays g (added g acc q) qs in
    let all : List B = fold (added g) acc (q ∷ qs) in
    let whole : all ≡ acc ++ g acc q ∷ more.0 = more.1 ∙ append_assoc acc (g acc q ∷ []) more.0 in
    let same : q ≡ p = cc in
    let here : length acc + 0 ≡ length acc = omega arith in
    let before : take (length acc + 0) all ≡ acc = ap (λ (n : ℕ). take n all) here
    ∙ ap (λ (xs : List B). take (length acc) xs) whole ∙ take-append_seam acc (g acc q ∷ more.0) in
    ap (λ (n : ℕ). slice_get all n) here
    ∙ ap (λ (xs : List B). slice_get xs (length acc)) whole
    ∙ at_seam acc more.0 (g acc q)
    ∙ ap (λ (x : A). Some (g acc x)) same
    ∙ ap (λ (xs : List B). Some (g xs p)) (sym before)
each_by {A} {B} g acc (q ∷ qs) (suc k) p h =
    let all : List B = fold (added g) (added g acc q) qs in
    let so : length (added g acc q) + k ≡ length acc + suc k = omega (arith, length-append acc (g acc q ∷ [])) in
    subst (λ (n : ℕ). slice_get all n ≡ Some (g (take n all) p)) so (each_by g (added g acc q) qs k p h)

-- there is one for each
one_each : {A B : Type 0} (g : List B → A → B) (acc : List B) (ps : List A) → length (fold (added g) acc ps) ≡ length acc + length ps
one_each g acc [] = omega arith
one_each g acc (p ∷ ps) = omega (arith, one_each g (added g acc p) ps, length-append acc (g acc p ∷ []))

-- the symbols of files are as many as they have
counted : (files : List InputFile) → length (file_symbols files) ≡ symbol_count files
counted [] = refl
counted (f ∷ fs) =
    length-append (map (λ (s : InputSymbol). (f, s)) f.symbols) (file_symbols fs)
    ∙ ap (λ (n : ℕ). n + length (file_symbols fs)) (length-map f.symbols (λ (s : InputSymbol). (f, s)))
    ∙ ap (λ (n : ℕ). length f.symbols + n) (counted fs)
    ∙ sym (sum_by-cons (λ (g : InputFile). length g.symbols) f fs)

-- what a symbol is worth by the constants before it
abbrev made : Before → List (Option Valued) → InputFile × InputSymbol → Option Valued
made known constants p = next_constant known constants p.0 p.1

pub constants_go_by_those_before : ConstantsGoByThoseBefore
constants_go_by_those_before = record {
  count = λ known. omega (arith, one_each (made known) [] (file_symbols (all_files known.groups)), counted (all_files known.groups));
  each = λ known s f x h.
      let all : List (Option Valued) = constants_of known in
      let e : 0 + s ≡ s = omega arith in
      subst (λ (n : ℕ). slice_get all n ≡ Some (next_constant known (take n all) f x)) e
      (each_by (made known) [] (file_symbols (all_files known.groups)) s (f, x) h);
}
