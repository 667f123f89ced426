-- A walk over live sections: those so far, the next one, and those behind it.
use Rattle.std.proofs.Common.{◌≡◌, ℕ, zero, suc, List, [], ◌∷◌, ◌++◌, length, map, take, Some, None, refl, sym, ap, ◌∙◌}
use Rattle.std.specs.Iterator.{Yields, YieldsFirstBy}
use Rattle.std.specs.List.{slice_get}
use Rattle.std.proofs.lemmas.Iterator.Consumers.{YieldsList-end, YieldsList-from_first, YieldsList-so_far, YieldsList-turn}
use Rattle.std.proofs.lemmas.Option.{slice_get-get_or}
use Rattle.lk_link.specs.declared.walks.InputRef.{InputRef}
use Rattle.lk_link.specs.Inputs.{Input}
use Rattle.lk_link.specs.Walks.{input_of}

-- a list around one of its elements
pub split_at : {X : Type 0} (xs : List X) (k : ℕ) (x : X) → slice_get xs k ≡ Some x → (rest : List X) × (xs ≡ take k xs ++ x ∷ rest)
split_at [] k x h = absurd (cc)
split_at (y ∷ xs) zero x h = let same : y ≡ x = cc in (xs, ap (λ z. z ∷ xs) same)
split_at (y ∷ xs) (suc k) x h =
    let r = split_at xs k x h in
    (r.0, ap (λ (zs : List _). y ∷ zs) r.1)

-- the next one of these stands behind those so far
pub record IsTurn (all done : List Input) (x : Input) : Type 0 where
  pub rest : List Input
  pub splits : all ≡ done ++ x ∷ rest
  pub place : ℕ
  pub there : slice_get all place ≡ Some x

pub turn : (all s t u : List Input) (done : List InputRef) (x : InputRef) → s ≡ all → Yields (YieldsFirstBy {S = List Input} input_of (λ left. left)) s done t
    → YieldsFirstBy {S = List Input} input_of (λ left. left) t (Some x) u → IsTurn all (map input_of done) (input_of x)
turn all s t u done x begins yielded next =
    let walk = YieldsList-from_first input_of (λ (left : List Input). left) {s = s} all begins in
    let front = YieldsList-so_far walk done t yielded in
    let here = YieldsList-turn walk done t yielded (Some x) u x refl next in
    let there : slice_get all (length done) ≡ Some (input_of x) = slice_get-get_or all (length done) (input_of x) here.0 ∙ ap Some (sym here.1) in
    let split = split_at all (length done) (input_of x) there in
    record {
      rest = split.0;
      splits = split.1 ∙ ap (λ (zs : List Input). zs ++ input_of x ∷ split.0) (sym front);
      place = length done;
      there = there;
    }

pub finish : (all s t u : List Input) (done : List InputRef) → s ≡ all → Yields (YieldsFirstBy {S = List Input} input_of (λ left. left)) s done t
    → YieldsFirstBy {S = List Input} input_of (λ left. left) t None u → map input_of done ≡ all
finish all s t u done begins yielded next =
    let walk = YieldsList-from_first input_of (λ (left : List Input). left) {s = s} all begins in
    (YieldsList-end walk done t yielded None u refl next).0
