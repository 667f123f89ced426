-- The one piece of a constant, and answers of calls that are passed on.
use Rattle.std.proofs.Common.{◌≡◌, ◌≢◌, ℕ, ◌+◌, true, false, cond, List, [], ◌∷◌, length, Result, Ok, Err, refl, ap, ◌∙◌, arith}
use Rattle.std.specs.Result.{OnOk}
use Rattle.lk_merge.specs.Inputs.{located_in}
use Rattle.lk_merge.specs.Pieces.{MergeInput, cut, constant, pieces_of}
use Rattle.lk_merge.proofs.InputLemmas.{located_in_none, located_in_step}

pub on_ok : {T E : Type 0} (r : Result T E) (P Q : Type 0) → (P → Q) → OnOk r P → OnOk r Q
on_ok (Ok x) P Q f h = f h
on_ok (Err e) P Q f h = tt

pub constant_some : (bytes : List ℕ) → length bytes ≢ 0 → constant bytes ≡ bytes ∷ []
constant_some [] h = absurd (h refl)
constant_some (b ∷ bs) h = refl

pub constant_none : (bytes : List ℕ) → length bytes ≡ 0 → constant bytes ≡ []
constant_none [] h = refl
constant_none (b ∷ bs) h = absurd (omega (arith, h))

pub pieces_string : (x : MergeInput) → x.strings ≡ true → pieces_of x ≡ cut x.bytes
pieces_string x h = ap (λ t. cond t (cut x.bytes) (constant x.bytes)) h

pub pieces_constant : (x : MergeInput) → x.strings ≡ false → pieces_of x ≡ constant x.bytes
pieces_constant x h = ap (λ t. cond t (cut x.bytes) (constant x.bytes)) h

pub located_one : (k at : ℕ) (bytes : List ℕ) → located_in k at (bytes ∷ []) ≡ record { input = k; start = at; piece = bytes } ∷ []
located_one k at bytes = located_in_step k at bytes [] ∙ ap (λ l. record { input = k; start = at; piece = bytes } ∷ l) (located_in_none k (at + length bytes))
