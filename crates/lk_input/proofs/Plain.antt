-- What one token writes plainly.
use Rattle.std.proofs.Common.{◌≡◌, ℕ, ◌^◌, Bool, List, Option, Some, None, IfSome, option_map, [], Result, Ok, Err, true, false, nat_lt, if◌then◌else◌, refl, sym, ap, ◌∙◌}
use Rattle.json.specs.Token.{Token}
use Rattle.serde_json.specs.Data.{Num, Data, boolean, number, string}
use Rattle.serde_json.specs.Find.{as_u64}
use Rattle.serde_json.specs.Read.{number_of as written}
use Rattle.lk_input.specs.Plain.{IsPlain, Writes}
use Rattle.lk_input.specs.ReadingSteps.{Path, ◌>>=◌, index_of, one_of, truth_of, wanted, word_of}
use Rattle.lk_pieces.proofs.Tokens.{data_at-boolean, data_at-number, data_at-string}

-- a number
pub plain-number-by : {A : Type 0} (f : Data → Result A Path) (s : List ℕ) (n : Num) (o : Option A) → written s ≡ Some n → f (number n) ≡ wanted o
    → IfSome o (λ x. IsPlain f (Token.number s) x)
plain-number-by f s n None is reads = tt
plain-number-by f s n (Some x) is reads = (number n, λ depth ts. data_at-number depth s ts ∙ ap (option_map (λ m. (number m, ts))) is, reads)

-- a number that is plain to see
pub plain-number-written : {A : Type 0} (f : Data → Result A Path) (g : Num → Option A) (s : List ℕ) (o : Option A) → ((n : Num) → f (number n) ≡ wanted (g n)) → IfSome o (Writes g s)
    → IfSome o (λ x. IsPlain f (Token.number s) x)
plain-number-written f g s None same w = tt
plain-number-written f g s (Some x) same w = plain-number-by f s w.0 (Some x) w.1 (same w.0 ∙ ap wanted w.2)

-- a truth value
pub plain-truth : (b : Bool) → IsPlain truth_of (Token.boolean b) b
plain-truth b = (boolean b, λ depth ts. data_at-boolean depth b ts, refl)

-- a word
pub plain-word-by : {A : Type 0} (words : List (List ℕ × A)) (s : List ℕ) (o : Option A) → o ≡ word_of words s → IfSome o (λ x. IsPlain (one_of words) (Token.string s) x)
plain-word-by words s None is = tt
plain-word-by words s (Some x) is = (string s, λ depth ts. data_at-string depth s ts, ap wanted (sym is))

-- a number below 2^32
pub index-by : (n : Num) (m : ℕ) (o : Option ℕ) → as_u64 n ≡ Some m → o ≡ (if nat_lt m (2 ^ 32) then Some m else None) → index_of (number n) ≡ wanted o
index-by n m o whole is = ap (λ w. wanted w >>= λ k. if nat_lt k (2 ^ 32) then Ok k else Err []) whole ∙ by (nat_lt m (2 ^ 32)) ∙ ap wanted (sym is)
  where
    by : (b : Bool) → ◌≡◌ {A = Result ℕ Path} (if b then Ok m else Err []) (wanted (if b then Some m else None))
    by true = refl
    by false = refl

pub index-written : (s : List ℕ) (n : ℕ) (o : Option ℕ) → Writes as_u64 s n → o ≡ (if nat_lt n (2 ^ 32) then Some n else None) → IfSome o (λ x. IsPlain index_of (Token.number s) x)
index-written s n o w is = plain-number-by index_of s w.0 o w.1 (index-by w.0 n o w.2 is)
