-- The first zero byte of some data.
use Rattle.std.proofs.Common.{◌≡◌, ℕ, ◌+◌, ◌<◌, List, [], ◌∷◌, ◌++◌, length, get_or, take, None, Some, sym, ap, ◌∙◌, arith}
use Rattle.std.specs.List.{Contains}
use Rattle.std.proofs.lemmas.Bool.{eqb-true, eq-eqb}
use Rattle.std.proofs.lemmas.List.{take_more, get_or-take, length-take-le}
use Rattle.memchr.specs.Find.{IsFirstByte, is_byte}
use Rattle.lk_merge.specs.Pieces.{IsString}

-- where none is found, there is none
pub none_found : (bytes : List ℕ) → IsFirstByte (is_byte 0) bytes None → ¬ Contains bytes 0
none_found bytes h c = h c.0 (omega arith) c.1 (eq-eqb (get_or bytes c.0 0) 0 c.2)

-- up to the first one and with it, a string stands there
pub string_found : (bytes : List ℕ) (k : ℕ) → IsFirstByte (is_byte 0) bytes (Some k) → IsString (take (k + 1) bytes)
string_found bytes k h =
    let within : k < length bytes = h.0.high in
    let at : get_or bytes k 0 ≡ 0 = eqb-true (get_or bytes k 0) 0 h.1 in
    let fits : length (take k bytes) ≡ k = length-take-le k bytes (omega arith) in
    record {
      text = take k bytes;
      ends = take_more bytes k 0 within ∙ ap (λ (b : ℕ). take k bytes ++ b ∷ []) at;
      only = λ c.
          let below : c.0 < k = omega (arith, fits, c.1) in
          let same : get_or bytes c.0 0 ≡ 0 = sym (get_or-take k bytes c.0 0 below) ∙ c.2 in
          h.0.before c.0 (omega arith) below (eq-eqb (get_or bytes c.0 0) 0 same);
    }

pub within_found : (bytes : List ℕ) (k : ℕ) → IsFirstByte (is_byte 0) bytes (Some k) → k < length bytes
within_found bytes k h = h.0.high
