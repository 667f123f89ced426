use Rattle.std.proofs.Common.{rules, ◌≡◌, ℕ, ◌/◌, ◌%◌, ◌^◌, ◌<◌, [], ap, arith, get_or}
use Rattle.std.specs.List.{slice_index}
use Rattle.std.specs.Hash as fed
use Rattle.std.specs.Hash.{HashWrites}
use Rattle.lk_thunks.proofs.laws.blocks_hash_as_numbers.Goals as goal

-- the byte at a place of the first write
abbrev byte : ℕ → HashWrites → ℕ
byte i writes = slice_index (get_or writes 0 []) i

-- each byte is a digit, and a number is told by its digits
pub returns-clause-apart : goal.returns-clause-apart
unfolding fed.le_bytes
returns-clause-apart g c = λ same.
    let number = c.args.a in
    let other = c.args.b in
    let fits : number < 2 ^ 32 = search rules in
    let other-fits : other < 2 ^ 32 = search rules in
    let first : number % 256 ≡ other % 256 = ap (byte 0) same in
    let second : number / 2 ^ 8 % 256 ≡ other / 2 ^ 8 % 256 = ap (byte 1) same in
    let third : number / 2 ^ 16 % 256 ≡ other / 2 ^ 16 % 256 = ap (byte 2) same in
    let fourth : number / 2 ^ 24 % 256 ≡ other / 2 ^ 24 % 256 = ap (byte 3) same in
    omega (arith, fits, other-fits, first, second, third, fourth)
