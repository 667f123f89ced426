use Rattle.std.proofs.Common.{rules, ◌≡◌, ℕ, ◌/◌, ◌%◌, ◌^◌, ◌<◌, [], ap, arith, get_or}
use Rattle.std.specs.List.{slice_index}
use Rattle.std.specs.Hash as fed
use Rattle.std.specs.Hash.{HashWrites}
use Rattle.lk_merge.proofs.laws.offsets_hash_as_numbers.Goals as goal

-- the byte at a place of the first write
abbrev byte : ℕ → HashWrites → ℕ
byte i writes = slice_index (get_or writes 0 []) i

-- each byte is a digit, and a number is told by its digits
pub returns-clause-apart : goal.returns-clause-apart
unfolding fed.le_bytes
returns-clause-apart g c = λ same.
    let number = c.args.a in
    let other = c.args.b in
    let fits : number < 2 ^ 64 = search rules in
    let other-fits : other < 2 ^ 64 = search rules in
    let first : number % 256 ≡ other % 256 = ap (byte 0) same in
    let second : number / 2 ^ 8 % 256 ≡ other / 2 ^ 8 % 256 = ap (byte 1) same in
    let third : number / 2 ^ 16 % 256 ≡ other / 2 ^ 16 % 256 = ap (byte 2) same in
    let fourth : number / 2 ^ 24 % 256 ≡ other / 2 ^ 24 % 256 = ap (byte 3) same in
    let fifth : number / 2 ^ 32 % 256 ≡ other / 2 ^ 32 % 256 = ap (byte 4) same in
    let sixth : number / 2 ^ 40 % 256 ≡ other / 2 ^ 40 % 256 = ap (byte 5) same in
    let seventh : number / 2 ^ 48 % 256 ≡ other / 2 ^ 48 % 256 = ap (byte 6) same in
    let eighth : number / 2 ^ 56 % 256 ≡ other / 2 ^ 56 % 256 = ap (byte 7) same in
    omega (arith, fits, other-fits, first, second, third, fourth, fifth, sixth, seventh, eighth)
