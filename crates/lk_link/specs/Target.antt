-- What a layout depends on beside the link, and the rule of the small platform with the law that the platform cites (so its proof stands here).
use Rattle.std.specs.Prelude.{◌≡◌, ℕ, zero, suc, ◌+◌, ◌-◌, ◌%◌, ◌<◌, ◌≤◌, IsTrue, true}
use Rattle.std.specs.Int.{next_multiple_of}
use Rattle.std.proofs.Common.{arith, sym, ap, ◌∙◌, zero-add}
use Rattle.std.proofs.Math.Nat.{mod-mod, mod-lt, mod_self, mod-add-mod, add-mod-mod}
use Rattle.lk_link.specs.Alignments.{is_alignment}

-- the machine that a link is for
pub record Target : Type 0 where
  -- where memory starts for a load segment, by its alignment, the file cursor and the memory cursor
  pub segment_start : ℕ → ℕ → ℕ → ℕ

-- the machine of a platform, by where it starts load segments
abbrev pub platform_target : (ℕ → ℕ → ℕ → ℕ) → Target
platform_target segment_start = record { segment_start = segment_start }

-- a load segment starts at or above the memory cursor, and congruent to the file cursor
pub record IsLawful (target : Target) : Type 0 where
  pub after : (a f m : ℕ) → IsTrue (is_alignment a) → m ≤ target.segment_start a f m
  pub congruent : (a f m : ℕ) → IsTrue (is_alignment a) → target.segment_start a f m % a ≡ f % a

-- the small platform: a load segment starts at the next multiple of its alignment, plus what the file cursor has past one
abbrev pub small64 : Target
small64 = record { segment_start = λ a f m. next_multiple_of m a + f % a }

-- an alignment is above 0
pub above_zero : (a : ℕ) → is_alignment a ≡ true → 0 < a
unfolding is_alignment
above_zero zero h = cc
above_zero (suc a) h = omega arith

-- rounding up leaves no remainder
pub rounded_mod : (n a : ℕ) → 0 < a → next_multiple_of n a % a ≡ 0
rounded_mod n a h =
    let below : n % a < a = mod-lt n h in
    let fits : n % a + (a - n % a) ≡ a = omega arith in
    add-mod-mod n (a - n % a) a
    ∙ sym (mod-add-mod n a (a - n % a))
    ∙ ap (λ (k : ℕ). k % a) fits
    ∙ mod_self a

-- so it is lawful
pub small64_is_lawful : IsLawful small64
small64_is_lawful = record {
  after = λ a f m h. omega arith;
  congruent = λ a f m h.
      sym (mod-add-mod (next_multiple_of m a) a (f % a))
      ∙ ap (λ (k : ℕ). (k + f % a) % a) (rounded_mod m a (above_zero a h))
      ∙ ap (λ (k : ℕ). k % a) (zero-add (f % a))
      ∙ mod-mod f a;
}
