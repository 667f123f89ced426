use Rattle.std.proofs.Common.{◌≡◌, ℕ, zero, suc, ◌+◌, ◌-◌, ◌<◌, ◌≤◌, ◌||◌, Bool, true, false, refl, sym, ap, ◌∙◌, arith}
use Rattle.std.specs.Prelude.{not}
use Rattle.std.specs.List.{list_any, range_with_len}
use Rattle.lk_link.specs.PartRules.{is_table_part}
use Rattle.lk_link.specs.Parts.{first_part}
use Rattle.lk_link.proofs.PartNumbers.{first_part-le}
use Rattle.lk_sizes.proofs.header.has_content.Goals as goal

or_right : (a b : Bool) → b ≡ true → (a || b) ≡ true
or_right true b h = refl
or_right false b h = h

or_left : (a b : Bool) → a ≡ true → (a || b) ≡ true
or_left a b h = ap (λ c. c || b) h

or_assoc : (a b c : Bool) → (a || (b || c)) ≡ ((a || b) || c)
or_assoc true b c = refl
or_assoc false b c = refl

or_none : (a : Bool) → (a || false) ≡ a
or_none true = refl
or_none false = refl

-- one of a range passes
any_at : (p : ℕ → Bool) (a m k : ℕ) → m < k → p (a + m) ≡ true → list_any p (range_with_len a k) ≡ true
any_at p a m zero lt h = absurd (omega (arith, lt))
any_at p a zero (suc k) lt h = let same : a ≡ a + 0 = omega arith in or_left (p a) (list_any p (range_with_len (a + 1) k)) (ap p same ∙ h)
any_at p a (suc m) (suc k) lt h =
    let same : a + 1 + m ≡ a + suc m = omega arith in
    or_right (p a) (list_any p (range_with_len (a + 1) k)) (any_at p (a + 1) m k (omega (arith, lt)) (ap p same ∙ h))

-- one more of a range
any_more : (p : ℕ → Bool) (a n : ℕ) → list_any p (range_with_len a (suc n)) ≡ (list_any p (range_with_len a n) || p (a + n))
any_more p a zero = let same : a ≡ a + 0 = omega arith in or_none (p a) ∙ ap p same
any_more p a (suc n) =
    let same : a + 1 + n ≡ a + suc n = omega arith in
    ap (λ b. p a || b) (any_more p (a + 1) n)
    ∙ or_assoc (p a) (list_any p (range_with_len (a + 1) n)) (p (a + 1 + n))
    ∙ ap (λ i. list_any p (range_with_len a (suc n)) || p i) same

pub overflow_cast-part : goal.overflow_cast-part
overflow_cast-part c =
    omega (arith, c.loop-part-test.true, c.part_range-first.ensures.behind, first_part-le c.args.plan.now.sections (c.args.section + 1), c.requires.few)

pub returns-then-not-is_table_part : goal.returns-then-not-is_table_part
returns-then-not-is_table_part c =
    let plan = c.args.plan.now in
    let part : ℕ = c.loop-part.part in
    let p : ℕ → Bool = λ q. not (is_table_part plan.named q) in
    let a = first_part plan.sections c.args.section in
    let b = first_part plan.sections (c.args.section + 1) in
    let from : a ≤ part = omega (arith, c.loop-part.invariant.0, c.part_range-first.ensures.first) in
    let same : a + (part - a) ≡ part = omega (arith, from) in
    let passes : p part ≡ true = ap p (sym c.from_u32.ensures) ∙ ap not (sym c.is_table_part.ensures ∙ c.if-not-is_table_part.true) in
    sym (any_at p a (part - a) (b - a) (omega (arith, from, c.loop-part-test.true, c.part_range-first.ensures.behind)) (ap p same ∙ passes))

pub loop-part-preserved : goal.loop-part-preserved
loop-part-preserved c =
    let plan = c.args.plan.now in
    let part : ℕ = c.loop-part.part in
    let first : ℕ = c.part_range-first.result.0 in
    let p : ℕ → Bool = λ q. not (is_table_part plan.named q) in
    let same : first + (part - first) ≡ part = omega (arith, c.loop-part.invariant.0) in
    let next : part + 1 - first ≡ suc (part - first) = omega (arith, c.loop-part.invariant.0) in
    let fails : p part ≡ false = ap p (sym c.from_u32.ensures) ∙ ap not (sym c.is_table_part.ensures ∙ c.if-not-is_table_part.false) in (
      omega (arith, c.loop-part.invariant.0),
      ap (λ n. list_any p (range_with_len first n)) next
          ∙ any_more p first (part - first)
          ∙ ap (λ b. b || p (first + (part - first))) c.loop-part.invariant.1
          ∙ ap p same
          ∙ fails,
    )
