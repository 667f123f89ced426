-- Which event it is that a test lets through.
use Rattle.std.proofs.Common.{◌≡◌, ℕ, true, ap}
use Rattle.std.proofs.lemmas.Bool.{eqb-true}
use Rattle.lk_link.specs.declared.plan.OrderEvent.{OrderEvent}
use Rattle.lk_link.specs.declared.plan.OrderEvent.TheVariants.{SegmentStart, SegmentEnd, Section}
use Rattle.lk_link.specs.Rules.{is_section, is_start, is_end}

-- the one that places this section
pub is_that_section : (s : ℕ) (e : OrderEvent) → is_section s e ≡ true → e ≡ Section s
is_that_section s (Section t) h = ap (λ n. Section n) (eqb-true t s h)
is_that_section s _ h = absurd (cc)

-- the one that opens this segment
pub is_that_start : (i : ℕ) (e : OrderEvent) → is_start i e ≡ true → e ≡ SegmentStart i
is_that_start i (SegmentStart j) h = ap (λ n. SegmentStart n) (eqb-true j i h)
is_that_start i _ h = absurd (cc)

-- the one that closes it
pub is_that_end : (i : ℕ) (e : OrderEvent) → is_end i e ≡ true → e ≡ SegmentEnd i
is_that_end i (SegmentEnd j) h = ap (λ n. SegmentEnd n) (eqb-true j i h)
is_that_end i _ h = absurd (cc)
