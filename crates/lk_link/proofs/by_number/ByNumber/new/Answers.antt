use Rattle.std.specs.List.Sorted.{IsNonDecreasing}
use Rattle.std.proofs.Common.{List, ℕ, length, sym, subst, ap, ◌∙◌}
use Rattle.std.proofs.lemmas.List.{length-map}
use Rattle.lk_link.specs.Numbered.{items_of}
use Rattle.lk_link.proofs.NumberedLemmas.{zip_parts, numbers_rise}
use Rattle.lk_link.proofs.by_number.ByNumber.new.Goals as goal

pub invariant_of-result : goal.invariant_of-result
invariant_of-result g c =
    let numbers = rw c.as_slice.ensures.value at c.in_ok-numbers.ensures in
    let items = rw c.as_slice-2.ensures.value at c.in_ok-items.ensures in (
      ap (λ (ns : List ℕ). length ns) numbers ∙ length-map c.in_ok-pairs.pairs.items (λ p. p.0) ∙ sym (length-map c.in_ok-pairs.pairs.items (λ p. p.1)) ∙ sym (ap length items),
      subst IsNonDecreasing (sym numbers) (numbers_rise c.in_ok-pairs.pairs.items c.in_ok-pairs.ensures.rising),
    )

pub returns : goal.returns
returns g c = λ n.
    rw (c.in_ok-numbers.ensures, c.in_ok-items.ensures, c.as_slice.ensures.value, c.as_slice-2.ensures.value)
    (ap (items_of n) (zip_parts c.in_ok-pairs.pairs.items) ∙ c.in_ok-pairs.ensures.kept n)
