use Rattle.lk_link.proofs.NumberedLemmas.{items_in_range}
use Rattle.lk_link.proofs.by_number.ByNumber.of.Goals as goal

pub returns : goal.returns
returns g c =
    let range = rw c.as_slice.ensures.value at c.range_of-low.ensures in
    let all = items_in_range c.self.inside.numbers.items c.self.inside.items.items c.args.number c.range_of-low.result.0 c.range_of-low.result.1 c.self.invariant.0 range in
    rw (c.as_slice-2.ensures.value, ← c.self.view_is) all
