use Rattle.std.proofs.Common.{◌≡◌, map, take}
use Rattle.lk_sizes.proofs.attributes.without_bytes.Given as goal

-- those of the parts so far
abbrev pub invariant-loop-total : goal.invariant-loop-total
invariant-loop-total l = map (λ c. c.attrs) l.contents.items ≡ map (λ t. t.attrs) (take l.total-index l.totals)
