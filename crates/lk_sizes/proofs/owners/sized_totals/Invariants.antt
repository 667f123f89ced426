use Rattle.std.specs.Option.{option_map_or}
use Rattle.lk_link.specs.TableSizes.{TableSizes}
use Rattle.lk_sizes.specs.Owners.{content_of, own_sizes}
use Rattle.lk_sizes.proofs.Wholes.{AreWhole}
use Rattle.lk_sizes.proofs.owners.sized_totals.Given as goal

-- the totals so far are what comes into the first parts
abbrev pub invariant-loop-number : goal.invariant-loop-number
invariant-loop-number l =
    (tables : TableSizes) → AreWhole (content_of l.link tables l.live l.merged_lens) (option_map_or (λ s. s.now) l.sizes (own_sizes l.link)) l.number l.totals.items
