use Rattle.std.proofs.Common.{Bor, List, Option, ℕ, sym, subst}
use Rattle.std.specs.Option.{option_map_or}
use Rattle.lk_sizes.specs.Contents.{AreContentTotals}
use Rattle.lk_sizes.specs.Owners.{content_of, own_sizes, sized_filling}
use Rattle.lk_sizes.proofs.part_owners.resized.Goals as goal

pub returns-in-None : goal.returns-in-None
returns-in-None c = λ tables.
    let link = c.args.link.now in
    subst (λ (o : Option (Bor (List ℕ))). AreContentTotals (sized_filling (content_of link tables c.args.live.now c.args.merged_lens.now) (option_map_or (λ s. s.now) o (own_sizes link))) c.args.own.items)
    (sym c.in-None.is) (c.requires.own tables)
