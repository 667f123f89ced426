use Rattle.std.proofs.Common.{◌≡◌, Result, Ok, Err, sym, subst}
use Rattle.std.specs.Prelude.{IfOk}
use Rattle.lk_map.specs.Checking.{first_outside}
use Rattle.lk_map.specs.Sweep.{IsLeast, NeedsRise, OffersRise}
use Rattle.lk_map.proofs.Least.{least_told, offers_in_order, sorted_needs_rise}
use Rattle.lk_map.proofs.sweep.unheld_line.Goals as goal

if_ok_then : {T E : Type 0} (P Q : T → Type 0) (r : Result T E) → ((x : T) → P x → Q x) → IfOk r P → IfOk r Q
if_ok_then P Q (Ok x) h p = h x p
if_ok_then P Q (Err e) h p = p

pub least_unheld-requires : goal.least_unheld-requires
least_unheld-requires c = record {
  needs = subst NeedsRise (sym c.as_slice.ensures.value)
      (sorted_needs_rise c.args.sections.now c.args.segments.now c.requires.ends c.sort_unstable.new.self.items c.requires.apart
      (rw (c.in_ok-needs.ensures {u = tt}) at c.sort_unstable.ensures.permutation) c.sort_unstable.ensures.sorted);
  offers = subst OffersRise (sym c.as_slice-2.ensures.value) (offers_in_order c.sort_unstable-2.new.self.items c.sort_unstable-2.ensures.sorted);
}

pub returns : goal.returns
returns c =
    if_ok_then (IsLeast c.as_slice-2.result.now c.as_slice.result.now) (λ line. line ≡ first_outside c.args.sections.now c.args.segments.now) c.least_unheld.result
    (λ least so. least_told c.args.sections.now c.args.segments.now c.requires.ends c.sort_unstable.new.self.items c.sort_unstable-2.new.self.items least c.requires.rises
    (rw (c.in_ok-needs.ensures {u = tt}) at c.sort_unstable.ensures.permutation)
    (rw (c.in_ok-offers.ensures {u = tt}) at c.sort_unstable-2.ensures.permutation)
    (subst (λ ns. IsLeast c.sort_unstable-2.new.self.items ns least) c.as_slice.ensures.value (subst (λ os. IsLeast os c.as_slice.result.now least) c.as_slice-2.ensures.value so)))
    c.least_unheld.ensures
