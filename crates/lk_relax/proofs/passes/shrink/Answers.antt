use Rattle.std.proofs.Common.{◌≡◌, ℕ, List, map, refl, ap, ◌∙◌}
use Rattle.std.specs.Option.{option_map_or}
use Rattle.std.specs.Prelude.{unwrap_or}
use Rattle.lk_sizes.specs.Owners.{own_sizes}
use Rattle.lk_sizes.proofs.FilledOwners.{handed}
use Rattle.lk_deltas.specs.LinkDeletions.{sizes_after}
use Rattle.lk_relax.specs.RelaxationWords.{stage_in}
use Rattle.lk_relax.specs.Relaxed.{for_link}
use Rattle.lk_relax.specs.Scan.{scanned}
use Rattle.lk_relax.specs.Stages.{Relaxing, Stage, fall_of, shrink_pass, standing_at}
use Rattle.lk_relax.proofs.Passing.{Found, stage_falls, stage_found, stage_near}
use Rattle.lk_relax.proofs.passes.shrink.Goals as goal

pub delete_found-requires-clause-found : goal.delete_found-requires-clause-found
delete_found-requires-clause-found c =
    let link = c.args.link.now in
    let live = c.args.live.now in
    let by = c.requires.stage.0 in
    let is = c.requires.stage.1 in
    let found : List Found = c.in_ok-found.found.items in
    (standing_at (for_link link live by) (stage_in c.args.hand.now is), c.args.hand.now.scan.items, stage_found link live by c.args.hand.now is found c.deref.result.now c.deref.ensures.value (c.in_ok-found.ensures by is))

pub returns : goal.returns
returns c = λ by is.
    let link = c.args.link.now in
    let live = c.args.live.now in
    let hand = c.args.hand.now in
    let by_link : Relaxing = for_link link live by in
    let a : Stage = stage_in hand is in
    let found : List Found = c.in_ok-found.found.items in
    let are : found ≡ map (scanned (standing_at by_link a)) a.scan = c.in_ok-found.ensures by is in
    let deleted : c.delete_found.new.deltas.items ≡ shrink_pass by_link a
    = c.in_ok-delete_found.ensures (standing_at by_link a) hand.scan.items (stage_found link live by hand is found c.deref.result.now c.deref.ensures.value are) in
    let sizes : c.in_ok-sizes.sizes.items ≡ sizes_after link.groups c.delete_found.new.deltas.items = c.in_ok-sizes.ensures ∙ ap (sizes_after link.groups) c.deref-2.ensures.value in
    let before : List ℕ = option_map_or (λ s. s.now) c.sizes.result (own_sizes link) in
    let given : List ℕ = unwrap_or hand.owners.sizes (own_sizes link) in
    let fall = stage_falls by_link a before c.deref-3.result.now given given c.in_ok-sizes.sizes.items c.delete_found.new.deltas.items c.fall_between-fall.result
    (handed c.sizes.result hand.owners.sizes (own_sizes link) c.sizes.ensures) refl is.filled.sizes c.deref-3.ensures.value sizes deleted c.fall_between-fall.ensures in
    record {
      deleted = deleted;
      sizes = sizes ∙ ap (sizes_after link.groups) deleted;
      scan = stage_near by_link a c.in_ok-scan.scan.items found c.deref-4.result.now c.deref-4.ensures.value are (c.in_ok-scan.ensures (fall_of by_link a) fall);
      fall = fall;
      owners = refl;
      placed = refl;
    }
