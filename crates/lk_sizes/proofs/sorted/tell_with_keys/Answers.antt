use Rattle.std.proofs.Common.{◌≡◌, ℕ, ◌≤◌, ◌^◌, List, Some, length, map, ap, sym, ◌∙◌, arith}
use Rattle.std.specs.List.{slice_get}
use Rattle.std.proofs.lemmas.List.{length-map}
use Rattle.lk_link.specs.declared.link.LinkInput.{LinkInput}
use Rattle.lk_link.specs.declared.walks.InputRef.{InputRef}
use Rattle.lk_link.specs.Inputs.{Input}
use Rattle.lk_link.specs.Walks.{input_of}
use Rattle.lk_link.proofs.Elements.{filter_at}
use Rattle.lk_live.specs.declared.live.Live.{Live}
use Rattle.lk_live.specs.Reach.{live_inputs}
use Rattle.lk_sizes.specs.Sorted.{sorted_ones}
use Rattle.lk_sizes.proofs.LiveByFiles.{live_input}
use Rattle.lk_sizes.proofs.LiveOnes.{live_goes}
use Rattle.lk_sizes.proofs.SortedKeys.{sorted_few}
use Rattle.lk_sizes.proofs.SortedOnes.{IsSortedLive, sorted_in}
use Rattle.lk_sizes.proofs.sorted.tell_with_keys.Goals as goal

-- each that was found is live and sorted
found_live : (link : LinkInput) (live : Live) (lent found : List InputRef) (k : ℕ) (x : Input) → lent ≡ found → map input_of found ≡ sorted_ones link live
    → slice_get (map input_of lent) k ≡ Some x → IsSortedLive link live x
found_live link live lent found k x same is at =
    let one : slice_get (sorted_ones link live) k ≡ Some x
    = ap (λ (xs : List Input). slice_get xs k) (sym is) ∙ ap (λ (rs : List InputRef). slice_get (map input_of rs) k) (sym same) ∙ at in
    let from = filter_at (λ (y : Input). y.section.sorted) (live_inputs link live) k x one in
    record { place = from.0; there = from.1; sorted = from.2 }

pub tell_all-requires-clause-there : goal.tell_all-requires-clause-there
tell_all-requires-clause-there c k x at =
    let link = c.args.link.now in
    let live = c.args.live.now in
    let lives = found_live link live c.as_slice.result.now c.in_ok-found.found.items k x c.as_slice.ensures.value c.in_ok-found.ensures at in
    live_input link live lives.place x lives.there

pub tell_all-requires-clause-parts : goal.tell_all-requires-clause-parts
tell_all-requires-clause-parts c k x at =
    let link = c.args.link.now in
    let live = c.args.live.now in
    let lives = found_live link live c.as_slice.result.now c.in_ok-found.found.items k x c.as_slice.ensures.value c.in_ok-found.ensures at in
    live_goes link live lives.place x c.requires.good c.requires.live lives.there

pub tell_all-requires-clause-fit : goal.tell_all-requires-clause-fit
tell_all-requires-clause-fit c k x at =
    let link = c.args.link.now in
    let live = c.args.live.now in
    let lives = found_live link live c.as_slice.result.now c.in_ok-found.found.items k x c.as_slice.ensures.value c.in_ok-found.ensures at in
    let told = sorted_in link live lives.place x lives.there lives.sorted in
    c.requires.fit told.0 x told.1

pub sorted_keys-requires : goal.sorted_keys-requires
sorted_keys-requires c =
    let link = c.args.link.now in
    let live = c.args.live.now in
    let found : List InputRef = c.in_ok-found.found.items in
    let few : length found ≤ 2 ^ 24 = omega (arith, sym (length-map found input_of), ap length c.in_ok-found.ensures, sorted_few link live c.requires.good) in
    record { few = omega (arith, few, ap length c.as_slice-2.ensures.value) }
