use Rattle.std.proofs.Common.{◌≡◌, ℕ, ◌<◌, ◌+◌, ◌++◌, ◌∷◌, [], List, Some, get_or, length, map, take, ap, sym, ◌∙◌, arith}
use Rattle.std.specs.List.{slice_get}
use Rattle.std.specs.Option.{option_map_or}
use Rattle.std.proofs.lemmas.List.{map-append}
use Rattle.lk_link.specs.declared.walks.InputRef.{InputRef}
use Rattle.lk_link.specs.Inputs.{Input}
use Rattle.lk_link.specs.Walks.{input_of}
use Rattle.lk_link.proofs.Elements.{map_in}
use Rattle.lk_sizes.specs.declared.sorted.InputSortedSection.{InputSortedSection}
use Rattle.lk_sizes.specs.Harvest.{sorted_section}
use Rattle.lk_sizes.specs.Owners.{own_sizes}
use Rattle.lk_ranks.proofs.Turns.{all_so_far, so_far, there}
use Rattle.lk_sizes.proofs.sorted.tell_all.Goals as goal

-- the one that comes next is the next section
item_at : (found : List InputRef) (i : ℕ) (r : InputRef) → i < length found → r ≡ get_or found i r → slice_get (map input_of found) i ≡ Some (input_of r)
item_at found i r below read = map_in input_of found i r (there found i r below read)

pub tell-requires-clause-there : goal.tell-requires-clause-there
tell-requires-clause-there c =
    c.requires.there c.loop-input.input-index (input_of c.input-item.result) (item_at c.args.found.now c.loop-input.input-index c.input-item.result c.loop-input-test.true c.input-item.is)

pub tell-requires-clause-part : goal.tell-requires-clause-part
tell-requires-clause-part c =
    c.requires.parts c.loop-input.input-index (input_of c.input-item.result) (item_at c.args.found.now c.loop-input.input-index c.input-item.result c.loop-input-test.true c.input-item.is)

pub tell-requires-clause-fits : goal.tell-requires-clause-fits
tell-requires-clause-fits c =
    c.requires.fit c.loop-input.input-index (input_of c.input-item.result) (item_at c.args.found.now c.loop-input.input-index c.input-item.result c.loop-input-test.true c.input-item.is)

pub loop-input-preserved : goal.loop-input-preserved
loop-input-preserved c =
    let link = c.args.link.now in
    let i : ℕ = c.loop-input.input-index in
    let found : List InputRef = c.args.found.now in
    let r : InputRef = c.input-item.result in
    let sizes : List ℕ = option_map_or (λ s. s.now) c.args.sizes (own_sizes link) in
    let tell : Input → InputSortedSection = sorted_section link sizes in
    let more : take (i + 1) found ≡ take i found ++ r ∷ [] = so_far found i r (there found i r c.loop-input-test.true c.input-item.is) in
    c.in_ok-push.ensures.items
    ∙ ap (λ (ss : List InputSortedSection). ss ++ c.tell.result ∷ []) c.loop-input.invariant
    ∙ ap (λ (s : InputSortedSection). map tell (map input_of (take i found)) ++ s ∷ []) c.tell.ensures
    ∙ sym (map-append tell (map input_of (take i found)) (input_of r ∷ []))
    ∙ ap (map tell) (sym (map-append input_of (take i found) (r ∷ [])))
    ∙ ap (λ (rs : List InputRef). map tell (map input_of rs)) (sym more)

pub returns : goal.returns
returns c =
    let link = c.args.link.now in
    let i : ℕ = c.loop-input.input-index in
    let found : List InputRef = c.args.found.now in
    let sizes : List ℕ = option_map_or (λ s. s.now) c.args.sizes (own_sizes link) in
    let end : i ≡ length found = omega (arith, c.loop-input-test.false, c.loop-input.auto.input-index-end) in
    c.loop-input.invariant ∙ ap (λ (rs : List InputRef). map (sorted_section link sizes) (map input_of rs)) (all_so_far found i end)
