use Rattle.std.proofs.Common.{◌≡◌, ◌++◌, ◌∷◌, [], ◌<◌, ◌+◌, ℕ, List, length, set, take, ap, sym, ◌∙◌, subst, refl, arith}
use Rattle.std.specs.List.{slice_index}
use Rattle.std.proofs.lemmas.Grind.{get_or_default_zero}
use Rattle.std.proofs.lemmas.List.{length-set}
use Rattle.lk_sizes.specs.declared.sorted.InputSortedSection.{InputSortedSection}
use Rattle.lk_sizes.specs.Tables.{AreBehind, AreWritten, HaveSortedSpace, sorted_bytes}
use Rattle.lk_sizes.proofs.SortedPlaces.{none_behind, none_written, one_behind, one_written, room_behind}
use Rattle.lk_reach.proofs.LiveWalk.{split_at}
use Rattle.lk_ranks.proofs.Turns.{all_so_far, so_far, there}
use Rattle.lk_sizes.proofs.addresses.with_sorted.Goals as goal

pub loop-section-init : goal.loop-section-init
loop-section-init c = record { behind = none_behind c.args.next.items; written = λ table each. none_written c.args.link.now table c.args.addresses.items; long = refl }

pub index-address-requires : goal.index-address-requires
index-address-requires c =
    let at = there c.args.sorted.now c.loop-section.section-index c.section-item.result c.loop-section-test.true c.section-item.is in
    omega (arith, (c.requires.there c.loop-section.section-index c.section-item.result at).part, c.as_usize-part.ensures, c.loop-section.invariant.behind.count)

pub overflow_add-address : goal.overflow_add-address
overflow_add-address c =
    let i : ℕ = c.loop-section.section-index in
    let all : List InputSortedSection = c.args.sorted.now in
    let s : InputSortedSection = c.section-item.result in
    let p : ℕ = c.as_usize-part.result in
    let next : List ℕ = c.loop-section.next.items in
    let at = there all i s c.loop-section-test.true c.section-item.is in
    let rest = split_at all i s at in
    let within : p < length c.args.next.items = omega (arith, (c.requires.there i s at).part, c.as_usize-part.ensures) in
    let inside : p < length next = omega (arith, within, c.loop-section.invariant.behind.count) in
    let read : slice_index next p ≡ c.index-address.result.now = sym (c.index-address.ensures ∙ get_or_default_zero next p c.index-address.result.now inside) in
    let fits = room_behind c.args.next.items (take i all) s rest.0 next p (subst (HaveSortedSpace c.args.next.items) rest.1 c.requires.space) c.loop-section.invariant.behind c.as_usize-part.ensures within in
    omega (arith, fits, read)

pub index_mut-requires : goal.index_mut-requires
index_mut-requires c =
    let at = there c.args.sorted.now c.loop-section.section-index c.section-item.result c.loop-section-test.true c.section-item.is in
    omega (arith, (c.requires.there c.loop-section.section-index c.section-item.result at).part, c.as_usize-part.ensures, c.loop-section.invariant.behind.count)

pub number_of-number-requires-clause-file : goal.number_of-number-requires-clause-file
number_of-number-requires-clause-file c =
    let at = there c.args.sorted.now c.loop-section.section-index c.section-item.result c.loop-section-test.true c.section-item.is in
    (c.requires.there c.loop-section.section-index c.section-item.result at).file

pub number_of-number-requires-clause-there : goal.number_of-number-requires-clause-there
number_of-number-requires-clause-there c =
    let at = there c.args.sorted.now c.loop-section.section-index c.section-item.result c.loop-section-test.true c.section-item.is in
    (c.requires.there c.loop-section.section-index c.section-item.result at).number

pub index_mut-requires-in-loop-section : goal.index_mut-requires-in-loop-section
index_mut-requires-in-loop-section c =
    let at = there c.args.sorted.now c.loop-section.section-index c.section-item.result c.loop-section-test.true c.section-item.is in
    omega (arith, (c.requires.there c.loop-section.section-index c.section-item.result at).number, c.number_of-number.ensures, c.loop-section.invariant.long, c.requires.count)

pub loop-section-preserved : goal.loop-section-preserved
loop-section-preserved c =
    let link = c.args.link.now in
    let i : ℕ = c.loop-section.section-index in
    let all : List InputSortedSection = c.args.sorted.now in
    let s : InputSortedSection = c.section-item.result in
    let p : ℕ = c.as_usize-part.result in
    let next : List ℕ = c.loop-section.next.items in
    let old : List ℕ = c.args.next.items in
    let at = there all i s c.loop-section-test.true c.section-item.is in
    let more : take (i + 1) all ≡ take i all ++ s ∷ [] = so_far all i s at in
    let within : p < length old = omega (arith, (c.requires.there i s at).part, c.as_usize-part.ensures) in
    let inside : p < length next = omega (arith, within, c.loop-section.invariant.behind.count) in
    let address : ℕ = c.index-address.result.now in
    let read : address ≡ slice_index next p = c.index-address.ensures ∙ get_or_default_zero next p address inside in
    let moved : address + s.size ≡ slice_index next p + s.size = ap (λ (n : ℕ). n + s.size) read in
    let behind = one_behind old (take i all) s next p (address + s.size) c.loop-section.invariant.behind c.as_usize-part.ensures within moved in
    let number : ℕ = c.number_of-number.result in
    let place : number < length c.args.addresses.items = omega (arith, (c.requires.there i s at).number, c.number_of-number.ensures, c.requires.count) in
    record {
      behind = subst (λ (ss : List InputSortedSection). AreBehind old ss (set next p (address + s.size))) (sym more) behind;
      written = λ table each.
          let target : address ≡ table number
          = read
          ∙ c.loop-section.invariant.behind.moved p within
          ∙ ap (λ (q : ℕ). slice_index old q + sorted_bytes q (take i all)) c.as_usize-part.ensures
          ∙ sym (each i s at)
          ∙ ap table (sym c.number_of-number.ensures) in
          subst (λ (ss : List InputSortedSection). AreWritten link table ss c.args.addresses.items (set c.loop-section.addresses.items number address)) (sym more)
          (one_written link table (take i all) s c.args.addresses.items c.loop-section.addresses.items number address (c.loop-section.invariant.written table each) c.number_of-number.ensures place target);
      long = length-set c.loop-section.addresses.items number address ∙ c.loop-section.invariant.long;
    }

pub returns : goal.returns
returns c = λ table each.
    let i : ℕ = c.loop-section.section-index in
    let all : List InputSortedSection = c.args.sorted.now in
    let end : i ≡ length all = omega (arith, c.loop-section-test.false, c.loop-section.auto.section-index-end) in
    subst (λ (ss : List InputSortedSection). AreWritten c.args.link.now table ss c.args.addresses.items c.loop-section.addresses.items) (all_so_far all i end)
    (c.loop-section.invariant.written table each)
