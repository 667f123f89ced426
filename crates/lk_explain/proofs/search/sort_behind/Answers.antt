use Rattle.std.proofs.Common.{rules, ◌≡◌, ◌-◌, ℕ, List, drop, length, take, sym, ◌∙◌, subst, arith}
use Rattle.std.specs.List.Sorted.{IsNonDecreasing}
use Rattle.std.proofs.lemmas.List.{length-drop, take_all}
use Rattle.std.proofs.lemmas.List.Sorted.{IsNonDecreasingBy-from_sort}
use Rattle.std.proofs.lemmas.Slice.{between-put_mid, overwrites}
use borrow.Rule.Slice.PartMut.{put_mid}
use Rattle.lk_explain.proofs.search.sort_behind.Goals as goal

pub returns-clause-rises : goal.returns-clause-rises
returns-clause-rises c =
    let a : ℕ = c.args.start in
    let xs : List ℕ = c.args.numbers.now in
    let part : List ℕ = c.sort_unstable.new.self in
    let whole : List ℕ = put_mid a (length xs - a) xs part in
    let size : length part ≡ length xs - a = search (rules, overwrites) in
    let long : length whole ≡ length xs = search (rules, overwrites) in
    let front : take (length xs - a) (drop a whole) ≡ part = between-put_mid a (length xs - a) xs part (length xs) c.requires size in
    let all : take (length xs - a) (drop a whole) ≡ drop a whole = take_all (length xs - a) (drop a whole) (omega (arith, length-drop a whole, long)) in
    let rises : IsNonDecreasing part = IsNonDecreasingBy-from_sort (λ (x : ℕ). x) part c.sort_unstable.ensures.sorted in
    subst IsNonDecreasing (sym front ∙ all) rises
