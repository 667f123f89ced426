use Rattle.std.proofs.Common.{◌≡◌, ℕ, ◌+◌, ◌≤◌, ◌∷◌, [], ◌++◌, List, length, map, take, ap, sym, ◌∙◌, subst, Bor}
use Rattle.std.proofs.lemmas.List.{map-append}
use Rattle.lk_link.specs.declared.walks.InputRef.{InputRef}
use Rattle.lk_link.specs.Inputs.{Input}
use Rattle.lk_link.specs.Walks.{input_of}
use Rattle.lk_ranks.specs.Ranks.{AreDistinct, AreNumbered, bytes_of}
use Rattle.lk_ranks.proofs.NameNumbers.{one_more, one_numbered, still_distinct}
use Rattle.lk_ranks.proofs.Turns.{so_far, there}
use Rattle.lk_ranks.proofs.ranks.number_names.Goals as goal

pub loop-input-preserved : goal.loop-input-preserved
loop-input-preserved c =
    let found : List InputRef = c.args.found.now in
    let i : ℕ = c.loop-input.input-index in
    let r : InputRef = c.input-item.result in
    let k : Bor (List ℕ) = c.as_str.result in
    let names : List (Bor (List ℕ)) = c.loop-input.names.keys in
    let new : List (Bor (List ℕ)) = c.insert_full.new.self.keys in
    let numbers : List ℕ = c.loop-input.numbers.items in
    let n : ℕ = c.in_ok-number.number in
    let stored = c.in_ok-number.ensures.stored in
    let grown = c.in_ok-number.ensures.keys in
    let xs : List Input = map input_of (take i found) in
    let more : map input_of (take (i + 1) found) ≡ xs ++ input_of r ∷ []
    = ap (map input_of) (so_far found i r (there found i r c.loop-input-test.true c.input-item.is)) ∙ map-append input_of (take i found) (r ∷ []) in
    let one : AreNumbered (map bytes_of new) (numbers ++ n ∷ []) (xs ++ input_of r ∷ [])
    = one_numbered names new k numbers xs n (input_of r) stored.0 c.loop-input.invariant.numbered grown stored.1 stored.2 c.as_str.ensures in
    record {
      few = subst (λ ks. length ks ≤ i + 1) (sym grown) (one_more names k i c.loop-input.invariant.few);
      distinct = subst (λ ks. AreDistinct (map bytes_of ks)) (sym grown) (still_distinct names k c.loop-input.invariant.distinct);
      numbered = subst (λ (ns : List ℕ). AreNumbered (map bytes_of new) ns (map input_of (take (i + 1) found))) (sym c.in_ok-push.ensures.items)
          (subst (AreNumbered (map bytes_of new) (numbers ++ n ∷ [])) (sym more) one);
    }
