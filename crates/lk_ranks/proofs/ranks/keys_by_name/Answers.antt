use Rattle.std.proofs.Common.{◌≡◌, ℕ, ◌<◌, List, length, map, ap, ◌∙◌, subst, arith}
use Rattle.std.specs.List.{enumerate_from, slice_index}
use Rattle.std.proofs.lemmas.List.{length-map}
use Rattle.std.proofs.lemmas.Option.{slice_get-get_or}
use Rattle.std.proofs.lemmas.Result.{IfOk-weaker}
use Rattle.lk_link.specs.Walks.{input_of}
use Rattle.lk_ranks.specs.Ranks.{AreRanks, bytes_of, sort_key}
use Rattle.lk_ranks.proofs.NameNumbers.{number_within}
use Rattle.lk_ranks.proofs.ranks.keys_by_name.Goals as goal

pub keys_of-requires-clause-there : goal.keys_of-requires-clause-there
keys_of-requires-clause-there c k below =
    let names = c.in_ok-names.names.keys in
    let numbers : List ℕ = c.in_ok-names.numbers.items in
    let inside : k < length numbers = omega (arith, below, ap length c.as_slice-2.ensures.value) in
    let within = number_within (map bytes_of names) numbers (map input_of c.args.found.now) k (slice_index numbers k) c.in_ok-names.ensures.numbered (slice_get-get_or numbers k 0 inside) in
    let read : slice_index c.as_slice-2.result.now k ≡ slice_index numbers k = ap (λ (ns : List ℕ). slice_index ns k) c.as_slice-2.ensures.value in
    let count : length c.as_slice-3.result.now ≡ length names
    = ap length c.as_slice-3.ensures.value ∙ c.in_ok-ranks.ensures.count ∙ ap length c.as_slice.ensures.keys in
    omega (arith, within, read, count, length-map names bytes_of)

pub returns : goal.returns
returns c =
    let names = c.in_ok-names.names.keys in
    let numbers : List ℕ = c.in_ok-names.numbers.items in
    let ranks : List ℕ = c.in_ok-ranks.ranks.items in
    IfOk-weaker c.keys_of.result _ _ (λ keys told. record {
      names = map bytes_of names;
      numbers = numbers;
      ranks = ranks;
      numbered = c.in_ok-names.ensures.numbered;
      ranked = subst (λ ns. AreRanks (map bytes_of ns) ranks) c.as_slice.ensures.keys c.in_ok-ranks.ensures.ranks;
      keyed = told
          ∙ ap (λ (rs : List ℕ). map (sort_key rs) (enumerate_from 0 c.as_slice-2.result.now)) c.as_slice-3.ensures.value
          ∙ ap (λ (ns : List ℕ). map (sort_key ranks) (enumerate_from 0 ns)) c.as_slice-2.ensures.value;
    }) c.keys_of.ensures
