use Rattle.std.proofs.Common.{◌≡◌, ℕ, if◌then◌else◌, List, length, map, sum_by, sym, ap, ◌∙◌, arith}
use Rattle.std.specs.List.{count_by}
use Rattle.std.proofs.lemmas.List.Sums.{length-filter}
use Rattle.lk_link.specs.Inputs.{Input}
use Rattle.lk_link.specs.Walks.{input_of}
use Rattle.lk_live.specs.Reach.{live_inputs}
use Rattle.lk_live.specs.Slots.{is_singleton}
use Rattle.lk_reach.proofs.LiveWalk.{finish}
use Rattle.lk_reach.proofs.Numbered.{are_numbered}
use Rattle.lk_tables.specs.Singletons.{input_name_bytes}
use Rattle.lk_tables.proofs.SingletonLemmas.{no_singletons, singleton_names_few, singletons_few, sum_filtered}
use Rattle.lk_tables.proofs.singletons.singleton_sizes.Goals as goal

pub inputs-input-items-requires : goal.inputs-input-items-requires
inputs-input-items-requires c = are_numbered c.args.link.now c.requires

pub returns-then-not-is_partial-clause-count : goal.returns-then-not-is_partial-clause-count
returns-then-not-is_partial-clause-count c =
    sym (ap {B = ℕ} (λ (xs : List Input). length xs) (no_singletons c.args.link.now c.args.live.now (sym c.is_partial.ensures ∙ c.if-not-is_partial.true)))

pub returns-then-not-is_partial-clause-names : goal.returns-then-not-is_partial-clause-names
returns-then-not-is_partial-clause-names c =
    sym (ap {B = ℕ} (sum_by input_name_bytes) (no_singletons c.args.link.now c.args.live.now (sym c.is_partial.ensures ∙ c.if-not-is_partial.true)))

pub returns-clause-count : goal.returns-clause-count
returns-clause-count c =
    let link = c.args.link.now in
    let live = c.args.live.now in
    let one : Input → _ = λ x. is_singleton link x.section in
    let all : map input_of c.loop-input.yielded ≡ live_inputs link live
    = finish (live_inputs link live) c.into_iter-input-iterator.result c.loop-input.input-iterator c.next.new.self c.loop-input.yielded (cc) c.loop-input.yielded_by c.in-None.ensures.steps in
    omega (arith, c.loop-input.invariant.0, ap (count_by one) all, length-filter one (live_inputs link live), singletons_few link live c.requires)

pub returns-clause-few : goal.returns-clause-few
returns-clause-few c =
    let link = c.args.link.now in
    let live = c.args.live.now in
    let one : Input → _ = λ x. is_singleton link x.section in
    let all : map input_of c.loop-input.yielded ≡ live_inputs link live
    = finish (live_inputs link live) c.into_iter-input-iterator.result c.loop-input.input-iterator c.next.new.self c.loop-input.yielded (cc) c.loop-input.yielded_by c.in-None.ensures.steps in
    omega (arith, c.loop-input.invariant.0, ap (count_by one) all, length-filter one (live_inputs link live), singletons_few link live c.requires)

pub returns-clause-names : goal.returns-clause-names
returns-clause-names c =
    let link = c.args.link.now in
    let live = c.args.live.now in
    let one : Input → _ = λ x. is_singleton link x.section in
    let all : map input_of c.loop-input.yielded ≡ live_inputs link live
    = finish (live_inputs link live) c.into_iter-input-iterator.result c.loop-input.input-iterator c.next.new.self c.loop-input.yielded (cc) c.loop-input.yielded_by c.in-None.ensures.steps in
    omega (
      arith,
      c.loop-input.invariant.1,
      ap (sum_by (λ x. if one x then input_name_bytes x else 0)) all,
      sum_filtered one input_name_bytes (live_inputs link live),
      singleton_names_few link live c.requires,
    )
