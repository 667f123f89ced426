use Rattle.std.proofs.Common.{rules, ◌≡◌, ◌<◌, ◌||◌, Bool, List, false, length, map, replicate, sym, ap, ◌∙◌, arith}
use Rattle.std.proofs.lemmas.List.{length-replicate}
use Rattle.lk_link.specs.Marks.{is_marked}
use Rattle.lk_link.specs.Walks.{input_of}
use Rattle.lk_live.specs.PrimaryMarks.{names_primary, primary_symbols}
use Rattle.lk_live.specs.Reach.{live_inputs}
use Rattle.std.specs.List.{list_any}
use Rattle.lk_reach.proofs.LiveWalk.{finish}
use Rattle.lk_reach.proofs.Numbered.{are_numbered}
use Rattle.lk_live.proofs.PrimaryReach.{is_named, named_is}
use Rattle.lk_live.proofs.PrimaryLemmas.{input_turn, named_next, none_named, primary_count}
use Rattle.lk_live.proofs.primary.primary_references.Goals as goal

pub inputs-input-items-requires : goal.inputs-input-items-requires
inputs-input-items-requires c = are_numbered c.args.link.now c.requires

pub loop-input-init : goal.loop-input-init
loop-input-init c =
    let link = c.args.link.now in
    let marks : List Bool = c.in_ok-marks.marks.items in
    let primary : List Bool = c.in_ok-primary.primary.items in
    let many : length primary ≡ c.len.result = search rules in
    let none : marks ≡ replicate c.len.result false = c.in_ok-marks.ensures in (
      omega (arith, ap length none, length-replicate c.len.result false, many, ap length c.in_ok-primary.ensures, primary_count link),
      λ s lt. ap (λ (ms : List Bool). is_marked ms s) none ∙ none_named c.len.result s,
    )

pub mark_named-requires-clause-there : goal.mark_named-requires-clause-there
mark_named-requires-clause-there c =
    input_turn c.args.link.now c.args.live.now c.into_iter-input-iterator.result c.loop-input.input-iterator c.next.new.self c.loop-input.yielded c.in-Some.input (cc) c.loop-input.yielded_by
    c.in-Some.ensures.steps

pub loop-input-preserved : goal.loop-input-preserved
loop-input-preserved c =
    let link = c.args.link.now in
    let x = input_of c.in-Some.input in
    let old : List Bool = c.loop-input.marks.items in
    let new : List Bool = c.mark_named.new.marks.items in
    let primary : c.as_slice.result.now ≡ primary_symbols link = c.as_slice.ensures.value ∙ c.in_ok-primary.ensures in (
      c.mark_named.ensures.count ∙ c.loop-input.invariant.0,
      λ s lt.
          let before : s < length old = omega (arith, c.mark_named.ensures.count, lt) in
          named_next (names_primary link (primary_symbols link) s) c.loop-input.yielded c.in-Some.input (is_marked old s) (is_marked new s) (c.loop-input.invariant.1 s before)
          (c.mark_named.ensures.marks s before ∙ ap (λ (p : List Bool). is_marked old s || names_primary link p s x) primary),
    )

pub returns : goal.returns
returns c =
    let link = c.args.link.now in
    let live = c.args.live.now in
    let all : map input_of c.loop-input.yielded ≡ live_inputs link live
    = finish (live_inputs link live) c.into_iter-input-iterator.result c.loop-input.input-iterator c.next.new.self c.loop-input.yielded (cc) c.loop-input.yielded_by c.in-None.ensures.steps in
    let marks : List Bool = c.loop-input.marks.items in
    record {
      count = c.loop-input.invariant.0;
      each = λ s lt.
          let told : is_marked marks s ≡ list_any (names_primary link (primary_symbols link) s) (live_inputs link live)
          = c.loop-input.invariant.1 s lt ∙ ap (list_any (names_primary link (primary_symbols link) s)) all in
          (λ marked. named_is link live s (sym told ∙ marked), λ named. told ∙ is_named link live s named.0 named.1);
    }
