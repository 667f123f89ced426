use Rattle.std.proofs.Common.{◌≡◌, List, [], ◌∷◌, ◌++◌, map, None, refl, sym, ap, ◌∙◌, subst, rules, map-id}
use Rattle.std.specs.List.{All}
use Rattle.std.proofs.lemmas.Iterator.Adapters.{YieldsList-from_vec}
use Rattle.std.proofs.lemmas.Iterator.Consumers.{YieldsList-end, YieldsList-turn, YieldsList-so_far}
use Rattle.std.proofs.lemmas.List.{map-append}
use Rattle.std.proofs.lemmas.List.Elements.{All-push}
use Rattle.lk_merge.specs.declared.merging.BucketState.{BucketState}
use Rattle.lk_merge.specs.Buckets.{Bucket}
use Rattle.lk_merge.specs.Hash.{fnv64}
use Rattle.lk_merge.specs.Image.{all_pieces}
use Rattle.lk_merge.specs.Inputs.{located}
use Rattle.lk_merge.specs.Merging.{long_refusal}
use Rattle.lk_merge.specs.MergingTables.{AllFit, pieces_in}
use Rattle.lk_merge.proofs.InputLemmas.{pieces_located_from}
use Rattle.lk_merge.proofs.MergedLemmas.{is_merged, all_fit, no_long, found_long, gives_long}
use Rattle.lk_merge.proofs.merging.Merging.finish.Goals as goal

pub loop-state-preserved : goal.loop-state-preserved
loop-state-preserved c =
    let state : BucketState = c.in-Some.state in
    let bucket_of : BucketState → Bucket = λ s. s.bucket in (
      c.in_ok-push.ensures.items ∙ ap (λ l. l ++ state.bucket ∷ []) c.loop-state.invariant.0 ∙ sym (map-append bucket_of c.loop-state.yielded (state ∷ [])),
      All-push (λ (s : BucketState). s.refusal ≡ None) c.loop-state.yielded state c.loop-state.invariant.1 c.in_default.is,
    )

pub from_parts-requires : goal.from_parts-requires
from_parts-requires c =
    let end = YieldsList-end (YieldsList-from_vec {s = c.into_iter-state-iterator.result} c.args.self.buckets.items (search rules) (search rules))
    c.loop-state.yielded c.loop-state.state-iterator c.loop-state.yielded_by c.next.result c.next.new.self c.in-None.is c.next.ensures.steps in
    let all : c.loop-state.yielded ≡ c.args.self.buckets.items = sym (map-id c.loop-state.yielded) ∙ end.0 in
    let none = subst (All (λ (s : BucketState). s.refusal ≡ None)) all c.loop-state.invariant.1 in
    let m = c.requires.merged in
    is_merged m.section m.limit c.args.inputs c.args.self c.loop-state.buckets.items c.args.self.entries m.small m.merged c.requires.terminated
    c.requires.some none (c.loop-state.invariant.0 ∙ ap (λ (l : List BucketState). map (λ s. s.bucket) l) all) refl

pub returns-in-Some-refusal : goal.returns-in-Some-refusal
returns-in-Some-refusal c = λ section limit small merged.
    let states : List BucketState = c.args.self.buckets.items in
    let turn = YieldsList-turn (YieldsList-from_vec {s = c.into_iter-state-iterator.result} states (search rules) (search rules))
    c.loop-state.yielded c.loop-state.state-iterator c.loop-state.yielded_by c.next.result c.next.new.self c.in-Some.state c.in-Some.is c.next.ensures.steps in
    let so_far = YieldsList-so_far (YieldsList-from_vec {s = c.into_iter-state-iterator.result} states (search rules) (search rules))
    c.loop-state.yielded c.loop-state.state-iterator c.loop-state.yielded_by in
    let all : pieces_in (located c.args.inputs) ≡ all_pieces c.args.inputs = pieces_located_from 0 0 c.args.inputs in
    gives_long section limit (all_pieces c.args.inputs) c.args.inputs c.in-Some-refusal.refusal
    (ap (long_refusal fnv64 section limit) (sym all)
    ∙ found_long section limit (located c.args.inputs) c.args.self c.loop-state.yielded c.in-Some.state c.in-Some-refusal.refusal merged c.loop-state.invariant.1
    (sym (map-id c.loop-state.yielded) ∙ so_far) turn.0 turn.1 c.in-Some-refusal.is)

pub returns : goal.returns
returns c = λ section limit small merged.
    let end = YieldsList-end (YieldsList-from_vec {s = c.into_iter-state-iterator.result} c.args.self.buckets.items (search rules) (search rules))
    c.loop-state.yielded c.loop-state.state-iterator c.loop-state.yielded_by c.next.result c.next.new.self c.in-None.is c.next.ensures.steps in
    let all : c.loop-state.yielded ≡ c.args.self.buckets.items = sym (map-id c.loop-state.yielded) ∙ end.0 in
    let none = subst (All (λ (s : BucketState). s.refusal ≡ None)) all c.loop-state.invariant.1 in (
      no_long section limit (all_pieces c.args.inputs)
          (subst (AllFit section limit) (pieces_located_from 0 0 c.args.inputs) (all_fit section limit (located c.args.inputs) c.args.self merged none)),
      c.from_parts.ensures,
    )
