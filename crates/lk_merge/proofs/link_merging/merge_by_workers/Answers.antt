use Rattle.std.proofs.Common.{◌≡◌, ℕ, List, ◌∷◌, [], ◌++◌, take, None, Err, sym, ap, ◌∙◌, subst}
use Rattle.std.proofs.lemmas.List.{take_all, take_more}
use Rattle.std.proofs.lemmas.Result.{err_from_is_err_and}
use Rattle.lk_merge.specs.declared.error.MergeError.{MergeError}
use Rattle.lk_merge.specs.Hash.{fnv64}
use Rattle.lk_merge.specs.LinkInputs.{AllMergeInputs, GivesAllMerged, first_refusal}
use Rattle.lk_merge.specs.Merging.{GivesMerged, merge_refusal}
use Rattle.lk_merge.specs.Pieces.{MergeInput}
use Rattle.lk_merge.proofs.Refusals.{refusal_next, refusal_end, gives_refusal}
use Rattle.lk_merge.proofs.link_merging.merge_by_workers.Goals as goal

pub returns-in_err-section : goal.returns-in_err-section
returns-in_err-section g c =
    let all : AllMergeInputs = record {
      outputs = c.outputs-outputs.result.now;
      limit = c.bucket_limit-limit.result;
      group = c.args.inputs.now.group;
    } in
    let k : ℕ = c.loop-number.number in
    let inputs : List MergeInput = c.index-outputs-number.result in
    let error : MergeError = c.in_err-section.field-0.0 in
    let given : GivesMerged fnv64 k all.limit inputs (Err error) = subst (λ s. GivesMerged fnv64 s all.limit inputs (Err error)) c.from_u32-output.ensures c.in_err-section.ensures in
    let same : all ≡ c.args.inputs.now
    = λ i. record { outputs = c.outputs-outputs.ensures.outputs i; limit = c.bucket_limit-limit.ensures.limit i; group = c.args.inputs.now.group } in
    let p = err_from_is_err_and c.from_residual-in_err-section.result c.from_residual-in_err-section.ensures.1 in
    rw (p.1, p.2) (subst (λ (a : AllMergeInputs). GivesAllMerged fnv64 a (Err error)) same
    (gives_refusal all k inputs error c.loop-number-test.true c.index-outputs-number.is given c.loop-number.invariant.1))

pub loop-number-preserved : goal.loop-number-preserved
loop-number-preserved g c =
    let outputs : List (List MergeInput) = c.outputs-outputs.result.now in
    let k : ℕ = c.loop-number.number in
    let inputs : List MergeInput = c.index-outputs-number.result in
    let limit : ℕ = c.bucket_limit-limit.result in
    let merged = c.in_ok-section.ensures in
    let none : merge_refusal fnv64 k limit inputs ≡ None = ap (λ s. merge_refusal fnv64 s limit inputs) (sym c.from_u32-output.ensures) ∙ merged.0 in (
      c.in_ok-push.ensures.items ∙ (λ i. c.loop-number.invariant.0 i ++ merged.1 i ∷ []) ∙ ap (λ (x : List MergeInput). take k outputs ++ x ∷ []) c.index-outputs-number.is
          ∙ sym (take_more outputs k inputs c.loop-number-test.true),
      refusal_next limit k outputs inputs c.loop-number-test.true c.index-outputs-number.is none ∙ c.loop-number.invariant.1,
    )

pub returns : goal.returns
returns g c =
    let outputs : List (List MergeInput) = c.outputs-outputs.result.now in
    let k : ℕ = c.loop-number.number in
    let all : outputs ≡ c.args.inputs.now.outputs = c.outputs-outputs.ensures.outputs in
    let none : first_refusal fnv64 c.bucket_limit-limit.result 0 outputs ≡ None = sym c.loop-number.invariant.1 ∙ refusal_end c.bucket_limit-limit.result k outputs c.loop-number-test.false in (
      (λ i. first_refusal fnv64 (sym c.bucket_limit-limit.ensures.limit i) 0 (sym all i)) ∙ none,
      c.from_vec.ensures ∙ c.loop-number.invariant.0 ∙ take_all k outputs c.loop-number-test.false ∙ all,
    )
