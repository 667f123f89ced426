-- The first output section that is refused.
use Rattle.std.proofs.Common.{◌≡◌, ℕ, ◌+◌, ◌<◌, ◌≤◌, List, [], ◌∷◌, length, drop, get_or, None, Some, Err, refl, sym, ap, ◌∙◌}
use Rattle.std.proofs.lemmas.List.{drop_more, drop_all}
use Rattle.lk_link.specs.Files.{first_some}
use Rattle.lk_merge.specs.declared.error.MergeError.{MergeError}
use Rattle.lk_merge.specs.declared.error.MergeError.TheVariants.{NotTerminated, TooLarge, NoMemory}
use Rattle.lk_merge.specs.Hash.{fnv64}
use Rattle.lk_merge.specs.LinkInputs.{AllMergeInputs, GivesAllMerged, first_refusal}
use Rattle.lk_merge.specs.Merging.{first_of, GivesMerged, merge_refusal}
use Rattle.lk_merge.specs.Pieces.{MergeInput}
use Rattle.lk_merge.proofs.TooLong.{none_first, some_first}

refusal_none : (limit section : ℕ) → first_refusal fnv64 limit section [] ≡ None
unfolding first_of
refusal_none limit section = refl

refusal_step : (limit section : ℕ) (inputs : List MergeInput) (rest : List (List MergeInput))
    → first_refusal fnv64 limit section (inputs ∷ rest) ≡ first_some (merge_refusal fnv64 section limit inputs) (first_refusal fnv64 limit (section + 1) rest)
unfolding first_of
refusal_step limit section inputs rest = refl

-- the refusal from a section on is its own, or that behind it
refusal_from : (limit k : ℕ) (outputs : List (List MergeInput)) (inputs : List MergeInput) → k < length outputs → inputs ≡ get_or outputs k inputs
    → first_refusal fnv64 limit k (drop k outputs) ≡ first_some (merge_refusal fnv64 k limit inputs) (first_refusal fnv64 limit (k + 1) (drop (k + 1) outputs))
refusal_from limit k outputs inputs within is =
    ap (first_refusal fnv64 limit k) (drop_more outputs k inputs within ∙ ap (λ (x : List MergeInput). x ∷ drop (k + 1) outputs) (sym is))
    ∙ refusal_step limit k inputs (drop (k + 1) outputs)

pub refusal_next : (limit k : ℕ) (outputs : List (List MergeInput)) (inputs : List MergeInput) → k < length outputs → inputs ≡ get_or outputs k inputs
    → merge_refusal fnv64 k limit inputs ≡ None → first_refusal fnv64 limit (k + 1) (drop (k + 1) outputs) ≡ first_refusal fnv64 limit k (drop k outputs)
refusal_next limit k outputs inputs within is none =
    sym (refusal_from limit k outputs inputs within is ∙ ap (λ o. first_some o (first_refusal fnv64 limit (k + 1) (drop (k + 1) outputs))) none ∙ none_first _)

pub refusal_here : (limit k : ℕ) (outputs : List (List MergeInput)) (inputs : List MergeInput) (e : MergeError) → k < length outputs → inputs ≡ get_or outputs k inputs
    → merge_refusal fnv64 k limit inputs ≡ Some e → first_refusal fnv64 limit k (drop k outputs) ≡ Some e
refusal_here limit k outputs inputs e within is some =
    refusal_from limit k outputs inputs within is ∙ ap (λ o. first_some o (first_refusal fnv64 limit (k + 1) (drop (k + 1) outputs))) some ∙ some_first e _

pub refusal_end : (limit k : ℕ) (outputs : List (List MergeInput)) → length outputs ≤ k → first_refusal fnv64 limit k (drop k outputs) ≡ None
refusal_end limit k outputs past = ap (first_refusal fnv64 limit k) (drop_all k outputs past) ∙ refusal_none limit k

-- the first refusal is what all answer
pub gives_refusal : (all : AllMergeInputs) (k : ℕ) (inputs : List MergeInput) (e : MergeError) → k < length all.outputs → inputs ≡ get_or all.outputs k inputs
    → GivesMerged fnv64 k all.limit inputs (Err e) → first_refusal fnv64 all.limit k (drop k all.outputs) ≡ first_refusal fnv64 all.limit 0 all.outputs
    → GivesAllMerged fnv64 all (Err e)
gives_refusal all k inputs (NotTerminated s i) within is h same = sym same ∙ refusal_here all.limit k all.outputs inputs (NotTerminated s i) within is h
gives_refusal all k inputs (TooLarge s b o n) within is h same = sym same ∙ refusal_here all.limit k all.outputs inputs (TooLarge s b o n) within is h
gives_refusal all k inputs NoMemory within is h same = tt
