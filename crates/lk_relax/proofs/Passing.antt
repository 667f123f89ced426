-- A pass over what a stage looks at.
use Rattle.std.proofs.Common.{◌≡◌, ◌^◌, ◌≤◌, ℕ, List, Option, map, min, filter, sym, ap, subst, ◌∙◌}
use Rattle.std.specs.List.{slice_index}
use Rattle.lk_link.specs.declared.ids.FileId.{FileId}
use Rattle.lk_link.specs.declared.link.LinkInput.{LinkInput}
use Rattle.lk_live.specs.declared.live.Live.{Live}
use Rattle.lk_sizes.specs.OwnersRecord.{OwnersRecord}
use Rattle.lk_sizes.specs.Sizing.{AreFilled, with_sizes}
use Rattle.lk_relax.specs.declared.passes.InHand.{InHand}
use Rattle.lk_deltas.specs.LinkDeletions.{Deletions, sizes_after}
use Rattle.lk_relax.specs.PassWords.{IsFound, fall_between, near_ones}
use Rattle.lk_relax.specs.RelaxationWords.{IsStage, stage_in}
use Rattle.lk_relax.specs.Relaxed.{for_link}
use Rattle.lk_relax.specs.RelaxedLaws.{IsShrunk, SizesFallByPasses}
use Rattle.lk_relax.specs.Scan.{scanned}
use Rattle.lk_relax.specs.Stages.{Relaxing, Stage, fall_of, filling_after, is_near, link_of, shrink_pass, standing_at}
use Rattle.lk_relax.proofs.Falling.{falls_by_pass, near_are, sizes_fall}

abbrev pub Found : Type 0
Found = FileId × ℕ × List (ℕ × ℕ) × Option ℕ

-- what is found at a stage
pub stage_found : (link : LinkInput) (live : Live) (by : Relaxing) (hand : InHand) (is : IsStage (for_link link live by) hand) (found seen : List Found) → seen ≡ found
    → found ≡ map (scanned (standing_at (for_link link live by) (stage_in hand is))) hand.scan.items
    → IsFound link hand.deltas.items (standing_at (for_link link live by) (stage_in hand is)) hand.scan.items seen
stage_found link live by hand is found seen same are = record { whole = is.whole; can = is.shrunk.scan; once = is.once; found_is = same ∙ are }

-- what falls by a pass
pub stage_falls : (by : Relaxing) (a : Stage) (before after given old new : List ℕ) (deltas : Deletions) (fall : ℕ) → before ≡ given → given ≡ old → old ≡ sizes_after (link_of by).groups a.deletions
    → after ≡ new → new ≡ sizes_after (link_of by).groups deltas → deltas ≡ shrink_pass by a
    → min fall (2 ^ 64) ≡ min (fall_between (link_of by) before after) (2 ^ 64) → min fall (2 ^ 64) ≡ min (fall_of by a) (2 ^ 64)
stage_falls by a before after given old new deltas fall same was old_is seen new_is is told =
    told ∙ ap (λ (n : ℕ). min n (2 ^ 64)) (falls_by_pass by a before after (same ∙ was ∙ old_is) (seen ∙ new_is ∙ ap (sizes_after (link_of by).groups) is))

-- what is near behind it
pub stage_near : (by : Relaxing) (a : Stage) (near : List (FileId × ℕ)) (found seen : List Found) → seen ≡ found → found ≡ map (scanned (standing_at by a)) a.scan
    → near ≡ near_ones (fall_of by a) seen → near ≡ filter (is_near by a) a.scan
stage_near by a near found seen same are is =
    is ∙ ap (near_ones (fall_of by a)) (same ∙ are) ∙ near_are (standing_at by a) (fall_of by a) a.scan

-- what comes into the parts behind it
pub stage_filled : (by : Relaxing) (deltas new_deltas : Deletions) (owners : OwnersRecord) (seen new : List ℕ) → seen ≡ new → new ≡ sizes_after (link_of by).groups new_deltas
    → AreFilled (with_sizes (filling_after by deltas) seen) owners → AreFilled (filling_after by new_deltas) owners
stage_filled by deltas new_deltas owners seen new same is h = subst (λ (ns : List ℕ). AreFilled (with_sizes by.filling ns) owners) (same ∙ is) h

-- no section is greater behind it
pub stage_lesser : SizesFallByPasses → (by : Relaxing) (a : Stage) (seen new old : List ℕ) (deltas : Deletions) (k : ℕ) → IsShrunk by a → seen ≡ new → new ≡ sizes_after (link_of by).groups deltas → deltas ≡ shrink_pass by a
    → old ≡ sizes_after (link_of by).groups a.deletions → slice_index seen k ≤ slice_index old k
stage_lesser law by a seen new old deltas k shrunk same is behind old_is =
    let P : List ℕ → List ℕ → Type 0 = λ ms ns. slice_index ms k ≤ slice_index ns k in
    subst (λ (ms : List ℕ). P ms old) (sym (same ∙ is ∙ ap (sizes_after (link_of by).groups) behind))
    (subst (P (sizes_after (link_of by).groups (shrink_pass by a))) (sym old_is) (sizes_fall law by a k shrunk))
