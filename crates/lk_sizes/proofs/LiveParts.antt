-- The parts that live sections go to.
use Rattle.std.proofs.Common.{◌≡◌, ℕ, ◌<◌, true, false, List, length, Some, subst, sym, ap, ◌∙◌, arith}
use Rattle.std.specs.Iterator.{Yields, YieldsFirstBy}
use Rattle.std.specs.List.{slice_index_or}
use Rattle.std.proofs.lemmas.List.{get_or_default}
use Rattle.lk_link.specs.declared.link.LinkInput.{LinkInput}
use Rattle.lk_link.specs.declared.plan.PlanPart.{PlanPart}
use Rattle.lk_link.specs.declared.walks.InputRef.{InputRef}
use Rattle.lk_link.specs.Inputs.{Input}
use Rattle.lk_link.specs.Walks.{input_of}
use Rattle.lk_link.specs.Alignments.{is_alignment}
use Rattle.lk_link.specs.Parts.{all_parts, part_at}
use Rattle.lk_link.specs.WellFormed.{IsWellFormed}
use Rattle.lk_live.specs.declared.live.Live.{Live}
use Rattle.lk_live.specs.Reach.{AreLive, live_inputs}
use Rattle.lk_reach.proofs.LiveWalk.{turn}
use Rattle.lk_sizes.specs.Kept.{kept_inputs}
use Rattle.lk_sizes.proofs.KeptOnes.{kept_goes}
use Rattle.lk_sizes.proofs.LiveOnes.{live_goes}
use Rattle.lk_sizes.proofs.PartAlignments.{part_is_aligned}

-- a part that is read is the part with that number
pub read_part : (link : LinkInput) (parts : List PlanPart) (p : ℕ) (d : PlanPart) → parts ≡ all_parts link.plan.sections → p < length parts → slice_index_or parts p d ≡ part_at link.plan.sections p
read_part link parts p d all below =
    get_or_default parts p d (record { alignment = 1; packed = false }) below
    ∙ ap (λ (ps : List PlanPart). slice_index_or ps p (record { alignment = 1; packed = false })) all

-- and has an alignment
pub read_alignment : (link : LinkInput) (parts : List PlanPart) (p : ℕ) (d : PlanPart) → IsWellFormed link → parts ≡ all_parts link.plan.sections → p < length parts
    → is_alignment (slice_index_or parts p d).alignment ≡ true
read_alignment link parts p d good all below =
    subst (λ (q : PlanPart). is_alignment q.alignment ≡ true) (sym (read_part link parts p d all below)) (part_is_aligned link p good)

-- the next section goes to a part
pub goes : (link : LinkInput) (live : Live) (s t u : List Input) (done : List InputRef) (x : InputRef) (p : ℕ) → IsWellFormed link → AreLive link live → s ≡ live_inputs link live
    → Yields (YieldsFirstBy {S = List Input} input_of (λ left. left)) s done t → YieldsFirstBy {S = List Input} input_of (λ left. left) t (Some x) u
    → p ≡ x.section.now.part → p < length (all_parts link.plan.sections)
goes link live s t u done x p good are begins yielded next is =
    let at = turn (live_inputs link live) s t u done x begins yielded next in
    omega (arith, live_goes link live at.place (input_of x) good are at.there)

-- so does the next kept one
pub goes_kept : (link : LinkInput) (live : Live) (s t u : List Input) (done : List InputRef) (x : InputRef) (p : ℕ) → IsWellFormed link → AreLive link live → s ≡ kept_inputs link live
    → Yields (YieldsFirstBy {S = List Input} input_of (λ left. left)) s done t → YieldsFirstBy {S = List Input} input_of (λ left. left) t (Some x) u
    → p ≡ x.section.now.part → p < length (all_parts link.plan.sections)
goes_kept link live s t u done x p good are begins yielded next is =
    let at = turn (kept_inputs link live) s t u done x begins yielded next in
    omega (arith, kept_goes link live at.place (input_of x) good are at.there)
