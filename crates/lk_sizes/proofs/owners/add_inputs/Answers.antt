use Rattle.std.proofs.Common.{◌≡◌, ◌^◌, ◌+◌, ◌-◌, ℕ, Bor, Option, Some, if◌then◌else◌, min, ap, ◌∙◌, List, [], ◌∷◌, length, map, replicate, false, subst, sym, rules, arith, refl}
use Rattle.std.proofs.lemmas.List.{map-append}
use Rattle.std.specs.Iterator.{Yields, YieldsFirstBy}
use Rattle.std.specs.List.{slice_get, slice_index_or}
use Rattle.std.specs.Option.{option_map_or}
use Rattle.lk_link.specs.declared.link.LinkInput.{LinkInput}
use Rattle.lk_link.specs.declared.plan.PlanPart.{PlanPart}
use Rattle.lk_link.specs.declared.walks.InputRef.{InputRef}
use Rattle.lk_link.specs.Inputs.{Input, all_inputs}
use Rattle.lk_link.specs.Sizes.{capacity}
use Rattle.lk_live.specs.declared.live.Live.{Live}
use Rattle.lk_link.specs.Parts.{all_parts, part_at}
use Rattle.lk_link.specs.Walks.{input_of}
use Rattle.lk_reach.proofs.LiveWalk.{finish, turn}
use Rattle.lk_reach.proofs.Numbered.{are_numbered}
use Rattle.lk_sizes.specs.declared.owners.PartTotal.{PartTotal}
use Rattle.lk_sizes.specs.Kept.{kept_inputs}
use Rattle.lk_sizes.proofs.Adding.{AreTotals, add_one, bytes_into, bytes_with, no_totals, total_at}
use Rattle.lk_sizes.proofs.KeptOnes.{image_kept, kept_at, unmerged_live}
use Rattle.lk_sizes.proofs.LiveByFiles.{number_of}
use Rattle.lk_sizes.proofs.Limited.{part_fits}
use Rattle.lk_live.specs.Reach.{live_inputs}
use Rattle.lk_sizes.specs.Owners.{Owner, bytes_of, is_merged, own_sizes, size_in}
use Rattle.lk_sizes.specs.Tables.{IsInput}
use Rattle.lk_sizes.proofs.LiveParts.{goes_kept, read_alignment, read_part}
use Rattle.lk_sizes.proofs.Takers.{owners_in_sections}
use Rattle.lk_sizes.proofs.owners.add_inputs.Goals as goal

-- the size of a section
abbrev sizes_by : LinkInput → Option (Bor (List ℕ)) → Input → ℕ
sizes_by link sizes = size_in link (option_map_or (λ s. s.now) sizes (own_sizes link))

-- the next kept section is one of the link's
kept_input : (link : LinkInput) (live : Live) (s t u : List Input) (done : List InputRef) (x : InputRef) → s ≡ kept_inputs link live
    → Yields (YieldsFirstBy {S = List Input} input_of (λ left. left)) s done t → YieldsFirstBy {S = List Input} input_of (λ left. left) t (Some x) u → IsInput link (input_of x)
kept_input link live s t u done x begins yielded next =
    let at = turn (kept_inputs link live) s t u done x begins yielded next in
    let from = kept_at live.marks (all_inputs link.groups) (input_of x) at.place at.there in
    ap (slice_get (all_inputs link.groups)) (number_of link from.0 (input_of x) from.1) ∙ from.1

pub size_of-size-requires-clause-there : goal.size_of-size-requires-clause-there
size_of-size-requires-clause-there c =
    kept_input c.args.link.now c.args.live.now c.into_iter-input-iterator.result c.loop-input.input-iterator c.next.new.self c.loop-input.yielded c.in-Some.input (cc) c.loop-input.yielded_by c.in-Some.ensures.steps

pub new-input-items-requires : goal.new-input-items-requires
new-input-items-requires c = are_numbered c.args.link.now c.requires.good

pub loop-input-init : goal.loop-input-init
loop-input-init c =
    let nothing : PartTotal = record { bytes = 0; has_image = false; attrs = 0 } in
    let items : c.in_ok-totals.totals.items ≡ replicate (length (all_parts c.args.link.now.plan.sections)) nothing = search rules in
    subst (AreTotals (sizes_by c.args.link.now c.args.sizes) c.args.link.now []) (sym items) (no_totals (sizes_by c.args.link.now c.args.sizes) c.args.link.now nothing refl)

pub index-requires : goal.index-requires
index-requires c =
    let below = goes_kept c.args.link.now c.args.live.now c.into_iter-input-iterator.result c.loop-input.input-iterator c.next.new.self c.loop-input.yielded c.in-Some.input c.as_usize-part.result c.requires.good c.requires.live (cc) c.loop-input.yielded_by c.in-Some.ensures.steps (cc) in
    omega (arith, c.loop-input.invariant.count)

pub bounds-parts-part : goal.bounds-parts-part
bounds-parts-part c =
    let below = goes_kept c.args.link.now c.args.live.now c.into_iter-input-iterator.result c.loop-input.input-iterator c.next.new.self c.loop-input.yielded c.in-Some.input c.as_usize-part.result c.requires.good c.requires.live (cc) c.loop-input.yielded_by c.in-Some.ensures.steps (cc) in
    rw c.parts-parts.ensures below

pub offset_bounds-parts-part : goal.offset_bounds-parts-part
offset_bounds-parts-part c =
    let below = goes_kept c.args.link.now c.args.live.now c.into_iter-input-iterator.result c.loop-input.input-iterator c.next.new.self c.loop-input.yielded c.in-Some.input c.as_usize-part.result c.requires.good c.requires.live (cc) c.loop-input.yielded_by c.in-Some.ensures.steps (cc) in
    part_fits c.args.link.now c.as_usize-part.result c.requires.good below

pub with-requires : goal.with-requires
with-requires c =
    let below = goes_kept c.args.link.now c.args.live.now c.into_iter-input-iterator.result c.loop-input.input-iterator c.next.new.self c.loop-input.yielded c.in-Some.input c.as_usize-part.result c.requires.good c.requires.live (cc) c.loop-input.yielded_by c.in-Some.ensures.steps (cc) in
    read_alignment c.args.link.now c.parts-parts.result.now c.as_usize-part.result _ c.requires.good c.parts-parts.ensures (rw c.parts-parts.ensures below)

pub index_mut-requires : goal.index_mut-requires
index_mut-requires c =
    let below = goes_kept c.args.link.now c.args.live.now c.into_iter-input-iterator.result c.loop-input.input-iterator c.next.new.self c.loop-input.yielded c.in-Some.input c.as_usize-part.result c.requires.good c.requires.live (cc) c.loop-input.yielded_by c.in-Some.ensures.steps (cc) in
    omega (arith, c.loop-input.invariant.count)

pub loop-input-preserved : goal.loop-input-preserved
loop-input-preserved c =
    let link = c.args.link.now in
    let below = goes_kept link c.args.live.now c.into_iter-input-iterator.result c.loop-input.input-iterator c.next.new.self c.loop-input.yielded c.in-Some.input c.as_usize-part.result c.requires.good c.requires.live (cc) c.loop-input.yielded_by c.in-Some.ensures.steps (cc) in
    let part = read_part link c.parts-parts.result.now c.as_usize-part.result (record { alignment = 0; packed = false }) c.parts-parts.ensures (rw c.parts-parts.ensures below) in
    let size : Input → ℕ = sizes_by link c.args.sizes in
    let x : Input = input_of c.in-Some.input in
    let old : ℕ = c.index.result.now.bytes in
    let read : PlanPart = slice_index_or c.parts-parts.result.now c.as_usize-part.result (record { alignment = 0; packed = false }) in
    let bytes : c.with.result.bytes ≡ bytes_with size read x old
    = c.with.ensures.bytes ∙ ap (λ (n : ℕ). if is_merged x then old else min (old + capacity read n) (2 ^ 128 - 1)) c.size_of-size.ensures in
    rw (map-append input_of c.loop-input.yielded (c.in-Some.input ∷ []))
    (add_one size link (map input_of c.loop-input.yielded) (input_of c.in-Some.input) c.loop-input.totals.items c.as_usize-part.result c.index.result.now c.index.result.now _ c.with.result
    c.loop-input.invariant c.as_usize-part.ensures below c.index.ensures part bytes c.with.ensures.image c.with.ensures.attrs)

pub returns : goal.returns
returns c =
    let link = c.args.link.now in
    let live = c.args.live.now in
    let size : Input → ℕ = sizes_by link c.args.sizes in
    let kept : List Input = kept_inputs link live in
    let all = finish kept c.into_iter-input-iterator.result c.loop-input.input-iterator c.next.new.self c.loop-input.yielded (cc) c.loop-input.yielded_by c.in-None.ensures.steps in
    let totals = subst (λ (xs : List Input). AreTotals size link xs c.loop-input.totals.items) all c.loop-input.invariant in
    record {
      count = totals.count;
      bytes = λ p total there.
          (total_at size link kept c.loop-input.totals.items p total totals there).bytes
          ∙ ap (λ (xs : List Input). min (bytes_into size (part_at link.plan.sections p) p xs) (2 ^ 64)) (unmerged_live link live c.requires.live)
          ∙ ap (λ (os : List Owner). min (bytes_of (part_at link.plan.sections p) os) (2 ^ 64)) (sym (owners_in_sections size p (live_inputs link live)));
      image = λ p total there. (total_at size link kept c.loop-input.totals.items p total totals there).image ∙ image_kept link live p c.requires.live;
      attrs = λ p total there. (total_at size link kept c.loop-input.totals.items p total totals there).attrs;
    }
