use Rattle.std.proofs.Common.{◌≡◌, ℕ, ◌&&◌, ◌||◌, ◌∷◌, [], ◌++◌, length, cond, Bool, false, ◌<◌, List, ap, sym, ◌∙◌, arith}
use Rattle.std.specs.Prelude.{not}
use Rattle.std.specs.List.{filter, list_any, range_with_len, slice_index_or}
use Rattle.std.proofs.lemmas.List.{get_or_default}
use Rattle.lk_link.proofs.Numbers.{length-made, made_at}
use Rattle.lk_link.specs.declared.plan.PlanSegment.{PlanSegment}
use Rattle.lk_link.specs.declared.plan.SegmentKind.TheVariants.{Load, Other}
use Rattle.lk_link.specs.Inside.{sections_inside}
use Rattle.lk_link.specs.SegmentKinds.{is_stack, segment_at}
use Rattle.lk_sizes.proofs.Emitting.{filter_more, all_active}
use Rattle.lk_sizes.proofs.header.find_active.Goals as goal
use Rattle.lk_link.specs.Marks.{is_marked}
use Rattle.lk_link.specs.OutputKinds.{is_partial}
use Rattle.lk_sizes.specs.Tables.{active_by}

pub bounds-insides-number : goal.bounds-insides-number
bounds-insides-number c =
    let count = ap length c.requires.insides ∙ length-made (sections_inside c.args.link.now.plan.events) c.args.link.now.plan.segments 0 in
    omega (arith, count, ap length c.as_slice-segments.ensures)

pub loop-number-preserved : goal.loop-number-preserved
loop-number-preserved c =
    let link = c.args.link.now in
    let n = c.loop-number.number in
    let segments = c.as_slice-segments.result.now in
    let events = link.plan.events in
    let below : n < length segments = c.loop-number-test.true in
    let segment : slice_index_or segments n (record { kind = Load; always = false }) ≡ segment_at link.plan.segments n =
    get_or_default segments n (record { kind = Load; always = false }) (record { kind = Other; always = false }) below
    ∙ ap (λ (all : List PlanSegment). segment_at all n) c.as_slice-segments.ensures in
    let inside : c.as_slice-inside.result.now ≡ sections_inside events n =
    c.as_slice-inside.ensures
    ∙ c.index-insides-number.is
    ∙ ap (λ (all : List (List ℕ)). slice_index_or all n c.index-insides-number.result) c.requires.insides
    ∙ made_at (sections_inside events) c.index-insides-number.result link.plan.segments 0 n (omega (arith, ap length c.as_slice-segments.ensures))
    ∙ ap (sections_inside events) (omega arith) in
    let active : c.is_active-is_active.result ≡ active_by link c.args.emitted.now n =
    c.is_active-is_active.ensures
    ∙ ap (λ (s : PlanSegment). not (is_partial link.options.output) && (link.plan.custom_phdrs || s.always || is_stack s.kind || list_any (is_marked c.args.emitted.now) c.as_slice-inside.result.now)) segment
    ∙ ap (λ (ss : List ℕ). not (is_partial link.options.output) && (link.plan.custom_phdrs || (segment_at link.plan.segments n).always || is_stack (segment_at link.plan.segments n).kind || list_any (is_marked c.args.emitted.now) ss)) inside in
    c.in_ok-push_active.ensures
    ∙ ap (λ (zs : List ℕ). zs ++ cond c.is_active-is_active.result (c.from_u32.result ∷ []) []) c.loop-number.invariant
    ∙ ap (λ (b : Bool). filter (active_by link c.args.emitted.now) (range_with_len 0 n) ++ cond b (c.from_u32.result ∷ []) []) active
    ∙ ap (λ (k : ℕ). filter (active_by link c.args.emitted.now) (range_with_len 0 n) ++ cond (active_by link c.args.emitted.now n) (k ∷ []) []) c.from_u32.ensures
    ∙ sym (filter_more (active_by link c.args.emitted.now) n)

pub returns : goal.returns
returns c =
    c.loop-number.invariant
    ∙ all_active (active_by c.args.link.now c.args.emitted.now) c.args.link.now.plan.segments c.loop-number.number (omega (arith, ap length c.as_slice-segments.ensures))
