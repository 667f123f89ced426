-- Which segments are open behind an event.
use Rattle.std.proofs.Common.{◌≡◌, ℕ, zero, suc, ◌≤◌, Bool, true, false, List, [], ◌∷◌, take, Some, refl, sym, ap, ◌∙◌, arith, eq-eqb}
use Rattle.std.specs.Prelude.{◌&&◌, ◌||◌, not, slice_get}
use Rattle.std.specs.List.{list_any}
use Rattle.std.proofs.Math.Bool.{and-false, or-false, or-true}
use Rattle.lk_link.specs.declared.plan.OrderEvent.{OrderEvent}
use Rattle.lk_link.specs.declared.plan.OrderEvent.TheVariants.{SegmentStart, SegmentEnd}
use Rattle.lk_link.specs.declared.plan.Plan.{Plan}
use Rattle.lk_link.specs.Inside.{is_open}
use Rattle.lk_link.specs.Rules.{is_start, is_end}
use Rattle.lk_link.specs.WellFormed.{IsEventOrder}
use Rattle.lk_link.proofs.Events.{is_that_end, is_that_start}
use Rattle.lk_link.proofs.Places.{found}

-- a test of one event more
pub any_more : (p : OrderEvent → Bool) (es : List OrderEvent) (n : ℕ) (e : OrderEvent) → slice_get es n ≡ Some e → list_any p (take (suc n) es) ≡ (list_any p (take n es) || p e)
any_more p [] n e h = absurd (cc)
any_more p (x ∷ xs) zero e h =
    let same : x ≡ e = cc in
    elim (p x) as (λ b. p x ≡ b → (p x || false) ≡ p e) [
      | true ↦ λ is. ap (λ b. b || false) is ∙ sym is ∙ ap p same
      | false ↦ λ is. ap (λ b. b || false) is ∙ sym is ∙ ap p same
    ] refl
any_more p (x ∷ xs) (suc n) e h =
    let rest : list_any p (take (suc n) xs) ≡ (list_any p (take n xs) || p e) = any_more p xs n e h in
    elim (p x) as (λ b. (b || list_any p (take (suc n) xs)) ≡ ((b || list_any p (take n xs)) || p e)) [
      | true ↦ refl
      | false ↦ rest
    ]

any_same : (p : OrderEvent → Bool) (es : List OrderEvent) (k : ℕ) (e : OrderEvent) → slice_get es k ≡ Some e → p e ≡ false → list_any p (take (suc k) es) ≡ list_any p (take k es)
any_same p es k e here unmet = any_more p es k e here ∙ ap (λ b. list_any p (take k es) || b) unmet ∙ or-false (list_any p (take k es))

any_now : (p : OrderEvent → Bool) (es : List OrderEvent) (k : ℕ) (e : OrderEvent) → slice_get es k ≡ Some e → p e ≡ true → list_any p (take (suc k) es) ≡ true
any_now p es k e here met = any_more p es k e here ∙ ap (λ b. list_any p (take k es) || b) met ∙ or-true (list_any p (take k es))

-- an event that neither opens nor closes it leaves a segment as it is
pub open_same : (i k : ℕ) (es : List OrderEvent) (e : OrderEvent) → slice_get es k ≡ Some e → is_start i e ≡ false → is_end i e ≡ false → is_open i (take (suc k) es) ≡ is_open i (take k es)
open_same i k es e here unopened unclosed =
    ap (λ b. b && not (list_any (is_end i) (take (suc k) es))) (any_same (is_start i) es k e here unopened)
    ∙ ap (λ b. list_any (is_start i) (take k es) && not b) (any_same (is_end i) es k e here unclosed)

-- behind its end a segment isn't open
pub closed_now : (i k : ℕ) (es : List OrderEvent) (e : OrderEvent) → slice_get es k ≡ Some e → is_end i e ≡ true → is_open i (take (suc k) es) ≡ false
closed_now i k es e here closes =
    ap (λ b. list_any (is_start i) (take (suc k) es) && not b) (any_now (is_end i) es k e here closes) ∙ and-false (list_any (is_start i) (take (suc k) es))

-- a segment isn't open before it opens
pub unopened : (plan : Plan) → IsEventOrder plan → (i k m : ℕ) → slice_get plan.events k ≡ Some (SegmentStart i) → m ≤ k → is_open i (take m plan.events) ≡ false
unopened plan order i k m here le =
    let started : Bool = list_any (is_start i) (take m plan.events) in
    elim started as (λ b. started ≡ b → (b && not (list_any (is_end i) (take m plan.events))) ≡ false) [
      | true ↦ λ is.
          let before = found (is_start i) plan.events m is in
          let there : slice_get plan.events before.0 ≡ Some (SegmentStart i) = before.3 ∙ ap (λ (e : OrderEvent). Some e) (is_that_start i before.1 before.4) in
          absurd (omega (arith, before.2, order.once before.0 k (SegmentStart i) tt there here))
      | false ↦ λ is. refl
    ] refl

-- nor does it close before
unclosed : (plan : Plan) → IsEventOrder plan → (i k : ℕ) → slice_get plan.events k ≡ Some (SegmentStart i) → list_any (is_end i) (take k plan.events) ≡ false
unclosed plan order i k here =
    let ended : Bool = list_any (is_end i) (take k plan.events) in
    elim ended as (λ b. ended ≡ b → b ≡ false) [
      | true ↦ λ is.
          let before = found (is_end i) plan.events k is in
          let there : slice_get plan.events before.0 ≡ Some (SegmentEnd i) = before.3 ∙ ap (λ (e : OrderEvent). Some e) (is_that_end i before.1 before.4) in
          let round = order.opened i (order.in_range k (SegmentStart i) here) in
          absurd (omega (
            arith,
            before.2,
            round.2,
            order.once round.0 k (SegmentStart i) tt round.3 here,
            order.once before.0 round.1 (SegmentEnd i) tt there round.4,
          ))
      | false ↦ λ is. refl
    ] refl

-- behind its start it is open
pub opened_now : (plan : Plan) → IsEventOrder plan → (i k : ℕ) → slice_get plan.events k ≡ Some (SegmentStart i) → is_open i (take (suc k) plan.events) ≡ true
opened_now plan order i k here =
    ap (λ b. b && not (list_any (is_end i) (take (suc k) plan.events))) (any_now (is_start i) plan.events k (SegmentStart i) here (eq-eqb i i refl))
    ∙ ap (λ b. not b) (any_same (is_end i) plan.events k (SegmentStart i) here refl ∙ unclosed plan order i k here)
