-- What stands before the opening of a segment, event by event.
use Rattle.std.proofs.Common.{◌≡◌, ℕ, zero, suc, ◌+◌, Bool, true, false, cond, List, [], ◌∷◌, drop, take, Option, Some, None, refl, sym, ap, ◌∙◌, arith}
use Rattle.std.specs.Prelude.{filter, fold, not, slice_get}
use Rattle.std.specs.List.{before_first, cons_option, filter_map, last_or, prefix_len}
use Rattle.std.specs.Option.{option_map_or}
use Rattle.lk_link.specs.declared.plan.OrderEvent.{OrderEvent}
use Rattle.lk_link.specs.declared.plan.Plan.{Plan}
use Rattle.lk_link.specs.Inside.{placed_section}
use Rattle.lk_link.specs.Rules.{is_start}
use Rattle.lk_expressions.specs.Records.{Record, file_end, record_at}
use Rattle.lk_place.specs.Segments.{compact_start, is_skipped}
use Rattle.lk_place.specs.Spans.{file_end_behind}

-- an element that doesn't pass stands before the first that does
before_more : {X : Type 0} (p : X → Bool) (x : X) (xs : List X) → p x ≡ false → before_first p (x ∷ xs) ≡ x ∷ before_first p xs
before_more {X} p x xs h =
    let n : ℕ = prefix_len (λ y. not (p y)) xs in
    let next : 1 + n ≡ suc n = omega arith in
    ap (λ b. take (cond (not b) (1 + n) 0) (x ∷ xs)) h ∙ ap (λ m. take m (x ∷ xs)) next

-- and nothing stands before one that does
before_none : {X : Type 0} (p : X → Bool) (x : X) (xs : List X) → p x ≡ true → before_first p (x ∷ xs) ≡ []
before_none {X} p x xs h = ap (λ b. take (cond (not b) (1 + prefix_len (λ y. not (p y)) xs) 0) (x ∷ xs)) h

drop_read : {X : Type 0} (xs : List X) (i : ℕ) (x : X) → slice_get xs i ≡ Some x → drop i xs ≡ x ∷ drop (i + 1) xs
drop_read [] i x h = absurd (cc)
drop_read {X} (y ∷ ys) zero x h = ap (λ (z : X). z ∷ ys) (cc)
drop_read {X} (y ∷ ys) (suc i) x h = let e : suc (i + 1) ≡ suc i + 1 = omega arith in drop_read ys i x h ∙ ap (λ n. x ∷ drop n (y ∷ ys)) e

-- the end behind an event and others is that behind the others, from the end behind the event on
end_more : (plan : Plan) (records : List Record) (emitted : ℕ → Bool) (end : ℕ) (e : OrderEvent) (es : List OrderEvent)
    → file_end_behind plan records emitted end (e ∷ es) ≡ file_end_behind plan records emitted (file_end_behind plan records emitted end (e ∷ [])) es
end_more plan records emitted end e es =
    elim (placed_section e) as (λ o. let f = λ (_ : ℕ) (s : ℕ). file_end (record_at records s) in let left = λ (s : ℕ). not (is_skipped plan records emitted s) in
    fold f end (filter left (cons_option o (filter_map placed_section es))) ≡ fold f (fold f end (filter left (cons_option o []))) (filter left (filter_map placed_section es))) [
      | None ↦ refl
      | Some s ↦ elim (not (is_skipped plan records emitted s)) as (λ b. let f = λ (_ : ℕ) (t : ℕ). file_end (record_at records t) in let left = λ (t : ℕ). not (is_skipped plan records emitted t) in
          fold f end (cond b (s ∷ filter left (filter_map placed_section es)) (filter left (filter_map placed_section es)))
          ≡ fold f (fold f end (cond b (s ∷ []) [])) (filter left (filter_map placed_section es))) [ true ↦ refl | false ↦ refl ]
    ]

-- the end before the opening, behind one more event that isn't it
pub start_more : (plan : Plan) (records : List Record) (emitted : ℕ → Bool) (end i k : ℕ) (e : OrderEvent) (events : List OrderEvent) → slice_get events k ≡ Some e → is_start i e ≡ false
    → file_end_behind plan records emitted (file_end_behind plan records emitted end (e ∷ [])) (before_first (is_start i) (drop (k + 1) events))
    ≡ file_end_behind plan records emitted end (before_first (is_start i) (drop k events))
start_more plan records emitted end i k e events here other =
    sym (ap (λ es. file_end_behind plan records emitted end (before_first (is_start i) es)) (drop_read events k e here)
    ∙ ap (file_end_behind plan records emitted end) (before_more (is_start i) e (drop (k + 1) events) other)
    ∙ end_more plan records emitted end e (before_first (is_start i) (drop (k + 1) events)))

-- at the opening it is the end so far
pub start_here : (plan : Plan) (records : List Record) (emitted : ℕ → Bool) (end i k : ℕ) (e : OrderEvent) (events : List OrderEvent) → slice_get events k ≡ Some e → is_start i e ≡ true
    → file_end_behind plan records emitted end (before_first (is_start i) (drop k events)) ≡ end
start_here plan records emitted end i k e events here opening =
    ap (λ es. file_end_behind plan records emitted end (before_first (is_start i) es)) (drop_read events k e here)
    ∙ ap (file_end_behind plan records emitted end) (before_none (is_start i) e (drop (k + 1) events) opening)

-- ---- the last of all

-- what is told of each of some things in turn is in the end what is told of the last
last_told : {X : Type 0} (f : X → ℕ) (o : Option X) (none : ℕ) (xs : List X) → fold (λ _ x. f x) (option_map_or f o none) xs ≡ option_map_or f (last_or o xs) none
last_told f o none [] = refl
last_told {X} f o none (x ∷ xs) = last_told f (Some x) none xs

-- the end before the opening is that of the section that is placed there last
pub start_is : (plan : Plan) (records : List Record) (emitted : ℕ → Bool) (i : ℕ)
    → file_end_behind plan records emitted 0 (before_first (is_start i) plan.events) ≡ compact_start plan records emitted i
start_is plan records emitted i =
    last_told (λ s. file_end (record_at records s)) None 0 (filter (λ s. not (is_skipped plan records emitted s)) (filter_map placed_section (before_first (is_start i) plan.events)))
