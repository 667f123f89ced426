-- Positions by marks and a table are those that are defined, and there is room behind them.
use Rattle.std.proofs.Common.{◌≡◌, ℕ, zero, suc, ◌+◌, ◌<◌, ◌&&◌, Bool, true, false, not, List, [], ◌∷◌, ◌++◌, length, map, Option, Some, None, refl, sym, ap, ◌∙◌, arith}
use Rattle.std.specs.Prelude.{if◌then◌else◌, slice_get, slice_index}
use Rattle.std.specs.List.{enumerate_from, slice_index_or}
use Rattle.std.proofs.lemmas.List.{length-map, map_push}
use Rattle.std.proofs.lemmas.List.FromFn.{length-enumerate_from}
use Rattle.std.proofs.lemmas.Option.{get_or_from_slice_get}
use Rattle.lk_link.specs.declared.link.LinkInput.{LinkInput}
use Rattle.lk_link.specs.declared.plan.PlanPart.{PlanPart}
use Rattle.lk_link.specs.declared.section.InputSection.{InputSection}
use Rattle.lk_link.specs.declared.section.InputSlot.{InputSlot}
use Rattle.lk_link.specs.declared.section.InputSlot.TheVariants as slot
use Rattle.lk_link.specs.declared.walks.InputRef.{InputRef}
use Rattle.lk_link.specs.Inputs.{Input, all_inputs, input_number}
use Rattle.lk_link.specs.InputSlots.{is_merge, is_regular}
use Rattle.lk_link.specs.Marks.{is_marked}
use Rattle.lk_link.specs.Parts.{all_parts}
use Rattle.lk_link.specs.Walks.{input_of}
use Rattle.lk_link.specs.WellFormed.{IsWellFormed}
use Rattle.lk_link.proofs.Elements.{map_in, numbered_at}
use Rattle.lk_link.proofs.InputLemmas.{inputs_follow, numbered_get}
use Rattle.lk_live.specs.Reach.{AreLive, marked}
use Rattle.lk_expressions.specs.Surroundings.{flat}
use Rattle.lk_sizes.specs.Addresses.{section_addresses}
use Rattle.lk_sizes.specs.Owners.{Filling, size_of}
use Rattle.lk_sizes.specs.PartOwners.{EndsFit, live_address}
use Rattle.lk_sizes.proofs.LiveOnes.{live_goes}
use Rattle.lk_sizes.proofs.Numbering.{numbered_push, table_at}
use Rattle.lk_sizes.proofs.Placed.{ends_within}
use Rattle.lk_deltas.specs.LinkDeletions.{Deletions, size_after, sizes_after}
use Rattle.lk_relax.specs.Positions.{no_starts, section_position, section_positions}
use Rattle.lk_relax.specs.PositionWords.{HaveRoom, section_position_in}

-- ---- by a table

-- two functions that agree on the elements of a list make the same of it
same_map : {X Y : Type 0} (f g : X → Y) (xs : List X) → ((k : ℕ) (x : X) → slice_get xs k ≡ Some x → f x ≡ g x) → map f xs ≡ map g xs
same_map f g [] h = refl
same_map f g (x ∷ xs) h = ap (λ y. y ∷ map f xs) (h 0 x refl) ∙ ap (λ ys. g x ∷ ys) (same_map f g xs (λ k. h (suc k)))

alike : (filling : Filling) (q : ℕ × Input) → slice_get (all_inputs filling.content.link.groups) q.0 ≡ Some q.1
    → section_position_in filling.content.live.marks (section_addresses filling (no_starts filling.content.link)) q.0 q.1.section ≡ section_position filling q
alike filling q there =
    let starts : List ℕ = no_starts filling.content.link in
    let s : InputSection = q.1.section in
    let stands : Bool = is_regular s.slot && not s.sorted in
    let told : ℕ = slice_index_or (section_addresses filling starts) q.0 0 in
    let address : ℕ = live_address filling starts q.1 in
    let place : ℕ → Option (ℕ × ℕ) = λ n. Some (s.part, n) in
    elim (is_marked filling.content.live.marks q.0) as (λ b. is_marked filling.content.live.marks q.0 ≡ b
    → (if b && stands then place told else None) ≡ (if b && stands then place address else None)) [
      | true ↦ λ set. ap (λ n. if stands then place n else None) (table_at filling starts q.0 q.1 there set)
      | false ↦ λ set. refl
    ] refl

-- the positions by the table of addresses for parts that start at 0
pub positions_alike : (filling : Filling) (places : List ℕ) → places ≡ section_addresses filling (no_starts filling.content.link)
    → map (λ (q : ℕ × Input). section_position_in filling.content.live.marks places q.0 q.1.section) (enumerate_from 0 (all_inputs filling.content.link.groups)) ≡ section_positions filling
positions_alike filling places are =
    let inputs : List Input = all_inputs filling.content.link.groups in
    let table : List ℕ = section_addresses filling (no_starts filling.content.link) in
    let by : List ℕ → ℕ × Input → Option (ℕ × ℕ) = λ ns q. section_position_in filling.content.live.marks ns q.0 q.1.section in
    ap (λ ns. map (by ns) (enumerate_from 0 inputs)) are
    ∙ same_map (by table) (section_position filling) (enumerate_from 0 inputs) (λ k q there.
    let at = numbered_at 0 inputs k q there in
    let number : q.0 ≡ k = omega (arith, at.0) in
    alike filling q (ap (slice_get inputs) number ∙ at.1))

-- ---- room

-- what has a mark is among the marked
marked_in : {X : Type 0} (marks : List Bool) (xs : List X) (k : ℕ) (x : X) → slice_get xs k ≡ Some x → is_marked marks k ≡ true → (j : ℕ) × (slice_get (marked marks xs) j ≡ Some x)
marked_in [] xs k x there set = absurd (cc)
marked_in (m ∷ marks) [] k x there set = absurd (cc)
marked_in (true ∷ marks) (y ∷ xs) zero x there set = (0, there)
marked_in (true ∷ marks) (y ∷ xs) (suc k) x there set = let r = marked_in marks xs k x there set in (suc r.0, r.1)
marked_in (false ∷ marks) (y ∷ xs) zero x there set = absurd (cc)
marked_in (false ∷ marks) (y ∷ xs) (suc k) x there set = marked_in marks xs k x there set

-- what is regular isn't merged
unmerged : (s : InputSlot) → is_regular s ≡ true → is_merge s ≡ false
unmerged slot.Discard h = absurd (cc)
unmerged slot.Unloaded h = refl
unmerged slot.MustLoad h = refl
unmerged slot.DebugInfo h = absurd (cc)
unmerged slot.MustLoadDebugInfo h = absurd (cc)
unmerged slot.Merge h = absurd (cc)

-- the position of a section that has one
record IsPositioned (filling : Filling) (q : ℕ × Input) (p : ℕ × ℕ) : Type 0 where
  live : is_marked filling.content.live.marks q.0 ≡ true
  regular : is_regular q.1.section.slot ≡ true
  place : p.1 ≡ live_address filling (no_starts filling.content.link) q.1

positioned_by : (filling : Filling) (q : ℕ × Input) (p : ℕ × ℕ) (a b c : Bool) → is_marked filling.content.live.marks q.0 ≡ a → is_regular q.1.section.slot ≡ b
    → (if a && (b && not c) then Some (q.1.section.part, live_address filling (no_starts filling.content.link) q.1) else None) ≡ Some p → IsPositioned filling q p
positioned_by filling q p true true false live regular h = record { live = live; regular = regular; place = cc }
positioned_by filling q p true true true live regular h = absurd (cc)
positioned_by filling q p true false c live regular h = absurd (cc)
positioned_by filling q p false b c live regular h = absurd (cc)

positioned : (filling : Filling) (q : ℕ × Input) (p : ℕ × ℕ) → section_position filling q ≡ Some p → IsPositioned filling q p
positioned filling q p is = positioned_by filling q p (is_marked filling.content.live.marks q.0) (is_regular q.1.section.slot) q.1.section.sorted refl refl is

pub have_room : (filling : Filling) (deletions : Deletions) → IsWellFormed filling.content.link → AreLive filling.content.link filling.content.live
    → EndsFit filling (no_starts filling.content.link) → filling.sizes ≡ sizes_after filling.content.link.groups deletions
    → HaveRoom filling.content.link.groups deletions (section_positions filling)
have_room filling deletions good are fit sizes = λ id file i s p there at_i is.
    let link : LinkInput = filling.content.link in
    let inputs : List Input = all_inputs link.groups in
    let x : Input = record { file = id; index = i; section = s } in
    let k : ℕ = input_number link.groups id i in
    let number : 0 + k ≡ k = omega arith in
    let at_k : slice_get inputs k ≡ Some x = inputs_follow.at link.groups id file i s there at_i in
    let numbered : slice_get (enumerate_from 0 inputs) k ≡ Some (k, x) = numbered_get 0 inputs k x at_k ∙ ap (λ (n : ℕ). Some (n, x)) number in
    let stands : slice_get (section_positions filling) k ≡ Some (section_position filling (k, x)) = map_in (section_position filling) (enumerate_from 0 inputs) k (k, x) numbered in
    let has = positioned filling (k, x) p (sym (ap flat stands) ∙ is) in
    let among = marked_in filling.content.live.marks inputs k x at_k has.live in
    let goes : s.part < length (all_parts link.plan.sections) = live_goes link filling.content.live among.0 x good are among.1 in
    let count : length (no_starts link) ≡ length (all_parts link.plan.sections) = length-map (all_parts link.plan.sections) (λ (q : PlanPart). 0) in
    let size : size_of filling x ≡ size_after link.groups deletions x
    = ap (λ (ns : List ℕ). slice_index ns k) sizes ∙ get_or_from_slice_get (sizes_after link.groups deletions) k (size_after link.groups deletions x) 0 (map_in (size_after link.groups deletions) inputs k x at_k) in (
      unmerged s.slot has.regular,
      omega (arith, ends_within filling (no_starts link) among.0 x among.1 fit (omega (arith, goes, count)), size, has.place),
    )

-- ---- one after the other

-- one section more, by its number
pub push_turn : {X : Type 0} (f : ℕ × Input → X) (done : List InputRef) (x : InputRef) (items next : List X) (value : X) → items ≡ map f (enumerate_from 0 (map input_of done)) → next ≡ items ++ value ∷ []
    → value ≡ f (length items, input_of x) → next ≡ map f (enumerate_from 0 (map input_of (done ++ x ∷ [])))
push_turn f done x items next value so_far pushed is =
    let before : List Input = map input_of done in
    let count : length items ≡ 0 + length before
    = omega (arith, ap length so_far ∙ length-map (enumerate_from 0 before) f ∙ length-enumerate_from 0 before) in
    let more : map input_of (done ++ x ∷ []) ≡ before ++ input_of x ∷ [] = map_push input_of done x in
    let all : enumerate_from 0 (before ++ input_of x ∷ []) ≡ enumerate_from 0 before ++ (0 + length before, input_of x) ∷ [] = numbered_push 0 before (input_of x) in
    pushed
    ∙ ap (λ v. items ++ v ∷ []) (is ∙ ap (λ (n : ℕ). f (n, input_of x)) count)
    ∙ ap (λ ys. ys ++ f (0 + length before, input_of x) ∷ []) so_far
    ∙ sym (map_push f (enumerate_from 0 before) (0 + length before, input_of x))
    ∙ ap (map f) (sym all)
    ∙ ap (λ (ys : List Input). map f (enumerate_from 0 ys)) (sym more)
