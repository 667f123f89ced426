use Rattle.std.proofs.Common.{◌≡◌, ◌++◌, ◌∷◌, [], ◌<◌, ◌+◌, ℕ, false, List, length, ap, sym, ◌∙◌, ◌^◌, subst, arith}
use Rattle.std.specs.List.{slice_index}
use Rattle.std.specs.Option.{option_map_or}
use Rattle.lk_link.specs.Parts.{part_at}
use Rattle.lk_link.specs.Sizes.{capacity}
use Rattle.lk_sizes.specs.Owners.{own_sizes, size_in}
use Rattle.lk_link.specs.Inputs.{Input}
use Rattle.lk_link.specs.Parts.{all_parts}
use Rattle.lk_link.specs.Walks.{file_of}
use Rattle.lk_sizes.proofs.Limited.{part_fits}
use Rattle.lk_sizes.proofs.LiveParts.{read_alignment, read_part}
use Rattle.lk_sizes.proofs.Placed.{all_reached, live_reached, live_room, number_fits, other_reached, section_turn, told_size}
use Rattle.lk_sizes.proofs.addresses.place_sections.Goals as goal
use Rattle.lk_sizes.proofs.addresses.place_sections.Goals.{else-stands, then-stands}

pub overflow_add-number : goal.overflow_add-number
overflow_add-number c =
    omega (
      arith,
      number_fits c.args.link.now (file_of c.args.file) c.loop-index.index c.first_number-first.result c.requires.good c.requires.there
          (omega (arith, c.loop-index-test.true, ap length c.as_slice-section-items.ensures)) c.first_number-first.ensures,
    )

pub offset_bounds-next-part : goal.offset_bounds-next-part
offset_bounds-next-part c =
    let link = c.args.link.now in
    let at = section_turn link c.args.live.now (file_of c.args.file) c.as_slice-section-items.result.now c.as_slice-marks.result.now c.loop-index.index c.section-item.result (c.first_number-first.result + c.loop-index.index) c.requires.good c.requires.live c.requires.there c.as_slice-section-items.ensures
    c.as_slice-marks.ensures c.loop-index-test.true c.section-item.is (ap (λ (n : ℕ). n + c.loop-index.index) c.first_number-first.ensures) in
    let below = at.goes (sym c.stands_in_file-stands.ensures ∙ c.if-stands.true) in
    let fits = part_fits link c.as_usize-part.result c.requires.good (omega (arith, below, c.as_usize-part.ensures)) in
    omega arith

pub bounds-next-part : goal.bounds-next-part
bounds-next-part c =
    let link = c.args.link.now in
    let at = section_turn link c.args.live.now (file_of c.args.file) c.as_slice-section-items.result.now c.as_slice-marks.result.now c.loop-index.index c.section-item.result (c.first_number-first.result + c.loop-index.index) c.requires.good c.requires.live c.requires.there c.as_slice-section-items.ensures
    c.as_slice-marks.ensures c.loop-index-test.true c.section-item.is (ap (λ (n : ℕ). n + c.loop-index.index) c.first_number-first.ensures) in
    let below = at.goes (sym c.stands_in_file-stands.ensures ∙ c.if-stands.true) in
    omega (arith, below, c.as_usize-part.ensures, c.requires.count, c.loop-index.invariant.passed.count)

pub offset_bounds-parts-part : goal.offset_bounds-parts-part
offset_bounds-parts-part c =
    let link = c.args.link.now in
    let at = section_turn link c.args.live.now (file_of c.args.file) c.as_slice-section-items.result.now c.as_slice-marks.result.now c.loop-index.index c.section-item.result (c.first_number-first.result + c.loop-index.index) c.requires.good c.requires.live c.requires.there c.as_slice-section-items.ensures
    c.as_slice-marks.ensures c.loop-index-test.true c.section-item.is (ap (λ (n : ℕ). n + c.loop-index.index) c.first_number-first.ensures) in
    let below = at.goes (sym c.stands_in_file-stands.ensures ∙ c.if-stands.true) in
    part_fits link c.as_usize-part.result c.requires.good (omega (arith, below, c.as_usize-part.ensures))

pub bounds-parts-part : goal.bounds-parts-part
bounds-parts-part c =
    let link = c.args.link.now in
    let at = section_turn link c.args.live.now (file_of c.args.file) c.as_slice-section-items.result.now c.as_slice-marks.result.now c.loop-index.index c.section-item.result (c.first_number-first.result + c.loop-index.index) c.requires.good c.requires.live c.requires.there c.as_slice-section-items.ensures
    c.as_slice-marks.ensures c.loop-index-test.true c.section-item.is (ap (λ (n : ℕ). n + c.loop-index.index) c.first_number-first.ensures) in
    let below : c.as_usize-part.result < length (all_parts link.plan.sections) = omega (arith, at.goes (sym c.stands_in_file-stands.ensures ∙ c.if-stands.true), c.as_usize-part.ensures) in
    rw c.parts-parts.ensures below

pub take_next-address-requires-clause-aligned : goal.take_next-address-requires-clause-aligned
take_next-address-requires-clause-aligned c =
    let link = c.args.link.now in
    let at = section_turn link c.args.live.now (file_of c.args.file) c.as_slice-section-items.result.now c.as_slice-marks.result.now c.loop-index.index c.section-item.result (c.first_number-first.result + c.loop-index.index) c.requires.good c.requires.live c.requires.there c.as_slice-section-items.ensures
    c.as_slice-marks.ensures c.loop-index-test.true c.section-item.is (ap (λ (n : ℕ). n + c.loop-index.index) c.first_number-first.ensures) in
    let below : c.as_usize-part.result < length (all_parts link.plan.sections) = omega (arith, at.goes (sym c.stands_in_file-stands.ensures ∙ c.if-stands.true), c.as_usize-part.ensures) in
    read_alignment link c.parts-parts.result.now c.as_usize-part.result _ c.requires.good c.parts-parts.ensures (rw c.parts-parts.ensures below)

pub take_next-address-requires-clause-room : goal.take_next-address-requires-clause-room
take_next-address-requires-clause-room c =
    let link = c.args.link.now in
    let at = section_turn link c.args.live.now (file_of c.args.file) c.as_slice-section-items.result.now c.as_slice-marks.result.now c.loop-index.index c.section-item.result (c.first_number-first.result + c.loop-index.index) c.requires.good c.requires.live c.requires.there c.as_slice-section-items.ensures
    c.as_slice-marks.ensures c.loop-index-test.true c.section-item.is (ap (λ (n : ℕ). n + c.loop-index.index) c.first_number-first.ensures) in
    let x : Input = record { file = c.args.file.id; index = c.loop-index.index; section = c.section-item.result } in
    let set = sym c.stands_in_file-stands.ensures ∙ c.if-stands.true in
    let below : c.as_usize-part.result < length (all_parts link.plan.sections) = omega (arith, at.goes set, c.as_usize-part.ensures) in
    let part = read_part link c.parts-parts.result.now c.as_usize-part.result (record { alignment = 0; packed = false }) c.parts-parts.ensures (rw c.parts-parts.ensures below) in
    let fits = live_room (size_in c.args.link.now (option_map_or (λ s. s.now) c.args.sizes (own_sizes c.args.link.now))) link c.args.live.now (file_of c.args.file) c.args.next.now c.loop-index.index c.loop-index.next x c.as_usize-part.result at.there (at.mark ∙ set) c.requires.space c.loop-index.invariant.passed
    c.as_usize-part.ensures (omega (arith, below, c.requires.count)) in
    let told : c.size_at-size.result ≡ (size_in c.args.link.now (option_map_or (λ s. s.now) c.args.sizes (own_sizes c.args.link.now))) x
    = c.size_at-size.ensures ∙ told_size link c.args.sizes (c.first_number-first.result + c.loop-index.index) x at.input (ap (λ (n : ℕ). n + c.loop-index.index) c.first_number-first.ensures) in
    rw part (subst (λ (n : ℕ). slice_index c.loop-index.next c.as_usize-part.result + capacity (part_at link.plan.sections c.as_usize-part.result) n < 2 ^ 64) (sym told) fits)

pub loop-index-preserved : goal.loop-index-preserved
loop-index-preserved c =
    let link = c.args.link.now in
    let live = c.args.live.now in
    let f = file_of c.args.file in
    let i : ℕ = c.loop-index.index in
    let next : List ℕ = c.loop-index.next in
    let old : List ℕ = c.args.next.now in
    let front : List ℕ = c.args.addresses.now.items in
    let addresses : List ℕ = c.loop-index.addresses.items in
    let at = section_turn link live f c.as_slice-section-items.result.now c.as_slice-marks.result.now i c.section-item.result (c.first_number-first.result + c.loop-index.index) c.requires.good c.requires.live c.requires.there c.as_slice-section-items.ensures
    c.as_slice-marks.ensures c.loop-index-test.true c.section-item.is (ap (λ (n : ℕ). n + c.loop-index.index) c.first_number-first.ensures) in
    let x : Input = record { file = c.args.file.id; index = i; section = c.section-item.result } in
    elim c.if-stands.branch [
      | then-stands w ↦
          let set = sym c.stands_in_file-stands.ensures ∙ w.if-stands.true in
          let p : ℕ = w.as_usize-part.result in
          let below : p < length (all_parts link.plan.sections) = omega (arith, at.goes set, w.as_usize-part.ensures) in
          let size : w.size_at-size.result ≡ (size_in c.args.link.now (option_map_or (λ s. s.now) c.args.sizes (own_sizes c.args.link.now))) x
          = w.size_at-size.ensures ∙ told_size link c.args.sizes (c.first_number-first.result + c.loop-index.index) x at.input (ap (λ (n : ℕ). n + c.loop-index.index) c.first_number-first.ensures) in
          let part = read_part link c.parts-parts.result.now p (record { alignment = 0; packed = false }) c.parts-parts.ensures (rw c.parts-parts.ensures below) in
          let done = live_reached (size_in c.args.link.now (option_map_or (λ s. s.now) c.args.sizes (own_sizes c.args.link.now))) link live f old i next front addresses x p w.take_next-address.new.next at.there (at.mark ∙ set) c.loop-index.invariant w.as_usize-part.ensures
          (omega (arith, below, c.requires.count)) ((rw part at w.take_next-address.ensures.moved) ∙ ap (λ (n : ℕ). slice_index next p + capacity (part_at link.plan.sections p) n) size) in
          let told : c.push.new.self.items ≡ addresses ++ slice_index next p ∷ [] = c.in_ok-push.ensures.items ∙ ap (λ (a : ℕ). addresses ++ a ∷ []) (w.address-is ∙ w.take_next-address.ensures.address) in
          rw (w.next-is, told) done
      | else-stands w ↦
          let unset = sym c.stands_in_file-stands.ensures ∙ w.if-stands.false in
          let done = other_reached (size_in c.args.link.now (option_map_or (λ s. s.now) c.args.sizes (own_sizes c.args.link.now))) link live f old i next front addresses x at.there (at.mark ∙ unset) c.loop-index.invariant in
          let told : c.push.new.self.items ≡ addresses ++ 0 ∷ [] = c.in_ok-push.ensures.items ∙ ap (λ (a : ℕ). addresses ++ a ∷ []) w.address-is in
          rw (w.next-is, told) done
    ]

pub returns-clause-moved : goal.returns-clause-moved
returns-clause-moved c =
    (all_reached (size_in c.args.link.now (option_map_or (λ s. s.now) c.args.sizes (own_sizes c.args.link.now))) c.args.link.now c.args.live.now (file_of c.args.file) c.args.next.now c.loop-index.index c.loop-index.next c.args.addresses.now.items c.loop-index.addresses.items
    (omega (arith, ap length c.as_slice-section-items.ensures)) c.loop-index.invariant).0

pub returns-clause-told : goal.returns-clause-told
returns-clause-told c =
    (all_reached (size_in c.args.link.now (option_map_or (λ s. s.now) c.args.sizes (own_sizes c.args.link.now))) c.args.link.now c.args.live.now (file_of c.args.file) c.args.next.now c.loop-index.index c.loop-index.next c.args.addresses.now.items c.loop-index.addresses.items
    (omega (arith, ap length c.as_slice-section-items.ensures)) c.loop-index.invariant).1
