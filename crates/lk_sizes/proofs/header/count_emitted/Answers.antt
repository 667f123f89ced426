use Rattle.std.proofs.Common.{◌≡◌, ℕ, ◌-◌, ◌^◌, ◌≤◌, Bool, true, false, if◌then◌else◌, List, Option, Some, None, filter, get_or, length, min, sum_by, take, refl, ap, ◌∙◌, arith}
use Rattle.std.specs.Option.{option_map_or}
use Rattle.std.proofs.lemmas.List.{take_all}
use Rattle.std.proofs.lemmas.List.Sums.{sum_by-le}
use Rattle.lk_link.specs.declared.plan.OrderEvent.{OrderEvent}
use Rattle.lk_link.specs.Inside.{placed_section}
use Rattle.lk_link.specs.Marks.{is_marked}
use Rattle.lk_tables.specs.HeaderParts.{event_sections}
use Rattle.lk_tables.specs.SymbolTable.{section_entry}
use Rattle.lk_tables.proofs.HeaderLemmas.{entries_told, sum_same}
use Rattle.lk_sizes.specs.Tables.{placed_count}
use Rattle.lk_sizes.proofs.header.count_emitted.Goals as goal

-- as many as there are
placed : (emitted : List Bool) (events : List OrderEvent) → sum_by (placed_count emitted) events ≡ length (filter (is_marked emitted) (event_sections events))
placed emitted events =
    let some = filter (is_marked emitted) (event_sections events) in
    omega (arith, entries_told (is_marked emitted) (section_entry 1) placed_section events, sum_same 1 (section_entry 1) some (λ s. refl))

one_if : (b : Bool) → ◌≤◌ (if b then 1 else 0) 1
one_if true = omega arith
one_if false = omega arith

one_of : (emitted : List Bool) (o : Option ℕ) → ◌≤◌ (option_map_or (λ s. if is_marked emitted s then 1 else 0) o 0) 1
one_of emitted None = omega arith
one_of emitted (Some s) = one_if (is_marked emitted s)

-- and no more than there are events
few : (emitted : List Bool) (events : List OrderEvent) → sum_by (placed_count emitted) events ≤ length events
few emitted events = omega (arith, sum_by-le (placed_count emitted) 1 events (λ k d lt. one_of emitted (placed_section (get_or events k d))))

-- the sum over all events, where none is left
so_far : (emitted : List Bool) (events : List OrderEvent) (n count : ℕ) → count ≡ min (sum_by (placed_count emitted) (take n events)) (2 ^ 32 - 1) → length events ≤ n
    → length events ≤ 262144 → count ≡ sum_by (placed_count emitted) events
so_far emitted events n count h behind small =
    omega (arith, h, ap (sum_by (placed_count emitted)) (take_all n events behind), few emitted events, small)

pub returns-clause-count : goal.returns-clause-count
returns-clause-count c =
    so_far c.args.emitted.now c.args.events.now c.loop-event.event-index c.loop-event.count c.loop-event.invariant (omega arith) c.requires
    ∙ placed c.args.emitted.now c.args.events.now

pub returns-clause-few : goal.returns-clause-few
returns-clause-few c =
    let all = so_far c.args.emitted.now c.args.events.now c.loop-event.event-index c.loop-event.count c.loop-event.invariant (omega arith) c.requires in
    omega (arith, all, few c.args.emitted.now c.args.events.now, c.requires)
