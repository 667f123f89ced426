-- Parts share nothing in memory.
use Rattle.std.proofs.Common.{◌≡◌, ◌≢◌, ℕ, ◌-◌, true, List, length, Some, ap, ◌∙◌, arith}
use Rattle.lk_link.specs.declared.options.OutputKind.TheVariants as output
use Rattle.lk_link.specs.declared.plan.OrderEvent.TheVariants.{Section}
use Rattle.lk_link.specs.PlanSections.{has_memory}
use Rattle.lk_link.proofs.PartNumbers.{first_part-suc}
use Rattle.lk_place.specs.declared.cursors.Cursors.{Cursors}
use Rattle.lk_place_laws.specs.Laws.{IsSoundlySet, MemoryRangesAreDisjoint, PlainMemoryIsDisjoint}
use Rattle.lk_place.specs.Placement.{state_at}
use Rattle.lk_place.specs.CarriedOut.{IsPlacedBefore}
use Rattle.lk_place.specs.Ranges.{HasPart}
use Rattle.lk_place_laws.specs.MemoryRanges.{MemoryIsDisjoint, TakesMemory}
use Rattle.lk_expressions.specs.Records.{Record, mem_end}
use Rattle.lk_place.specs.Setting.{IsReady, Setting}
use Rattle.lk_place.specs.ThreadLocal.{free_memory}
use Rattle.lk_place.proofs.Insides.{placed_in_range}
use Rattle.lk_place_laws.proofs.MemorySteps.{MovesNothing, memory_follows, memory_rises, plain_plan, unmoved_plan}
use Rattle.lk_place.proofs.ApartLaws.{apart, section_one}

-- the part that an event places is one of its section
pub placed_of : (setting : Setting) (n p : ℕ) → IsReady setting → (a : IsPlacedBefore setting n p) → HasPart setting.plan a.s p
placed_of setting n p ready a =
    let below = placed_in_range setting.plan (Section a.s) a.s (ready.events.in_range a.k (Section a.s) a.places) (λ i. Some a.s) in
    record { from = omega (arith, a.is); below = omega (arith, a.is, a.within, first_part-suc setting.plan.sections a.s below) }

memory_is_disjoint : (setting : Setting) (states : List Cursors) (records : List Record) → IsSoundlySet setting states records → MovesNothing setting.plan → setting.output ≢ output.Partial → MemoryIsDisjoint setting.plan records
memory_is_disjoint setting states records set unmoved whole p q o other one two here there =
    let n : ℕ = length states - 1 in
    let has : (m : ℕ) → TakesMemory setting.plan m → (a : IsPlacedBefore setting n m) → has_memory setting.plan a.s ≡ true
    = λ m h a. ap (has_memory setting.plan) (section_one setting.plan a.s h.section m (placed_of setting n m set.ready a) h.part) ∙ h.memory in
    apart (λ r. r.mem_offset) mem_end setting states records (λ k. free_memory (state_at states k)) (λ s. has_memory setting.plan s ≡ true) set.placed
    (record { none = omega arith; rises = memory_rises setting states records set unmoved; follows = memory_follows setting states records set unmoved whole })
    p q o other (has p one) (has q two) (here.begins, here.ends) (there.begins, there.ends)

pub memory_ranges_are_disjoint : MemoryRangesAreDisjoint
memory_ranges_are_disjoint setting states records set may = memory_is_disjoint setting states records set (unmoved_plan setting.plan setting.output may) may.whole

pub plain_memory_is_disjoint : PlainMemoryIsDisjoint
plain_memory_is_disjoint setting states records set plain = memory_is_disjoint setting states records set (plain_plan setting.plan setting.output plain) plain.whole
