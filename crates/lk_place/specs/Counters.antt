-- What a placement tells of the location counter: the base, and then what each event that sets it makes of it.
use Rattle.std.specs.Prelude.{ℕ, ◌+◌, if◌then◌else◌, List, [], ◌∷◌, Option, Some, None}
use Rattle.std.specs.List.{enumerate_from, flat_map}
use Rattle.lk_link.specs.declared.plan.OrderEvent.{OrderEvent}
use Rattle.lk_link.specs.declared.plan.Plan.{Plan}
use Rattle.lk_link.specs.Rules.{is_location}
use Rattle.lk_place.specs.declared.cursors.Cursors.{Cursors}
use Rattle.lk_place.specs.Placement.{state_at}

-- the location that waits, if one does
abbrev pub listed_location : Option ℕ → List ℕ
listed_location None = []
listed_location (Some l) = l ∷ []

-- an event that sets the location counter tells the location that it leaves waiting
abbrev pub told_counter : OrderEvent → Option ℕ → List ℕ
told_counter e waiting = if is_location e then listed_location waiting else []

-- the base, and then what each event tells, by the states
abbrev pub counters_of : Plan → List Cursors → ℕ → List ℕ
counters_of plan states base = base ∷ flat_map (λ q. told_counter q.1 (state_at states (q.0 + 1)).pending) (enumerate_from 0 plan.events)
