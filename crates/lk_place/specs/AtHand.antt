-- Which constants a walk has at hand: none where its expressions name no symbol. Contracts of private functions speak of it.
use Rattle.std.specs.Prelude.{◌≡◌, ℕ, true, false, List, Option, Some, slice_get}
use Rattle.std.specs.Option.{ForSome}
use Rattle.lk_link.specs.declared.plan.OrderEvent.{OrderEvent}
use Rattle.lk_link.specs.declared.plan.OrderEvent.TheVariants.{SetLocation, SetLocationRelative, SetSectionAddress}
use Rattle.lk_link.specs.declared.plan.Plan.{Plan}
use Rattle.lk_link.specs.declared.plan.PlanSection.{PlanSection}
use Rattle.lk_link.specs.Expressions.{Term}
use Rattle.lk_expressions.specs.Expressions.{IsShallow, Valued}
use Rattle.lk_expressions.specs.Named.{names_no_symbol, names_none}

-- these constants are at hand, if an expression names a symbol
abbrev pub AreAtHand : Plan → List (Option Valued) → List (Option Valued) → Type 0
AreAtHand plan constants items = names_no_symbol plan ≡ false → items ≡ constants

-- an expression that a walk of the plan can evaluate: not too deep, and it names no symbol where none does
pub record IsEvaluable (plan : Plan) (t : Term) : Type 0 where
  pub shallow : IsShallow t
  pub spoken : names_no_symbol plan ≡ true → names_none t ≡ true

-- so is that of an event, if it has one
abbrev pub IsEvaluableEvent : Plan → OrderEvent → Type 0
IsEvaluableEvent plan (SetLocation e) = IsEvaluable plan e
IsEvaluableEvent plan (SetLocationRelative e s) = IsEvaluable plan e
IsEvaluableEvent plan (SetSectionAddress e) = IsEvaluable plan e
IsEvaluableEvent plan _ = Unit {0}

-- so are those of all events
abbrev pub AreEvaluableEvents : Plan → Type 0
AreEvaluableEvents plan = (k : ℕ) (e : OrderEvent) → slice_get plan.events k ≡ Some e → IsEvaluableEvent plan e

-- and those of all load addresses
abbrev pub AreEvaluableLoads : Plan → Type 0
AreEvaluableLoads plan = (s : ℕ) (x : PlanSection) → slice_get plan.sections s ≡ Some x → ForSome x.at (IsEvaluable plan)
