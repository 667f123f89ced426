-- Plans that ask no more of the walk than to place parts behind one another.
use Rattle.std.specs.Prelude.{◌≡◌, ◌≢◌, ℕ, None, Some, slice_get}
use Rattle.lk_link.specs.declared.options.OutputKind.{OutputKind}
use Rattle.lk_link.specs.declared.options.OutputKind.TheVariants.{Partial}
use Rattle.lk_link.specs.declared.plan.OrderEvent.{OrderEvent}
use Rattle.lk_link.specs.declared.plan.Plan.{Plan}
use Rattle.lk_link.specs.PlanSections.{section_at}
use Rattle.lk_link.specs.WellFormed.{IsAboutPlace}

-- a plan of whole output in which nothing moves the location, and no section stands in a region
pub record IsUnmoved (plan : Plan) (output : OutputKind) : Type 0 where
  pub whole : output ≢ Partial
  pub events : (k : ℕ) (e : OrderEvent) → slice_get plan.events k ≡ Some e → IsAboutPlace e
  pub sections : (s : ℕ) → (section_at plan.sections s).region ≡ None
