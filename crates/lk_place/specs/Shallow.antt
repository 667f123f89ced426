-- What the room for evaluating expressions asks of a link.
use Rattle.std.specs.Prelude.{◌≡◌, ℕ, All, List, Some, slice_get}
use Rattle.std.specs.Option.{ForSome}
use Rattle.lk_link.specs.declared.link.LinkInput.{LinkInput}
use Rattle.lk_link.specs.declared.plan.OrderEvent.{OrderEvent}
use Rattle.lk_link.specs.declared.plan.OrderEvent.TheVariants.{SetLocation, SetLocationRelative, SetSectionAddress}
use Rattle.lk_link.specs.declared.plan.PlanSection.{PlanSection}
use Rattle.lk_link.specs.WellFormed.{IsWellFormed}
use Rattle.lk_expressions.specs.Constants.{HasShallowRedirects}
use Rattle.lk_expressions.specs.Expressions.{IsShallow}
use Rattle.lk_place.specs.Regions.{IsShallowRegion}

-- the expression of an event that moves the location isn't too deep
abbrev pub IsShallowEvent : OrderEvent → Type 0
IsShallowEvent (SetLocation e) = IsShallow e
IsShallowEvent (SetLocationRelative e s) = IsShallow e
IsShallowEvent (SetSectionAddress e) = IsShallow e
IsShallowEvent _ = Unit {0}

-- nor are those of all events
abbrev pub AreShallowEvents : List OrderEvent → Type 0
AreShallowEvents events = (k : ℕ) (e : OrderEvent) → slice_get events k ≡ Some e → IsShallowEvent e

-- nor is that of where a section is loaded from, if it names it
abbrev pub IsShallowLoad : PlanSection → Type 0
IsShallowLoad section = ForSome section.at IsShallow

-- nor are those of all sections
abbrev pub AreShallowLoads : List PlanSection → Type 0
AreShallowLoads sections = (s : ℕ) (x : PlanSection) → slice_get sections s ≡ Some x → IsShallowLoad x

-- no expression of a link that is evaluated while sections are placed is too deep
pub record AreShallow (link : LinkInput) : Type 0 where
  pub base : IsShallow link.plan.base
  pub regions : All IsShallowRegion link.plan.regions
  pub redirects : HasShallowRedirects link.groups
  pub events : AreShallowEvents link.plan.events
  pub loads : AreShallowLoads link.plan.sections

-- ---- a law

-- no expression of a well-formed link that is evaluated while sections are placed is too deep
abbrev pub ExpressionsAreShallow : Type 0
ExpressionsAreShallow = (link : LinkInput) → IsWellFormed link → AreShallow link
