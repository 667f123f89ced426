-- What is read of the events of the placement.
use Rattle.std.specs.Prelude.{ℕ, List, [], ◌∷◌, Result, Ok}
use Rattle.serde_json.specs.Data.{Data}
use Rattle.lk_link.specs.declared.plan.OrderEvent.{OrderEvent}
use Rattle.lk_link.specs.declared.plan.OrderEvent.TheVariants.{SegmentStart, SegmentEnd, Section, SetLocation, SetLocationRelative, SetSectionAddress}
use Rattle.lk_input.specs.declared.read.event.EventForm.{EventForm}
use Rattle.lk_input.specs.declared.read.event.EventForm.TheVariants as form
use Rattle.lk_input.specs.ReadingSteps.{Path, ◌>>=◌, index_of, one_of, fixed_list, element, single, double, written}
use Rattle.lk_input.specs.ReadingExpressions.{expression_of}

-- what an event can begin with
abbrev pub events : List (List ℕ × EventForm)
events =
    (written "seg", form.SegmentStart) ∷ (written "endseg", form.SegmentEnd) ∷ (written "sec", form.Section) ∷
    (written "loc", form.Location) ∷ (written "locrel", form.RelativeLocation) ∷ (written "addr", form.SectionAddress) ∷ []

-- `["seg", i]`, `["endseg", i]`, `["sec", i]`, `["loc", expression]`, `["locrel", expression, section]`, `["addr", expression]`
unfoldable pub event_in : EventForm → Data → Result OrderEvent Path
event_in form.SegmentStart d = single index_of d >>= λ i. Ok (SegmentStart i)
event_in form.SegmentEnd d = single index_of d >>= λ i. Ok (SegmentEnd i)
event_in form.Section d = single index_of d >>= λ i. Ok (Section i)
event_in form.Location d = single expression_of d >>= λ e. Ok (SetLocation e)
event_in form.RelativeLocation d = double expression_of index_of d >>= λ (e, i). Ok (SetLocationRelative e i)
event_in form.SectionAddress d = single expression_of d >>= λ e. Ok (SetSectionAddress e)

-- an event
unfoldable pub order_event_of : Data → Result OrderEvent Path
order_event_of d = do
  _ ← fixed_list d
  f ← element (one_of events) 0 d
  event_in f d
