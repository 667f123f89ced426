-- What segments are spanned by. Contracts of private functions speak of it.
use Rattle.std.specs.Prelude.{◌≡◌, ◌<◌, ℕ, All, Bool, List, filter, fold, length, not}
use Rattle.std.specs.List.{filter_map}
use Rattle.lk_link.specs.declared.plan.OrderEvent.{OrderEvent}
use Rattle.lk_link.specs.declared.plan.Plan.{Plan}
use Rattle.lk_link.specs.Inside.{placed_section, segment_insides}
use Rattle.lk_link.specs.WellFormed.{IsInRange}
use Rattle.lk_place.specs.declared.segments.Spans.{Spans}
use Rattle.lk_expressions.specs.Records.{Record, file_end, record_at}
use Rattle.lk_place.specs.Segments.{is_skipped}

-- each section has a record, what stands inside each segment is at hand, and each event names what is there
pub record CanSpan (spans : Spans) : Type 0 where
  pub each : length spans.records.now ≡ length spans.link.now.plan.sections
  pub insides : spans.insides.now ≡ segment_insides spans.link.now.plan
  pub in_range : All (λ inside. All (λ s. s < length spans.records.now) inside) spans.insides.now
  pub events : All (IsInRange spans.link.now.plan) spans.link.now.plan.events

-- the end in the file behind some events, from this one on: that of the last section that they place, of those that aren't skipped
abbrev pub file_end_behind : Plan → List Record → (ℕ → Bool) → ℕ → List OrderEvent → ℕ
file_end_behind plan records emitted end events =
    fold (λ _ s. file_end (record_at records s)) end (filter (λ s. not (is_skipped plan records emitted s)) (filter_map placed_section events))
