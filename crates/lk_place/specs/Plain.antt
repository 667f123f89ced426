-- Plans under which memory goes along the file.
use Rattle.std.specs.Prelude.{◌≡◌, ◌≢◌, ℕ, ◌<◌, ◌||◌, true, false, [], Some, slice_get, take}
use Rattle.lk_link.specs.declared.options.OutputKind.{OutputKind}
use Rattle.lk_link.specs.declared.options.OutputKind.TheVariants.{Partial}
use Rattle.lk_link.specs.declared.plan.OrderEvent.{OrderEvent}
use Rattle.lk_link.specs.declared.plan.OrderEvent.TheVariants.{SegmentStart}
use Rattle.lk_link.specs.declared.plan.Plan.{Plan}
use Rattle.lk_link.specs.Inside.{PlacesInside, is_open}
use Rattle.lk_link.specs.PlanSections.{is_allocated, is_file_backed, is_zero_fill_thread_local}
use Rattle.lk_link.specs.SegmentKinds.{is_load, segment_at}
use Rattle.lk_link.specs.WellFormed.{IsAboutPlace}

-- segment i is loaded into memory
abbrev pub IsLoadSegment : Plan → ℕ → Type 0
IsLoadSegment plan i = is_load (segment_at plan.segments i).kind ≡ true

-- load segment i opens at event k
pub record OpensLoad (plan : Plan) (i k : ℕ) : Type 0 where
  pub load : IsLoadSegment plan i
  pub here : slice_get plan.events k ≡ Some (SegmentStart i)

-- event k places section s inside load segment i
pub record PlacesInLoad (plan : Plan) (i s k : ℕ) : Type 0 where
  pub load : IsLoadSegment plan i
  pub places : PlacesInside plan.events i s k

-- a plan whose memory goes along the file: for whole output, with no region, and with no event that moves the location or gives
-- an address; a load segment opens while no other is open; and all inside one is allocated, first what takes bytes of the file, with
-- zero-fill thread-local data, which takes none, anywhere between
pub record IsPlain (plan : Plan) (output : OutputKind) : Type 0 where
  pub whole : output ≢ Partial
  pub regions : plan.regions ≡ []
  pub unmoved : (k : ℕ) (e : OrderEvent) → slice_get plan.events k ≡ Some e → IsAboutPlace e
  pub apart : (i j k : ℕ) → IsLoadSegment plan i → OpensLoad plan j k → is_open i (take k plan.events) ≡ false
  pub allocated : (i s k : ℕ) → PlacesInLoad plan i s k → is_allocated plan s ≡ true
  pub zero_fill : (i s k : ℕ) → PlacesInLoad plan i s k → is_zero_fill_thread_local plan s ≡ true → is_file_backed plan s ≡ false
  pub backed_first : (i s t m n : ℕ) → m < n → PlacesInLoad plan i s m → PlacesInLoad plan i t n
      → is_file_backed plan t ≡ true → (is_file_backed plan s || is_zero_fill_thread_local plan s) ≡ true
