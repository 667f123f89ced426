-- What is read of segments and memory regions, in the order of their fields.
use Rattle.std.specs.Prelude.{ℕ, List, [], ◌∷◌, Result, Ok, false}
use Rattle.serde_json.specs.Data.{Data}
use Rattle.lk_link.specs.declared.plan.SegmentKind.{SegmentKind}
use Rattle.lk_link.specs.declared.plan.SegmentKind.TheVariants.{Load, Tls, Stack, Other}
use Rattle.lk_link.specs.declared.plan.PlanSegment.{PlanSegment}
use Rattle.lk_link.specs.declared.plan.Region.{Region}
use Rattle.lk_input.specs.ReadingSteps.{Path, ◌>>=◌, truth_of, text_of, one_of, object, required, defaulted, written}
use Rattle.lk_input.specs.ReadingExpressions.{expression_of}

-- what one can be for
abbrev pub segment_kinds : List (List ℕ × SegmentKind)
segment_kinds = (written "load", Load) ∷ (written "tls", Tls) ∷ (written "stack", Stack) ∷ (written "other", Other) ∷ []

-- a segment: its kind must be given
unfoldable pub plan_segment_of : Data → Result PlanSegment Path
plan_segment_of d = do
  _ ← object d
  kind ← required (one_of segment_kinds) (written "kind") d
  always ← defaulted false truth_of (written "always") d
  Ok (record { kind = kind; always = always })

-- a region: its origin and its length must be given
unfoldable pub region_of : Data → Result Region Path
region_of d = do
  _ ← object d
  name ← defaulted [] text_of (written "name") d
  origin ← required expression_of (written "origin") d
  length ← required expression_of (written "length") d
  Ok (record { name = name; origin = origin; length = length })
