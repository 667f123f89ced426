-- What is read of an output section, in the order of its fields.
use Rattle.std.specs.Prelude.{ℕ, List, [], ◌∷◌, Result, Ok, false}
use Rattle.serde_json.specs.Data.{Data}
use Rattle.lk_link.specs.declared.plan.Emit.{Emit}
use Rattle.lk_link.specs.declared.plan.Emit.TheVariants.{Auto, Always, Never}
use Rattle.lk_link.specs.declared.plan.PlanPart.{PlanPart}
use Rattle.lk_link.specs.declared.plan.PlanSection.{PlanSection}
use Rattle.lk_input.specs.ReadingSteps.{Path, ◌>>=◌, number_of, index_of, truth_of, text_of, one_of, object, defaulted, optional, fixed_list, element, at_most, list_of, written}
use Rattle.lk_input.specs.ReadingExpressions.{expression_of}

-- when an output section is emitted
abbrev pub emits : List (List ℕ × Emit)
emits = (written "auto", Auto) ∷ (written "always", Always) ∷ (written "never", Never) ∷ []

-- `[alignment, packed]`
unfoldable pub plan_part_of : Data → Result PlanPart Path
plan_part_of d = do
  _ ← fixed_list d
  alignment ← element number_of 0 d
  packed ← element truth_of 1 d
  _ ← at_most 2 d
  Ok (record { alignment = alignment; packed = packed })

-- an output section; the parts are numbered over all sections in order
unfoldable pub plan_section_of : Data → Result PlanSection Path
plan_section_of d = do
  _ ← object d
  name ← defaulted [] text_of (written "name") d
  attrs ← defaulted 0 index_of (written "attrs") d
  align ← defaulted 1 number_of (written "align") d
  parts ← defaulted [] (list_of plan_part_of) (written "parts") d
  primary ← optional index_of (written "primary") d
  emit ← defaulted Auto (one_of emits) (written "emit") d
  region ← optional text_of (written "region") d
  at ← optional expression_of (written "at") d
  top ← defaulted false truth_of (written "top") d
  counters ← defaulted false truth_of (written "counters") d
  Ok (record {
    name = name;
    attrs = attrs;
    align = align;
    parts = parts;
    primary = primary;
    emit = emit;
    region = region;
    at = at;
    top = top;
    counters = counters;
  })
