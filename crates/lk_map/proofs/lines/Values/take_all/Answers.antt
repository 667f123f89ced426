use Rattle.std.proofs.Common.{◌∙◌, arith}
use Rattle.std.specs.Prelude.{option_copied}
use Rattle.lk_map.specs.declared.forms.Field.TheVariants as is
use Rattle.lk_map.specs.Cutting.{parts_left}
use Rattle.lk_map.specs.Values.{shown}
use Rattle.lk_map.proofs.Fields.{field_lost, field_more, field_none, fields_end, is_some_copied, next_word}
use Rattle.lk_map.proofs.lines.Values.take_all.Goals as goal

pub returns-in_default : goal.returns-in_default
returns-in_default c =
    field_lost c.args.fields.now c.loop-field.field-index is.Number c.loop-field-test.true (shown c.loop-field.self) _
    (rw c.in_default.is at c.loop-field.invariant.1)

pub returns-then-not-fits : goal.returns-then-not-fits
returns-then-not-fits c =
    field_none c.args.fields.now c.loop-field.field-index _ c.loop-field-test.true (shown c.loop-field.self) c.take_first-fits.ensures.values.0 (parts_left 32 (option_copied c.take_first-fits.result.1)) _
    (next_word c.args.fields.now c.loop-field.field-index (shown c.loop-field.self) c.in-Some.text.now c.take_first-fits.ensures.values.0 (option_copied c.take_first-fits.result.1) _ c.take_first-fits.ensures.values.1 (rw c.in-Some.is at c.loop-field.invariant.1))
    (rw c.if-not-fits.true at c.take_first-fits.ensures.values.2)

pub loop-field-preserved : goal.loop-field-preserved
loop-field-preserved c = (
  omega (arith, c.take_first-fits.ensures.count),
  field_more c.args.fields.now c.loop-field.field-index _ c.loop-field-test.true (shown c.loop-field.self) (shown c.take_first-fits.new.self) c.take_first-fits.ensures.values.0 (parts_left 32 (option_copied c.take_first-fits.result.1)) _
      (next_word c.args.fields.now c.loop-field.field-index (shown c.loop-field.self) c.in-Some.text.now c.take_first-fits.ensures.values.0 (option_copied c.take_first-fits.result.1) _ c.take_first-fits.ensures.values.1 (rw c.in-Some.is at c.loop-field.invariant.1))
      (rw c.if-not-fits.false at c.take_first-fits.ensures.values.2),
)

pub returns : goal.returns
returns c =
    fields_end c.args.fields.now c.loop-field.field-index (shown c.loop-field.self) (option_copied c.loop-field.rest) c.is_none.result _
    c.loop-field-test.false c.loop-field.invariant.1 (is_some_copied c.loop-field.rest ∙ c.is_none.ensures)
