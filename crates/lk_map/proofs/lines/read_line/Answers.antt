use Rattle.lk_map.specs.Reading.{forms, words_of}
use Rattle.lk_map.specs.Values.{shown}
use Rattle.lk_map.proofs.Among.{form_fits, form_none, form_not}
use Rattle.lk_map.proofs.lines.read_line.Goals as goal

pub returns-then-take_all : goal.returns-then-take_all
returns-then-take_all c =
    form_fits forms c.loop-form.form-index c.loop-form-test.true (words_of c.args.line.now) _ c.loop-form.invariant
    c.fields.result.now (shown c.take_all.new.self) c.fields.ensures.fields (rw c.if-take_all.true at c.take_all.ensures)

pub loop-form-preserved : goal.loop-form-preserved
loop-form-preserved c =
    form_not forms c.loop-form.form-index c.loop-form-test.true (words_of c.args.line.now) _ c.loop-form.invariant
    c.fields.result.now c.fields.ensures.fields (rw c.if-take_all.false at c.take_all.ensures)

pub returns : goal.returns
returns c = form_none forms c.loop-form.form-index (words_of c.args.line.now) _ c.loop-form-test.false c.loop-form.invariant
