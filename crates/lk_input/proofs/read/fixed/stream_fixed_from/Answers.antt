use Rattle.std.proofs.Common.{◌≡◌, Err, arith}
use Rattle.lk_input.proofs.Fixed.{fixed-too_deep}
use Rattle.lk_input.proofs.Lists.{items-opened, no_items_there}
use Rattle.lk_input.proofs.read.fixed.stream_fixed_from.Goals as goal

pub returns-in_err-depth-in-BeginArray : goal.returns-in_err-depth-in-BeginArray
returns-in_err-depth-in-BeginArray g c =
    let e = c.in_err-depth-in-BeginArray.field-0.0 in
    let gone : c.from_residual.result ≡ Err e = grind arith in
    rw c.in-BeginArray.is (fixed-too_deep (g.E.Elements.elements 0) c.args.depth c.args.reader.now c.args.reader.now e c.from_residual.result gone c.in_err-depth-in-BeginArray.ensures)

pub returns-in_ok-depth-in-BeginArray : goal.returns-in_ok-depth-in-BeginArray
returns-in_ok-depth-in-BeginArray g c =
    rw (c.in-BeginArray.is, items-opened (g.E.Elements.elements 0) c.args.depth c.in_ok-depth-in-BeginArray.depth c.args.reader.now c.in_ok-depth-in-BeginArray.ensures) c.stream_elements.ensures

pub returns-in_default : goal.returns-in_default
returns-in_default g c = rw (no_items_there (g.E.Elements.elements 0) c.args.depth c.args.token c.args.reader.now c.in_default.not-BeginArray) c.misfit_from.ensures
