use Rattle.std.proofs.Common.{◌<◌, arith}
use Rattle.lk_merge.proofs.GroupCuts.{first_at_start, first_found, first_missing, first_past_end}
use Rattle.lk_merge.proofs.group_strings.first_string.Goals as goal

pub returns-then-offset-eq0-clause-rest : goal.returns-then-offset-eq0-clause-rest
returns-then-offset-eq0-clause-rest c = λ input at. first_at_start input at c.args.offset c.args.bytes.now (omega (arith, c.if-offset-eq0.true))

pub returns-then-offset-bytes-clause-rest : goal.returns-then-offset-bytes-clause-rest
returns-then-offset-bytes-clause-rest c = λ input at. first_past_end input at c.args.offset c.args.bytes.now (omega (arith, c.if-offset-bytes.true))

pub returns-in-Some-clause-rest : goal.returns-in-Some-clause-rest
returns-in-Some-clause-rest c = λ input at.
    let some : 0 < c.args.offset = omega (arith, c.if-offset-eq0.false) in
    first_found input at c.args.offset c.args.bytes.now _ some (omega (arith, c.if-offset-bytes.false)) c.split_at.ensures.back c.in-Some.last c.in-Some.ensures

pub returns-in-None-clause-rest : goal.returns-in-None-clause-rest
returns-in-None-clause-rest c = λ input at.
    let some : 0 < c.args.offset = omega (arith, c.if-offset-eq0.false) in
    first_missing input at c.args.offset c.args.bytes.now _ some (omega (arith, c.if-offset-bytes.false)) c.split_at.ensures.back c.in-None.ensures
