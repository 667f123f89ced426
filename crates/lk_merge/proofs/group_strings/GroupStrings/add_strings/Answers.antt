use Rattle.std.proofs.Common.{◌≡◌, ◌∙◌, ◌+◌, length, ap, sym, arith}
use Rattle.lk_merge.proofs.GroupBrings.{until_end, until_last, until_more}
use Rattle.lk_merge.proofs.group_strings.GroupStrings.add_strings.Goals as goal

pub returns-in_default-clause-made : goal.returns-in_default-clause-made
returns-in_default-clause-made c = until_last c.args.bytes.now c.args.input c.args.start c.args.end c.args.self.now c.taking.rest.now c.taking.at c.taking.self c.taking.invariant c.in_default.ensures.taken.0

pub taking-preserved : goal.taking-preserved
taking-preserved c =
    let len : c.taking.at + length c.as_bytes.result.now ≡ c.taking.at + length c.in-Some.string.bytes.now = ap (λ l. c.taking.at + length l) c.as_bytes.ensures in
    until_more c.args.bytes.now c.args.input c.args.start c.args.end c.args.self.now c.taking.rest.now c.take_string_hashed.new.source.now c.taking.at _ c.taking.self c.add.new.self
    c.in-Some.string.bytes.now c.taking.invariant c.taking-test.true c.in-Some.ensures.taken.0 c.in-Some.ensures.taken.1 len
    (c.in_ok-add.ensures.count ∙ sym (c.taking.invariant.count ∙ c.requires.count)) c.in_ok-add.ensures.made

pub returns-clause-made : goal.returns-clause-made
returns-clause-made c = until_end c.args.bytes.now c.args.input c.args.start c.args.end c.args.self.now c.taking.rest.now c.taking.at c.taking.self c.taking.invariant (omega (arith, c.taking-test.false))
