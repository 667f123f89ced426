use Rattle.std.proofs.Common.{sym}
use Rattle.lk_map.specs.Spans.{counts_in_file}
use Rattle.lk_map.proofs.Following.{decides_all, decides_first, decides_more, decides_none, decides_same, follow_all, follow_first, follow_more, follow_same}
use Rattle.lk_map.proofs.Goodness.{file_span}
use Rattle.lk_map.proofs.Holders.{some_section}
use Rattle.lk_map.proofs.spans.follow_in_file.Goals as goal
use Rattle.lk_map.proofs.spans.follow_in_file.Goals.{then-counts_in_file_of+in-Some, else-counts_in_file_of}

pub loop-section-init : goal.loop-section-init
loop-section-init c = (follow_first, decides_first counts_in_file file_span c.args.sections.now)

pub loop-section-preserved : goal.loop-section-preserved
loop-section-preserved c = elim c.if-counts_in_file_of.branch [
  | then-counts_in_file_of+in-Some w ↦ (rw w.end-is (
    follow_more counts_in_file file_span c.args.sections.now c.loop-section.section-index c.loop-section.end some_section w.in-Some.behind c.loop-section-test.true c.loop-section.invariant.0
        (sym (w.if-counts_in_file_of.ensures {u = tt})) w.in-Some.ensures.end,
    decides_more counts_in_file file_span c.args.sections.now c.loop-section.end c.loop-section.section-index some_section c.loop-section-test.true c.loop-section.invariant.1 w.in-Some.behind
        (sym (w.if-counts_in_file_of.ensures {u = tt})) w.in-Some.ensures.end w.in-Some.ensures.none,
  ))
  | else-counts_in_file_of w ↦ (rw w.end-is (
    follow_same counts_in_file file_span c.args.sections.now c.loop-section.section-index c.loop-section.end some_section c.loop-section-test.true c.loop-section.invariant.0
        (sym (w.if-counts_in_file_of.ensures {u = tt})),
    decides_same counts_in_file file_span c.args.sections.now c.loop-section.end c.loop-section.section-index some_section c.loop-section-test.true c.loop-section.invariant.1
        (sym (w.if-counts_in_file_of.ensures {u = tt})),
  ))
]

pub returns-in_default-clause-order : goal.returns-in_default-clause-order
returns-in_default-clause-order c =
    decides_none counts_in_file file_span c.args.sections.now c.loop-section.end c.loop-section.section-index some_section c.loop-section-test.true c.loop-section.invariant.1
    (sym (c.if-counts_in_file_of.ensures {u = tt})) c.in_default.ensures.none

pub returns-clause-apart : goal.returns-clause-apart
returns-clause-apart c = λ _. follow_all counts_in_file file_span c.args.sections.now c.loop-section.section-index c.loop-section.end c.loop-section-test.false c.loop-section.invariant.0

pub returns-clause-order : goal.returns-clause-order
returns-clause-order c = decides_all counts_in_file file_span c.args.sections.now c.loop-section.end c.loop-section.section-index c.loop-section-test.false c.loop-section.invariant.1
