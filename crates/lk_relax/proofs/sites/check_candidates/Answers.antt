use Rattle.std.proofs.Common.{ap, sym, ◌∙◌, arith, length}
use Rattle.lk_link.specs.declared.section.InputSection.{InputSection}
use Rattle.lk_link.proofs.GoodInputs.{lists_of}
use Rattle.lk_relax.specs.Scan.{told}
use Rattle.lk_relax.specs.ScanWords.{judged, pass_state_of}
use Rattle.lk_relax.proofs.Scanning.{are_numbered}
use Rattle.lk_relax.proofs.PastSites.{found_first, found_none, good_there, is_asked, same_section}
use Rattle.lk_relax.proofs.sites.check_candidates.Goals as goal

pub first_past-requires-clause-rising : goal.first_past-requires-clause-rising
first_past-requires-clause-rising c =
    (good_there c.good_candidates_can_go.ensures c.args.by.link.now c.args.by.deltas.now c.args.file c.args.index c.args.section.now c.relax_of.result.now
    c.requires.good c.requires.can c.requires.section c.relax_of.ensures.candidates c.relax_of.ensures.small).rising

pub first_past-requires-clause-each : goal.first_past-requires-clause-each
first_past-requires-clause-each c =
    let by = c.args.by in
    let good = good_there c.good_candidates_can_go.ensures by.link.now by.deltas.now c.args.file c.args.index c.args.section.now c.relax_of.result.now
    c.requires.good c.requires.can c.requires.section c.relax_of.ensures.candidates c.relax_of.ensures.small in
    are_numbered by.link.now by.deltas.now c.args.file c.args.index c.relax_of.result.now c.judge_of-judge.result c.requires.can.file good c.requires.can.there
    c.judge_of-judge.ensures.first c.judge_of-judge.ensures.link (c.judge_of-judge.ensures.own c.requires.can.file c.requires.can.there)

pub overflow_cast-result : goal.overflow_cast-result
overflow_cast-result c =
    let by = c.args.by in
    let can = c.requires.can in
    let few = lists_of by.link.now c.args.file c.args.index can.file can.section c.requires.good can.there can.at in
    let first = found_first (pass_state_of by) c.args.file c.args.index c.args.section.now.relax c.in-Some.candidate
    (is_asked by.link.now by.deltas.now c.args.file c.args.index (told (pass_state_of by) c.args.file c.args.index) (judged c.judge_of-judge.result) c.args.deleted.now c.args.section.now.relax c.relax_of.result.now
    c.judge_of-judge.ensures.tells c.requires.deleted c.relax_of.ensures.candidates ∙ sym c.first_past.ensures ∙ c.in-Some.is) in
    omega (arith, first.0, few.1, ap (λ (s : InputSection). length s.relax) (same_section by.link.now by.deltas.now c.args.file c.args.index c.args.section.now can c.requires.section))

pub returns-in-Some : goal.returns-in-Some
returns-in-Some c =
    let by = c.args.by in
    (found_first (pass_state_of by) c.args.file c.args.index c.args.section.now.relax c.in-Some.candidate
    (is_asked by.link.now by.deltas.now c.args.file c.args.index (told (pass_state_of by) c.args.file c.args.index) (judged c.judge_of-judge.result) c.args.deleted.now c.args.section.now.relax c.relax_of.result.now
    c.judge_of-judge.ensures.tells c.requires.deleted c.relax_of.ensures.candidates ∙ sym c.first_past.ensures ∙ c.in-Some.is)).1

pub returns-in-None : goal.returns-in-None
returns-in-None c =
    let by = c.args.by in
    found_none (pass_state_of by) c.args.file c.args.index c.args.section.now.relax
    (is_asked by.link.now by.deltas.now c.args.file c.args.index (told (pass_state_of by) c.args.file c.args.index) (judged c.judge_of-judge.result) c.args.deleted.now c.args.section.now.relax c.relax_of.result.now
    c.judge_of-judge.ensures.tells c.requires.deleted c.relax_of.ensures.candidates ∙ sym c.first_past.ensures ∙ c.in-None.is)
