use Rattle.std.proofs.Common.{◌≡◌, ℕ, List, Option, ap, subst, sym, ◌∙◌}
use Rattle.std.proofs.Math.Path.{fun_ext}
use Rattle.std.specs.Option.{option_copied}
use Rattle.lk_link.specs.declared.relocation.RelaxCandidate.{RelaxCandidate}
use Rattle.lk_deltas.specs.Candidates.{margin, picked, ranges_in}
use Rattle.lk_deltas.specs.Deletions.{AreDeletions}
use Rattle.lk_deltas.specs.declared.candidates.Outcome.{Outcome}
use Rattle.lk_deltas.specs.LinkDeletions.{deleted_of}
use Rattle.lk_relax.specs.Scan.{candidates_of, told}
use Rattle.lk_relax.specs.ScanWords.{judged, pass_state_of}
use Rattle.lk_relax.proofs.Scanning.{are_good, are_numbered}
use Rattle.lk_relax.proofs.scan.scan_section.Goals as goal

pub scan_candidates-requires-clause-rising : goal.scan_candidates-requires-clause-rising
scan_candidates-requires-clause-rising c =
    let before = c.args.before in
    (are_good c.good_candidates_can_go.ensures before.link.now before.deltas.now c.args.file c.args.index c.candidates_of-candidates.result.now c.requires.good c.requires.there c.candidates_of-candidates.ensures.candidates c.candidates_of-candidates.ensures.small).rising

pub scan_candidates-requires-clause-each : goal.scan_candidates-requires-clause-each
scan_candidates-requires-clause-each c =
    let before = c.args.before in
    let cs : List RelaxCandidate = c.candidates_of-candidates.result.now in
    let good = are_good c.good_candidates_can_go.ensures before.link.now before.deltas.now c.args.file c.args.index cs c.requires.good c.requires.there c.candidates_of-candidates.ensures.candidates c.candidates_of-candidates.ensures.small in
    are_numbered before.link.now before.deltas.now c.args.file c.args.index cs c.judge_of-judge.result c.requires.there.file good c.requires.there.there
    c.judge_of-judge.ensures.first c.judge_of-judge.ensures.link (c.judge_of-judge.ensures.own c.requires.there.file c.requires.there.there)

pub new-requires : goal.new-requires
new-requires c =
    let before = c.args.before in
    let cs : List RelaxCandidate = c.candidates_of-candidates.result.now in
    let good = are_good c.good_candidates_can_go.ensures before.link.now before.deltas.now c.args.file c.args.index cs c.requires.good c.requires.there c.candidates_of-candidates.ensures.candidates c.candidates_of-candidates.ensures.small in
    let tells : RelaxCandidate → Outcome = judged c.judge_of-judge.result in
    subst AreDeletions (sym (c.as_slice.ensures.value ∙ c.in_ok-scan.ensures.ranges)) (c.picked_can_go.ensures tells (ranges_in (option_copied c.judge_of-judge.result.deleted)) cs good.rising)

pub returns : goal.returns
returns c =
    let before = c.args.before in
    let id = c.args.file in
    let index : ℕ = c.args.index in
    let cs : List RelaxCandidate = c.candidates_of-candidates.result.now in
    let all : List RelaxCandidate = candidates_of before.link.now.groups id index in
    let tells : RelaxCandidate → Outcome = judged c.judge_of-judge.result in
    let tell : RelaxCandidate → Outcome = told (pass_state_of before) id index in
    let same : tells ≡ tell = fun_ext c.judge_of-judge.ensures.tells in
    let old : Option (List (ℕ × ℕ)) = option_copied c.judge_of-judge.result.deleted in
    let gone : Option (List (ℕ × ℕ)) = deleted_of before.link.now.groups before.deltas.now id index in
    let deleted : old ≡ gone = c.judge_of-judge.ensures.deleted in
    let candidates : cs ≡ all = c.candidates_of-candidates.ensures.candidates in
    let ranges : c.in_ok-deltas.deltas ≡ picked tell (ranges_in gone) all
    = c.in_ok-deltas.ensures ∙ c.as_slice.ensures.value ∙ c.in_ok-scan.ensures.ranges
    ∙ ap (λ (t : RelaxCandidate → Outcome). picked t (ranges_in old) cs) same
    ∙ ap (λ (o : Option (List (ℕ × ℕ))). picked tell (ranges_in o) cs) deleted
    ∙ ap (picked tell (ranges_in gone)) candidates in
    let misses : c.in_ok-scan.scan.margin ≡ margin tell (ranges_in gone) all
    = c.in_ok-scan.ensures.margin
    ∙ ap (λ (t : RelaxCandidate → Outcome). margin t (ranges_in old) cs) same
    ∙ ap (λ (o : Option (List (ℕ × ℕ))). margin tell (ranges_in o) cs) deleted
    ∙ ap (margin tell (ranges_in gone)) candidates in
    ap (λ (rs : List (ℕ × ℕ)). (id, index, rs, c.in_ok-scan.scan.margin)) ranges ∙ ap (λ (m : Option ℕ). (id, index, picked tell (ranges_in gone) all, m)) misses
