use Rattle.std.proofs.Common.{◌+◌, ◌∙◌, ◌∷◌, ap, arith, drop, get_or, subst, sym}
use Rattle.lk_link.specs.declared.relocation.RelaxCandidate.{RelaxCandidate}
use Rattle.lk_deltas.specs.declared.candidates.Scan.{Scan}
use Rattle.std.proofs.lemmas.List.{drop_more, drop_all}
use Rattle.lk_deltas.proofs.SideBySide.{Walk, walk_begin, walk_end, walk_gone, walk_moved, walk_told}
use Rattle.lk_deltas.proofs.candidates.scan_beside.Goals as goal
use Rattle.lk_deltas.proofs.candidates.scan_beside.Goals.{then-is_at, else-is_at+in_ok-add}

pub loop-candidate-init : goal.loop-candidate-init
loop-candidate-init g c =
    (omega arith, walk_begin (g.J.Judge.told c.args.judge.now) c.args.old.now c.args.candidates.now c.new.result.items c.new.ensures.items c.requires.rising c.requires.some)

pub loop-candidate-preserved : goal.loop-candidate-preserved
loop-candidate-preserved g c =
    let told = g.J.Judge.told c.args.judge.now in
    let cs = c.args.candidates.now in
    let i = c.loop-candidate.candidate-index in
    let p = c.loop-candidate.passed in
    let scan = c.loop-candidate.scan in
    let none : RelaxCandidate = record { at = 0; limit = 0; del = 0; symbol = 0 } in
    let here = get_or cs i none in
    let w : Walk told c.args.old.now cs p scan.ranges.items scan.margin (here ∷ drop (i + 1) cs)
    = subst (Walk told c.args.old.now cs p scan.ranges.items scan.margin) (drop_more cs i none c.loop-candidate-test.true) c.loop-candidate.invariant.1 in
    elim c.if-is_at.branch [
      | then-is_at b ↦ (
        omega (arith, b.passed-is, c.loop-candidate.invariant.0),
        walk_moved told c.args.old.now cs (p + 1) c.if-is_at.passed scan.ranges.items c.if-is_at.scan.ranges.items scan.margin c.if-is_at.scan.margin (drop (i + 1) cs)
            (walk_gone told c.args.old.now cs p scan.ranges.items scan.margin here (drop (i + 1) cs) w (sym c.is_at.ensures ∙ b.if-is_at.true))
            b.passed-is
            (ap (λ (s : Scan). s.ranges.items) b.scan-is)
            (ap (λ (s : Scan). s.margin) b.scan-is),
      )
      | else-is_at+in_ok-add b ↦ (
        omega (arith, b.passed-is, c.loop-candidate.invariant.0),
        walk_told told c.args.old.now cs p c.if-is_at.passed scan.ranges.items c.if-is_at.scan.ranges.items scan.margin c.if-is_at.scan.margin here (drop (i + 1) cs)
            c.is_at.result b.tell.result b.add.new.self w c.is_at.ensures b.if-is_at.false b.tell.ensures b.passed-is
            b.in_ok-add.ensures.ranges
            b.in_ok-add.ensures.margin
            (ap (λ (s : Scan). s.ranges.items) b.scan-is)
            (ap (λ (s : Scan). s.margin) b.scan-is),
      )
    ]

pub returns-clause-ranges : goal.returns-clause-ranges
returns-clause-ranges g c =
    let told = g.J.Judge.told c.args.judge.now in
    let cs = c.args.candidates.now in
    let i = c.loop-candidate.candidate-index in
    let p = c.loop-candidate.passed in
    let scan = c.loop-candidate.scan in
    let w = subst (Walk told c.args.old.now cs p scan.ranges.items scan.margin) (drop_all i cs c.loop-candidate-test.false) c.loop-candidate.invariant.1 in
    (walk_end told c.args.old.now cs p scan.ranges.items scan.margin w).0

pub returns-clause-margin : goal.returns-clause-margin
returns-clause-margin g c =
    let told = g.J.Judge.told c.args.judge.now in
    let cs = c.args.candidates.now in
    let i = c.loop-candidate.candidate-index in
    let p = c.loop-candidate.passed in
    let scan = c.loop-candidate.scan in
    let w = subst (Walk told c.args.old.now cs p scan.ranges.items scan.margin) (drop_all i cs c.loop-candidate-test.false) c.loop-candidate.invariant.1 in
    (walk_end told c.args.old.now cs p scan.ranges.items scan.margin w).1
