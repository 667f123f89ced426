use Rattle.std.proofs.Common.{◌+◌, ◌∙◌, ◌∷◌, ap, drop, get_or, subst, sym}
use Rattle.std.proofs.lemmas.List.{drop_more}
use Rattle.lk_link.specs.declared.relocation.RelaxCandidate.{RelaxCandidate}
use Rattle.lk_deltas.specs.Candidates.{is_short}
use Rattle.lk_deltas.proofs.PastLimits.{Look, look_found, look_gone, look_there}
use Rattle.lk_deltas.proofs.candidates.first_beside.Goals as goal
use Rattle.lk_deltas.proofs.candidates.first_beside.Goals.{then-is_at+else-is_short, else-is_at}

pub returns-then-is_short : goal.returns-then-is_short
returns-then-is_short g c =
    let told = g.J.Judge.told c.args.judge.now in
    let cs = c.args.candidates.now in
    let i = c.loop-index.index in
    let p = c.loop-index.passed in
    let none : RelaxCandidate = record { at = 0; limit = 0; del = 0; symbol = 0 } in
    let h : Look told c.args.old.now cs i p (get_or cs i none ∷ drop (i + 1) cs) = subst (Look told c.args.old.now cs i p) (drop_more cs i none c.loop-index-test.true) c.loop-index.invariant in
    sym (look_found told c.args.old.now cs i p (get_or cs i none) (drop (i + 1) cs) h (sym c.is_at.ensures ∙ c.if-is_at.true) (ap is_short (sym c.tell.ensures) ∙ sym c.is_short.ensures ∙ c.if-is_short.true) c.loop-index-test.true)

pub loop-index-preserved : goal.loop-index-preserved
loop-index-preserved g c =
    let told = g.J.Judge.told c.args.judge.now in
    let cs = c.args.candidates.now in
    let i = c.loop-index.index in
    let p = c.loop-index.passed in
    let none : RelaxCandidate = record { at = 0; limit = 0; del = 0; symbol = 0 } in
    let h : Look told c.args.old.now cs i p (get_or cs i none ∷ drop (i + 1) cs) = subst (Look told c.args.old.now cs i p) (drop_more cs i none c.loop-index-test.true) c.loop-index.invariant in
    elim c.if-is_at.branch [
      | then-is_at+else-is_short b ↦
          look_gone told c.args.old.now cs i p c.if-is_at.passed (get_or cs i none) (drop (i + 1) cs) h (sym c.is_at.ensures ∙ b.if-is_at.true) (ap is_short (sym b.tell.ensures) ∙ sym b.is_short.ensures ∙ b.if-is_short.false) b.passed-is
      | else-is_at b ↦ look_there told c.args.old.now cs i p c.if-is_at.passed (get_or cs i none) (drop (i + 1) cs) h (sym c.is_at.ensures ∙ b.if-is_at.false) b.passed-is
    ]
