use Rattle.std.proofs.Common.{rules, ◌≡◌, List, length, sym, ap, ◌∙◌, subst}
use Rattle.std.proofs.lemmas.List.{nil_from_length}
use Rattle.lk_live.specs.declared.error.ReferenceFault.{ReferenceFault}
use Rattle.lk_live.specs.Faults.{faults_by, reference_faults}
use Rattle.lk_reach.specs.Marks.{flag_words, reached_marks}
use Rattle.lk_live.specs.KeptParts.{live_by}
use Rattle.lk_live.specs.Reach.{AreLive}
use Rattle.lk_live.proofs.Living.{are_live}
use Rattle.lk_live.proofs.traversal.live_unless.Goals as goal

pub returns : goal.returns
returns c =
    let link = c.args.link.now in
    let walk = c.args.walk.now in
    let walked = c.requires.walked in
    let told : live_by link walk.marks.items walk.words.items ≡ live_by link (reached_marks link) (flag_words link)
    = ap (λ ms. live_by link ms walk.words.items) walked.marks ∙ ap (live_by link (reached_marks link)) walked.words in
    let faults : List ReferenceFault = c.args.faults.items in
    let all : faults ≡ reference_faults link = c.requires.faults ∙ ap (faults_by link) walked.marks in
    let none : length faults ≡ 0 = search rules in
    (subst (AreLive link) (sym (c.in_ok-live_after.ensures ∙ told)) (are_live link c.requires.well_formed), sym all ∙ nil_from_length faults none)
