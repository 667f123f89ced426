use Rattle.std.proofs.Common.{All, ℕ, List, sym, subst}
use Rattle.lk_link.specs.declared.ids.FileId.{FileId}
use Rattle.lk_deltas.specs.LinkDeletions.{Deletions}
use Rattle.lk_relax.specs.Scan.{CanBeScanned}
use Rattle.lk_relax.proofs.passes.look.Goals as goal

pub relaxation_scan_pass-requires-clause-scan : goal.relaxation_scan_pass-requires-clause-scan
relaxation_scan_pass-requires-clause-scan c =
    let groups = c.args.link.now.groups in
    let Can : Deletions → List (FileId × ℕ) → Type 0 = λ ds qs. All (λ q. CanBeScanned groups ds q.0 q.1) qs in
    subst (λ ds. Can ds c.deref-3.result.now) (sym c.deref-2.ensures.value) (subst (Can c.args.hand.now.deltas.items) (sym c.deref-3.ensures.value) c.requires.stage.1.shrunk.scan)
