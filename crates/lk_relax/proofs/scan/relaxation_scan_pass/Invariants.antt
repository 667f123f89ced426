use Rattle.std.proofs.Common.{◌≡◌, ◌++◌, drop, map}
use Rattle.lk_relax.specs.Scan.{scanned}
use Rattle.lk_relax.specs.ScanWords.{pass_state_of}
use Rattle.lk_relax.proofs.scan.relaxation_scan_pass.Given as goal

-- what is found so far, followed by what is found in the sections that are left, is all
abbrev pub invariant-loop-section : goal.invariant-loop-section
invariant-loop-section l =
    l.found.items ++ map (scanned (pass_state_of l.before)) (drop l.section-index l.scan) ≡ map (scanned (pass_state_of l.before)) l.scan
