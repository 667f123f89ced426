use Rattle.lk_check.proofs.MarkLemmas.{section_exact, start_exact, end_exact, location_exact, relative_exact, relative_refused, address_exact}
use Rattle.lk_check.proofs.events.admits.Goals as goal

pub returns-in-Section-clause-exact : goal.returns-in-Section-clause-exact
returns-in-Section-clause-exact c = λ plan before marks.
    let e = section_exact c.args.script plan before _ _ _ _ _ _ marks c.mark.ensures in
    cc

pub returns-in-SegmentStart-clause-exact : goal.returns-in-SegmentStart-clause-exact
returns-in-SegmentStart-clause-exact c = λ plan before marks.
    let e = start_exact c.args.script plan before _ _ _ _ _ _ marks c.mark-in-SegmentStart.ensures in
    cc

pub returns-then-is_marked-clause-exact : goal.returns-then-is_marked-clause-exact
returns-then-is_marked-clause-exact c = λ plan before marks.
    let e = end_exact c.args.script plan before _ _ _ _ _ _ marks (cc) c.mark-then-is_marked.ensures in
    cc

pub returns-in-SetLocation-clause-exact : goal.returns-in-SetLocation-clause-exact
returns-in-SetLocation-clause-exact c = λ plan before marks.
    let e = location_exact c.args.script plan before c.in-SetLocation.field-0 in
    cc

pub returns-then-script-clause-exact : goal.returns-then-script-clause-exact
returns-then-script-clause-exact c = λ plan before marks.
    let e = relative_exact c.args.script plan before _ _ _ c.in-SetLocationRelative.field-0 c.in-SetLocationRelative.section marks c.if-script.true in
    cc

pub returns-else-script-clause-exact : goal.returns-else-script-clause-exact
returns-else-script-clause-exact c = λ plan before marks.
    let e = relative_refused c.args.script plan before c.in-SetLocationRelative.field-0 c.in-SetLocationRelative.section c.if-script.false in
    cc

pub returns-in-SetSectionAddress-clause-exact : goal.returns-in-SetSectionAddress-clause-exact
returns-in-SetSectionAddress-clause-exact c = λ plan before marks.
    let e = address_exact c.args.script plan before c.in-SetSectionAddress.field-0 in
    cc
