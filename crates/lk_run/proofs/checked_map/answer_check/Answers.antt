use Rattle.std.proofs.Common.{◌≡◌, Ok, Err}
use Rattle.lk_map.specs.declared.map_text.MapError.TheVariants.{NotMap}
use Rattle.lk_map.specs.Written.{Gives}
use Rattle.lk_run.proofs.RunLaws.{check_answers}
use Rattle.lk_run.proofs.checked_map.answer_check.Goals as goal

pub returns-in-Ok : goal.returns-in-Ok
returns-in-Ok c =
    let given : Gives (Ok c.in-Ok.map) c.args.bytes.items = rw (c.in-Ok.is, c.as_slice.ensures.value) at c.read_map-read.ensures.read in
    check_answers c.answer_map.result c.args.bytes.items (Ok (c.in-Ok.map.sections.items, c.in-Ok.map.segments.items)) given c.answer_map.ensures

pub returns-in-Err-NotMap : goal.returns-in-Err-NotMap
returns-in-Err-NotMap c =
    let fault : c.in-Err-NotMap.field-0 ≡ NotMap c.in-Err-NotMap.line = rw c.in-Err-NotMap.is at c.in-Err-NotMap.field-0-is in
    let given : Gives (Err (NotMap c.in-Err-NotMap.line)) c.args.bytes.items = rw (c.in-Err-NotMap.is, fault, c.as_slice.ensures.value) at c.read_map-read.ensures.read in
    check_answers c.answer_no_map.result c.args.bytes.items (Err c.in-Err-NotMap.line) given c.answer_no_map.ensures
