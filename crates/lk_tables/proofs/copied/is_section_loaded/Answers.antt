use Rattle.std.proofs.Common.{◌+◌, Bool, List, ◌&&◌, ◌||◌, not, sym, ap, ◌∙◌}
use Rattle.lk_link.specs.InputSlots.{is_discarded, is_merge}
use Rattle.lk_link.specs.Marks.{is_marked}
use Rattle.lk_link.specs.Walks.{file_of}
use Rattle.lk_tables.proofs.Loaded.{loaded_there, none_loaded}
use Rattle.lk_tables.proofs.copied.is_section_loaded.Goals as goal

pub returns-in-Some : goal.returns-in-Some
returns-in-Some c = λ link at.
    let slot = c.in-Some.section.now.slot in
    c.is_loaded_by.ensures
    ∙ ap (λ (b : Bool). not (is_discarded slot) && (is_merge slot || b)) c.is_marked-is_live.ensures
    ∙ ap (λ (marks : List Bool). not (is_discarded slot) && (is_merge slot || is_marked marks (c.args.first_input + c.args.index))) c.as_slice.ensures
    ∙ loaded_there link c.args.live.now (file_of c.args.file) c.args.first_input c.args.index c.in-Some.section.now at (sym c.in-Some.ensures)

pub returns-in-None : goal.returns-in-None
returns-in-None c = λ link at. none_loaded link c.args.live.now (file_of c.args.file) c.args.first_input c.args.index at (sym c.in-None.ensures)
