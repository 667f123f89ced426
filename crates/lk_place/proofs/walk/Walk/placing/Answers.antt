use Rattle.std.proofs.Common.{◌≡◌, ◌∙◌}
use Rattle.std.specs.Prelude.{Err}
use Rattle.lk_link.specs.PlanSections.{is_file_backed}
use Rattle.lk_place.specs.declared.error.Refusal.{Refusal}
use Rattle.lk_place.specs.Alignments.{section_alignment}
use Rattle.lk_place.specs.Placement.{end_behind, first_record, first_walked, overflow_at, placed_at, unless}
use Rattle.lk_expressions.specs.Records.{Record}
use Rattle.lk_place.specs.Setting.{part_count, size_at}
use Rattle.lk_place.specs.Walk.{setting_in}
use Rattle.lk_place.proofs.SectionEnds.{first_placed, first_refused, first_walked_below, told_on}
use Rattle.lk_place.proofs.walk.Walk.placing.Goals as goal

pub size-requires : goal.size-requires
size-requires g c = rw c.first_walked-walked.ensures (first_walked_below (setting_in g.P.Platform.segment_start c.args.self.now) c.args.section c.requires.walkable.ready c.requires.in_range)

pub returns-in_err-first-clause-refused : goal.returns-in_err-first-clause-refused
returns-in_err-first-clause-refused g c =
    let setting = setting_in g.P.Platform.segment_start c.args.self.now in
    let s = c.args.section in
    let end = end_behind setting s c.args.begin (part_count setting.plan.sections s) in
    let first : Record = placed_at c.is_file_backed-backed.result c.section_alignment-greatest.result c.size.result c.args.begin in
    let placed : Record = placed_at (is_file_backed setting.plan s) (section_alignment setting s) (size_at setting.sizes (first_walked setting s)) c.args.begin in
    let same : first ≡ placed = cc in
    let is : first ≡ first_record setting s c.args.begin = same ∙ first_placed setting s c.args.begin in
    told_on c.from_residual.result (λ (r : Refusal). Err r ≡ unless (overflow_at end) end) c.in_err-first.field-0.0 c.from_residual.ensures.1
    (first_refused setting s c.args.begin first c.in_err-first.field-0.0 c.requires.walkable.ready c.requires.in_range is c.in_err-first.ensures)
