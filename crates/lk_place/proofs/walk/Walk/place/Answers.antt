use Rattle.std.proofs.Common.{◌∙◌, ℕ, Option, ap, sym}
use Rattle.lk_link.specs.Inside.{placed_section}
use Rattle.lk_place.specs.PlacedBefore.{PlacedRecords, standing_before}
use Rattle.lk_place.specs.Setting.{Setting}
use Rattle.lk_place.specs.Walk.{cursors_of, setting_in}
use Rattle.lk_place.specs.Placement.{placed_by}
use Rattle.lk_place.proofs.Loading.{region_left}
use Rattle.lk_place.proofs.walk.Walk.place.Goals as goal

pub returns-in_ok-behind-in-Section-clause-ends : goal.returns-in_ok-behind-in-Section-clause-ends
returns-in_ok-behind-in-Section-clause-ends g c =
    let setting : Setting = setting_in g.P.Platform.segment_start c.args.self.now in
    let standing : PlacedRecords = standing_before setting.plan c.args.records.now c.args.number in
    region_left setting standing c.in-Section.section c.args.from c.in_ok-behind-in-Section.behind c.leave_region.result c.in_ok-behind-in-Section.ensures.ends c.leave_region.ensures.ends
    ∙ ap (λ (o : Option ℕ). cursors_of (placed_by setting standing o c.args.from)) (sym (ap placed_section c.in-Section.is))
