use Rattle.std.proofs.Common.{◌+◌, ap, ◌∙◌, Bool, List, refl}
use Rattle.lk_link.specs.Parts.{first_part}
use Rattle.lk_live.specs.KeptParts.{for_sections, part_keeps, section_keeps}
use Rattle.lk_live.proofs.KeepLemmas.{kept_same, kept_whole, same_for_all}
use Rattle.lk_live.proofs.keep.kept_marks.Goals as goal

pub returns : goal.returns
returns c =
    let link = c.args.link.now in
    let live : List Bool = c.args.pass.now.live.items in
    let parts : List Bool = c.args.pass.now.parts.items in
    let same = same_for_all (part_keeps link parts) (section_keeps link live)
    (λ o. kept_same link o live parts (first_part link.plan.sections o) (first_part link.plan.sections (o + 1)) c.requires.parts refl refl) 0 link.plan.sections in
    kept_whole link live c.args.marks.now c.in_ok-kept.kept.items c.keep_named.new.kept.items (c.in_ok-kept.ensures ∙ ap (λ ps. for_sections (part_keeps link ps) link) c.as_slice.ensures.value ∙ same) c.keep_named.ensures.count c.keep_named.ensures.marks
