use Rattle.std.proofs.Common.{length, ap, sym, ◌∙◌}
use Rattle.lk_link.specs.Target.{platform_target}
use Rattle.lk_sizes.specs.Owners.{in_output}
use Rattle.lk_relax.specs.Stages.{Relaxing}
use Rattle.lk_relax.proofs.FirstPlaced.{first_given}
use Rattle.lk_relax.proofs.NoStarts.{length-part_sizes}
use Rattle.lk_relax.proofs.placing.place_first.Goals as goal

pub compute_layout_sections-requires-clause-each : goal.compute_layout_sections-requires-clause-each
compute_layout_sections-requires-clause-each g c =
    let filled = c.requires.filled in
    let filling = in_output c.args.by.now.link.now c.args.by.now.live.now filled.0 in
    ap length (c.deref.ensures.value ∙ c.in_ok-sizes.ensures.sizes filling filled.1.contents) ∙ length-part_sizes filling

pub returns : goal.returns
returns g c = λ filling h.
    let by : Relaxing = record {
      filling = in_output c.args.by.now.link.now c.args.by.now.live.now filling;
      target = platform_target (g.P.Platform.segment_start c.args.by.now.platform.now);
      headers = c.args.by.now.headers;
    } in
    first_given c.answers_go_without_positions.ensures by c.deref.result.now c.in_ok-positions.positions c.compute_layout_sections.result
    (sym h.sizes ∙ c.requires.own)
    (c.deref.ensures.value ∙ c.in_ok-sizes.ensures.sizes by.filling h.contents)
    (c.in_ok-positions.ensures filling h)
    c.compute_layout_sections.ensures
