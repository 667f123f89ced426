use Rattle.std.proofs.Common.{Err, length, ap, sym, subst, ◌∙◌}
use Rattle.lk_place.specs.Answers.{ArePlaced, GivesPlaced}
use Rattle.lk_place.specs.Setting.{Setting}
use Rattle.lk_place.specs.declared.error.PlaceError.{PlaceError}
use Rattle.lk_sizes.specs.Owners.{Filling, in_output}
use Rattle.lk_relax.specs.RelaxationWords.{GivesPlaces}
use Rattle.lk_relax.specs.Relaxed.{relaxing}
use Rattle.lk_relax.specs.Stages.{Relaxing, filling_after}
use Rattle.lk_relax.proofs.Anew.{places_exit, refused_places, setting_is}
use Rattle.lk_relax.proofs.NoStarts.{length-part_sizes}
use Rattle.lk_relax.proofs.relaxation.make_places.Goals as goal

pub compute_input_section_positions-requires-clause-filled : goal.compute_input_section_positions-requires-clause-filled
compute_input_section_positions-requires-clause-filled g c =
    let by : Relaxing = relaxing (g.P.Platform.segment_start c.args.by.now.platform.now) c.args.by.now.headers (in_output c.args.by.now.link.now c.args.by.now.live.now c.requires.filled.0) in
    (filling_after by c.args.deltas.now, c.requires.filled.1)

pub compute_layout_sections-requires-clause-each : goal.compute_layout_sections-requires-clause-each
compute_layout_sections-requires-clause-each g c =
    let by : Relaxing = relaxing (g.P.Platform.segment_start c.args.by.now.platform.now) c.args.by.now.headers (in_output c.args.by.now.link.now c.args.by.now.live.now c.requires.filled.0) in
    let filling : Filling = filling_after by c.args.deltas.now in
    ap length (c.deref.ensures.value ∙ c.in_ok-sizes.ensures.sizes filling c.requires.filled.1.contents) ∙ length-part_sizes filling

pub returns-in_err-placed : goal.returns-in_err-placed
returns-in_err-placed g c = λ found h.
    let by : Relaxing = relaxing (g.P.Platform.segment_start c.args.by.now.platform.now) c.args.by.now.headers (in_output c.args.by.now.link.now c.args.by.now.live.now found) in
    let deltas = c.args.deltas.now in
    let filling : Filling = filling_after by deltas in
    let is = setting_is by deltas c.deref.result.now c.in_ok-sizes.sizes.items c.in_ok-sections.symbols c.in_ok-sections.sections.items c.deref.ensures.value (c.in_ok-sizes.ensures.sizes filling h.contents) (c.in_ok-sections.ensures.sections filling h) c.in_ok-sections.ensures.symbols in
    places_exit by deltas _ c.from_residual-in_err-placed.result c.from_residual-in_err-placed.ensures.1
    (λ e same. subst (λ (x : PlaceError). GivesPlaces by deltas (Err x)) (sym same)
    (refused_places by deltas c.in_err-placed.field-0.0 (subst (λ (s : Setting). GivesPlaced s (Err c.in_err-placed.field-0.0)) is c.in_err-placed.ensures)))

pub returns : goal.returns
returns g c = λ found h.
    let by : Relaxing = relaxing (g.P.Platform.segment_start c.args.by.now.platform.now) c.args.by.now.headers (in_output c.args.by.now.link.now c.args.by.now.live.now found) in
    let deltas = c.args.deltas.now in
    let filling : Filling = filling_after by deltas in
    let is = setting_is by deltas c.deref.result.now c.in_ok-sizes.sizes.items c.in_ok-sections.symbols c.in_ok-sections.sections.items c.deref.ensures.value (c.in_ok-sizes.ensures.sizes filling h.contents) (c.in_ok-sections.ensures.sections filling h) c.in_ok-sections.ensures.symbols in
    record {
      stands = subst (λ (s : Setting). ArePlaced s c.in_ok-placed.placed) is c.in_ok-placed.ensures;
      sections = c.in_ok-sections.ensures.sections filling h;
      symbols = c.in_ok-sections.ensures.symbols;
    }
