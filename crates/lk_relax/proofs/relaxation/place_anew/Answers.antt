use Rattle.std.proofs.Common.{Err, refl, sym, subst}
use Rattle.lk_sizes.specs.Owners.{in_output}
use Rattle.lk_sizes.specs.Sizing.{AreFilled}
use Rattle.lk_deltas.specs.LinkDeletions.{Deletions}
use Rattle.lk_relax.specs.RelaxationWords.{ArePlaces, GivesPlaces}
use Rattle.lk_relax.specs.Relaxed.{relaxing}
use Rattle.lk_relax.specs.Stages.{Relaxing, filling_after}
use Rattle.lk_relax.proofs.Anew.{refused_anew}
use Rattle.lk_relax.proofs.relaxation.place_anew.Goals as goal

pub make_places-requires-clause-filled : goal.make_places-requires-clause-filled
make_places-requires-clause-filled g c =
    let by : Relaxing = relaxing (g.P.Platform.segment_start c.args.by.now.platform.now) c.args.by.now.headers (in_output c.args.by.now.link.now c.args.by.now.live.now c.requires.filled.0) in
    (c.requires.filled.0, subst (λ (ds : Deletions). AreFilled (filling_after by ds) c.args.passed.owners) (sym c.deref.ensures.value) c.requires.filled.1)

pub returns-in-Ok : goal.returns-in-Ok
returns-in-Ok g c = λ found h.
    let by : Relaxing = relaxing (g.P.Platform.segment_start c.args.by.now.platform.now) c.args.by.now.headers (in_output c.args.by.now.link.now c.args.by.now.live.now found) in
    let same = c.deref.ensures.value in
    let filled = subst (λ (ds : Deletions). AreFilled (filling_after by ds) c.args.passed.owners) (sym same) h in
    let are = subst (λ (ds : Deletions). ArePlaces by ds c.in-Ok.places) same (c.in-Ok.ensures found filled) in
    record {
      owners = refl;
      deltas = refl;
      scan = refl;
      stands = are.stands;
      sections = are.sections;
      symbols = are.symbols;
    }

pub returns-in-Err : goal.returns-in-Err
returns-in-Err g c = λ found h.
    let by : Relaxing = relaxing (g.P.Platform.segment_start c.args.by.now.platform.now) c.args.by.now.headers (in_output c.args.by.now.link.now c.args.by.now.live.now found) in
    let same = c.deref.ensures.value in
    let filled = subst (λ (ds : Deletions). AreFilled (filling_after by ds) c.args.passed.owners) (sym same) h in
    refused_anew by c.args.passed c.in-Err.error (subst (λ (ds : Deletions). GivesPlaces by ds (Err c.in-Err.error)) same (c.in-Err.ensures found filled))
