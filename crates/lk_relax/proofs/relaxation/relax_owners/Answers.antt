use Rattle.lk_sizes.specs.Owners.{in_output}
use Rattle.lk_relax.specs.Relaxed.{relaxing}
use Rattle.lk_relax.specs.Stages.{Relaxing}
use Rattle.lk_relax.proofs.Beginning.{ends_at_once, first_in_hand}
use Rattle.lk_relax.proofs.relaxation.relax_owners.Goals as goal

pub begin-requires-clause-filled : goal.begin-requires-clause-filled
begin-requires-clause-filled g c = (c.requires.first.0, c.requires.first.1)

pub returns-in-Ok-Ended : goal.returns-in-Ok-Ended
returns-in-Ok-Ended g c = λ filling h placed.
    let by : Relaxing = relaxing (g.P.Platform.segment_start c.args.by.now.platform.now) c.args.by.now.headers (in_output c.args.by.now.link.now c.args.by.now.live.now filling) in
    ends_at_once c.nothing_deleted_leaves_all.ensures by _ c.requires.own h placed (rw c.in-Ok-Ended.field-0-is at (c.in-Ok-Ended.ensures filling h))

pub make_passes-requires-clause-first : goal.make_passes-requires-clause-first
make_passes-requires-clause-first g c =
    let found = c.requires.first.0 in
    let h = c.requires.first.1 in
    let by : Relaxing = relaxing (g.P.Platform.segment_start c.args.by.now.platform.now) c.args.by.now.headers (in_output c.args.by.now.link.now c.args.by.now.live.now found) in
    let first = first_in_hand c.first_is_shrunk.ensures c.nothing_deleted_leaves_all.ensures by c.args.owners c.args.first c.in-Ok-Looks.looks c.in_hand-hand.result c.in_hand-hand.ensures
    c.requires.thunks c.requires.own h c.requires.first.2 (rw c.in-Ok-Looks.field-0-is at (c.in-Ok-Looks.ensures found h)) in
    (found, first.0, first.1)

pub returns-in-Ok-Looks : goal.returns-in-Ok-Looks
returns-in-Ok-Looks g c = λ found h placed.
    let by : Relaxing = relaxing (g.P.Platform.segment_start c.args.by.now.platform.now) c.args.by.now.headers (in_output c.args.by.now.link.now c.args.by.now.live.now found) in
    let first = first_in_hand c.first_is_shrunk.ensures c.nothing_deleted_leaves_all.ensures by c.args.owners c.args.first c.in-Ok-Looks.looks c.in_hand-hand.result c.in_hand-hand.ensures
    c.requires.thunks c.requires.own h placed (rw c.in-Ok-Looks.field-0-is at (c.in-Ok-Looks.ensures found h)) in
    c.make_passes.ensures found first.0 first.1
