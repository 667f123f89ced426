use Rattle.std.proofs.Common.{length, ap, ◌∙◌}
use Rattle.lk_link.specs.Parts.{all_parts}
use Rattle.lk_link.proofs.Numbers.{length-made}
use Rattle.lk_sizes.specs.Contents.{contents_of}
use Rattle.lk_sizes.specs.Owners.{Content, content_of, plain_filling, with_thunks}
use Rattle.lk_relax.proofs.Fitted.{added_filled, added_found, plain_filled, plain_found}
use Rattle.lk_relax.proofs.relaxation.own_owners.Goals as goal

pub fitting-requires : goal.fitting-requires
fitting-requires g c =
    let content : Content = content_of c.args.by.now.link.now (g.P.Platform.table_sizes c.args.by.now.platform.now) c.args.by.now.live.now c.args.merged_lens.now in
    plain_found content c.args.thunk_owners.now c.requires.fits c.plain_owners.result c.plain_owners.ensures.owners

pub add_thunks-requires-clause-count : goal.add_thunks-requires-clause-count
add_thunks-requires-clause-count g c =
    let content : Content = content_of c.args.by.now.link.now (g.P.Platform.table_sizes c.args.by.now.platform.now) c.args.by.now.live.now c.args.merged_lens.now in
    let filling = plain_filling content in
    ap length (plain_filled filling c.plain_owners.result c.in_ok-plain.plain c.in_ok-plain.ensures c.plain_owners.ensures.owners).contents ∙ length-made (contents_of filling) (all_parts c.args.by.now.link.now.plan.sections) 0

pub fitting-requires-2 : goal.fitting-requires-2
fitting-requires-2 g c =
    let content : Content = content_of c.args.by.now.link.now (g.P.Platform.table_sizes c.args.by.now.platform.now) c.args.by.now.live.now c.args.merged_lens.now in
    let filling = plain_filling content in
    added_found content c.args.thunk_owners.now c.requires.fits c.add_thunks.result
    (c.add_thunks.ensures filling (plain_filled filling c.plain_owners.result c.in_ok-plain.plain c.in_ok-plain.ensures c.plain_owners.ensures.owners))

pub returns : goal.returns
returns g c =
    let content : Content = content_of c.args.by.now.link.now (g.P.Platform.table_sizes c.args.by.now.platform.now) c.args.by.now.live.now c.args.merged_lens.now in
    let filling = plain_filling content in
    added_filled (with_thunks filling c.args.thunk_owners.now) c.add_thunks.result c.fitting-2.result c.fitting-2.ensures
    (c.add_thunks.ensures filling (plain_filled filling c.plain_owners.result c.in_ok-plain.plain c.in_ok-plain.ensures c.plain_owners.ensures.owners))
