use Rattle.std.proofs.Common.{Bool, if◌then◌else◌, ap, sym, ◌∙◌}
use Rattle.lk_link.specs.FileKinds.{is_prelude}
use Rattle.lk_link.specs.Walks.{file_of}
use Rattle.lk_tables.specs.declared.shares.FileShare.{FileShare}
use Rattle.lk_tables.specs.ShareSteps.{early_part}
use Rattle.lk_tables.proofs.ShareTies.{first_share_is}
use Rattle.lk_tables.proofs.shares.first_share.Goals as goal

pub returns-clause-share : goal.returns-clause-share
returns-clause-share g c =
    let sizes = g.P.Platform.table_sizes c.args.platform.now in
    let share : FileShare = c.in_ok-share.share in
    c.early_if.ensures
    ∙ ap (λ (b : Bool). if b then early_part share else share) c.is_prelude.ensures
    ∙ ap (λ (s : FileShare). if is_prelude c.args.file.file.now.kind then early_part s else s) c.in_ok-share.ensures.share
    ∙ sym (first_share_is sizes c.args.link.now c.args.live.now (file_of c.args.file))
