use Rattle.std.proofs.Common.{sym, ◌∙◌}
use Rattle.lk_tables.proofs.ShareTies.{prelude_share_is}
use Rattle.lk_tables.proofs.shares.mark_prelude.Goals as goal

pub returns : goal.returns
returns g c =
    c.late_shares.ensures ∙ sym (prelude_share_is (g.P.Platform.table_sizes c.args.platform.now) c.args.link.now c.args.live.now c.args.told.now)
