use Rattle.std.proofs.Common.{◌≡◌, ap, ◌∙◌}
use Rattle.lk_tables.specs.ShareSteps.{sum_of}
use Rattle.lk_tables.specs.ShareWords.{no_dynamic}
use Rattle.lk_tables.specs.TotalSteps.{dynamic_total, totals_by}
use Rattle.lk_tables.proofs.ShareTies.{first_shares_are}
use Rattle.lk_tables.proofs.TotalLemmas.{first_totals_are}
use Rattle.lk_tables.proofs.totals.first_totals.Goals as goal

pub returns : goal.returns
returns c = λ sizes live h.
    let link = c.args.link.now in
    let sum = sum_of c.args.shares.now in
    let dynamic : c.dynamic_total-dynamic.result ≡ dynamic_total link no_dynamic sum
    = c.dynamic_total-dynamic.ensures ∙ ap (λ d. dynamic_total link d c.sum_shares-sum.result) c.nothing.ensures ∙ ap (dynamic_total link no_dynamic) c.sum_shares-sum.ensures in
    c.totals_by.ensures
    ∙ ap (λ s. totals_by s c.dynamic_total-dynamic.result c.nothing-2.result) c.sum_shares-sum.ensures
    ∙ ap (λ d. totals_by sum d c.nothing-2.result) dynamic
    ∙ ap (totals_by sum (dynamic_total link no_dynamic sum)) c.nothing-2.ensures
    ∙ first_totals_are sizes link live c.args.shares.now (h ∙ first_shares_are sizes link live)
