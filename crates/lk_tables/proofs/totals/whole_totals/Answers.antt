use Rattle.std.proofs.Common.{◌≡◌, true, ap, ◌∙◌}
use Rattle.lk_tables.specs.declared.totals.TableTotals.{TableTotals}
use Rattle.lk_tables.specs.ShareSteps.{dynamic_share, plus, sum_of}
use Rattle.lk_tables.specs.TotalSteps.{dynamic_total, totals_by}
use Rattle.lk_tables.proofs.ShareTies.{first_shares_are, prelude_share_is}
use Rattle.lk_tables.proofs.TotalLemmas.{whole_totals_are}
use Rattle.lk_tables.proofs.totals.whole_totals.Goals as goal

pub returns : goal.returns
returns g c =
    let sizes = g.P.Platform.table_sizes c.args.platform.now in
    let link = c.args.link.now in
    let sum = plus (sum_of c.args.shares.now) c.args.prelude in
    let all : c.plus-sum.result ≡ sum = c.plus-sum.ensures ∙ ap (λ s. plus s c.args.prelude) c.sum_shares.ensures in
    let own : c.dynamic_share-own.result ≡ dynamic_share true sizes.symbol_entry 0
    = c.dynamic_share-own.ensures ∙ ap (λ n. dynamic_share true n 0) c.symbol_entry.ensures in
    let dynamic : c.dynamic_total-dynamic.result ≡ dynamic_total link (dynamic_share true sizes.symbol_entry 0) sum
    = c.dynamic_total-dynamic.ensures ∙ ap (λ d. dynamic_total link d c.plus-sum.result) own ∙ ap (dynamic_total link (dynamic_share true sizes.symbol_entry 0)) all in
    record {
      headers = ap (λ (t : TableTotals). t.section_headers) c.totals_by.ensures ∙ c.header_sizes.ensures.headers;
      names = ap (λ (t : TableTotals). t.shstrtab) c.totals_by.ensures ∙ c.header_sizes.ensures.names;
      all = λ live told counts h i.
          c.totals_by.ensures
          ∙ ap (λ s. totals_by s c.dynamic_total-dynamic.result c.header_sizes.result) all
          ∙ ap (λ d. totals_by sum d c.header_sizes.result) dynamic
          ∙ ap (totals_by sum (dynamic_total link (dynamic_share true sizes.symbol_entry 0) sum)) (c.header_sizes.ensures.all live counts)
          ∙ whole_totals_are sizes link live told c.args.header.now.emitted c.args.header.now.active_segment_ids
          (g.met.P.Platform.sizes_are_lawful c.args.platform.now).file_header c.args.shares.now c.args.prelude (h ∙ first_shares_are sizes link live) (i ∙ prelude_share_is sizes link live told);
    }
