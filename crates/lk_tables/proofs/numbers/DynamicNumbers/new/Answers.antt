use Rattle.std.proofs.Common.{ap, ◌∙◌, refl, arith}
use Rattle.lk_tables.specs.declared.shares.FileShare.{FileShare}
use Rattle.lk_tables.specs.ShareSteps.{plus}
use Rattle.lk_tables.proofs.NumberLemmas.{count_is, numbers_begin}
use Rattle.lk_tables.proofs.ShareTies.{first_shares_are, prelude_share_is}
use Rattle.lk_tables.proofs.numbers.DynamicNumbers.new.Goals as goal

pub returns : goal.returns
returns c = λ sizes live told good h i.
    let count = ap (λ (s : FileShare). s.dynamic.count) (c.plus-count.ensures ∙ ap (λ s. plus s c.args.prelude) c.sum_shares.ensures)
    ∙ count_is sizes c.args.link.now live told c.args.shares.now c.args.prelude (h ∙ first_shares_are sizes c.args.link.now live) (i ∙ prelude_share_is sizes c.args.link.now live told) in
    numbers_begin c.args.link.now live told c.plus-count.result.dynamic.count _ good count refl (λ few. omega (arith, few, c.min.ensures))
