use Rattle.std.proofs.Common.{◌≡◌, ℕ, List, Option, length, ap, ◌∙◌, arith}
use Rattle.std.specs.Prelude.{unwrap_or}
use Rattle.lk_tables.specs.declared.commons.Common.{Common}
use Rattle.lk_sizes.specs.Tables.{reach_from}
use Rattle.lk_sizes.proofs.CommonOnes.{reach_within}
use Rattle.lk_sizes.proofs.commons.split_at_symbol.Goals as goal

pub split_at-requires : goal.split_at-requires
split_at-requires c =
    let commons : List Common = c.args.commons.now in
    let place : c.unwrap_or-place.result ≡ reach_from c.args.end commons
    = c.unwrap_or-place.ensures ∙ ap (λ (o : Option ℕ). unwrap_or o (length commons)) c.first_from.ensures in
    omega (arith, place, reach_within c.args.end commons)
