use Rattle.std.proofs.Common.{◌≡◌, ◌∙◌, ℕ, List, [], ap, arith, drop, length}
use Rattle.std.proofs.Math.Seq.{drop-length}
use Rattle.lk_expressions.specs.Records.{Record}
use Rattle.lk_place.proofs.HullLaws.{hull_reached}
use Rattle.lk_place.proofs.hulls.hull_of.Goals as goal

pub returns : goal.returns
returns c =
    let records : List Record = c.args.records.now in
    let last : c.loop-one.one-index ≡ length records = omega (arith, c.loop-one-test.false, c.loop-one.auto.one-index-end) in
    let none : drop c.loop-one.one-index records ≡ [] = ap (λ (n : ℕ). drop n records) last ∙ drop-length records in
    hull_reached c.loop-one.all records (drop c.loop-one.one-index records) c.nothing.result c.unwrap_or.result none c.loop-one.invariant c.nothing.ensures c.unwrap_or.ensures
