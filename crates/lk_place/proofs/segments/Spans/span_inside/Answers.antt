use Rattle.std.proofs.Common.{◌≡◌, ◌∙◌, ℕ, List, [], ap, arith, drop, length, map}
use Rattle.std.specs.Prelude.{filter}
use Rattle.std.proofs.Math.Seq.{drop-length}
use Rattle.lk_link.specs.Marks.{is_marked}
use Rattle.lk_expressions.specs.Records.{Record, record_at}
use Rattle.lk_place.specs.Segments.{counts}
use Rattle.lk_place.proofs.HullLaws.{hull_reached}
use Rattle.lk_place.proofs.segments.Spans.span_inside.Goals as goal

pub returns : goal.returns
returns c =
    let records : List Record = c.args.self.now.records.now in
    let inside : List ℕ = c.args.inside.now in
    let counted : List ℕ → List Record = λ ss. map (record_at records) (filter (counts c.args.self.now.link.now.plan records (is_marked c.args.self.now.emitted.now) c.args.segment) ss) in
    let last : c.loop-section.section-index ≡ length inside = omega (arith, c.loop-section-test.false, c.loop-section.auto.section-index-end) in
    let none : counted (drop c.loop-section.section-index inside) ≡ [] = ap (λ (n : ℕ). counted (drop n inside)) last ∙ ap counted (drop-length inside) in
    hull_reached c.loop-section.all (counted inside) (counted (drop c.loop-section.section-index inside)) c.nothing.result c.unwrap_or.result none c.loop-section.invariant c.nothing.ensures c.unwrap_or.ensures
