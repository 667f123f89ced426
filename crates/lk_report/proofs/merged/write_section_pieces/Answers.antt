use Rattle.std.proofs.Common.{◌++◌, List, ℕ, rules, arith, ap, ◌∙◌}
use Rattle.std.specs.Prelude.{string_bytes}
use Rattle.lk_report.proofs.PieceLines.{bucket_goes_on, image_lines, pieces_past}
use Rattle.lk_report.proofs.merged.write_section_pieces.Goals as goal

pub loop-bucket-preserved : goal.loop-bucket-preserved
loop-bucket-preserved c =
    bucket_goes_on c.args.number c.loop-bucket.address _ c.buckets-bucket-items.result.now _ c.bucket-item.result _ _ _ (omega arith) c.bucket-item.is
    c.loop-bucket.invariant (search rules) (search rules)

pub returns : goal.returns
returns c =
    pieces_past c.args.number c.loop-bucket.address c.buckets-bucket-items.result.now c.loop-bucket.bucket-index _ _ (omega arith) c.loop-bucket.invariant
    ∙ ap (λ (t : List ℕ). string_bytes c.args.text.now ++ t)
    (image_lines c.image_is_distinct.ensures c.args.number c.args.start _ c.buckets-bucket-items.result.now c.ranges.start.fits c.buckets-bucket-items.ensures.kept)
