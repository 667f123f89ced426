use Rattle.std.proofs.Common.{List, ℕ, length, ap, ◌∙◌, arith}
use Rattle.lk_image.specs.Stretches.{put}
use Rattle.lk_image.proofs.Pieces.{buckets_hold}
use Rattle.lk_image.proofs.merged.write_image_of.Goals as goal

pub write_buckets-requires : goal.write_buckets-requires
write_buckets-requires c =
    let held = buckets_hold (λ b. b.pieces) c.buckets.result.now c.args.merged.now c.buckets.ensures.kept in
    omega (arith, c.requires, ap length held)

pub returns-clause-written : goal.returns-clause-written
returns-clause-written c =
    let held = buckets_hold (λ b. b.pieces) c.buckets.result.now c.args.merged.now c.buckets.ensures.kept in
    c.write_buckets.ensures.written ∙ ap (λ (zs : List ℕ). put c.args.at zs c.args.image.now) held
