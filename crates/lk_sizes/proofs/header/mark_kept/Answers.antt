use Rattle.std.proofs.Common.{length, ap, ◌∙◌, arith}
use Rattle.std.proofs.lemmas.List.FromFn.{length-map-range_with_len}
use Rattle.lk_sizes.specs.Owners.{content_of}
use Rattle.lk_sizes.proofs.Emitting.{all_kept, kept_by}
use Rattle.lk_sizes.proofs.Made.{one_pushed}
use Rattle.lk_sizes.proofs.header.mark_kept.Goals as goal

pub loop-number-preserved : goal.loop-number-preserved
loop-number-preserved c =
    one_pushed (kept_by c.args.link.now.plan c.args.live.now.kept c.args.by_symbols.now c.args.first_sizes.now) c.loop-number.number c.loop-number.kept.items c.push.new.self.items c.is_kept.result c.in_ok-push.ensures.items c.loop-number.invariant
    c.is_kept.ensures

pub returns : goal.returns
returns c = record {
  count = ap length c.loop-number.invariant ∙ length-map-range_with_len (kept_by c.args.link.now.plan c.args.live.now.kept c.args.by_symbols.now c.args.first_sizes.now) 0 c.loop-number.number ∙ omega arith;
  kept = λ sizes lens first.
      c.loop-number.invariant
      ∙ all_kept (content_of c.args.link.now sizes c.args.live.now lens) c.args.by_symbols.now c.args.first_sizes.now c.loop-number.number c.requires.symbols first (omega arith);
}
