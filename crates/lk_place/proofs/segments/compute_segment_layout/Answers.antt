use Rattle.std.proofs.Common.{arith}
use Rattle.std.proofs.lemmas.Grind.{common_steps}
use Rattle.lk_link.proofs.GoodLinks.{few}
use Rattle.lk_place.proofs.Insides.{can_span}
use Rattle.lk_place.proofs.segments.compute_segment_layout.Goals as goal

pub sections_of_segments-requires : goal.sections_of_segments-requires
sections_of_segments-requires c = (few c.args.link.now c.requires.well_formed).segments

pub outside-requires : goal.outside-requires
outside-requires c = record {
  ready = can_span (record { link = c.args.link; records = c.args.sections; emitted = c.args.emitted; insides = c.deref.result; file = c.args.kind }) c.requires.well_formed c.requires.each (grind (arith, common_steps));
}

pub lay_out_all-requires-clause-ready : goal.lay_out_all-requires-clause-ready
lay_out_all-requires-clause-ready c =
    can_span (record { link = c.args.link; records = c.args.sections; emitted = c.args.emitted; insides = c.deref.result; file = c.args.kind }) c.requires.well_formed c.requires.each (grind (arith, common_steps))
