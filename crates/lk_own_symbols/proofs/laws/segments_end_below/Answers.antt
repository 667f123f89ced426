use Rattle.std.proofs.Common.{◌≡◌, Option, Some, None}
use Rattle.std.specs.Prelude.{option_and_then}
use Rattle.std.specs.Option.{option_or}
use Rattle.lk_place.specs.Segments.{end_refusal, first_outside, outside_refusal, segment_layouts, thread_local_one}
use Rattle.lk_own_symbols.proofs.laws.segments_end_below.Goals as goal

neither : {X : Type 0} (a b : Option X) → option_or a b ≡ None → b ≡ None
neither None b h = h
neither (Some x) b h = absurd (cc)

pub returns : goal.returns
returns c = λ kind link records emitted active h.
    neither (outside_refusal (first_outside link records emitted))
    (option_and_then end_refusal (thread_local_one link.plan (segment_layouts kind link.plan link.options.stack records emitted active))) h
