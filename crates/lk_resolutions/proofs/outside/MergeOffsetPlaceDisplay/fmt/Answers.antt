use Rattle.std.proofs.Common.{sym, subst}
use Rattle.std.specs.Fmt.{HasWritten}
use Rattle.lk_resolutions.specs.declared.outside.MergeOffsetPlace.{MergeOffsetPlace}
use Rattle.lk_resolutions.specs.Texts.{merge_offset_text}
use Rattle.lk_resolutions.proofs.outside.MergeOffsetPlaceDisplay.fmt.Goals as goal

pub returns-in-OfRelocation-clause-writes : goal.returns-in-OfRelocation-clause-writes
returns-in-OfRelocation-clause-writes g c plain ok =
    subst (λ (p : MergeOffsetPlace). HasWritten g.W.Write.write_str_gives c.args.f.now (merge_offset_text p) c.write-in-OfRelocation.new.self) (sym c.in-OfRelocation.is)
    (c.write-in-OfRelocation.ensures.writes plain ok)
