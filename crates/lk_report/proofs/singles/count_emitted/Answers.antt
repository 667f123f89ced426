use Rattle.std.proofs.Common.{ap, arith}
use Rattle.std.specs.Prelude.{is_some}
use Rattle.std.specs.List.{count_by}
use Rattle.std.proofs.lemmas.List.{take_all}
use Rattle.std.proofs.lemmas.List.Sums.{count_by-le-length}
use Rattle.lk_report.proofs.singles.count_emitted.Goals as goal

pub returns-clause-value : goal.returns-clause-value
returns-clause-value c =
    omega (
      arith,
      c.loop-told.invariant,
      ap (count_by is_some) (take_all c.loop-told.told-index c.args.indexes.now (omega arith)),
      count_by-le-length is_some c.args.indexes.now,
      c.length_of-len.ensures.value,
      c.length_of-len.ensures.room,
    )

pub returns-clause-room : goal.returns-clause-room
returns-clause-room c =
    omega (
      arith,
      c.loop-told.invariant,
      ap (count_by is_some) (take_all c.loop-told.told-index c.args.indexes.now (omega arith)),
      count_by-le-length is_some c.args.indexes.now,
      c.length_of-len.ensures.value,
      c.length_of-len.ensures.room,
    )
