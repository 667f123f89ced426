use Rattle.std.proofs.Common.{◌-◌, sym, subst, arith}
use Rattle.std.specs.Option.{MatchOption}
use Rattle.lk_merge.specs.OffsetMaps.{IsLast, NoneAt, first_twelve, has_no_room, has_room}
use Rattle.lk_merge.proofs.Chosen.{chosen_rise}
use Rattle.lk_merge.proofs.StartLemmas.{apart_last, kept_alone, kept_last, last_before, none_kept}
use Rattle.lk_merge.proofs.offset_map.OffsetMap.last_at.Goals as goal

pub up_to-up_to-requires : goal.up_to-up_to-requires
up_to-up_to-requires c = (_, c.requires.1.kept, chosen_rise has_room c.requires.0 c.requires.2)

pub returns-in_err-checked_sub : goal.returns-in_err-checked_sub
returns-in_err-checked_sub c = λ pieces h rise.
    subst (λ r. MatchOption r (NoneAt pieces c.args.offset) (IsLast pieces c.args.offset)) (sym c.from_residual.ensures)
    (none_kept pieces c.args.offset rise c.up_to-up_to.result (c.up_to-up_to.ensures _ h.kept (chosen_rise has_room pieces rise)) (omega (arith, c.in_err-checked_sub.ensures)))

pub piece-kept-requires : goal.piece-kept-requires
piece-kept-requires c =
    let up_to = c.up_to-up_to.ensures _ c.requires.1.kept (chosen_rise has_room c.requires.0 c.requires.2) in
    let within = up_to.within in
    (_, c.requires.1.kept, omega (arith, within, c.in_ok-checked_sub.ensures))

pub returns-then-saturating_sub-lt-KEPT_IN_BLOCK : goal.returns-then-saturating_sub-lt-KEPT_IN_BLOCK
returns-then-saturating_sub-lt-KEPT_IN_BLOCK c = λ pieces h rise.
    let kept_rise = chosen_rise has_room pieces rise in
    let up_to = c.up_to-up_to.ensures _ h.kept kept_rise in
    let last = last_before (first_twelve pieces) c.args.offset c.up_to-up_to.result c.in_ok-checked_sub.field-0 c.piece-kept.result kept_rise up_to (omega (arith, c.in_ok-checked_sub.ensures)) (c.piece-kept.ensures _ h.kept) in
    kept_last pieces c.args.offset rise c.up_to-up_to.result up_to c.before-2.result c.piece-kept.result last (c.before-2.ensures _ h.kept)
    (omega (arith, c.saturating_sub.ensures, c.if-saturating_sub-lt-KEPT_IN_BLOCK.true))

pub up_to-rest-requires : goal.up_to-rest-requires
up_to-rest-requires c = (_, c.requires.1.rest, chosen_rise has_no_room c.requires.0 c.requires.2)

pub returns-then-rest-before : goal.returns-then-rest-before
returns-then-rest-before c = λ pieces h rise.
    let kept_rise = chosen_rise has_room pieces rise in
    let last = last_before (first_twelve pieces) c.args.offset c.up_to-up_to.result c.in_ok-checked_sub.field-0 c.piece-kept.result kept_rise (c.up_to-up_to.ensures _ h.kept kept_rise) (omega (arith, c.in_ok-checked_sub.ensures)) (c.piece-kept.ensures _ h.kept) in
    kept_alone pieces c.args.offset c.before-3.result c.up_to-rest.result c.piece-kept.result last (c.before-3.ensures _ h.rest) (c.up_to-rest.ensures _ h.rest (chosen_rise has_no_room pieces rise)) c.if-rest-before.true

pub piece-requires : goal.piece-requires
piece-requires c =
    let up_to = c.up_to-rest.ensures _ c.requires.1.rest (chosen_rise has_no_room c.requires.0 c.requires.2) in
    let within = up_to.within in
    (_, c.requires.1.rest, omega (arith, within, c.if-rest-before.false))

pub returns : goal.returns
returns c = λ pieces h rise.
    let kept_rise = chosen_rise has_room pieces rise in
    let last = last_before (first_twelve pieces) c.args.offset c.up_to-up_to.result c.in_ok-checked_sub.field-0 c.piece-kept.result kept_rise (c.up_to-up_to.ensures _ h.kept kept_rise) (omega (arith, c.in_ok-checked_sub.ensures)) (c.piece-kept.ensures _ h.kept) in
    apart_last pieces c.args.offset c.before-3.result c.up_to-rest.result c.piece-kept.result last (c.before-3.ensures _ h.rest) (c.up_to-rest.ensures _ h.rest (chosen_rise has_no_room pieces rise))
    rise (c.up_to-rest.result - 1) c.piece.result (omega (arith, c.if-rest-before.false)) (omega (arith, c.if-rest-before.false)) (c.piece.ensures _ h.rest)
