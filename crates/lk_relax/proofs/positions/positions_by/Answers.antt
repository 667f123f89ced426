use Rattle.std.proofs.Common.{◌≡◌, List, ℕ, Option, length, sym, ap, subst, ◌∙◌}
use Rattle.std.proofs.Math.Facts.{Fits-lt-pow}
use Rattle.lk_sizes.specs.Addresses.{section_addresses}
use Rattle.lk_sizes.specs.Owners.{Filling, in_output}
use Rattle.lk_sizes.specs.PartOwners.{EndsFit}
use Rattle.lk_relax.specs.Positions.{no_starts, section_positions}
use Rattle.lk_relax.specs.PositionWords.{HaveRoom}
use Rattle.lk_relax.proofs.NoStarts.{length-no_starts, no_starts_by_sizes, no_starts_fit}
use Rattle.lk_relax.proofs.Positioned.{have_room, positions_alike}
use Rattle.lk_relax.proofs.positions.positions_by.Goals as goal

pub owner_addresses-requires-clause-starts : goal.owner_addresses-requires-clause-starts
owner_addresses-requires-clause-starts c =
    let link = c.args.link.now in
    let filling : Filling = in_output link c.args.live.now c.requires.filled.0 in
    let starts : c.deref.result.now ≡ no_starts link = c.deref.ensures.value ∙ c.in_ok-starts.ensures ∙ no_starts_by_sizes filling c.args.sizes.now c.requires.filled.2 in
    ap length starts ∙ length-no_starts link

pub owner_addresses-requires-clause-room : goal.owner_addresses-requires-clause-room
owner_addresses-requires-clause-room c =
    let link = c.args.link.now in
    let filling : Filling = in_output link c.args.live.now c.requires.filled.0 in
    let starts : c.deref.result.now ≡ no_starts link = c.deref.ensures.value ∙ c.in_ok-starts.ensures ∙ no_starts_by_sizes filling c.args.sizes.now c.requires.filled.2 in
    let fit : EndsFit filling (no_starts link) = no_starts_fit filling c.args.sizes.now c.requires.filled.2 (λ p. Fits-lt-pow (c.type_inv.sizes p)) in
    (c.requires.filled.0, c.requires.filled.1, subst (EndsFit filling) (sym starts) fit)

pub symbol_positions-requires-clause-room : goal.symbol_positions-requires-clause-room
symbol_positions-requires-clause-room c =
    let link = c.args.link.now in
    let filling : Filling = in_output link c.args.live.now c.requires.filled.0 in
    let starts : c.deref.result.now ≡ no_starts link = c.deref.ensures.value ∙ c.in_ok-starts.ensures ∙ no_starts_by_sizes filling c.args.sizes.now c.requires.filled.2 in
    let fit : EndsFit filling (no_starts link) = no_starts_fit filling c.args.sizes.now c.requires.filled.2 (λ p. Fits-lt-pow (c.type_inv.sizes p)) in
    let places : c.as_slice.result.now ≡ section_addresses filling (no_starts link)
    = c.as_slice.ensures.value ∙ c.in_ok-found.ensures.sections c.requires.filled.0 c.requires.filled.1 ∙ ap (section_addresses filling) starts in
    let sections : c.deref-2.result.now ≡ section_positions filling
    = c.deref-2.ensures.value ∙ c.in_ok-sections.ensures ∙ positions_alike filling c.as_slice.result.now places in
    let room = have_room filling c.args.deltas.now c.requires.good c.requires.live fit (sym c.requires.filled.1.sizes ∙ c.requires.left) in
    subst (λ (ps : List (Option (ℕ × ℕ))). HaveRoom link.groups c.args.deltas.now ps) (sym sections) room

pub returns-clause-sections : goal.returns-clause-sections
returns-clause-sections c = λ found filled.
    let link = c.args.link.now in
    let by : Filling = in_output link c.args.live.now c.requires.filled.0 in
    let filling : Filling = in_output link c.args.live.now found in
    let starts : c.deref.result.now ≡ no_starts link = c.deref.ensures.value ∙ c.in_ok-starts.ensures ∙ no_starts_by_sizes by c.args.sizes.now c.requires.filled.2 in
    let places : c.as_slice.result.now ≡ section_addresses filling (no_starts link)
    = c.as_slice.ensures.value ∙ c.in_ok-found.ensures.sections found filled ∙ ap (section_addresses filling) starts in
    c.in_ok-sections.ensures ∙ positions_alike filling c.as_slice.result.now places
