use Rattle.std.proofs.Common.{refl}
use Rattle.lk_map.specs.declared.forms.Form.TheVariants as form
use Rattle.lk_map.specs.Forms.{follows, rank, row_of}
use Rattle.lk_map.specs.MapText.{section_told, segment_told}
use Rattle.lk_map.proofs.Alike.{stands_once, tells_other}
use Rattle.lk_map.proofs.straight.behind_other.Goals as goal

pub returns-in-Part-clause-found : goal.returns-in-Part-clause-found
unfolding section_told segment_told rank row_of follows
returns-in-Part-clause-found c = rw c.in-Part.is (tells_other c.args.line form.Part c.args.text.now c.behind_part.result (λ values. refl) (λ values. refl) refl c.behind_part.ensures.found)

pub returns-in-Live-clause-found : goal.returns-in-Live-clause-found
unfolding section_told segment_told rank row_of follows
returns-in-Live-clause-found c = rw c.in-Live.is (tells_other c.args.line form.Live c.args.text.now c.behind_live.result (λ values. refl) (λ values. refl) refl c.behind_live.ensures.found)

pub returns-in-Single-clause-found : goal.returns-in-Single-clause-found
unfolding section_told segment_told rank row_of follows
returns-in-Single-clause-found c = rw c.in-Single.is (tells_other c.args.line form.Single c.args.text.now c.behind_single.result (λ values. refl) (λ values. refl) refl c.behind_single.ensures.found)

pub returns-in-Merged-clause-found : goal.returns-in-Merged-clause-found
unfolding section_told segment_told rank row_of follows
returns-in-Merged-clause-found c = rw c.in-Merged.is (tells_other c.args.line form.Merged c.args.text.now c.behind_merged.result (λ values. refl) (λ values. refl) refl c.behind_merged.ensures.found)

pub returns-in-Piece-clause-found : goal.returns-in-Piece-clause-found
unfolding section_told segment_told rank row_of follows
returns-in-Piece-clause-found c = rw c.in-Piece.is (tells_other c.args.line form.Piece c.args.text.now c.behind_piece.result (λ values. refl) (λ values. refl) refl c.behind_piece.ensures.found)

pub returns-in-Block-clause-found : goal.returns-in-Block-clause-found
unfolding section_told segment_told rank row_of follows
returns-in-Block-clause-found c = rw c.in-Block.is (tells_other c.args.line form.Block c.args.text.now c.behind_block.result (λ values. refl) (λ values. refl) refl c.behind_block.ensures.found)

pub returns-in-Thunk-clause-found : goal.returns-in-Thunk-clause-found
unfolding section_told segment_told rank row_of follows
returns-in-Thunk-clause-found c = rw c.in-Thunk.is (tells_other c.args.line form.Thunk c.args.text.now c.behind_thunk.result (λ values. refl) (λ values. refl) refl c.behind_thunk.ensures.found)

pub returns-in-Symbol-clause-found : goal.returns-in-Symbol-clause-found
unfolding section_told segment_told rank row_of follows
returns-in-Symbol-clause-found c = rw c.in-Symbol.is (tells_other c.args.line form.Symbol c.args.text.now c.behind_symbol.result (λ values. refl) (λ values. refl) refl c.behind_symbol.ensures.found)

pub returns-in_default-clause-none : goal.returns-in_default-clause-none
returns-in_default-clause-none c no_section no_segment can =
    let no = c.in_default in
    absurd (stands_once c.args.other (no.not-Part, no.not-Live, no.not-Single, no.not-Merged, no.not-Piece, no.not-Block, no.not-Thunk, no.not-Symbol, no_section, no_segment) can)
