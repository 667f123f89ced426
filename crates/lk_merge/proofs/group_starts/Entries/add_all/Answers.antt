use Rattle.std.proofs.Common.{◌≡◌, ◌∙◌, ◌++◌, ◌∷◌, [], List, length, map, take, sym, ap, subst, append_assoc, arith}
use Rattle.std.proofs.lemmas.List.{take_all}
use Rattle.lk_merge.specs.GroupStarts.{HasEntries}
use Rattle.lk_merge.specs.Inputs.{Located}
use Rattle.lk_merge.specs.MergingTables.{entry_of, pieces_in}
use Rattle.lk_merge.proofs.KeptStarts.{starts_count}
use Rattle.lk_merge.proofs.Placing.{next_piece}
use Rattle.lk_merge.proofs.group_starts.Entries.add_all.Goals as goal

pub loop-index-preserved : goal.loop-index-preserved
loop-index-preserved c = λ all done more rest is are h.
    let k = c.loop-index.index in
    let here = c.in_ok-start.ensures more are in
    let next = next_piece more k here.piece here.there in
    let split : all ≡ (done ++ take k more) ++ here.piece ∷ (next.rest ++ rest)
    = is ∙ ap (λ (ls : List Located). done ++ (ls ++ rest)) next.split ∙ ap (λ (ls : List Located). done ++ ls) (append_assoc (take k more) (here.piece ∷ next.rest) rest)
    ∙ sym (append_assoc done (take k more) (here.piece ∷ (next.rest ++ rest))) in
    subst (λ ls. HasEntries all ls c.add.new.self) (append_assoc done (take k more) (here.piece ∷ []) ∙ ap (λ (ls : List Located). done ++ ls) (sym next.one))
    (c.in_ok-add.ensures all (done ++ take k more) (next.rest ++ rest) here.piece split here.starts here.goes (c.loop-index.invariant all done more rest is are h))

pub returns : goal.returns
returns c = λ all done more rest is are h.
    let count : length c.args.starts.now.offsets.items ≡ length more = starts_count more c.args.starts.now are in
    subst (λ ls. HasEntries all (done ++ ls) c.loop-index.self) (take_all c.loop-index.index more (omega (arith, count, c.len-index-end.ensures, c.loop-index-test.false))) (c.loop-index.invariant all done more rest is are
    (record { places = h.places; taken = h.taken; entries = c.make_room.ensures (map (entry_of (pieces_in all)) done) h.entries }))
