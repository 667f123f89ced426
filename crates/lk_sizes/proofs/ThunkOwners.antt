-- The blocks of thunks that files own stand among the owners of the primary part.
use Rattle.std.proofs.Common.{◌≡◌, ◌+◌, List, ◌++◌, length, map, Some, refl, ap}
use Rattle.std.specs.List.{slice_get}
use Rattle.lk_link.specs.declared.link.LinkInput.{LinkInput}
use Rattle.lk_link.specs.Inputs.{NumberedFile, numbered_files}
use Rattle.lk_link.specs.Symbols.{file_number}
use Rattle.lk_link.proofs.Elements.{append_left, append_right, flat_map_in}
use Rattle.lk_link.proofs.InputLemmas.{file_stands}
use Rattle.lk_sizes.specs.Owners.{Taker, all_file_takers, common_taker, commons_of, file_takers, live_of, section_taker, sorted_takers, takers, thunk_taker, thunk_takers}
use Rattle.lk_sizes.specs.PartOwners.{ThunksAreOwners, thunk_key}
use Rattle.lk_sizes.proofs.Addressing.{among, stands_behind, stands_there}
use Rattle.lk_sizes.proofs.OwnerKeys.{blocks_once}
use Rattle.lk_sizes.proofs.ThunkTakers.{block_there}

-- a file's block is one of its takers
pub thunks_are_owners : ThunksAreOwners
thunks_are_owners filling id file p size there is of =
    let link : LinkInput = filling.content.link in
    let f : NumberedFile = record { id = id; file = file } in
    let sections : List Taker = map (section_taker filling) (live_of link filling.content.live f) in
    let commons : List Taker = map common_taker (commons_of link filling.content.live f) in
    let t : Taker = thunk_taker id p size in
    let one : slice_get (thunk_takers filling f) 0 ≡ Some t = ap (λ (ts : List Taker). slice_get ts 0) (block_there filling f p size is of) in
    let behind = append_right commons (thunk_takers filling f) 0 (length commons + 0) t refl one in
    let in_file = append_right sections (commons ++ thunk_takers filling f) (length commons + 0) (length sections + (length commons + 0)) t refl behind in
    let whole = flat_map_in (file_takers filling) (numbered_files link.groups) (file_number link.groups id) (length sections + (length commons + 0)) f t
    (file_stands link.groups id file there) in_file in
    let split = among (takers filling) whole.0 t (append_left (all_file_takers filling) (sorted_takers filling) whole.0 t whole.1) in
    stands_there (thunk_key link) (file_number link.groups id) filling split.front t
    (stands_behind (thunk_key link) (file_number link.groups id) filling split.front t split.rest split.splits refl (blocks_once filling p))
