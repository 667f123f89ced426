use Rattle.std.proofs.Common.{◌≡◌, ◌++◌, ℕ, List, Option, length, map, drop, take, ap, sym, subst, ◌∙◌, arith, rules, refl}
use Rattle.std.specs.Prelude.{unwrap_or}
use Rattle.std.specs.List.{range_with_len, slice_index}
use Rattle.std.specs.Option.{option_map_or}
use Rattle.std.proofs.lemmas.List.{map_push, take_at}
use Rattle.lk_live.specs.declared.live.Live.{Live}
use Rattle.lk_link.specs.declared.walks.FileRef.{FileRef}
use Rattle.lk_link.specs.Inputs.{NumberedFile, numbered_files}
use Rattle.lk_link.specs.Parts.{all_parts}
use Rattle.lk_link.specs.Walks.{file_of}
use Rattle.lk_reach.proofs.Numbered.{are_numbered, file_at}
use Rattle.lk_reach.proofs.WalkLemmas.{file_turn}
use Rattle.lk_tables.specs.declared.commons.Common.{Common}
use Rattle.lk_sizes.specs.declared.owners.PartContents.{PartContents}
use Rattle.lk_sizes.specs.declared.addresses.CommonAddress.{CommonAddress}
use Rattle.lk_sizes.specs.declared.sorted.InputSortedSection.{InputSortedSection}
use Rattle.lk_sizes.specs.Addresses.{block_addresses, common_addresses, primary_address, section_addresses}
use Rattle.lk_sizes.specs.Contents.{contents_of}
use Rattle.lk_sizes.specs.Harvest.{sorted_sections}
use Rattle.lk_sizes.specs.Owners.{Filling, bytes_owned, common_taker, commons_of, in_output, own_sizes}
use Rattle.lk_sizes.specs.OwnersRecord.{OwnersRecord}
use Rattle.lk_sizes.specs.PartOwners.{EndsFit}
use Rattle.lk_sizes.specs.Tables.{ArePassed, AreSortedThere, AreTheirs, AreWritten, CommonsGo, HaveSortedSpace, HaveSpace, behind_leading, block_places, block_takers, common_places}
use Rattle.lk_sizes.proofs.BlockOnes.{all_blocks, next_blocks, still_blocks}
use Rattle.lk_sizes.proofs.CommonOnes.{file_goes, next_left, still_left}
use Rattle.lk_sizes.proofs.FilledOwners.{filled, filled_fit, filled_is, handed}
use Rattle.lk_sizes.proofs.Made.{made_map}
use Rattle.lk_sizes.proofs.Placed.{AreDone, IsNextFile, block_space, common_space, ends_count, file_done, section_space}
use Rattle.lk_sizes.proofs.SortedPlaces.{all_written, early_count, sorted_space, sorted_there, theirs}
use Rattle.lk_sizes.proofs.Takers.{finish_of, turn_of}
use Rattle.lk_sizes.proofs.addresses.owner_addresses.Goals as goal

pub behind_leading-requires-clause-images : goal.behind_leading-requires-clause-images
behind_leading-requires-clause-images c =
    let link = c.args.link.now in
    let live : Live = c.args.live.now in
    let filling : Filling = in_output link live c.requires.room.0 in
    ap (map (λ (p : PartContents). p.has_image)) (c.contents.ensures ∙ c.requires.room.1.contents)
    ∙ made_map (λ (p : PartContents). p.has_image) (contents_of filling) (all_parts link.plan.sections) 0

pub files-file-items-requires : goal.files-file-items-requires
files-file-items-requires c =
    are_numbered c.args.link.now c.requires.good

pub place_sections-requires-clause-there : goal.place_sections-requires-clause-there
place_sections-requires-clause-there c =
    let link = c.args.link.now in
    let at = file_turn (numbered_files link.groups) c.into_iter-file-iterator.result c.loop-file.file-iterator c.next.new.self c.loop-file.yielded c.in-Some.file (cc) c.loop-file.yielded_by c.in-Some.ensures.steps in
    (file_at link.groups _ (file_of c.in-Some.file) at).there

pub split_commons-requires-clause-there : goal.split_commons-requires-clause-there
split_commons-requires-clause-there c =
    let link = c.args.link.now in
    let at = file_turn (numbered_files link.groups) c.into_iter-file-iterator.result c.loop-file.file-iterator c.next.new.self c.loop-file.yielded c.in-Some.file (cc) c.loop-file.yielded_by c.in-Some.ensures.steps in
    (file_at link.groups _ (file_of c.in-Some.file) at).there

pub place_sections-requires-clause-count : goal.place_sections-requires-clause-count
place_sections-requires-clause-count c =
    let link = c.args.link.now in
    let live : Live = c.args.live.now in
    let owners : OwnersRecord = c.args.owners.now in
    let starts : List ℕ = c.args.starts.now in
    let filling : Filling = filled link live owners c.requires.room.0.content.sizes in
    let ends : List ℕ = map (behind_leading link owners.lens starts) (range_with_len 0 (length starts)) in
    let done = c.loop-file.invariant.done filling.content.sizes in
    let count : length c.loop-file.next.items ≡ length (all_parts link.plan.sections)
    = omega (arith, done.passed.count, ends_count filling.content starts ends refl, c.requires.starts) in
    ap length c.deref_mut.ensures.value ∙ count

pub place_sections-requires-clause-space : goal.place_sections-requires-clause-space
place_sections-requires-clause-space c =
    let link = c.args.link.now in
    let live : Live = c.args.live.now in
    let owners : OwnersRecord = c.args.owners.now in
    let starts : List ℕ = c.args.starts.now in
    let filling : Filling = filled link live owners c.requires.room.0.content.sizes in
    let fit : EndsFit filling starts = filled_fit link live owners c.requires.room.0 starts c.requires.room.1 c.requires.room.2 in
    let ends : List ℕ = map (behind_leading link owners.lens starts) (range_with_len 0 (length starts)) in
    let given : option_map_or (λ s. s.now) c.sizes-sizes.result (own_sizes link) ≡ unwrap_or owners.sizes (own_sizes link)
    = handed c.sizes-sizes.result owners.sizes (own_sizes link) c.sizes-sizes.ensures in
    let f : NumberedFile = file_of c.in-Some.file in
    let files : List NumberedFile = map file_of c.loop-file.yielded in
    let turn = turn_of file_of (numbered_files link.groups) c.into_iter-file-iterator.result c.loop-file.file-iterator c.next.new.self c.loop-file.yielded c.in-Some.file (cc) c.loop-file.yielded_by c.in-Some.ensures.steps in
    let next : IsNextFile link files f = record { rest = turn.0; splits = turn.1 } in
    let done = c.loop-file.invariant.done filling.content.sizes in
    rw (c.deref_mut.ensures.value, given) (section_space filling starts ends files f c.loop-file.next.items next fit refl done.passed)

pub place_commons-requires-clause-goes : goal.place_commons-requires-clause-goes
place_commons-requires-clause-goes c =
    let link = c.args.link.now in
    let live : Live = c.args.live.now in
    let f : NumberedFile = file_of c.in-Some.file in
    let files : List NumberedFile = map file_of c.loop-file.yielded in
    let at = file_turn (numbered_files link.groups) c.into_iter-file-iterator.result c.loop-file.file-iterator c.next.new.self c.loop-file.yielded c.in-Some.file (cc) c.loop-file.yielded_by c.in-Some.ensures.steps in
    let turn = turn_of file_of (numbered_files link.groups) c.into_iter-file-iterator.result c.loop-file.file-iterator c.next.new.self c.loop-file.yielded c.in-Some.file (cc) c.loop-file.yielded_by c.in-Some.ensures.steps in
    let left = next_left link live files f turn.0 c.loop-file.left.now turn.1 c.loop-file.invariant.commons in
    let own = c.split_commons.ensures.own live left in
    subst (CommonsGo link) (sym own) (file_goes link live f c.requires.good (file_at link.groups _ f at).there)

pub place_commons-requires-clause-count : goal.place_commons-requires-clause-count
place_commons-requires-clause-count c =
    let link = c.args.link.now in
    let live : Live = c.args.live.now in
    let owners : OwnersRecord = c.args.owners.now in
    let starts : List ℕ = c.args.starts.now in
    let filling : Filling = filled link live owners c.requires.room.0.content.sizes in
    let ends : List ℕ = map (behind_leading link owners.lens starts) (range_with_len 0 (length starts)) in
    let done = c.loop-file.invariant.done filling.content.sizes in
    let count : length c.loop-file.next.items ≡ length (all_parts link.plan.sections)
    = omega (arith, done.passed.count, ends_count filling.content starts ends refl, c.requires.starts) in
    let later : List ℕ = c.place_sections.new.next in
    let long : length later ≡ c.loop-file.next.len = search rules in
    let value = c.deref_mut-in-loop-file.ensures.value ∙ take_at later (drop (length later) c.loop-file.next.items) c.loop-file.next.len long in
    omega (arith, ap length value, c.in_ok-place_sections.ensures.moved.count, ap length c.deref_mut.ensures.value, count)

pub place_commons-requires-clause-space : goal.place_commons-requires-clause-space
place_commons-requires-clause-space c =
    let link = c.args.link.now in
    let live : Live = c.args.live.now in
    let owners : OwnersRecord = c.args.owners.now in
    let starts : List ℕ = c.args.starts.now in
    let filling : Filling = filled link live owners c.requires.room.0.content.sizes in
    let fit : EndsFit filling starts = filled_fit link live owners c.requires.room.0 starts c.requires.room.1 c.requires.room.2 in
    let ends : List ℕ = map (behind_leading link owners.lens starts) (range_with_len 0 (length starts)) in
    let given : option_map_or (λ s. s.now) c.sizes-sizes.result (own_sizes link) ≡ unwrap_or owners.sizes (own_sizes link)
    = handed c.sizes-sizes.result owners.sizes (own_sizes link) c.sizes-sizes.ensures in
    let f : NumberedFile = file_of c.in-Some.file in
    let files : List NumberedFile = map file_of c.loop-file.yielded in
    let turn = turn_of file_of (numbered_files link.groups) c.into_iter-file-iterator.result c.loop-file.file-iterator c.next.new.self c.loop-file.yielded c.in-Some.file (cc) c.loop-file.yielded_by c.in-Some.ensures.steps in
    let next : IsNextFile link files f = record { rest = turn.0; splits = turn.1 } in
    let done = c.loop-file.invariant.done filling.content.sizes in
    let later : List ℕ = c.place_sections.new.next in
    let long : length later ≡ c.loop-file.next.len = search rules in
    let value = c.deref_mut-in-loop-file.ensures.value ∙ take_at later (drop (length later) c.loop-file.next.items) c.loop-file.next.len long in
    let sections = rw (c.deref_mut.ensures.value, given) at c.in_ok-place_sections.ensures in
    let left = next_left link live files f turn.0 c.loop-file.left.now turn.1 c.loop-file.invariant.commons in
    let own = c.split_commons.ensures.own live left in
    rw value (subst (λ (cs : List Common). HaveSpace link later (map common_taker cs)) (sym own)
    (common_space filling starts ends files f c.loop-file.next.items later next fit refl done.passed sections.moved))

pub place_block-requires-clause-count : goal.place_block-requires-clause-count
place_block-requires-clause-count c =
    let link = c.args.link.now in
    let live : Live = c.args.live.now in
    let owners : OwnersRecord = c.args.owners.now in
    let starts : List ℕ = c.args.starts.now in
    let filling : Filling = filled link live owners c.requires.room.0.content.sizes in
    let ends : List ℕ = map (behind_leading link owners.lens starts) (range_with_len 0 (length starts)) in
    let given : option_map_or (λ s. s.now) c.sizes-sizes.result (own_sizes link) ≡ unwrap_or owners.sizes (own_sizes link)
    = handed c.sizes-sizes.result owners.sizes (own_sizes link) c.sizes-sizes.ensures in
    let f : NumberedFile = file_of c.in-Some.file in
    let files : List NumberedFile = map file_of c.loop-file.yielded in
    let turn = turn_of file_of (numbered_files link.groups) c.into_iter-file-iterator.result c.loop-file.file-iterator c.next.new.self c.loop-file.yielded c.in-Some.file (cc) c.loop-file.yielded_by c.in-Some.ensures.steps in
    let done = c.loop-file.invariant.done filling.content.sizes in
    let count : length c.loop-file.next.items ≡ length (all_parts link.plan.sections)
    = omega (arith, done.passed.count, ends_count filling.content starts ends refl, c.requires.starts) in
    let later : List ℕ = c.place_sections.new.next in
    let long : length later ≡ c.loop-file.next.len = search rules in
    let value = c.deref_mut-in-loop-file.ensures.value ∙ take_at later (drop (length later) c.loop-file.next.items) c.loop-file.next.len long in
    let left = next_left link live files f turn.0 c.loop-file.left.now turn.1 c.loop-file.invariant.commons in
    let own = c.split_commons.ensures.own live left in
    let last : List ℕ = c.place_commons.new.next in
    let placed = rw value at c.in_ok-place_commons.ensures in
    let passed : ArePassed link later (map common_taker (commons_of link live f)) last = subst (λ (cs : List Common). ArePassed link later (map common_taker cs) last) own placed.moved in
    let last_long : length last ≡ c.loop-file.next.len = omega (arith, passed.count, long) in
    let middle : List ℕ = take c.loop-file.next.len (later ++ drop (length later) c.loop-file.next.items) in
    let last_value = c.deref_mut-in-loop-file-2.ensures.value ∙ take_at last (drop (length last) middle) c.loop-file.next.len last_long in
    omega (arith, ap length last_value, last_long, long, c.in_ok-place_sections.ensures.moved.count, ap length c.deref_mut.ensures.value, count)

pub place_block-requires-clause-space : goal.place_block-requires-clause-space
place_block-requires-clause-space c =
    let link = c.args.link.now in
    let live : Live = c.args.live.now in
    let owners : OwnersRecord = c.args.owners.now in
    let starts : List ℕ = c.args.starts.now in
    let filling : Filling = filled link live owners c.requires.room.0.content.sizes in
    let fit : EndsFit filling starts = filled_fit link live owners c.requires.room.0 starts c.requires.room.1 c.requires.room.2 in
    let ends : List ℕ = map (behind_leading link owners.lens starts) (range_with_len 0 (length starts)) in
    let given : option_map_or (λ s. s.now) c.sizes-sizes.result (own_sizes link) ≡ unwrap_or owners.sizes (own_sizes link)
    = handed c.sizes-sizes.result owners.sizes (own_sizes link) c.sizes-sizes.ensures in
    let f : NumberedFile = file_of c.in-Some.file in
    let files : List NumberedFile = map file_of c.loop-file.yielded in
    let turn = turn_of file_of (numbered_files link.groups) c.into_iter-file-iterator.result c.loop-file.file-iterator c.next.new.self c.loop-file.yielded c.in-Some.file (cc) c.loop-file.yielded_by c.in-Some.ensures.steps in
    let next : IsNextFile link files f = record { rest = turn.0; splits = turn.1 } in
    let done = c.loop-file.invariant.done filling.content.sizes in
    let later : List ℕ = c.place_sections.new.next in
    let long : length later ≡ c.loop-file.next.len = search rules in
    let value = c.deref_mut-in-loop-file.ensures.value ∙ take_at later (drop (length later) c.loop-file.next.items) c.loop-file.next.len long in
    let sections = rw (c.deref_mut.ensures.value, given) at c.in_ok-place_sections.ensures in
    let left = next_left link live files f turn.0 c.loop-file.left.now turn.1 c.loop-file.invariant.commons in
    let own = c.split_commons.ensures.own live left in
    let last : List ℕ = c.place_commons.new.next in
    let placed = rw value at c.in_ok-place_commons.ensures in
    let passed : ArePassed link later (map common_taker (commons_of link live f)) last = subst (λ (cs : List Common). ArePassed link later (map common_taker cs) last) own placed.moved in
    let last_long : length last ≡ c.loop-file.next.len = omega (arith, passed.count, long) in
    let middle : List ℕ = take c.loop-file.next.len (later ++ drop (length later) c.loop-file.next.items) in
    let last_value = c.deref_mut-in-loop-file-2.ensures.value ∙ take_at last (drop (length last) middle) c.loop-file.next.len last_long in
    let waiting = next_blocks link owners.thunks files f turn.0 c.loop-file.waiting.now c.requires.thunks turn.1 c.loop-file.invariant.owned in
    let block : c.split_block-block.result.0 ≡ bytes_owned owners.thunks f.id = c.split_block-block.ensures.own link owners.thunks waiting in
    let space : HaveSpace link last (block_takers link f.id (bytes_owned owners.thunks f.id))
    = block_space filling starts ends files f c.loop-file.next.items later last next fit refl done.passed sections.moved passed in
    (f.id, rw last_value (subst (λ (o : Option ℕ). HaveSpace link last (block_takers link f.id o)) (sym block) space))

pub loop-file-preserved : goal.loop-file-preserved
loop-file-preserved c =
    let link = c.args.link.now in
    let live : Live = c.args.live.now in
    let owners : OwnersRecord = c.args.owners.now in
    let starts : List ℕ = c.args.starts.now in
    let ends : List ℕ = map (behind_leading link owners.lens starts) (range_with_len 0 (length starts)) in
    let given : option_map_or (λ s. s.now) c.sizes-sizes.result (own_sizes link) ≡ unwrap_or owners.sizes (own_sizes link)
    = handed c.sizes-sizes.result owners.sizes (own_sizes link) c.sizes-sizes.ensures in
    let f : NumberedFile = file_of c.in-Some.file in
    let files : List NumberedFile = map file_of c.loop-file.yielded in
    let turn = turn_of file_of (numbered_files link.groups) c.into_iter-file-iterator.result c.loop-file.file-iterator c.next.new.self c.loop-file.yielded c.in-Some.file (cc) c.loop-file.yielded_by c.in-Some.ensures.steps in
    let next : IsNextFile link files f = record { rest = turn.0; splits = turn.1 } in
    let at = file_turn (numbered_files link.groups) c.into_iter-file-iterator.result c.loop-file.file-iterator c.next.new.self c.loop-file.yielded c.in-Some.file (cc) c.loop-file.yielded_by c.in-Some.ensures.steps in
    let there = (file_at link.groups _ f at).there in
    let later : List ℕ = c.place_sections.new.next in
    let long : length later ≡ c.loop-file.next.len = search rules in
    let value = c.deref_mut-in-loop-file.ensures.value ∙ take_at later (drop (length later) c.loop-file.next.items) c.loop-file.next.len long in
    let sections = rw (c.deref_mut.ensures.value, given) at c.in_ok-place_sections.ensures in
    let left = next_left link live files f turn.0 c.loop-file.left.now turn.1 c.loop-file.invariant.commons in
    let own = c.split_commons.ensures.own live left in
    let last : List ℕ = c.place_commons.new.next in
    let placed = rw value at c.in_ok-place_commons.ensures in
    let passed : ArePassed link later (map common_taker (commons_of link live f)) last = subst (λ (cs : List Common). ArePassed link later (map common_taker cs) last) own placed.moved in
    let last_long : length last ≡ c.loop-file.next.len = omega (arith, passed.count, long) in
    let middle : List ℕ = take c.loop-file.next.len (later ++ drop (length later) c.loop-file.next.items) in
    let last_value = c.deref_mut-in-loop-file-2.ensures.value ∙ take_at last (drop (length last) middle) c.loop-file.next.len last_long in
    let waiting = next_blocks link owners.thunks files f turn.0 c.loop-file.waiting.now c.requires.thunks turn.1 c.loop-file.invariant.owned in
    let block : c.split_block-block.result.0 ≡ bytes_owned owners.thunks f.id = c.split_block-block.ensures.own link owners.thunks waiting in
    let told = subst (λ (cs : List Common). c.place_commons.new.addresses.items ≡ c.loop-file.commons.items ++ common_places link later cs) own placed.told in
    let end : List ℕ = c.place_block.new.next in
    let owned = rw last_value at c.in_ok-place_block.ensures in
    let moved : ArePassed link last (block_takers link f.id (bytes_owned owners.thunks f.id)) end
    = subst (λ (o : Option ℕ). ArePassed link last (block_takers link f.id o) end) block (owned.moved f.id) in
    let blocks = subst (λ (o : Option ℕ). c.place_block.new.addresses.items ≡ c.loop-file.owned.items ++ block_places link last o) block owned.told in
    let end_long : length end ≡ c.loop-file.next.len = omega (arith, moved.count, last_long) in
    let behind : List ℕ = take c.loop-file.next.len (last ++ drop (length last) middle) in
    let taken = take_at end (drop (length end) behind) c.loop-file.next.len end_long in
    record {
      done = λ tables. rw (map_push file_of c.loop-file.yielded c.in-Some.file, taken)
          (file_done (filled link live owners tables) starts ends files f c.loop-file.next.items later last end c.loop-file.sections.items c.place_sections.new.addresses.items c.loop-file.commons.items
          c.place_commons.new.addresses.items c.loop-file.owned.items c.place_block.new.addresses.items next c.requires.good c.requires.live there c.requires.starts refl (c.loop-file.invariant.done tables)
          sections.moved sections.told passed told moved blocks);
      commons = still_left link live c.loop-file.yielded c.in-Some.file c.split_commons.result.0.now c.split_commons.result.1.now c.loop-file.left.now own c.split_commons.ensures.all c.loop-file.invariant.commons;
      owned = still_blocks owners.thunks c.loop-file.yielded c.in-Some.file c.split_block-block.result.0 c.split_block-block.result.1.now c.loop-file.waiting.now block c.split_block-block.ensures.all c.loop-file.invariant.owned;
    }

-- when the files are done
files_done : (filling : Filling) (starts ends : List ℕ) (yielded : List FileRef) (next sections : List ℕ) (commons : List CommonAddress) (blocks : List ℕ)
    → map file_of yielded ≡ numbered_files filling.content.link.groups → AreDone filling starts ends (map file_of yielded) next sections commons blocks
    → AreDone filling starts ends (numbered_files filling.content.link.groups) next sections commons blocks
files_done filling starts ends yielded next sections commons blocks all h =
    subst (λ (fs : List NumberedFile). AreDone filling starts ends fs next sections commons blocks) all h

pub with_sorted-sections-requires-clause-there : goal.with_sorted-sections-requires-clause-there
with_sorted-sections-requires-clause-there c =
    let link = c.args.link.now in
    let live : Live = c.args.live.now in
    let owners : OwnersRecord = c.args.owners.now in
    let starts : List ℕ = c.args.starts.now in
    let filling : Filling = filled link live owners c.requires.room.0.content.sizes in
    let ends : List ℕ = map (behind_leading link owners.lens starts) (range_with_len 0 (length starts)) in
    let done = c.loop-file.invariant.done filling.content.sizes in
    let count : length c.loop-file.next.items ≡ length (all_parts link.plan.sections)
    = omega (arith, done.passed.count, ends_count filling.content starts ends refl, c.requires.starts) in
    let sorted : c.sorted.result.now ≡ sorted_sections link live filling.sizes = c.sorted.ensures ∙ c.requires.room.1.sorted ∙ ap (sorted_sections link live) (sym c.requires.room.1.sizes) in
    subst (AreSortedThere link (length c.loop-file.next.items)) (sym sorted)
    (sorted_there link live filling.sizes (length c.loop-file.next.items) c.requires.good c.requires.live count)

pub with_sorted-sections-requires-clause-count : goal.with_sorted-sections-requires-clause-count
with_sorted-sections-requires-clause-count c =
    let link = c.args.link.now in
    let live : Live = c.args.live.now in
    let owners : OwnersRecord = c.args.owners.now in
    let starts : List ℕ = c.args.starts.now in
    let filling : Filling = filled link live owners c.requires.room.0.content.sizes in
    let ends : List ℕ = map (behind_leading link owners.lens starts) (range_with_len 0 (length starts)) in
    let all = finish_of file_of (numbered_files link.groups) c.into_iter-file-iterator.result c.loop-file.file-iterator c.next.new.self c.loop-file.yielded (cc) c.loop-file.yielded_by c.in-None.ensures.steps in
    let done = files_done (filled link live owners c.requires.room.0.content.sizes) starts ends c.loop-file.yielded c.loop-file.next.items c.loop-file.sections.items c.loop-file.commons.items c.loop-file.owned.items all (c.loop-file.invariant.done c.requires.room.0.content.sizes) in
    early_count filling starts c.loop-file.sections.items done.addresses

pub with_sorted-sections-requires-clause-space : goal.with_sorted-sections-requires-clause-space
with_sorted-sections-requires-clause-space c =
    let link = c.args.link.now in
    let live : Live = c.args.live.now in
    let owners : OwnersRecord = c.args.owners.now in
    let starts : List ℕ = c.args.starts.now in
    let filling : Filling = filled link live owners c.requires.room.0.content.sizes in
    let fit : EndsFit filling starts = filled_fit link live owners c.requires.room.0 starts c.requires.room.1 c.requires.room.2 in
    let ends : List ℕ = map (behind_leading link owners.lens starts) (range_with_len 0 (length starts)) in
    let all = finish_of file_of (numbered_files link.groups) c.into_iter-file-iterator.result c.loop-file.file-iterator c.next.new.self c.loop-file.yielded (cc) c.loop-file.yielded_by c.in-None.ensures.steps in
    let done = files_done (filled link live owners c.requires.room.0.content.sizes) starts ends c.loop-file.yielded c.loop-file.next.items c.loop-file.sections.items c.loop-file.commons.items c.loop-file.owned.items all (c.loop-file.invariant.done c.requires.room.0.content.sizes) in
    let sorted : c.sorted.result.now ≡ sorted_sections link live filling.sizes = c.sorted.ensures ∙ c.requires.room.1.sorted ∙ ap (sorted_sections link live) (sym c.requires.room.1.sizes) in
    subst (HaveSortedSpace c.loop-file.next.items) (sym sorted) (sorted_space filling starts ends c.loop-file.next.items fit refl done.passed)

pub returns-clause-sections : goal.returns-clause-sections
returns-clause-sections c = λ given h.
    let link = c.args.link.now in
    let live : Live = c.args.live.now in
    let owners : OwnersRecord = c.args.owners.now in
    let starts : List ℕ = c.args.starts.now in
    let filling : Filling = filled link live owners given.content.sizes in
    let ends : List ℕ = map (behind_leading link owners.lens starts) (range_with_len 0 (length starts)) in
    let next : List ℕ = c.loop-file.next.items in
    let all = finish_of file_of (numbered_files link.groups) c.into_iter-file-iterator.result c.loop-file.file-iterator c.next.new.self c.loop-file.yielded (cc) c.loop-file.yielded_by c.in-None.ensures.steps in
    let done = files_done (filled link live owners given.content.sizes) starts ends c.loop-file.yielded c.loop-file.next.items c.loop-file.sections.items c.loop-file.commons.items c.loop-file.owned.items all (c.loop-file.invariant.done given.content.sizes) in
    let sorted : c.sorted.result.now ≡ sorted_sections link live filling.sizes = c.sorted.ensures ∙ h.sorted ∙ ap (sorted_sections link live) (sym h.sizes) in
    let table : ℕ → ℕ = slice_index (section_addresses filling starts) in
    let each : AreTheirs link table next c.sorted.result.now = subst (AreTheirs link table next) (sym sorted)
    (theirs filling starts ends next c.requires.good c.requires.live c.requires.starts refl done.passed) in
    let written : AreWritten link table (sorted_sections link live filling.sizes) c.loop-file.sections.items c.with_sorted-sections.result.items
    = subst (λ (ss : List InputSortedSection). AreWritten link table ss c.loop-file.sections.items c.with_sorted-sections.result.items) sorted (c.with_sorted-sections.ensures table each) in
    all_written filling starts c.loop-file.sections.items c.with_sorted-sections.result.items done.addresses written
    ∙ ap (λ (g : Filling). section_addresses g starts) (filled_is link live owners given h)

pub returns-clause-commons : goal.returns-clause-commons
returns-clause-commons c = λ given h.
    let link = c.args.link.now in
    let live : Live = c.args.live.now in
    let owners : OwnersRecord = c.args.owners.now in
    let starts : List ℕ = c.args.starts.now in
    let ends : List ℕ = map (behind_leading link owners.lens starts) (range_with_len 0 (length starts)) in
    let all = finish_of file_of (numbered_files link.groups) c.into_iter-file-iterator.result c.loop-file.file-iterator c.next.new.self c.loop-file.yielded (cc) c.loop-file.yielded_by c.in-None.ensures.steps in
    let done = files_done (filled link live owners given.content.sizes) starts ends c.loop-file.yielded c.loop-file.next.items c.loop-file.sections.items c.loop-file.commons.items c.loop-file.owned.items all (c.loop-file.invariant.done given.content.sizes) in
    done.told ∙ ap (λ (g : Filling). common_addresses g starts) (filled_is link live owners given h)

pub returns-clause-blocks : goal.returns-clause-blocks
returns-clause-blocks c = λ given h.
    let link = c.args.link.now in
    let live : Live = c.args.live.now in
    let owners : OwnersRecord = c.args.owners.now in
    let starts : List ℕ = c.args.starts.now in
    let filling : Filling = filled link live owners given.content.sizes in
    let ends : List ℕ = map (behind_leading link owners.lens starts) (range_with_len 0 (length starts)) in
    let all = finish_of file_of (numbered_files link.groups) c.into_iter-file-iterator.result c.loop-file.file-iterator c.next.new.self c.loop-file.yielded (cc) c.loop-file.yielded_by c.in-None.ensures.steps in
    let done = files_done (filled link live owners given.content.sizes) starts ends c.loop-file.yielded c.loop-file.next.items c.loop-file.sections.items c.loop-file.commons.items c.loop-file.owned.items all (c.loop-file.invariant.done given.content.sizes) in
    done.blocks
    ∙ ap (map (λ q. primary_address filling starts q.0)) (all_blocks link owners.thunks c.requires.thunks)
    ∙ ap (λ (g : Filling). block_addresses g starts) (filled_is link live owners given h)
