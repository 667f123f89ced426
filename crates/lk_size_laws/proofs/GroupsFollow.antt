-- The ranges of groups in a part follow each other.
use Rattle.std.proofs.Common.{◌≡◌, ℕ, suc, ◌+◌, ◌<◌, List, [], ◌∷◌, ◌++◌, append_assoc, drop, get_or, length, length-append, map, take, sym, ap, ◌∙◌, arith}
use Rattle.std.specs.List.{flat_map}
use Rattle.std.proofs.lemmas.Grind.{flat_map-append}
use Rattle.std.proofs.lemmas.List.{append-nil, length-take, take-append-drop, take_more}
use Rattle.lk_link.specs.declared.file.InputFile.{InputFile}
use Rattle.lk_link.specs.Inputs.{NumberedFile, files_from, group_files, numbered_files}
use Rattle.lk_size_laws.specs.GroupRanges.{GroupsFollow, group_owners, owners_before_group, unsorted_owners}
use Rattle.lk_sizes.specs.Owners.{EntryOwner, Filling, Owner, file_takers, leading_of, owners_in, sorted_takers}
use Rattle.lk_sizes.specs.PartOwners.{address_of_owner, owners_of, tables_of}
use Rattle.lk_tables.specs.TableLists.{table_of}
use Rattle.lk_sizes.proofs.Takers.{owners_in-append}

-- the files of groups, and of those behind them
files_append : (n : ℕ) (groups others : List (List InputFile)) → files_from n (groups ++ others) ≡ files_from n groups ++ files_from (n + length groups) others
files_append n [] others = let none : n ≡ n + 0 = omega arith in ap (λ m. files_from m others) none
files_append n (files ∷ groups) others =
    let on : n + 1 + length groups ≡ n + suc (length groups) = omega arith in
    ap (λ fs. group_files n 0 files ++ fs) (files_append (n + 1) groups others ∙ ap (λ m. files_from (n + 1) groups ++ files_from m others) on)
    ∙ sym (append_assoc (group_files n 0 files) (files_from (n + 1) groups) (files_from (n + suc (length groups)) others))

-- one group more
next_files : (groups : List (List InputFile)) (g : ℕ) → g < length groups → numbered_files (take (g + 1) groups) ≡ numbered_files (take g groups) ++ group_files g 0 (get_or groups g [])
next_files groups g below =
    let own : List InputFile = get_or groups g [] in
    let long : 0 + length (take g groups) ≡ g = omega (arith, length-take g groups, below) in
    ap (files_from 0) (take_more groups g [] below) ∙ files_append 0 (take g groups) (own ∷ [])
    ∙ ap (λ m. files_from 0 (take g groups) ++ (group_files m 0 own ++ [])) long
    ∙ ap (λ fs. files_from 0 (take g groups) ++ fs) (append-nil (group_files g 0 own))

-- what two lists of files bring
unsorted_append : (filling : Filling) (p : ℕ) (files others : List NumberedFile) → unsorted_owners filling p (files ++ others) ≡ unsorted_owners filling p files ++ unsorted_owners filling p others
unsorted_append filling p files others =
    ap (owners_in p) (flat_map-append (file_takers filling) files others)
    ∙ owners_in-append p (flat_map (file_takers filling) files) (flat_map (file_takers filling) others)

-- the owners before the next group are those before this one, and its own
next_owners : (filling : Filling) (p g : ℕ) → g < length filling.content.link.groups → owners_before_group filling p (g + 1) ≡ owners_before_group filling p g ++ group_owners filling p g
next_owners filling p g below =
    let groups = filling.content.link.groups in
    let leading : List Owner = leading_of filling.content.link filling.content.merged_lens p in
    let before : List Owner = unsorted_owners filling p (numbered_files (take g groups)) in
    ap (λ fs. leading ++ unsorted_owners filling p fs) (next_files groups g below)
    ∙ ap (λ os. leading ++ os) (unsorted_append filling p (numbered_files (take g groups)) (group_files g 0 (get_or groups g [])))
    ∙ sym (append_assoc leading before (group_owners filling p g))

-- behind the first groups stand the others, the sorted sections, and the entries of tables
abbrev behind_groups : Filling → ℕ → ℕ → List Owner
behind_groups filling p n =
    let groups = filling.content.link.groups in
    (unsorted_owners filling p (files_from (0 + length (take n groups)) (drop n groups)) ++ owners_in p (sorted_takers filling))
    ++ map EntryOwner (table_of filling.content.link.plan.named (tables_of filling.content) p)

parted : (filling : Filling) (p n : ℕ) → owners_of filling p ≡ owners_before_group filling p n ++ behind_groups filling p n
parted filling p n =
    let groups = filling.content.link.groups in
    let leading : List Owner = leading_of filling.content.link filling.content.merged_lens p in
    let entries : List Owner = map EntryOwner (table_of filling.content.link.plan.named (tables_of filling.content) p) in
    let sorted : List Owner = owners_in p (sorted_takers filling) in
    let first : List Owner = unsorted_owners filling p (numbered_files (take n groups)) in
    let rest : List NumberedFile = files_from (0 + length (take n groups)) (drop n groups) in
    let others : List Owner = unsorted_owners filling p rest in
    let files : numbered_files groups ≡ numbered_files (take n groups) ++ rest = ap (files_from 0) (sym (take-append-drop n groups)) ∙ files_append 0 (take n groups) (drop n groups) in
    let whole : List Owner → List Owner = λ os. (leading ++ os) ++ entries in
    ap whole (owners_in-append p (flat_map (file_takers filling) (numbered_files groups)) (sorted_takers filling))
    ∙ ap (λ fs. whole (unsorted_owners filling p fs ++ sorted)) files
    ∙ ap (λ os. whole (os ++ sorted)) (unsorted_append filling p (numbered_files (take n groups)) rest)
    ∙ ap whole (append_assoc first others sorted)
    ∙ ap (λ os. os ++ entries) (sym (append_assoc leading first (others ++ sorted)))
    ∙ append_assoc (leading ++ first) (others ++ sorted) entries

pub groups_follow : GroupsFollow
groups_follow filling starts p g below =
    let before : List Owner = owners_before_group filling p g in
    let own : List Owner = group_owners filling p g in
    let behind : List Owner = behind_groups filling p (g + 1) in
    let next : owners_before_group filling p (g + 1) ≡ before ++ own = next_owners filling p g below in
    record {
      behind = behind;
      stands = parted filling p (g + 1) ∙ ap (λ os. os ++ behind) next;
      ends = ap (address_of_owner filling starts p) (sym (length-append before own) ∙ sym (ap length next));
    }
