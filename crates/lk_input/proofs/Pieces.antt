-- A description whose groups are read in pieces of its text.
use Rattle.std.proofs.Common.{◌≡◌, ℕ, suc, List, [], ◌∷◌, Option, Some, None, option_map, Result, Ok, Err, refl, sym, ap, ◌∙◌, subst}
use Rattle.std.specs.Prelude.{IfSome}
use Rattle.std.specs.Result.{result_ok}
use Rattle.std.proofs.lemmas.Str.{is_utf8-from_IsUtf8}
use Rattle.serde_json.specs.Data.{Data, array, object, Items, no_items, item, Members}
use Rattle.lk_pieces.specs.Around.{IsBut, HoldsList}
use Rattle.lk_pieces.specs.Reading.{Give, GiveLists}
use Rattle.lk_link.specs.declared.file.InputFile.{InputFile}
use Rattle.lk_link.specs.declared.link.LinkInput.{LinkInput}
use Rattle.lk_input.specs.declared.read.LinkKey.TheVariants as key
use Rattle.lk_input.specs.declared.read.LinkMembers.{LinkMembers}
use Rattle.lk_input.specs.declared.read.error.InputError.{InputError}
use Rattle.lk_input.specs.Large.{IsSplit}
use Rattle.lk_input.specs.LargeMembers.{link_large, link_kept, link_from}
use Rattle.lk_input.specs.Pieces.{these_groups, Makes}
use Rattle.lk_input.specs.Reading.{reading_of, reading_of_json, shaped}
use Rattle.lk_input.specs.ReadingFiles.{groups_of, input_file_of}
use Rattle.lk_input.specs.ReadingSteps.{Path, Reads, read_items, list_of}
use Rattle.lk_input.proofs.LargeMembers.{link-split}
use Rattle.lk_input.proofs.Objects.{differ}
use Rattle.lk_input.specs.Keys.{link_key_text}

-- what is read of items that give these
give_read : {A : Type 0} (f : Data → Result A Path) (i : ℕ) (ds : Items) (xs : List A) → Give f ds xs → read_items f i ds ≡ Ok xs
unfolding Give read_items
give_read f i no_items [] h = refl
give_read f i no_items (x ∷ xs) h = absurd h
give_read f i (item d ds) [] h = absurd h
give_read f i (item d ds) (x ∷ xs) h = rw (h.0, give_read f (suc i) ds xs h.1) refl

-- and of lists of them
give_lists : {A : Type 0} (f : Data → Result A Path) (i : ℕ) (ds : Items) (xss : List (List A)) → GiveLists f ds xss → read_items (list_of f) i ds ≡ Ok xss
unfolding GiveLists read_items
give_lists f i no_items [] h = refl
give_lists f i no_items (xs ∷ xss) h = absurd h
give_lists f i (item d ds) [] h = absurd h
give_lists f i (item d ds) (xs ∷ xss) h =
    let list : list_of f d ≡ Ok xs = ap (list_of f) h.1 ∙ give_read f 0 h.0 xs h.2 in
    rw (list, give_lists f (suc i) ds xss h.3) refl

abbrev pub kept_by : Option (Result (List (List InputFile)) Path) → LinkMembers
kept_by groups = record { groups = groups }

-- the groups are apart from the other members
groups_split : (ms others : Members) (ds : Items) (groups : List (List InputFile)) → IsBut (link_key_text key.Groups) (array ds) ms others → GiveLists input_file_of ds groups
    → IsSplit link_large link_kept ms (these_groups groups) others
groups_split ms others ds groups but give =
    let are : groups_of (array ds) ≡ Ok groups = give_lists input_file_of 0 ds groups give in
    record {
      are_kept = ap kept_by (sym (ap (option_map groups_of) but.0 ∙ ap Some are));
      stay = λ k small. but.1 k (differ k (link_key_text key.Groups) small);
    }

-- a text that is an object with these groups and these other members is the description that they make
pub pieces_make : (text : List ℕ) (groups : List (List InputFile)) (others : Members) (link : LinkInput) → HoldsList input_file_of (link_key_text key.Groups) text groups others → Makes groups others link
    → reading_of text ≡ Ok link
pieces_make text groups others link holds makes =
    let ms = holds.1 in
    let link_is = link-split ms others (these_groups groups) (groups_split ms others holds.3 groups holds.4 holds.5) ∙ makes in
    rw (is_utf8-from_IsUtf8 text holds.0) (ap reading_of_json holds.2 ∙ ap shaped link_is)

pub pieces_tell : (text name : List ℕ) (groups : List (List InputFile)) (others : Members) (o : Option LinkInput) → name ≡ link_key_text key.Groups → HoldsList input_file_of name text groups others
    → IfSome o (λ link. Makes groups others link) → IfSome o (λ link. reading_of text ≡ Ok link)
pieces_tell text name groups others None is holds makes = makes
pieces_tell text name groups others (Some link) is holds makes = pieces_make text groups others link (subst (λ k. HoldsList input_file_of k text groups others) is holds) makes

-- what was made of these groups and these other members
pub made_of : (groups : List (List InputFile)) (others : Members) (made : Result LinkInput InputError) (told : Option LinkInput) (large : LinkMembers) (d : Data) → large ≡ these_groups groups → d ≡ object others
    → Reads made (link_from large d) → told ≡ result_ok made → IfSome told (λ link. Makes groups others link)
made_of groups others (Ok link) told large d kept is reads e = rw e (ap (λ l. link_from l (object others)) (sym kept) ∙ ap (link_from large) (sym is) ∙ reads)
made_of groups others (Err fault) told large d kept is reads e = rw e tt
