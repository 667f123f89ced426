-- The large member of the whole description.
use Rattle.std.proofs.Common.{◌≡◌, ℕ, List, [], true, false, Option, Some, None, option_map, unwrap_or, Result, Ok, refl, sym, ap, ◌∙◌}
use Rattle.std.specs.Str.{bytes_eq}
use Rattle.std.proofs.lemmas.Slice.Eq.{bytes_eq-Decides}
use Rattle.serde_json.specs.Data.{Data, object, Members, put}
use Rattle.serde_json.specs.Find.{get_member}
use Rattle.serde_json.proofs.Views.{get_member-put, get_member-put_other}
use Rattle.lk_link.specs.declared.file.InputFile.{InputFile}
use Rattle.lk_input.specs.declared.read.LinkKey.TheVariants as link
use Rattle.lk_input.specs.declared.read.LinkMembers.{LinkMembers}
use Rattle.lk_input.specs.Large.{IsSplit}
use Rattle.lk_input.specs.LargeMembers.{link_large, link_kept, link_from}
use Rattle.lk_input.specs.Reading.{link_of}
use Rattle.lk_input.specs.ReadingFiles.{groups_of}
use Rattle.lk_input.specs.ReadingSteps.{Path, found_or, written}
use Rattle.lk_input.proofs.Objects.{differ, WantsObject}
use Rattle.lk_input.specs.Keys.{link_key_text}

-- what was kept of a member is what reading finds in its place
kept-found : {A : Type 0} (other : A) (f : Data → Result A Path) (o : Option Data) → found_or other f o ≡ unwrap_or (option_map f o) (Ok other)
kept-found other f None = refl
kept-found other f (Some d) = refl

pub link_wants_object : WantsObject link_of
unfolding link_of
link_wants_object d none = rw none refl

options_small : link_large (link_key_text link.Options) ≡ false
unfolding written
options_small = refl

plan_small : link_large (link_key_text link.Plan) ≡ false
unfolding written
plan_small = refl

-- it is read of its large member and the others as of all
pub link-split : (ms others : Members) (large : LinkMembers) → IsSplit link_large link_kept ms large others → link_of (object ms) ≡ link_from large (object others)
unfolding link_of link_from
link-split ms others large h =
    rw (h.are_kept, h.stay (link_key_text link.Options) options_small, h.stay (link_key_text link.Plan) plan_small, kept-found [] groups_of (get_member (link_key_text link.Groups) ms)) refl

abbrev link_with : Option (Result (List (List InputFile)) Path) → LinkMembers
link_with groups = record { groups = groups }

-- the groups were read
pub link-groups : (name : List ℕ) (d : Data) (ms : Members) (now : LinkMembers) → bytes_eq name (link_key_text link.Groups) ≡ true → now.groups ≡ Some (groups_of d) → now ≡ link_kept (put name d ms)
link-groups name d ms now e groups =
    let is : name ≡ link_key_text link.Groups = (bytes_eq-Decides name (link_key_text link.Groups)).0 e in
    let here : get_member (link_key_text link.Groups) (put name d ms) ≡ Some d = rw is (get_member-put (link_key_text link.Groups) d ms) in
    ap link_with (groups ∙ ap (option_map groups_of) (sym here))

-- another member was read
pub link-other : (name : List ℕ) (d : Data) (ms : Members) → bytes_eq name (link_key_text link.Groups) ≡ false → link_kept (put name d ms) ≡ link_kept ms
link-other name d ms e =
    ap link_with (ap (option_map groups_of) (get_member-put_other (link_key_text link.Groups) name d ms (λ same. differ name (link_key_text link.Groups) e (sym same))))
