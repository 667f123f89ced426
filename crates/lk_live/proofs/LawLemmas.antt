-- Further laws on what is live.
use Rattle.std.proofs.Common.{◌≡◌, ℕ, true, false, if◌then◌else◌, eqb, not, List, [], Some, refl, sym, ap, ◌∙◌, subst, inl, inr}
use Rattle.std.specs.List.{Contains, slice_get}
use Rattle.std.specs.Option.{option_map_or}
use Rattle.std.proofs.lemmas.Bool.{and_from, cases_Bool, eqb-true}
use Rattle.std.proofs.lemmas.List.Elements.{Contains-append_left}
use Rattle.lk_link.specs.declared.file.InputFile.{InputFile}
use Rattle.lk_link.specs.declared.link.LinkInput.{LinkInput}
use Rattle.lk_link.specs.declared.section.InputSection.{InputSection}
use Rattle.lk_link.specs.declared.section.InputSlot.{InputSlot}
use Rattle.lk_link.specs.declared.section.InputSlot.TheVariants as slot
use Rattle.lk_link.specs.Files.{file_in}
use Rattle.lk_link.specs.Inputs.{Input}
use Rattle.lk_link.specs.InputSlots.{can_be_kept}
use Rattle.lk_link.specs.SectionGroups.{GroupMembersRise, group_members}
use Rattle.lk_link.proofs.Elements.{at_contained, contains_at, filter_in, map_in}
use Rattle.lk_reach.specs.declared.units.Ask.TheVariants.{Section}
use Rattle.lk_live.specs.Laws.{AllIsLive, AskedForIsLive, GroupsStayTogether, LiveWasAskedFor}
use Rattle.lk_reach.specs.declared.units.Unit.TheVariants.{Sec}
use Rattle.lk_reach.specs.Reach.{IsReached}
use Rattle.lk_reach.specs.Units.{IsRoot, asked_members, asked_references, comes_along, follows, is_coming, is_other, is_root, member_asks, other_asks, unit_of}
use Rattle.lk_live.proofs.Living.{roots_are_live}
use Rattle.lk_reach.proofs.Numbered.{file_of_input}
use Rattle.lk_reach.proofs.ReachLemmas.{last_asks, reach_more, reach_root}

-- ---- asked for

pub live_was_asked_for : LiveWasAskedFor
live_was_asked_for link x live =
    let r = live.reached in
    elim (last_asks link r.first r.rest (unit_of x) (reach_root link r.first r.root) r.path) [
      | inl same ↦ inl (subst (IsRoot link) same r.root)
      | inr asked ↦ inr asked
    ]

pub asked_for_is_live : AskedForIsLive
asked_for_is_live link x asked kept = elim asked [
  | inl root ↦ record { reached = reach_root link (unit_of x) root; slot = kept }
  | inr unit ↦ record { reached = reach_more link unit.0 (unit_of x) unit.1 unit.2; slot = kept }
]

-- ---- without collection

kept_is_root : (s : InputSlot) → can_be_kept s ≡ true → is_root false s ≡ true
kept_is_root slot.Discard h = absurd (cc)
kept_is_root slot.Unloaded h = refl
kept_is_root slot.MustLoad h = refl
kept_is_root slot.DebugInfo h = refl
kept_is_root slot.MustLoadDebugInfo h = refl
kept_is_root slot.Merge h = absurd (cc)

pub all_is_live : AllIsLive
all_is_live link k x file at_k at_file object off kept =
    roots_are_live link k x file at_k at_file object (ap (λ gc. is_root gc x.section.slot) off ∙ kept_is_root x.section.slot kept)

-- ---- section groups

coming_kept : (s : InputSlot) → comes_along s ≡ true → can_be_kept s ≡ true
coming_kept slot.Discard h = absurd (cc)
coming_kept slot.Unloaded h = refl
coming_kept slot.MustLoad h = refl
coming_kept slot.DebugInfo h = refl
coming_kept slot.MustLoadDebugInfo h = absurd (cc)
coming_kept slot.Merge h = absurd (cc)

-- a section of a group asks for another member
asks_for_member : (link : LinkInput) (x y : Input) (file : InputFile) (group : ℕ) → GroupMembersRise → file_in link.groups x.file ≡ Some file
    → slice_get file.sections x.index ≡ Some x.section → slice_get file.sections y.index ≡ Some y.section → x.section.group ≡ Some group → y.section.group ≡ Some group
    → can_be_kept x.section.slot ≡ true → comes_along y.section.slot ≡ true → eqb y.index x.index ≡ false → Contains (follows link (unit_of x)) (Section x.file y.index)
asks_for_member link x y file group rise at_file at_x at_y in_x in_y kept comes other =
    let members : List ℕ = group_members file.sections group in
    let among = at_contained members y.index (((rise file.sections group).0 y.index).1 (record { section = y.section; there = at_y; grouped = in_y })) in
    let coming : is_coming file.sections y.index ≡ true = ap (λ o. option_map_or (λ (s : InputSection). comes_along s.slot) o false) at_y ∙ comes in
    let passes : is_other file.sections x.index y.index ≡ true = and_from (not (eqb y.index x.index)) (is_coming file.sections y.index) (ap not other) coming in
    let left = filter_in (is_other file.sections x.index) members among.0 y.index among.1 passes in
    let asked : Contains (other_asks x.file file.sections x.index members) (Section x.file y.index)
    = contains_at (other_asks x.file file.sections x.index members) left.0 (Section x.file y.index) (map_in (Section x.file) _ left.0 y.index left.1) in
    let same : asked_members link x.file x.index ≡ other_asks x.file file.sections x.index members
    = ap (λ o. option_map_or (λ f. option_map_or (member_asks x.file f.sections x.index) (slice_get f.sections x.index) []) o []) at_file
    ∙ ap (λ o. option_map_or (member_asks x.file file.sections x.index) o []) at_x
    ∙ ap (λ b. if b then option_map_or (λ g. other_asks x.file file.sections x.index (group_members file.sections g)) x.section.group [] else []) kept
    ∙ ap (λ o. option_map_or (λ g. other_asks x.file file.sections x.index (group_members file.sections g)) o []) in_x in
    Contains-append_left (asked_members link x.file x.index) (asked_references link x.file x.index) (Section x.file y.index)
    (subst (λ xs. Contains xs (Section x.file y.index)) (sym same) asked)

pub groups_stay_together : GroupMembersRise → GroupsStayTogether
groups_stay_together rise link j k x y group at_j at_k file in_x in_y comes live =
    let from = file_of_input link.groups j x at_j in
    let of = file_of_input link.groups k y at_k in
    let files : Some of.0 ≡ Some from.0 = sym of.1 ∙ ap (file_in link.groups) file ∙ from.1 in
    let one : of.0 ≡ from.0 = cc in
    let at_y : slice_get from.0.sections y.index ≡ Some y.section = subst (λ (f : InputFile). slice_get f.sections y.index ≡ Some y.section) one of.2 in
    let slot : can_be_kept y.section.slot ≡ true = coming_kept y.section.slot comes in
    elim (cases_Bool (eqb y.index x.index)) [
      | inl same ↦
          let index : y.index ≡ x.index = eqb-true y.index x.index same in
          let unit : unit_of x ≡ unit_of y = cc in
          record { reached = subst (IsReached link) unit live.reached; slot = slot }
      | inr other ↦
          let asks = asks_for_member link x y from.0 group rise from.1 from.2 at_y in_x in_y live.slot comes other in
          let reached = reach_more link (unit_of x) (Sec x.file y.index) live.reached (record { ask = Section x.file y.index; among = asks; target = refl }) in
          let unit : Sec x.file y.index ≡ unit_of y = cc in
          record { reached = subst (IsReached link) unit reached; slot = slot }
    ]
