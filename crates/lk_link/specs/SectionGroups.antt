-- Section groups: the sections of a file that have one group number.
use Rattle.std.specs.Prelude.{◌≡◌, ℕ, ◌==◌, ◌↔◌, Bool, false, List, Some, Contains, filter, map, slice_get}
use Rattle.std.specs.List.{enumerate_from}
use Rattle.std.specs.List.Sorted.{IsStrictlyIncreasing}
use Rattle.std.specs.Option.{option_map_or}
use Rattle.lk_link.specs.declared.section.InputSection.{InputSection}
use Rattle.lk_link.specs.Numbered.{items_of}

-- whether a section is in this group
abbrev pub is_member : ℕ → InputSection → Bool
is_member group section = option_map_or (λ g. g == group) section.group false

-- the numbers of the sections in a group
abbrev pub group_members : List InputSection → ℕ → List ℕ
group_members sections group = map (λ p. p.0) (filter (λ p. is_member group p.1) (enumerate_from 0 sections))

-- pairs of groups and sections that are the index of the sections
abbrev pub IsGroupIndex : List InputSection → List (ℕ × ℕ) → Type 0
IsGroupIndex sections members = (group : ℕ) → items_of group members ≡ group_members sections group

-- the section with this number is in this group
pub record IsMember (sections : List InputSection) (group i : ℕ) : Type 0 where
  pub section : InputSection
  pub there : slice_get sections i ≡ Some section
  pub grouped : section.group ≡ Some group

-- the members of a group are the sections with its number, in rising order
abbrev pub GroupMembersRise : Type 0
GroupMembersRise = (sections : List InputSection) (group : ℕ)
    → ((i : ℕ) → Contains (group_members sections group) i ↔ IsMember sections group i)
    × IsStrictlyIncreasing (group_members sections group)
