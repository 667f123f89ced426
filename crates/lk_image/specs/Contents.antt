-- What a section holds in the output.
use Rattle.std.specs.Prelude.{ℕ, Bool, true, false, List, fold, if◌then◌else◌, replicate}
use Rattle.std.specs.Int.{to_le_bytes, w64}
use Rattle.lk_link.specs.declared.relocation.Relocation.{Relocation}
use Rattle.lk_link.specs.declared.relocation.RelocationKind.{RelocationKind}
use Rattle.lk_link.specs.declared.relocation.RelocationKind.TheVariants as kind
use Rattle.lk_link.specs.declared.section.InputSection.{InputSection}
use Rattle.lk_link.specs.InputSlots.{is_debug}
use Rattle.lk_image.specs.Stretches.{put}

-- kinds that write an address as it is
abbrev pub is_absolute : RelocationKind → Bool
is_absolute kind.Absolute = true
is_absolute _ = false

-- a relocation of such a kind puts its value at its offset, in eight bytes, the lowest first; any other nothing
abbrev pub patch : (Relocation → ℕ) → List ℕ → Relocation → List ℕ
patch value bytes r = if is_absolute r.kind then put r.offset (to_le_bytes w64 (value r)) bytes else bytes

-- the data of a section, zeros where none are given
abbrev pub data_of : InputSection → List ℕ
data_of s = if s.given then s.bytes else replicate s.size 0

-- what a section holds, by the values of its relocations: its data, with what those put there, one after the other; of debug data they put
-- nothing
abbrev pub content : (Relocation → ℕ) → InputSection → List ℕ
content value s = if is_debug s.slot then data_of s else fold (patch value) (data_of s) s.relocs
