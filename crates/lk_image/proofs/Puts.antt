-- What is put keeps the length, and so does what relocations put.
use Rattle.std.proofs.Common.{◌≡◌, ℕ, suc, ◌+◌, ◌≤◌, Bool, true, false, List, [], ◌∷◌, ◌++◌, All, length, take, drop, if◌then◌else◌, fold, refl, ap, ◌∙◌, arith, length-append}
use Rattle.std.specs.Int.{to_le_bytes, w64}
use Rattle.std.proofs.lemmas.List.{length-take-le, length-drop}
use Rattle.lk_link.specs.declared.relocation.Relocation.{Relocation}
use Rattle.lk_link.specs.declared.section.InputSection.{InputSection}
use Rattle.lk_link.specs.InputSlots.{is_debug}
use Rattle.lk_image.specs.Contents.{content, data_of, is_absolute, patch}
use Rattle.lk_image.specs.Ready.{HasRoom}
use Rattle.lk_image.specs.Stretches.{put}

pub length-put : (offset : ℕ) (bytes under : List ℕ) → offset + length bytes ≤ length under → length (put offset bytes under) ≡ length under
length-put offset bytes under room =
    omega (
      arith,
      room,
      length-append (take offset under) (bytes ++ drop (length bytes) (drop offset under)),
      length-append bytes (drop (length bytes) (drop offset under)),
      length-take-le offset under (omega (arith, room)),
      length-drop (length bytes) (drop offset under),
      length-drop offset under,
    )

length_patch : (value : Relocation → ℕ) (bytes : List ℕ) (r : Relocation) (absolute : Bool) → is_absolute r.kind ≡ absolute → HasRoom (length bytes) r → length (patch value bytes r) ≡ length bytes
length_patch value bytes r true is room =
    let word : length (to_le_bytes w64 (value r)) ≡ 8 = refl in
    ap (λ b. length (if b then put r.offset (to_le_bytes w64 (value r)) bytes else bytes)) is ∙ length-put r.offset (to_le_bytes w64 (value r)) bytes (omega (arith, word, room is))
length_patch value bytes r false is room = ap (λ b. length (if b then put r.offset (to_le_bytes w64 (value r)) bytes else bytes)) is

pub length_patched : (value : Relocation → ℕ) (bytes : List ℕ) (rs : List Relocation) (n : ℕ) → length bytes ≡ n → All (HasRoom n) rs → length (fold (patch value) bytes rs) ≡ n
length_patched value bytes [] n long room = long
length_patched value bytes (r ∷ rs) n long room =
    let first : HasRoom n r = room 0 r (omega arith) in
    let here : HasRoom (length bytes) r = λ is. omega (arith, long, first is) in
    length_patched value (patch value bytes r) rs n (length_patch value bytes r (is_absolute r.kind) refl here ∙ long) (λ k d lt. room (suc k) d (omega (arith, lt)))

length_by : (value : Relocation → ℕ) (s : InputSection) (debug : Bool) → is_debug s.slot ≡ debug → length (data_of s) ≡ s.size → (is_debug s.slot ≡ false → All (HasRoom s.size) s.relocs)
    → length (content value s) ≡ s.size
length_by value s true is whole room = ap (λ b. length (if b then data_of s else fold (patch value) (data_of s) s.relocs)) is ∙ whole
length_by value s false is whole room = ap (λ b. length (if b then data_of s else fold (patch value) (data_of s) s.relocs)) is ∙ length_patched value (data_of s) s.relocs s.size whole (room is)

-- what a section holds is as long as it says
pub length-content : (value : Relocation → ℕ) (s : InputSection) → length (data_of s) ≡ s.size → (is_debug s.slot ≡ false → All (HasRoom s.size) s.relocs)
    → length (content value s) ≡ s.size
length-content value s whole room = length_by value s (is_debug s.slot) refl whole room
