-- Where nothing is refused for want of room, all relocations have room.
use Rattle.std.proofs.Common.{◌≡◌, ℕ, ◌+◌, Bool, true, false, List, [], ◌∷◌, Option, Some, None, get_or, if◌then◌else◌, refl, sym, ap, ◌∙◌, arith}
use Rattle.std.specs.Prelude.{◌&&◌, not, nat_lt}
use Rattle.std.specs.List.{enumerate_from, flat_map, slice_get}
use Rattle.std.proofs.lemmas.Bool.{ltb-false}
use Rattle.std.proofs.lemmas.Option.{slice_get-get_or}
use Rattle.lk_link.specs.declared.link.LinkInput.{LinkInput}
use Rattle.lk_link.specs.declared.relocation.Relocation.{Relocation}
use Rattle.lk_link.specs.Inputs.{Input, all_inputs}
use Rattle.lk_link.specs.InputSlots.{is_debug}
use Rattle.lk_link.proofs.InputLemmas.{numbered_get}
use Rattle.lk_layout.specs.LayoutRecord.{LayoutRecord}
use Rattle.lk_image.specs.declared.error.ImageError.{ImageError}
use Rattle.lk_image.specs.declared.error.ImageError.TheVariants.{NoRoom, Relaxed, TooLong}
use Rattle.lk_image.specs.declared.error.TheConstants.{LONGEST_IMAGE}
use Rattle.lk_image.specs.Contents.{is_absolute}
use Rattle.lk_image.specs.Ready.{AllHaveRoom, HasRoom, HaveRoom}
use Rattle.lk_image.specs.Places.{image_length}
use Rattle.lk_image.specs.Refusals.{image_refusal, relocation_refusals, room_refusals_in}
use Rattle.lk_image.proofs.Turns.{none_of}

-- whether a relocation writes past the end of a section with so many bytes
abbrev lacks_room : ℕ → Relocation → Bool
lacks_room size r = is_absolute r.kind && nat_lt size (r.offset + 8)

none_here : (x : Input) (k : ℕ) (r : Relocation) (lacks : Bool) → lacks_room x.section.size r ≡ lacks → relocation_refusals x (k, r) ≡ [] → lacks ≡ false
none_here x k r true is none = absurd (cc (sym (ap (λ b. if b then NoRoom x.file x.index k ∷ [] else []) is) ∙ none))
none_here x k r false is none = refl

has_room : (size : ℕ) (r : Relocation) → lacks_room size r ≡ false → HasRoom size r
has_room size r inside is =
    let ends : nat_lt size (r.offset + 8) ≡ false = sym (ap (λ b. b && nat_lt size (r.offset + 8)) is) ∙ inside in
    ltb-false size (r.offset + 8) ends

have_room : (link : LinkInput) (layout : LayoutRecord) (k : ℕ) (x : Input) → room_refusals_in link layout (k, x) ≡ [] → HaveRoom link layout (k, x)
have_room link layout k x none there plain =
    let all : List ImageError = flat_map (relocation_refusals x) (enumerate_from 0 x.section.relocs) in
    let nothing : all ≡ []
    = sym (ap (λ b. if b && not (is_debug x.section.slot) then all else []) there ∙ ap (λ b. if not b then all else []) plain) ∙ none in
    λ i d lt.
    let r : Relocation = get_or x.section.relocs i d in
    let at = numbered_get 0 x.section.relocs i r (slice_get-get_or x.section.relocs i d lt) in
    let here : relocation_refusals x (0 + i, r) ≡ [] = none_of (relocation_refusals x) (enumerate_from 0 x.section.relocs) i (0 + i, r) nothing at in
    has_room x.section.size r (none_here x (0 + i) r (lacks_room x.section.size r) refl here)

pub all_have_room : (link : LinkInput) (layout : LayoutRecord) → flat_map (room_refusals_in link layout) (enumerate_from 0 (all_inputs link.groups)) ≡ [] → AllHaveRoom link layout
all_have_room link layout none k x at =
    let number : k ≡ 0 + k = omega arith in
    let pair : ℕ → ℕ × Input = λ n. (n, x) in
    let found : slice_get (enumerate_from 0 (all_inputs link.groups)) k ≡ Some (pair k)
    = numbered_get 0 (all_inputs link.groups) k x at ∙ ap (λ (n : ℕ). Some (pair n)) (sym number) in
    have_room link layout k x (none_of (room_refusals_in link layout) (enumerate_from 0 (all_inputs link.groups)) k (pair k) none found)

-- a refusal by a truth value isn't there only where that is false
let_through : (b : Bool) (e : ImageError) (rest : Option ImageError) → (if b then Some e else rest) ≡ None → rest ≡ None
let_through true e rest h = absurd (cc)
let_through false e rest h = h

no_first : {X : Type 0} (xs : List X) → slice_get xs 0 ≡ None → xs ≡ []
no_first [] h = refl
no_first (x ∷ xs) h = absurd (cc)

-- so do those of a layout whose image isn't refused
pub unrefused_have_room : (link : LinkInput) (layout : LayoutRecord) → image_refusal link layout ≡ None → AllHaveRoom link layout
unrefused_have_room link layout h =
    let long = let_through link.options.relax Relaxed _ h in
    let room = let_through (nat_lt LONGEST_IMAGE (image_length layout)) (TooLong (image_length layout)) _ long in
    all_have_room link layout (no_first (flat_map (room_refusals_in link layout) (enumerate_from 0 (all_inputs link.groups))) room)

none_by : (b : Bool) (rest : Option ImageError) → (if b then Some Relaxed else rest) ≡ None → b ≡ false
none_by true rest h = absurd (cc)
none_by false rest h = refl

-- and the link isn't to be relaxed
pub unrefused_unrelaxed : (link : LinkInput) (layout : LayoutRecord) → image_refusal link layout ≡ None → link.options.relax ≡ false
unrefused_unrelaxed link layout h = none_by link.options.relax _ h
