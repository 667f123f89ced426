-- What is refused where parts pass 2^64 - 1 bytes, without thunks or with them.
use Rattle.std.proofs.Common.{◌≡◌, None, Some, Err, Option, refl, sym, ap, ◌∙◌}
use Rattle.std.specs.Prelude.{option_map}
use Rattle.lk_live.specs.declared.live.Live.{Live}
use Rattle.lk_link.specs.declared.link.LinkInput.{LinkInput}
use Rattle.lk_link.specs.Files.{first_some}
use Rattle.lk_sizes.specs.declared.error.SizeError.{SizeError}
use Rattle.lk_sizes.specs.declared.error.SizeError.TheVariants as size
use Rattle.lk_sizes.specs.Contents.{size_refusal, sum_refusal}
use Rattle.lk_sizes.specs.Sizing.{GivesAdded, GivesOwners}
use Rattle.lk_layout.specs.declared.error.LayoutError.{LayoutError}
use Rattle.lk_layout.specs.Defined.{WithMemory}
use Rattle.lk_layout.specs.Errors.{size_error}
use Rattle.lk_layout.specs.Machines.{Machine}
use Rattle.lk_layout.specs.Made.{filling_for}
use Rattle.lk_resolutions.specs.OutputContent.{output_filling}
use Rattle.lk_layout.proofs.Answering.{out_of_memory, unless_some}
use Rattle.lk_layout.proofs.Refusals.{IsLiveAnswer, sizes_refusal}

pub first_none : (a b : Option SizeError) → first_some a b ≡ None → a ≡ None
unfolding first_some
first_none None b h = refl
first_none (Some e) b h = absurd (cc)

first_of_both : (a : Option SizeError) (e : SizeError) → first_some a a ≡ Some e → a ≡ Some e
unfolding first_some
first_of_both None e h = h
first_of_both (Some x) e h = h

first_is : (a b : Option SizeError) (e : SizeError) → a ≡ Some e → first_some a b ≡ Some e
unfolding first_some
first_is None b e h = absurd (cc)
first_is (Some x) b e h = h

pub second_is : (a b : Option SizeError) → a ≡ None → first_some a b ≡ b
unfolding first_some
second_is None b h = refl
second_is (Some x) b h = absurd (cc)

-- what is refused without thunks
pub unsized : (machine : Machine) (link : LinkInput) (live : Live) (g : SizeError) (e : LayoutError) → GivesOwners (output_filling machine.sizes link live) (Err g)
    → e ≡ size_error g → WithMemory (IsLiveAnswer machine link live) (Err e)
unsized machine link live size.NoMemory e h is = out_of_memory (IsLiveAnswer machine link live) e is
unsized machine link live (size.AddressOverflow place) e h is =
    let plain : Option SizeError = sum_refusal (output_filling machine.sizes link live) in
    let first : size_refusal (filling_for machine link live) ≡ Some (size.AddressOverflow place)
    = first_is plain (sum_refusal (filling_for machine link live)) (size.AddressOverflow place) (first_of_both plain (size.AddressOverflow place) h) in
    λ some. unless_some (sizes_refusal machine link live) e _ (ap (option_map size_error) first ∙ ap (λ (x : LayoutError). Some x) (sym is))

-- and what with them
pub overfull : (machine : Machine) (link : LinkInput) (live : Live) (g : SizeError) (e : LayoutError) → sum_refusal (output_filling machine.sizes link live) ≡ None
    → GivesAdded (filling_for machine link live) (Err g) → e ≡ size_error g → WithMemory (IsLiveAnswer machine link live) (Err e)
overfull machine link live size.NoMemory e fits h is = out_of_memory (IsLiveAnswer machine link live) e is
overfull machine link live (size.AddressOverflow place) e fits h is =
    let second : size_refusal (filling_for machine link live) ≡ Some (size.AddressOverflow place)
    = second_is (sum_refusal (output_filling machine.sizes link live)) (sum_refusal (filling_for machine link live)) fits ∙ h in
    λ some. unless_some (sizes_refusal machine link live) e _ (ap (option_map size_error) second ∙ ap (λ (x : LayoutError). Some x) (sym is))
