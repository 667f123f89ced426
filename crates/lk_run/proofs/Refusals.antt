-- Refusals that are answered.
use Rattle.std.proofs.Common.{◌≡◌, ◌≢◌, false, refl, Err}
use Rattle.lk_link.specs.declared.link.LinkInput.{LinkInput}
use Rattle.lk_layout.specs.Machines.{Machine}
use Rattle.lk_layout.specs.declared.error.LayoutError.{LayoutError}
use Rattle.lk_layout.specs.declared.error.LayoutError.TheVariants.{NoMemory}
use Rattle.lk_layout.specs.Defined.{Gives, IsDefined, is_memory}

-- every error but one is a refusal
is_refusal : (e : LayoutError) → e ≢ NoMemory → is_memory e ≡ false
is_refusal NoMemory memory = absurd (memory refl)
is_refusal _ memory = refl

-- what is answered is defined, but for want of memory
pub refusal_is_defined : (machine : Machine) (link : LinkInput) (e : LayoutError) → Gives machine link (Err e) → e ≢ NoMemory → IsDefined machine link (Err e)
refusal_is_defined machine link e given memory = given (is_refusal e memory)
