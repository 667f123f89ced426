-- Lists of a well-formed link are short enough for the numbers of the code.
use Rattle.std.proofs.Common.{ℕ, ◌*◌, ◌^◌, ◌<◌, length, arith, Fits, w64}
use Rattle.lk_link.specs.declared.link.LinkInput.{LinkInput}
use Rattle.lk_link.specs.Parts.{all_parts}
use Rattle.lk_link.specs.WellFormed.{IsWellFormed}
use Rattle.lk_link.proofs.GoodLinks.{few}

-- a section's number has 32 bits
pub sections_fit : (link : LinkInput) → IsWellFormed link → length link.plan.sections < 2 ^ 32
sections_fit link good = omega (arith, (few link good).sections)

-- a part's place in a table fits
pub part_fits : (link : LinkInput) (p : ℕ) → IsWellFormed link → p < length (all_parts link.plan.sections) → Fits w64 (p * 16)
part_fits link p good below = let parts = (few link good).parts in omega arith
