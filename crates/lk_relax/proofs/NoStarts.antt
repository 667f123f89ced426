-- Parts that start at 0.
use Rattle.std.proofs.Common.{◌≡◌, ℕ, ◌<◌, ◌^◌, false, List, [], ◌∷◌, length, map, refl, ap, ◌∙◌, arith, zero-add}
use Rattle.std.specs.Prelude.{slice_index}
use Rattle.std.specs.List.{enumerate_from}
use Rattle.std.proofs.lemmas.List.{get_or-map, length-map}
use Rattle.std.proofs.lemmas.List.FromFn.{get_or-enumerate_from, length-enumerate_from}
use Rattle.lk_link.specs.declared.link.LinkInput.{LinkInput}
use Rattle.lk_link.specs.declared.plan.PlanPart.{PlanPart}
use Rattle.lk_link.specs.Parts.{all_parts}
use Rattle.lk_sizes.specs.Owners.{Filling}
use Rattle.lk_sizes.specs.PartOwners.{EndsFit, part_size, part_sizes}
use Rattle.lk_relax.specs.Positions.{no_starts}

-- as many zeros are the same list, whatever they are made of
zeros_alike : {X Y : Type 0} (xs : List X) (ys : List Y) → length xs ≡ length ys → map {B = ℕ} (λ (x : X). 0) xs ≡ map {B = ℕ} (λ (y : Y). 0) ys
zeros_alike [] [] h = refl
zeros_alike [] (y ∷ ys) h = absurd (omega (arith, h))
zeros_alike (x ∷ xs) [] h = absurd (omega (arith, h))
zeros_alike (x ∷ xs) (y ∷ ys) h = ap (λ (zs : List ℕ). 0 ∷ zs) (zeros_alike xs ys (omega (arith, h)))

-- there is a size for each part
pub length-part_sizes : (filling : Filling) → length (part_sizes filling) ≡ length (all_parts filling.content.link.plan.sections)
length-part_sizes filling =
    let parts : List PlanPart = all_parts filling.content.link.plan.sections in
    length-map (enumerate_from 0 parts) (λ (q : ℕ × PlanPart). part_size filling q.0) ∙ length-enumerate_from 0 parts

-- a zero for each size is a start of 0 for each part
pub no_starts_by_sizes : (filling : Filling) (sizes : List ℕ) → sizes ≡ part_sizes filling → map {B = ℕ} (λ (n : ℕ). 0) sizes ≡ no_starts filling.content.link
no_starts_by_sizes filling sizes are = zeros_alike sizes (all_parts filling.content.link.plan.sections) (ap length are ∙ length-part_sizes filling)

pub length-no_starts : (link : LinkInput) → length (no_starts link) ≡ length (all_parts link.plan.sections)
length-no_starts link = length-map (all_parts link.plan.sections) (λ (p : PlanPart). 0)

-- the size of a part, by its number
pub size_at : (filling : Filling) (p : ℕ) → p < length (all_parts filling.content.link.plan.sections) → slice_index (part_sizes filling) p ≡ part_size filling p
size_at filling p within =
    let parts : List PlanPart = all_parts filling.content.link.plan.sections in
    let none : PlanPart = record { alignment = 1; packed = false } in
    let size : ℕ × PlanPart → ℕ = λ q. part_size filling q.0 in
    get_or-map size (enumerate_from 0 parts) p (0, none) 0 (omega (arith, within, length-enumerate_from 0 parts))
    ∙ ap size (get_or-enumerate_from 0 parts p (0, none) within)
    ∙ ap (part_size filling) (zero-add p)

-- parts with sizes below 2^64 have owners that end below it where they start at 0
pub no_starts_fit : (filling : Filling) (sizes : List ℕ) → sizes ≡ part_sizes filling → ((p : ℕ) → slice_index sizes p < 2 ^ 64) → EndsFit filling (no_starts filling.content.link)
no_starts_fit filling sizes are fit p below =
    let link : LinkInput = filling.content.link in
    let within : p < length (all_parts link.plan.sections) = omega (arith, below, length-no_starts link) in
    let size : slice_index sizes p ≡ part_size filling p = ap (λ (ns : List ℕ). slice_index ns p) are ∙ size_at filling p within in
    let start : slice_index (no_starts link) p ≡ 0 = get_or-map (λ (q : PlanPart). 0) (all_parts link.plan.sections) p (record { alignment = 1; packed = false }) 0 within in
    omega (arith, size, start, fit p)
