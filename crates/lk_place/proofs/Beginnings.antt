-- What is evaluated before the first event.
use Rattle.std.proofs.Common.{◌≡◌, ℕ, ◌≤◌, ◌^◌, List, Option, Result, Ok, Err, length, sym, ap, ◌∙◌, arith}
use Rattle.std.specs.Prelude.{IsErrAnd}
use Rattle.lk_link.specs.declared.fault.Limited.TheVariants as limited
use Rattle.lk_link.specs.declared.file.InputFile.{InputFile}
use Rattle.lk_link.specs.declared.link.LinkInput.{LinkInput}
use Rattle.lk_link.specs.declared.plan.Plan.{Plan}
use Rattle.lk_link.specs.Limits.{counted, limit_of}
use Rattle.lk_link.specs.WellFormed.{IsWellFormed}
use Rattle.lk_place.specs.declared.error.PlaceError.{PlaceError}
use Rattle.lk_place.specs.declared.error.PlaceError.TheVariants.{AddressOverflow, BaseTooLow, Expression, LocationBackwards, NoMemory, OutsideRegion, RegionDuplicate, RegionOverflow, RegionUnknown, SectionOutsideSegments}
use Rattle.lk_place.specs.declared.start.Beginning.{Beginning}
use Rattle.lk_place.specs.Base.{first_memory, known_first}
use Rattle.lk_expressions.specs.Expressions.{Valued, ◌>>=◌, expression_value}
use Rattle.lk_place.specs.AtHand.{AreAtHand}
use Rattle.lk_place.specs.Regions.{regions_of}
use Rattle.lk_place.specs.Start.{GivesBeginning, base_by, begun_memory, constants_by}
use Rattle.lk_expressions.specs.Surroundings.{early_operand}
use Rattle.lk_place.proofs.AtHand.{base_spoken, value_at_hand}

-- regions are few enough for their numbers
pub few_regions : (link : LinkInput) → IsWellFormed link → length link.plan.regions ≤ 2 ^ 32
unfolding counted limit_of
few_regions link good =
    let few : length link.plan.regions ≤ 64 = good.within limited.Regions in
    omega (arith, few)

-- the base has one value, by the constants that are at hand and by all
base_at_hand : (plan : Plan) (groups : List (List InputFile)) (headers : ℕ) (values regions : List (ℕ × ℕ)) (constants constants' : List (Option Valued))
    → regions ≡ values → AreAtHand plan (constants_by groups headers regions) constants → constants' ≡ constants
    → expression_value (early_operand (known_first groups headers values constants')) plan.base ≡ base_by plan groups headers values
base_at_hand plan groups headers values regions constants constants' is made same =
    value_at_hand plan (known_first groups headers values constants') constants' (constants_by groups headers values) plan.base (base_spoken plan)
    (λ some. same ∙ made some ∙ ap (constants_by groups headers) is)

-- what the base gives, by regions and constants, is where memory begins
pub memory_given : (plan : Plan) (groups : List (List InputFile)) (headers : ℕ) (values regions regions' : List (ℕ × ℕ)) (constants constants' : List (Option Valued)) (r : Result ℕ PlaceError)
    → Ok values ≡ regions_of plan.regions → regions ≡ values → AreAtHand plan (constants_by groups headers regions) constants → regions' ≡ values → constants' ≡ constants
    → r ≡ first_memory plan headers (expression_value (early_operand (known_first groups headers regions' constants')) plan.base)
    → begun_memory plan groups headers ≡ r
memory_given plan groups headers values regions regions' constants constants' r given is made is' same gives =
    let value : List (ℕ × ℕ) → List (Option Valued) → Valued = λ rs cs. expression_value (early_operand (known_first groups headers rs cs)) plan.base in
    sym (gives ∙ ap (first_memory plan headers) (ap (λ rs. value rs constants') is' ∙ base_at_hand plan groups headers values regions constants constants' is made same) ∙ ap (λ (rs : Result (List (ℕ × ℕ)) PlaceError). rs >>= λ regions. first_memory plan headers (base_by plan groups headers regions)) given)

-- the base, by regions and constants, is the value that was found
pub based : (plan : Plan) (groups : List (List InputFile)) (headers : ℕ) (values regions regions' : List (ℕ × ℕ)) (constants constants' : List (Option Valued)) (r : Valued)
    → regions ≡ values → AreAtHand plan (constants_by groups headers regions) constants → regions' ≡ values → constants' ≡ constants
    → r ≡ expression_value (early_operand (known_first groups headers regions' constants')) plan.base
    → base_by plan groups headers values ≡ r
based plan groups headers values regions regions' constants constants' r is made is' same gives =
    let value : List (ℕ × ℕ) → List (Option Valued) → Valued = λ rs cs. expression_value (early_operand (known_first groups headers rs cs)) plan.base in
    sym (gives ∙ ap (λ rs. value rs constants') is' ∙ base_at_hand plan groups headers values regions constants constants' is made same)

gives_refusal : (plan : Plan) (groups : List (List InputFile)) (headers : ℕ) (x : PlaceError) → begun_memory plan groups headers ≡ Err x → GivesBeginning plan groups headers (Err x)
gives_refusal plan groups headers NoMemory h = tt
gives_refusal plan groups headers (AddressOverflow at) h = h
gives_refusal plan groups headers (RegionDuplicate region) h = h
gives_refusal plan groups headers (Expression at cause) h = h
gives_refusal plan groups headers (BaseTooLow base room) h = h
gives_refusal plan groups headers (RegionUnknown s) h = h
gives_refusal plan groups headers (RegionOverflow region by) h = h
gives_refusal plan groups headers (OutsideRegion event address) h = h
gives_refusal plan groups headers (LocationBackwards from to) h = h
gives_refusal plan groups headers (SectionOutsideSegments s) h = h

-- a refusal that is handed on
pub begun_refused : (plan : Plan) (groups : List (List InputFile)) (headers : ℕ) (result : Result Beginning PlaceError) (e : PlaceError)
    → IsErrAnd result (λ x. x ≡ e) → begun_memory plan groups headers ≡ Err e → GivesBeginning plan groups headers result
begun_refused plan groups headers (Ok b) e h is = absurd h
begun_refused plan groups headers (Err x) e h is = gives_refusal plan groups headers x (is ∙ sym (ap (λ (y : PlaceError). Err y) h))
