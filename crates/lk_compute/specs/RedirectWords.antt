-- Words of private contracts: what setting redirects gives.
use Rattle.std.specs.Prelude.{◌≡◌, false, List, Option, Some, Result, Ok, Err}
use Rattle.lk_link.specs.declared.resolution.Resolution.{Resolution}
use Rattle.lk_layout.specs.declared.error.LayoutError.{LayoutError}
use Rattle.lk_layout.specs.Defined.{is_memory}
use Rattle.lk_layout.specs.Made.{Made}
use Rattle.lk_layout.specs.Redirects.{made_redirected, redirects_refusal}

-- the resolutions behind all redirects are at hand, or they are refused so, unless memory ran out
abbrev pub GivesResolutions : {A : Type 0} → Made → Result A LayoutError → List (Option Resolution) → Type 0
GivesResolutions made (Ok a) resolutions = made_redirected made ≡ Ok resolutions
GivesResolutions made (Err e) resolutions = is_memory e ≡ false → redirects_refusal made ≡ Some e
