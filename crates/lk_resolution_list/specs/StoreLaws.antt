-- Laws of what symbols stand for where redirects come to values in it: statements that functions of their own prove.
use Rattle.std.specs.Prelude.{◌≡◌, ℕ, false, List, Option, Ok, option_map}
use Rattle.lk_link.specs.declared.file.InputFile.{InputFile}
use Rattle.lk_link.specs.declared.resolution.Resolution.{Resolution}
use Rattle.lk_own_symbols.specs.Redirects.{AllPlaced, is_redirect, redirected, redirects_of}
use Rattle.lk_resolution_list.specs.Lists.{resolution_at}
use Rattle.lk_resolution_list.specs.Stores.{resolution_store, valued}

-- what symbols stand for changes in nothing but values, and in those of redirects alone
pub record ChangesValuesAlone (groups : List (List InputFile)) (before after : List (Option Resolution)) : Type 0 where
  pub others : (s : ℕ) → is_redirect groups s ≡ false → resolution_at after s ≡ resolution_at before s
  pub rest : (s : ℕ) → option_map (valued 0) (resolution_at after s) ≡ option_map (valued 0) (resolution_at before s)

-- so it does where redirects come to values
abbrev pub RedirectsChangeValuesAlone : Type 0
RedirectsChangeValuesAlone = (placed : AllPlaced) (before after : List (Option Resolution))
    → redirected resolution_store placed before (redirects_of placed.groups) ≡ Ok after → ChangesValuesAlone placed.groups before after
