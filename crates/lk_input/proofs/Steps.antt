-- Faults on their way out, and the items of a list on their way in.
use Rattle.std.proofs.Common.{ℕ, List, ◌++◌, Result, Ok, refl}
use Rattle.lk_input.specs.declared.read.error.InputError.{InputError}
use Rattle.lk_input.specs.declared.read.error.InputError.TheVariants.{NotJson, Shape, NoMemory}
use Rattle.lk_input.specs.ReadingSteps.{Path, ◌>>=◌, Fails, IsBelow, below}

-- what was read so far, before the rest
abbrev pub with_front : {A : Type 0} → List A → Result (List A) Path → Result (List A) Path
with_front front rest = rest >>= λ xs. Ok (front ++ xs)

-- a fault as seen from one step above is the fault of what stands one step below
pub Fails-below : {A : Type 0} (step : List ℕ) (e seen : InputError) (read : Result A Path) → Fails e read → IsBelow step e seen → Fails seen (below step read)
Fails-below step NotJson seen read h b = absurd h
Fails-below step (Shape path) NotJson read h b = absurd b
Fails-below step (Shape path) (Shape p) read h b = rw (h, b) refl
Fails-below step (Shape path) NoMemory read h b = tt
Fails-below step NoMemory NotJson read h b = absurd cc
Fails-below step NoMemory (Shape p) read h b = absurd cc
Fails-below step NoMemory NoMemory read h b = tt

pub ruleset on_their_way_out = (Fails-below)
