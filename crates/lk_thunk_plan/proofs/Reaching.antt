-- Where no branch is named, each reaches.
use Rattle.std.proofs.Common.{◌≡◌, ℕ, ◌+◌, ◌&&◌, ◌||◌, ◌⊎◌, inl, inr, Bool, true, false, not, if◌then◌else◌, List, [], ◌∷◌, Option, Some, None, refl, sym, ap, ◌∙◌, arith}
use Rattle.std.specs.Prelude.{option_and_then}
use Rattle.std.specs.List.{enumerate_from, flat_map, slice_get}
use Rattle.std.specs.Option.{option_map_or}
use Rattle.std.proofs.lemmas.Bool.{ltb-true}
use Rattle.lk_link.specs.InputSlots.{is_regular}
use Rattle.lk_link.specs.Inputs.{NumberedFile, numbered_files}
use Rattle.lk_link.specs.Symbols.{file_number, first_symbol}
use Rattle.lk_link.proofs.Elements.{flat_map_in}
use Rattle.lk_link.proofs.InputLemmas.{file_stands, numbered_get}
use Rattle.lk_reach.specs.Units.{local_definition}
use Rattle.lk_deltas.specs.Deletions.{mapped_by}
use Rattle.lk_thunks.specs.declared.arch.ThunkConfig.{ThunkConfig}
use Rattle.lk_thunks.specs.declared.reach.BranchSite.{BranchSite}
use Rattle.lk_thunks.specs.Reach.{is_near, reaches}
use Rattle.lk_thunk_plan.specs.declared.check.BranchPlace.{BranchPlace}
use Rattle.lk_thunk_plan.specs.BranchLaws.{AreNear, BranchesReach}
use Rattle.lk_thunk_plan.specs.Branches.{BranchOrigin, file_unreached, is_reaching, relocation_unreached, section_unreached, standing_of, thunk_in}

-- where nothing comes of all, nothing comes of each
nothing_of : {X Y : Type 0} (f : X → List Y) (xs : List X) (k : ℕ) (x : X) → flat_map f xs ≡ [] → slice_get xs k ≡ Some x → f x ≡ []
nothing_of f xs k x none at = by (f x) refl
  where
    no_element : {Z : Type 0} (i : ℕ) (z : Z) → slice_get [] i ≡ Some z → ⊥
    no_element i z h = absurd (cc)

    by : (ys : List _) → f x ≡ ys → f x ≡ []
    by [] e = e
    by (y ∷ ys) e =
        let there = flat_map_in f xs k 0 x y at (ap (λ zs. slice_get zs 0) e) in
        absurd (no_element there.0 y (ap (λ zs. slice_get zs there.0) (sym none) ∙ there.1))

-- the same by number
nothing_at : {X Y : Type 0} (f : ℕ × X → List Y) (xs : List X) (k : ℕ) (x : X) → flat_map f (enumerate_from 0 xs) ≡ [] → slice_get xs k ≡ Some x → f (k, x) ≡ []
nothing_at f xs k x none at =
    let number : 0 + k ≡ k = omega arith in
    nothing_of f (enumerate_from 0 xs) k (k, x) none (numbered_get 0 xs k x at ∙ ap (λ (n : ℕ). Some (n, x)) number)

-- what isn't named passes
passes : {Y : Type 0} (a b : Bool) (y : Y) → a ≡ true → (if a && not b then y ∷ [] else []) ≡ [] → b ≡ true
passes true true y h e = refl
passes true false y h e = absurd (cc)
passes false b y h e = absurd (cc)

-- a branch that reaches is near its target, or its thunk
near_one : (range site target : ℕ) (thunk : Option ℕ) → reaches range (record { site = site; target = target; thunk = thunk }) ≡ true
    → AreNear range site target ⊎ ((t : ℕ) × (thunk ≡ Some t) × AreNear range site t)
near_one range site target thunk h = by (is_near range site target) refl h
  where
    to_thunk : (o : Option ℕ) → option_map_or (is_near range site) o false ≡ true → (t : ℕ) × (o ≡ Some t) × AreNear range site t
    to_thunk None e = absurd (cc)
    to_thunk (Some t) e = (t, refl, ltb-true _ range e)

    by : (b : Bool) → is_near range site target ≡ b → (b || option_map_or (is_near range site) thunk false) ≡ true
        → AreNear range site target ⊎ ((t : ℕ) × (thunk ≡ Some t) × AreNear range site t)
    by true e k = inl (ltb-true _ range e)
    by false e k = inr (to_thunk thunk k)

pub branches_reach : BranchesReach
branches_reach by none config id file i k r target some b goes =
    let groups = by.link.groups in
    let f : NumberedFile = record { id = id; file = file } in
    let standing : BranchOrigin = standing_of by id (i, b.section) in
    let d : ℕ = local_definition (first_symbol groups id) file.symbols r.symbol in
    let of_files : flat_map (file_unreached by config) (numbered_files groups) ≡ []
    = sym (ap (λ (o : Option ThunkConfig). option_map_or (λ c. flat_map (file_unreached by c) (numbered_files groups)) o []) some) ∙ none in
    let of_file = nothing_of (file_unreached by config) (numbered_files groups) (file_number groups id) f of_files (file_stands groups id file b.there) in
    let of_section = nothing_at (section_unreached by config f) file.sections i b.section of_file b.at in
    let all : List BranchPlace = flat_map (relocation_unreached by config f i standing) (enumerate_from 0 b.section.relocs) in
    let of_relocations : all ≡ []
    = sym (ap (λ m. if m && is_regular b.section.slot then all else []) b.lives ∙ ap (λ m. if m then all else []) b.regular) ∙ of_section in
    let of_one = nothing_at (relocation_unreached by config f i standing) b.section.relocs k r of_relocations b.relocation in
    let reached : is_reaching config by.resolutions standing r.offset d ≡ true
    = passes r.thunkable (is_reaching config by.resolutions standing r.offset d) (record { file = id; section = i; relocation = k }) b.thunkable of_one in
    let site : BranchSite = record { site = standing.address + mapped_by standing.deleted r.offset; target = target; thunk = option_and_then (thunk_in config.thunk_size d) standing.thunks } in
    near_one config.min_branch_range site.site target site.thunk
    (sym (ap (λ (o : Option ℕ). option_map_or (λ t. reaches config.min_branch_range (record site { target = t })) o true) goes) ∙ reached)
