-- Regions that aren't refused have names of their own, so one that has a name is the one that has it.
use Rattle.std.specs.Prelude.{◌≡◌, ℕ, zero, suc, ◌+◌, ◌<◌, ◌≤◌, Bool, true, false, if◌then◌else◌, List, [], ◌∷◌, Option, Some, None, Result, Ok, Err, length, take, slice_get, position, refl}
use Rattle.std.specs.List.{list_any, position_or_len}
use Rattle.std.specs.Option.{option_map_or}
use Rattle.std.specs.Str.{bytes_eq}
use Rattle.std.proofs.Common.{sym, ap, ◌∙◌, ⊎_elim, arith, cond, get_or}
use Rattle.std.proofs.lemmas.Bool.{cases_lt, lt-ltb}
use Rattle.std.proofs.lemmas.List.Sums.{passes_at_first, fails_before_first}
use Rattle.std.proofs.lemmas.Option.{get_or_from_slice_get, slice_get-get_or, slice_get_within}
use Rattle.std.proofs.lemmas.Slice.Eq.{bytes_eq-Decides}
use Rattle.lk_link.specs.declared.plan.Region.{Region}
use Rattle.lk_link.proofs.Places.{among}
use Rattle.lk_place.specs.declared.error.PlaceError.{PlaceError}
use Rattle.lk_place.specs.declared.error.PlaceError.TheVariants.{RegionDuplicate}
use Rattle.lk_place.specs.RegionNames.{HaveOwnNames, is_named}
use Rattle.lk_place.specs.Regions.{all_given, is_declared, region_of, region_value, regions_of, valued_region}
use Rattle.lk_place.proofs.GivenLists.{with_first}

-- what passes, and before it nothing, is the first that passes
first_at : {X : Type 0} (p : X → Bool) (xs : List X) (k : ℕ) (x : X) → slice_get xs k ≡ Some x → p x ≡ true → list_any p (take k xs) ≡ false → position p xs ≡ Some k
first_at p xs k x here passes none =
    let n : ℕ = position_or_len p xs in
    let inside : k < length xs = slice_get_within xs k x here in
    let below : n ≤ k = ⊎_elim
    (λ behind. absurd (let fails : p (get_or xs k x) ≡ false = fails_before_first p xs k x behind in let is : get_or xs k x ≡ x = get_or_from_slice_get xs k x x here in cc))
    (λ at. at)
    (cases_lt k n) in
    let above : k ≤ n = ⊎_elim
    (λ before. absurd (let short : n < length xs = omega (arith, inside, before) in let any : list_any p (take k xs) ≡ true = among p xs n k (get_or xs n x) before (slice_get-get_or xs n x short) (passes_at_first p xs x short) in cc))
    (λ at. at)
    (cases_lt n k) in
    let same : n ≡ k = omega (arith, below, above) in
    ap (λ b. cond b (Some n) None) (lt-ltb n (length xs) (omega (arith, inside, same))) ∙ ap Some same

-- the first with a name is the one that has it
named_one : (regions : List Region) (name : List ℕ) (i : ℕ) (o : Option Region) → HaveOwnNames regions → slice_get regions i ≡ o → option_map_or (λ r. bytes_eq r.name name) o false ≡ true
    → Some i ≡ position (λ r. bytes_eq r.name name) regions
named_one regions name i None own here named = absurd (cc)
named_one regions name i (Some r) own here named =
    let same : r.name ≡ name = (bytes_eq-Decides r.name name).0 named in
    sym (first_at (λ q. bytes_eq q.name name) regions i r here named (ap (is_declared (take i regions)) (sym same) ∙ own i r here))

pub named_first : (regions : List Region) (name : List ℕ) (i : ℕ) → HaveOwnNames regions → is_named regions name i ≡ true → Some i ≡ position (λ r. bytes_eq r.name name) regions
named_first regions name i own named = named_one regions name i (slice_get regions i) own refl named

-- what is first, and what follows, of what is given
both_given : {X : Type 0} (r : Result X PlaceError) (rest : Result (List X) PlaceError) (ys : List X) → with_first r rest ≡ Ok ys → ((x : X) × (r ≡ Ok x)) × ((zs : List X) × (rest ≡ Ok zs))
both_given (Err e) rest ys h = absurd (cc)
both_given (Ok x) (Err e) ys h = absurd (cc)
both_given (Ok x) (Ok xs) ys h = ((x, refl), (xs, refl))

-- where all give something, each does
one_given : {A X : Type 0} (f : ℕ → A → Result X PlaceError) (i : ℕ) (xs : List A) (ys : List X) (k : ℕ) (a : A) → all_given f i xs ≡ Ok ys → slice_get xs k ≡ Some a → (x : X) × (f (i + k) a ≡ Ok x)
unfolding all_given
one_given f i [] ys k a h here = absurd (cc)
one_given f i (b ∷ later) ys zero a h here =
    let first = (both_given (f i b) (all_given f (i + 1) later) ys h).0 in
    let same : b ≡ a = cc in
    let at : i + zero ≡ i = omega arith in
    (first.0, ap (λ n. f n a) at ∙ ap (f i) (sym same) ∙ first.1)
one_given f i (b ∷ later) ys (suc k) a h here =
    let rest = (both_given (f i b) (all_given f (i + 1) later) ys h).1 in
    let more = one_given f (i + 1) later rest.0 k a rest.1 here in
    let at : i + suc k ≡ i + 1 + k = omega arith in
    (more.0, ap (λ n. f n a) at ∙ more.1)

passed : (b : Bool) (i : ℕ) (v : Result (ℕ × ℕ) PlaceError) (x : ℕ × ℕ) → (if b then Err (RegionDuplicate i) else v) ≡ Ok x → b ≡ false
passed true i v x h = absurd (cc)
passed false i v x h = refl

-- regions that aren't refused have names of their own
pub own_names : (regions : List Region) (values : List (ℕ × ℕ)) → regions_of regions ≡ Ok values → HaveOwnNames regions
own_names regions values given i r here =
    let one = one_given (region_of regions) 0 regions values i r given here in
    let at : i ≡ 0 + i = omega arith in
    passed (is_declared (take i regions) r.name) i (valued_region i (region_value r)) one.0 (ap (λ n. region_of regions n r) at ∙ one.1)
