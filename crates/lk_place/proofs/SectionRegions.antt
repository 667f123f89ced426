-- The table of the regions of sections, and where each region begins.
use Rattle.std.proofs.Common.{◌≡◌, ℕ, zero, suc, ◌+◌, ◌<◌, List, [], ◌∷◌, length, map, Option, Some, None, refl, sym, ap, ◌∙◌}
use Rattle.std.specs.Prelude.{position, slice_get, unwrap_or, Result, Ok, Err}
use Rattle.std.proofs.lemmas.List.{length-map}
use Rattle.std.specs.List.{slice_index}
use Rattle.std.specs.Str.{bytes_eq}
use Rattle.std.proofs.lemmas.List.Quantifiers.{position-Some}
use Rattle.lk_link.specs.declared.plan.Plan.{Plan}
use Rattle.lk_link.specs.declared.plan.PlanSection.{PlanSection}
use Rattle.lk_link.specs.declared.plan.Region.{Region}
use Rattle.lk_link.specs.declared.expression.Operand.TheVariants.{Number}
use Rattle.lk_link.specs.Expressions.{Leaf}
use Rattle.lk_link.specs.PlanSections.{section_at}
use Rattle.lk_place.specs.declared.regions.SectionRegion.{SectionRegion}
use Rattle.lk_place.specs.declared.regions.SectionRegion.TheVariants.{Free}
use Rattle.lk_place.specs.declared.error.PlaceError.{PlaceError}
use Rattle.lk_place.specs.InRegions.{IsAmong, named_region, numbered_region, span_of, stands_in}
use Rattle.lk_place.specs.Regions.{all_given, given_regions, region_of, regions_of}
use Rattle.lk_place.proofs.GivenLists.{with_first}
use Rattle.lk_place.specs.Setting.{Setting}

read_mapped : (regions : List Region) (sections : List PlanSection) (s : ℕ)
    → unwrap_or (slice_get (map (λ q. named_region regions q.region) sections) s) Free ≡ named_region regions (section_at sections s).region
read_mapped regions [] s = refl
read_mapped regions (x ∷ xs) zero = refl
read_mapped regions (x ∷ xs) (suc s) = read_mapped regions xs s

-- the table tells in which region a section stands
pub stands_there : (plan : Plan) (table : List SectionRegion) (s : ℕ) → table ≡ map (λ q. named_region plan.regions q.region) plan.sections → unwrap_or (slice_get table s) Free ≡ stands_in plan s
stands_there plan table s is = ap (λ t. unwrap_or (slice_get t s) Free) is ∙ read_mapped plan.regions plan.sections s

numbered_among : (count : ℕ) (o : Option ℕ) → ((r : ℕ) → o ≡ Some r → r < count) → IsAmong count (numbered_region o)
numbered_among count None below = tt
numbered_among count (Some r) below = below r refl

-- stands for a region where there is none
pub nameless : Region
nameless = record { name = []; origin = Leaf (Number 0); length = Leaf (Number 0) }

-- it is one of those of the plan
pub named_among : (regions : List Region) (name : Option (List ℕ)) → IsAmong (length regions) (named_region regions name)
named_among regions None = tt
named_among regions (Some name) =
    numbered_among (length regions) (position (λ q. bytes_eq q.name name) regions) (λ r is. (position-Some (λ q. bytes_eq q.name name) regions r nameless is).0)

with_count : {X : Type 0} (r : Result X PlaceError) (rest : Result (List X) PlaceError) (ys : List X) (n : ℕ) → ((zs : List X) → rest ≡ Ok zs → length zs ≡ n) → with_first r rest ≡ Ok ys → length ys ≡ suc n
with_count (Err e) rest ys n count h = absurd (cc)
with_count (Ok x) (Err e) ys n count h = absurd (cc)
with_count {X} (Ok x) (Ok xs) ys n count h =
    let same : (x ∷ xs) ≡ ys = cc in
    sym (ap length same) ∙ ap suc (count xs refl)

given_count : {A X : Type 0} (f : ℕ → A → Result X PlaceError) (i : ℕ) (xs : List A) (ys : List X) → all_given f i xs ≡ Ok ys → length ys ≡ length xs
unfolding all_given
given_count {A} {X} f i [] ys h = let same : [] ≡ ys = cc in sym (ap length same)
given_count f i (a ∷ later) ys h = with_count (f i a) (all_given f (i + 1) later) ys (length later) (λ zs is. given_count f (i + 1) later zs is) h

-- the origins of some regions, by number
origin_at : (spans : List (ℕ × ℕ)) (r : ℕ) → slice_index (map (λ p. p.0) spans) r ≡ (unwrap_or (slice_get spans r) (0, 0)).0
origin_at [] r = refl
origin_at (x ∷ xs) zero = refl
origin_at (x ∷ xs) (suc r) = origin_at xs r

-- a table of the origins of regions that aren't refused has one for each
pub origins_count : (setting : Setting) (table items : List ℕ) (spans values : List (ℕ × ℕ)) → table ≡ items → items ≡ map (λ p. p.0) spans → spans ≡ values
    → regions_of setting.plan.regions ≡ Ok values → length table ≡ length setting.plan.regions
origins_count setting table items spans values same made is given =
    ap length (same ∙ made) ∙ length-map spans (λ p. p.0) ∙ ap length is ∙ given_count (region_of setting.plan.regions) 0 setting.plan.regions values given

-- which is where it goes on at first
pub origins_are : (setting : Setting) (table items : List ℕ) (spans values : List (ℕ × ℕ)) → table ≡ items → items ≡ map (λ p. p.0) spans → spans ≡ values
    → regions_of setting.plan.regions ≡ Ok values → (r : ℕ) → slice_index table r ≡ (span_of setting r).0
origins_are setting table items spans values same made is given r =
    ap (λ t. slice_index t r) (same ∙ made) ∙ origin_at spans r ∙ ap (λ (vs : List (ℕ × ℕ)). (unwrap_or {T = ℕ × ℕ} (slice_get vs r) (0, 0)).0) (is ∙ sym (ap given_regions given))
