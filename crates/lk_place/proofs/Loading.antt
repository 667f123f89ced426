-- What stands behind a section that is placed: it and its parts, and what stood before it.
use Rattle.std.proofs.Common.{◌≡◌, ℕ, zero, suc, ◌+◌, ◌<◌, Bool, true, false, cond, List, [], ◌∷◌, length, take, Option, Some, None, refl, sym, ap, ◌∙◌, arith, add-one}
use Rattle.std.specs.Prelude.{◌==◌, ◌||◌, map, slice_get, Result, Ok, Err, IsErrAnd}
use Rattle.std.specs.List.{list_any}
use Rattle.std.proofs.Math.Path.{fun_ext}
use Rattle.std.proofs.lemmas.Bool.{eqb-true}
use Rattle.std.proofs.lemmas.List.{ext_get_or}
use Rattle.lk_link.specs.declared.plan.OrderEvent.{OrderEvent}
use Rattle.lk_link.specs.declared.plan.OrderEvent.TheVariants.{Section}
use Rattle.lk_link.specs.declared.plan.PlanPart.{PlanPart}
use Rattle.lk_link.specs.declared.plan.PlanSection.{PlanSection}
use Rattle.lk_link.specs.Expressions.{Term}
use Rattle.lk_link.specs.Parts.{all_parts, first_part}
use Rattle.lk_link.specs.PlanSections.{section_at}
use Rattle.lk_link.proofs.Numbers.{length-made, made_at}
use Rattle.lk_place.specs.declared.cursors.Cursors.{Cursors}
use Rattle.lk_place.specs.declared.cursors.Offsets.{Offsets}
use Rattle.lk_place.specs.declared.error.Refusal.{Refusal}
use Rattle.lk_place.specs.InRegions.{past_region, stands_in}
use Rattle.lk_place.specs.PlacedBefore.{PlacedRecords, is_placing, is_placing_part, lies_in, standing_before}
use Rattle.lk_place.specs.Placement.{load_by, load_given, loaded_by, placed_by, record_by, records_by, section_left, section_overflow, section_start, standing_with, unless}
use Rattle.lk_place.specs.CarriedOut.{IsPlacedBefore}
use Rattle.lk_expressions.specs.Expressions.{◌>>=◌}
use Rattle.lk_expressions.specs.Records.{Record, nowhere, record_at}
use Rattle.lk_place.specs.Segments.{hull, part_records}
use Rattle.lk_place.specs.Setting.{IsReady, Setting, part_count, part_number}
use Rattle.lk_place.specs.Walk.{Rewrites, all_loaded, all_written, cursors_of, left_loaded, load_or_none, rewritten}
use Rattle.lk_place.proofs.Knowing.{standing_alike}
use Rattle.lk_place.proofs.SectionParts.{part_of, parts_count}
use Rattle.lk_place.proofs.WalkRecords.{PlacesAt, among_other, section_there}
use Rattle.lk_place.proofs.PartEvents.{among_part}

-- ---- one element more

or_moves : (a b c : Bool) → (a || (b || c)) ≡ ((a || b) || c)
or_moves true b c = refl
or_moves false b c = refl

or_none : (a : Bool) → (a || false) ≡ a
or_none true = refl
or_none false = refl

-- one of some elements passes where one of those before the last does, or the last
any_next : {X : Type 0} (f : X → Bool) (xs : List X) (k : ℕ) (x : X) → slice_get xs k ≡ Some x → list_any f (take (suc k) xs) ≡ (list_any f (take k xs) || f x)
any_next f [] k x here = absurd (cc)
any_next f (y ∷ xs) zero x here = let same : y ≡ x = cc in or_none (f y) ∙ ap f same
any_next f (y ∷ xs) (suc k) x here = ap (λ (b : Bool). f y || b) (any_next f xs k x here) ∙ or_moves (f y) (list_any f (take k xs)) (f x)

-- what is told where one of two tests passes, and there is another thing to tell where the second does
told_with : {X : Type 0} (a b : Bool) (x y : Option X) → (b ≡ true → x ≡ y) → cond (a || b) x None ≡ cond b y (cond a x None)
told_with true true x y h = h refl
told_with true false x y h = refl
told_with false true x y h = h refl
told_with false false x y h = refl

-- ---- a section is placed

-- it leaves the records of what is placed before it
left_alone : (setting : Setting) (k s p : ℕ) (begin : Offsets) (old new : List Record) → IsReady setting → PlacesAt setting k s → Rewrites (all_written setting s begin) old new
    → IsPlacedBefore setting k p → record_at new p ≡ record_at old p
left_alone setting k s p begin old new ready here writes h =
    let lies : ℕ → Bool = lies_in (first_part setting.plan.sections s) (part_count setting.plan.sections s) in
    let other : lies (part_number setting.plan.sections h.s h.j) ≡ false
    = among_other setting h.s s h.j (section_there setting h.k h.s ready h.places) (section_there setting k s ready here)
    (λ same. absurd (omega (arith, h.early, ready.events.once h.k k (Section s) tt (h.places ∙ ap (λ (n : ℕ). Some (Section n)) same) here))) h.within in
    writes p ∙ ap (λ (b : Bool). cond b (record_by setting s begin p) (record_at old p)) (ap lies h.is ∙ other)

-- and makes those of its parts
parts_made : (setting : Setting) (s : ℕ) (begin : Offsets) (old new : List Record) → length new ≡ length (all_parts setting.plan.sections) → s < length setting.plan.sections
    → Rewrites (all_written setting s begin) old new → part_records setting.plan.sections new s ≡ records_by setting s begin
parts_made setting s begin old new each below writes =
    let sections : List PlanSection = setting.plan.sections in
    let parts : List PlanPart = (section_at sections s).parts in
    let count : length (part_records sections new s) ≡ part_count sections s = parts_count sections new s each below in
    ext_get_or nowhere (part_records sections new s) (records_by setting s begin) (count ∙ sym (length-made (record_by setting s begin) parts (first_part sections s)))
    (λ j less.
    let within : j < part_count sections s = omega (arith, count) in
    let p : ℕ = part_number sections s j in
    part_of sections new s j below within
    ∙ writes p
    ∙ ap (λ (b : Bool). cond b (record_by setting s begin p) (record_at old p)) (among_part (first_part sections s) (part_count sections s) j within)
    ∙ sym (made_at (record_by setting s begin) nowhere parts (first_part sections s) j within))

-- behind it there stands what it adds to what stood
pub standing_behind : (setting : Setting) (k s : ℕ) (begin : Offsets) (old new : List Record) → IsReady setting → PlacesAt setting k s
    → length old ≡ length (all_parts setting.plan.sections) → length new ≡ length (all_parts setting.plan.sections) → Rewrites (all_written setting s begin) old new
    → standing_before setting.plan new (k + 1) ≡ standing_with setting (standing_before setting.plan old k) s begin
standing_behind setting k s begin old new ready here each_old each_new writes =
    let sections : List PlanSection = setting.plan.sections in
    let events : List OrderEvent = setting.plan.events in
    let below : s < length sections = section_there setting k s ready here in
    let before : PlacedRecords = standing_before setting.plan new k in
    let after : PlacedRecords = standing_before setting.plan new (k + 1) in
    let added : PlacedRecords = standing_with setting before s begin in
    let more : (f : OrderEvent → Bool) → list_any f (take (k + 1) events) ≡ (list_any f (take k events) || f (Section s))
    = λ f. ap (λ (n : ℕ). list_any f (take n events)) (add-one k) ∙ any_next f events k (Section s) here in
    let spans : ℕ → Option Record = λ t. Some (hull (part_records sections new t)) in
    let section : after.section ≡ added.section = fun_ext (λ t.
    ap (λ (b : Bool). cond b (spans t) None) (more (is_placing t))
    ∙ told_with (list_any (is_placing t) (take k events)) (s == t) (spans t) (Some (hull (records_by setting s begin)))
    (λ hit. ap spans (sym (eqb-true s t hit)) ∙ ap (λ (rs : List Record). Some (hull rs)) (parts_made setting s begin old new each_new below writes))) in
    let part : after.part ≡ added.part = fun_ext (λ p.
    let lies : Bool = lies_in (first_part sections s) (part_count sections s) p in
    ap (λ (b : Bool). cond b (Some (record_at new p)) None) (more (is_placing_part sections p))
    ∙ told_with (list_any (is_placing_part sections p) (take k events)) lies (Some (record_at new p)) (Some (record_by setting s begin p))
    (λ hit. ap (λ (r : Record). Some r) (writes p ∙ ap (λ (b : Bool). cond b (record_by setting s begin p) (record_at old p)) hit))) in
    let of : (ℕ → Option Record) → (ℕ → Option Record) → PlacedRecords = λ f g. record { section = f; part = g } in
    ap (λ f. of f after.part) section
    ∙ ap (of added.section) part
    ∙ ap (λ (x : PlacedRecords). standing_with setting x s begin) (standing_alike setting k new old ready each_new each_old (λ p h. left_alone setting k s p begin old new ready here writes h))

-- ---- the load address

-- the load address of a section, by the records behind it, is the one that it is given
pub load_known : (setting : Setting) (k s : ℕ) (from left : Cursors) (old new : List Record) → IsReady setting → PlacesAt setting k s
    → length old ≡ length (all_parts setting.plan.sections) → length new ≡ length (all_parts setting.plan.sections) → Rewrites (all_written setting s (section_start setting s from)) old new
    → left ≡ section_left setting s from
    → load_by setting s (standing_before setting.plan new (k + 1)) left (section_at setting.plan.sections s).at ≡ load_given setting (standing_before setting.plan old k) s from
load_known setting k s from left old new ready here each_old each_new writes is =
    let at : Option Term = (section_at setting.plan.sections s).at in
    ap (λ (x : PlacedRecords). load_by setting s x left at) (standing_behind setting k s (section_start setting s from) old new ready here each_old each_new writes)
    ∙ ap (λ (c : Cursors). load_by setting s (standing_with setting (standing_before setting.plan old k) s (section_start setting s from)) c at) is

-- a section that is placed isn't refused for its parts, and leaves these cursors
pub placed_is : (o : Option Refusal) (x left : Cursors) → Ok x ≡ unless o left → (o ≡ None) × (x ≡ left)
placed_is None x left h = (refl, cc)
placed_is (Some r) x left h = absurd (cc)

-- one whose load address has no value is refused
pub loads_refused : (o : Option Refusal) (load : Result (Option ℕ) Refusal) (r : Result Cursors Refusal) (e : Refusal) (left : Cursors) → o ≡ None → Err e ≡ load → IsErrAnd r (λ x. x ≡ e)
    → r ≡ (unless o left >>= λ to. load >>= λ l. Ok to)
loads_refused (Some x) load r e left none h told = absurd (cc)
loads_refused None (Ok l) r e left none h told = absurd (cc)
loads_refused None (Err x) (Ok c) e left none h told = absurd told
loads_refused None (Err x) (Err y) e left none h told = let same : e ≡ x = cc in ap (λ (z : Refusal). Err z) (told ∙ same)

-- and no other
pub loads_passed : (o : Option Refusal) (load : Result (Option ℕ) Refusal) (l : Option ℕ) (c left : Cursors) → o ≡ None → Ok l ≡ load → c ≡ left
    → Ok c ≡ (unless o left >>= λ to. load >>= λ m. Ok to)
loads_passed (Some x) load l c left none h is = absurd (cc)
loads_passed None (Err x) l c left none h is = absurd (cc)
loads_passed None (Ok m) l c left none h is = ap (λ (d : Cursors). Ok d) is

-- its parts are written, and loaded
pub loads_written : (setting : Setting) (standing : PlacedRecords) (s : ℕ) (from : Cursors) (load : Option ℕ) (old mid new : List Record) → Ok load ≡ load_given setting standing s from
    → Rewrites (all_written setting s (section_start setting s from)) old mid → Rewrites (all_loaded setting s load) mid new → Rewrites (rewritten setting standing (Some s) from) old new
unfolding rewritten
loads_written setting standing s from load old mid new given writes loads p =
    loads p
    ∙ ap (all_loaded setting s load p) (writes p)
    ∙ ap (λ (l : Option ℕ). all_loaded setting s l p (all_written setting s (section_start setting s from) p (record_at old p))) (ap load_or_none given)

-- then its region refuses it, or goes on behind it
unless_left : (o : Option Refusal) (to : Cursors) (rs : List Record) → unless o to ≡ cursors_of (unless o (to, rs))
unless_left None to rs = refl
unless_left (Some r) to rs = refl

then_left : (o : Option Refusal) (load : Result (Option ℕ) Refusal) (past : Cursors → Option Refusal) (left x : Cursors) (made : Option ℕ → List Record) → Ok x ≡ (unless o left >>= λ to. load >>= λ l. Ok to)
    → unless (past x) x ≡ cursors_of (unless o left >>= λ (to : Cursors). load >>= λ (l : Option ℕ). let given : Cursors × List Record = (to, made l) in unless (past to) given)
then_left None (Ok l) past left x made h =
    let same : x ≡ left = cc in
    ap (λ (c : Cursors). unless (past c) c) same ∙ unless_left (past left) left (made l)
then_left None (Err r) past left x made h = absurd (cc)
then_left (Some r) load past left x made h = absurd (cc)

pub region_left : (setting : Setting) (standing : PlacedRecords) (s : ℕ) (from x : Cursors) (r : Result Cursors Refusal) → Ok x ≡ left_loaded setting standing s from
    → r ≡ unless (past_region setting (stands_in setting.plan s) x.memory) x → r ≡ cursors_of (placed_by setting standing (Some s) from)
region_left setting standing s from x r placed left =
    left ∙ then_left (section_overflow setting s from) (load_given setting standing s from) (λ to. past_region setting (stands_in setting.plan s) to.memory) (section_left setting s from) x
    (λ load. map (loaded_by load) (records_by setting s (section_start setting s from))) placed
