-- What asks do, one after the other.
use Rattle.std.proofs.Common.{◌≡◌, ℕ, zero, suc, ◌+◌, true, false, List, [], ◌∷◌, ◌++◌, None, Some, append-nil, append_assoc, drop, take, refl, sym, ap, ◌∙◌, subst, arith, inl}
use Rattle.std.specs.Iterator.{Yields, YieldsFirst}
use Rattle.std.specs.List.{flat_map, slice_get}
use Rattle.std.specs.Prelude.{Err, Ok, OnErr, Result}
use Rattle.std.proofs.lemmas.List.Elements.{All-append, All-cons, All-head, All-nil}
use Rattle.lk_flags.specs.declared.flags.FlagSet.{FlagSet}
use Rattle.lk_flags.specs.Lists.{Lists}
use Rattle.lk_link.specs.declared.file.InputFile.{InputFile}
use Rattle.lk_link.specs.declared.link.LinkInput.{LinkInput}
use Rattle.lk_reach.specs.declared.units.Ask.{Ask}
use Rattle.lk_reach.specs.declared.units.Ask.TheVariants as ask
use Rattle.lk_reach.specs.declared.units.Unit.{Unit as LinkUnit}
use Rattle.lk_reach.specs.Marks.{IsUnit, unit_at, unit_number}
use Rattle.lk_reach.specs.Units.{follows}
use Rattle.lk_reach.proofs.MarkLemmas.{all_left, all_right}
use Rattle.lk_slot_link.specs.LinkGraphs.{unit_group}
use Rattle.lk_workers.specs.declared.work.WorkItem.{WorkItem}
use Rattle.lk_workers.specs.Items.{AreOwn, IsOwn}
use Rattle.lk_workers.specs.States.{DoesOne, StateValue, is_done}
use Rattle.lk_workers.specs.Steps.{AreGivenUp, DoesAsk, DoesAsks, DoesSome, DoesUnit, IsGivenUp}

pub own_more : (l : Lists) (g : ℕ) (items : List WorkItem) (item : WorkItem) → AreOwn l g items → IsOwn l g item → AreOwn l g (items ++ item ∷ [])
own_more l g items item all own = All-append (IsOwn l g) items (item ∷ []) all (All-cons (IsOwn l g) item [] own (All-nil (IsOwn l g)))

pub does_none : (groups : List (List InputFile)) (state : StateValue) (sets : List FlagSet) → DoesAsks groups [] state state sets sets
unfolding DoesAsks
does_none groups state sets = (refl, refl)

-- one ask more
pub does_more : (groups : List (List InputFile)) (asks : List Ask) (a : Ask) (old mid new : StateValue) (before between after : List FlagSet)
    → DoesAsks groups asks old mid before between → DoesAsk groups a mid new between after → DoesAsks groups (asks ++ a ∷ []) old new before after
unfolding DoesAsks
does_more groups [] a old mid new before between after done step =
    (new, after, subst (λ s. DoesAsk groups a s new before after) done.0 (subst (λ x. DoesAsk groups a mid new x after) done.1 step), (refl, refl))
does_more groups (b ∷ asks) a old mid new before between after done step =
    (done.0, done.1, done.2, does_more groups asks a done.0 mid new done.1 between after done.3 step)

-- asks, and then others
pub does_both : (groups : List (List InputFile)) (asks more : List Ask) (old mid new : StateValue) (before between after : List FlagSet)
    → DoesAsks groups asks old mid before between → DoesAsks groups more mid new between after → DoesAsks groups (asks ++ more) old new before after
unfolding DoesAsks
does_both groups [] more old mid new before between after done rest =
    subst (λ s. DoesAsks groups more s new before after) done.0 (subst (λ x. DoesAsks groups more mid new x after) done.1 rest)
does_both groups (b ∷ asks) more old mid new before between after done rest =
    (done.0, done.1, done.2, does_both groups asks more done.0 mid new done.1 between after done.3 rest)

-- ---- asks that are given up

-- what holds does so where a result is an error
pub on_err : {T E P : Type 0} (r : Result T E) → P → OnErr r P
on_err (Ok x) h = tt
on_err (Err e) h = h

yields_split : (s t done : List Ask) → Yields (YieldsFirst {S = List Ask} (λ left. left)) s done t → s ≡ done ++ t
yields_split s t [] y = y
yields_split s t (x ∷ done) y = y.1 ∙ ap (λ xs. x ∷ xs) (yields_split y.0 t done y.2)

-- those that came, the one that comes next, and the others are all
pub asks_split : (all s t u done : List Ask) (x : Ask) → s ≡ all → Yields (YieldsFirst {S = List Ask} (λ left. left)) s done t → YieldsFirst {S = List Ask} (λ left. left) t (Some x) u → all ≡ done ++ x ∷ u
asks_split all s t u done x begins yielded next = sym begins ∙ yields_split s t done yielded ∙ ap (λ xs. done ++ xs) next

-- those before an ask that is given up are done
pub does_before : (groups : List (List InputFile)) (all first : List Ask) (a : Ask) (rest : List Ask) (old mid new : StateValue) (before between after : List FlagSet) → all ≡ first ++ a ∷ rest
    → DoesAsks groups first old mid before between → (new ≡ mid) × IsGivenUp a between after → DoesSome groups all old new before after
does_before groups all first a rest old mid new before between after are does up = record {
  first = first;
  rest = a ∷ rest;
  are = are;
  sets = between;
  does = subst (λ s. DoesAsks groups first old s before between) (sym up.0) does;
  left = up.1;
}

up_behind : (rest last : List Ask) (before after : List FlagSet) → AreGivenUp rest before after → AreGivenUp (rest ++ last) before after
up_behind [] [] before after up = up
up_behind [] (ask.Reference s flags ∷ last) before after up = inl up
up_behind [] (ask.Section id i ∷ last) before after up = up
up_behind [] (ask.Mark s flags ∷ last) before after up = up
up_behind (a ∷ rest) last before after up = up

-- some of the asks behind those that are done, and others behind them
pub does_some : (groups : List (List InputFile)) (all done asks last : List Ask) (old mid new : StateValue) (before between after : List FlagSet) → all ≡ done ++ (asks ++ last)
    → DoesAsks groups done old mid before between → DoesSome groups asks mid new between after → DoesSome groups all old new before after
does_some groups all done asks last old mid new before between after are does some = record {
  first = done ++ some.first;
  rest = some.rest ++ last;
  are = are ∙ ap (λ xs. done ++ (xs ++ last)) some.are ∙ ap (λ xs. done ++ xs) (append_assoc some.first some.rest last) ∙ sym (append_assoc done some.first (some.rest ++ last));
  sets = some.sets;
  does = does_both groups done some.first old mid new before between some.sets does some.does;
  left = up_behind some.rest last some.sets after some.left;
}

-- asks that are done, and others that aren't
pub does_first : (groups : List (List InputFile)) (all first rest : List Ask) (old new : StateValue) (before after : List FlagSet) → all ≡ first ++ rest → DoesAsks groups first old new before after
    → DoesSome groups all old new before after
does_first groups all first rest old new before after are does =
    record { first = first; rest = rest; are = are; sets = after; does = does; left = up_behind [] rest after after refl }

-- ---- units

pub group_at : (groups : List (List InputFile)) (unit : LinkUnit) (n g : ℕ) → n ≡ unit_number groups unit → IsUnit groups unit → unit_group groups (Some unit) ≡ g → unit_group groups (unit_at groups n) ≡ g
group_at groups unit n g e is own = ap (λ m. unit_group groups (unit_at groups m)) e ∙ ap (unit_group groups) is ∙ own

-- a unit that wasn't done
pub does_fresh : (groups : List (List InputFile)) (link : LinkInput) (unit : LinkUnit) (n : ℕ) (old marked new : StateValue) (before after : List FlagSet) → n ≡ unit_number groups unit
    → is_done old n ≡ false → DoesOne old n marked → DoesAsks groups (follows link unit) marked new before after → DoesUnit groups link unit old new before after
does_fresh groups link unit n old marked new before after e isnt one asks =
    let isnt_done : is_done old (unit_number groups unit) ≡ false = subst (λ m. is_done old m ≡ false) e isnt in
    rw isnt_done (marked, subst (λ m. DoesOne old m marked) e one, asks)

-- one that was
pub does_again : (groups : List (List InputFile)) (link : LinkInput) (unit : LinkUnit) (n : ℕ) (old new : StateValue) (before after : List FlagSet) → n ≡ unit_number groups unit
    → is_done old n ≡ true → new ≡ old → after ≡ before → DoesUnit groups link unit old new before after
does_again groups link unit n old new before after e is same sets =
    let is_there : is_done old (unit_number groups unit) ≡ true = subst (λ m. is_done old m ≡ true) e is in
    rw is_there (same, sets)

-- ---- files

-- what one file more asks for
pub roots_more : {X Y : Type 0} (f : X → List Y) (xs : List X) (k : ℕ) (x : X) → slice_get xs k ≡ Some x → flat_map f (take (k + 1) xs) ≡ flat_map f (take k xs) ++ f x
roots_more f [] k x h = absurd (cc)
roots_more {X} {Y} f (y ∷ xs) zero x h =
    let same : y ≡ x = cc in
    ap (λ ys. f y ++ ys) (none_taken xs) ∙ append-nil (f y) ∙ ap f same
  where
    none_taken : (zs : List X) → flat_map f (take 0 zs) ≡ []
    none_taken [] = refl
    none_taken (z ∷ zs) = refl
roots_more f (y ∷ xs) (suc k) x h =
    let next : suc k + 1 ≡ suc (k + 1) = omega arith in
    ap (λ n. flat_map f (take n (y ∷ xs))) next ∙ ap (λ ys. f y ++ ys) (roots_more f xs k x h) ∙ sym (append_assoc (f y) (flat_map f (take k xs)) (f x))

-- what those that were taken ask for, and the others
pub roots_cut : {X Y : Type 0} (f : X → List Y) (xs : List X) (k : ℕ) → flat_map f xs ≡ flat_map f (take k xs) ++ flat_map f (drop k xs)
roots_cut f [] zero = refl
roots_cut f [] (suc k) = refl
roots_cut f (x ∷ xs) zero = refl
roots_cut f (x ∷ xs) (suc k) = ap (λ ys. f x ++ ys) (roots_cut f xs k) ∙ sym (append_assoc (f x) (flat_map f (take k xs)) (flat_map f (drop k xs)))

-- what those that were taken ask for, one more, and the others, is all
pub roots_split : {X Y : Type 0} (f : X → List Y) (xs : List X) (k : ℕ) (x : X) → slice_get xs k ≡ Some x → flat_map f xs ≡ flat_map f (take k xs) ++ (f x ++ flat_map f (drop (k + 1) xs))
roots_split f xs k x h =
    roots_cut f xs (k + 1) ∙ ap (λ ys. ys ++ flat_map f (drop (k + 1) xs)) (roots_more f xs k x h) ∙ append_assoc (flat_map f (take k xs)) (f x) (flat_map f (drop (k + 1) xs))

-- all were taken
pub all_taken : {X : Type 0} (xs : List X) (k : ℕ) → slice_get xs k ≡ None → take k xs ≡ xs
all_taken [] zero h = refl
all_taken [] (suc k) h = refl
all_taken (x ∷ xs) zero h = absurd (cc)
all_taken (x ∷ xs) (suc k) h = ap (λ ys. x ∷ ys) (all_taken xs k h)

-- ---- items

pub own_rest : (l : Lists) (g : ℕ) (items : List WorkItem) (item : WorkItem) → AreOwn l g (items ++ item ∷ []) → AreOwn l g items × IsOwn l g item
own_rest l g items item all = (all_left (IsOwn l g) items (item ∷ []) all, All-head (IsOwn l g) item [] (all_right (IsOwn l g) items (item ∷ []) all))
