-- What a pass has set before a step it has still behind it.
use Rattle.std.proofs.Common.{◌≡◌, ℕ, Bool, true, false, List, [], ◌∷◌, ◌++◌, append-nil, sym, ap, ◌∙◌, inl, inr}
use Rattle.std.specs.Prelude.{◌==◌, Err, IfOk, MatchBool, Ok, OnErr, Result}
use Rattle.std.proofs.lemmas.List.{append_assoc}
use Rattle.lk_flags.specs.declared.flags.FlagSet.{FlagSet}
use Rattle.lk_link.specs.declared.file.InputFile.{InputFile}
use Rattle.lk_link.specs.declared.flags.TheConstants.ValueFlags as flag
use Rattle.lk_link.specs.declared.flags.ValueFlags.{ValueFlags}
use Rattle.lk_link.specs.declared.link.LinkInput.{LinkInput}
use Rattle.lk_reach.specs.declared.units.Ask.{Ask}
use Rattle.lk_reach.specs.declared.units.Ask.TheVariants as ask
use Rattle.lk_reach.specs.declared.units.Unit.{Unit as LinkUnit}
use Rattle.lk_reach.specs.Marks.{unit_number}
use Rattle.lk_reach.specs.Units.{follows}
use Rattle.lk_workers.specs.declared.work.WorkItem.{WorkItem}
use Rattle.lk_workers.specs.declared.work.WorkItem.TheVariants.{ExportDynamic, LoadGcUnit, LoadGlobalSymbol}
use Rattle.lk_workers.specs.Items.{unit_of}
use Rattle.lk_workers.specs.States.{DoesOne, StateValue, is_done}
use Rattle.lk_workers.specs.Steps.{AreGivenUp, DoesAsk, DoesAsks, DoesItem, DoesSome, DoesUnit, GivesItemUp, GivesUnitUp, IsGivenUp, IsStep, IsStepGivenUp, PassesOn, Refers, flags_set}
use Rattle.lk_workers.specs.Traversals.{GoesOn}

pub stays : (before after : List FlagSet) → after ≡ before → GoesOn before after
stays before after e = ([], e ∙ sym (append-nil before))

pub both : (first second third : List FlagSet) → GoesOn first second → GoesOn second third → GoesOn first third
both first second third x y = (x.0 ++ y.0, y.1 ∙ ap (λ xs. xs ++ y.0) x.1 ∙ append_assoc first x.0 y.0)

pub joined_on : (first second third other : List FlagSet) → GoesOn first second → third ≡ second ++ other → GoesOn first third
joined_on first second third other x e = both first second third x (other, e)

-- ---- asks

reference_on : (groups : List (List InputFile)) (s : ℕ) (flags : ValueFlags) (old new : StateValue) (before after : List FlagSet) (export : Bool)
    → MatchBool export (PassesOn groups (ExportDynamic s) old new × (after ≡ before)) (Refers groups s flags old new before after) → GoesOn before after
reference_on groups s flags old new before after true passes = stays before after passes.1
reference_on groups s flags old new before after false refers = (flags_set s flags refers.found ∷ [], refers.sets)

ask_on : (groups : List (List InputFile)) (a : Ask) (old new : StateValue) (before after : List FlagSet) → DoesAsk groups a old new before after → GoesOn before after
ask_on groups (ask.Reference s flags) old new before after does = reference_on groups s flags old new before after (flags.0 == flag.EXPORT_DYNAMIC.0) does
ask_on groups (ask.Section id i) old new before after does = stays before after does.1
ask_on groups (ask.Mark s flags) old new before after does = (flags_set s flags does.1 ∷ [], does.2)

asks_on : (groups : List (List InputFile)) (asks : List Ask) (old new : StateValue) (before after : List FlagSet) → DoesAsks groups asks old new before after → GoesOn before after
unfolding DoesAsks
asks_on groups [] old new before after does = stays before after does.1
asks_on groups (a ∷ asks) old new before after does =
    both before does.1 after (ask_on groups a old does.0 before does.1 does.2) (asks_on groups asks does.0 new does.1 after does.3)

given_on : (a : Ask) (before after : List FlagSet) → IsGivenUp a before after → GoesOn before after
given_on (ask.Reference s flags) before after up = elim up [
  | inl same ↦ stays before after same
  | inr one ↦ (flags_set s flags one.0 ∷ [], one.1)
]
given_on (ask.Section id i) before after same = stays before after same
given_on (ask.Mark s flags) before after same = stays before after same

all_given_on : (asks : List Ask) (before after : List FlagSet) → AreGivenUp asks before after → GoesOn before after
all_given_on [] before after same = stays before after same
all_given_on (a ∷ asks) before after up = given_on a before after up

some_on : (groups : List (List InputFile)) (asks : List Ask) (old new : StateValue) (before after : List FlagSet) → DoesSome groups asks old new before after → GoesOn before after
some_on groups asks old new before after some =
    both before some.sets after (asks_on groups some.first old new before some.sets some.does) (all_given_on some.rest some.sets after some.left)

-- ---- steps

unit_on : (groups : List (List InputFile)) (asks : List Ask) (n : ℕ) (old new : StateValue) (before after : List FlagSet) (done : Bool)
    → MatchBool done ((new ≡ old) × (after ≡ before)) ((marked : StateValue) × DoesOne old n marked × DoesAsks groups asks marked new before after) → GoesOn before after
unit_on groups asks n old new before after true same = stays before after same.1
unit_on groups asks n old new before after false does = asks_on groups asks does.0 new before after does.2

does_unit_on : (groups : List (List InputFile)) (link : LinkInput) (unit : LinkUnit) (old new : StateValue) (before after : List FlagSet) → DoesUnit groups link unit old new before after → GoesOn before after
does_unit_on groups link unit old new before after does = unit_on groups (follows link unit) (unit_number groups unit) old new before after (is_done old (unit_number groups unit)) does

item_on : (groups : List (List InputFile)) (link : LinkInput) (item : WorkItem) (old new : StateValue) (before after : List FlagSet) → DoesItem groups link item old new before after → GoesOn before after
item_on groups link (ExportDynamic s) old new before after refers = (flags_set s flag.EXPORT_DYNAMIC refers.found ∷ [], refers.sets)
item_on groups link (LoadGlobalSymbol s) old new before after does = does_unit_on groups link (unit_of (LoadGlobalSymbol s)) old new before after does
item_on groups link (LoadGcUnit r) old new before after does = does_unit_on groups link (unit_of (LoadGcUnit r)) old new before after does

unit_up_on : (groups : List (List InputFile)) (link : LinkInput) (unit : LinkUnit) (old new : StateValue) (before after : List FlagSet) → GivesUnitUp groups link unit old new before after → GoesOn before after
unit_up_on groups link unit old new before after up = elim up [
  | inl same ↦ stays before after same.1
  | inr some ↦ some_on groups (follows link unit) some.0 new before after some.3
]

item_up_on : (groups : List (List InputFile)) (link : LinkInput) (item : WorkItem) (old new : StateValue) (before after : List FlagSet) → GivesItemUp groups link item old new before after → GoesOn before after
item_up_on groups link (ExportDynamic s) old new before after up = given_on (ask.Reference s flag.EXPORT_DYNAMIC) before after up.1
item_up_on groups link (LoadGlobalSymbol s) old new before after up = unit_up_on groups link (unit_of (LoadGlobalSymbol s)) old new before after up
item_up_on groups link (LoadGcUnit r) old new before after up = unit_up_on groups link (unit_of (LoadGcUnit r)) old new before after up

pub step_on : (groups : List (List InputFile)) (link : LinkInput) (old new : StateValue) (before after : List FlagSet) → IsStep groups link old new before after → GoesOn before after
step_on groups link old new before after step = elim step [
  | inl f ↦ asks_on groups _ _ new before after f.asks
  | inr f ↦ item_on groups link f.item _ new before after f.does
]

pub step_up_on : (groups : List (List InputFile)) (link : LinkInput) (old new : StateValue) (before after : List FlagSet) → IsStepGivenUp groups link old new before after → GoesOn before after
step_up_on groups link old new before after step = elim step [
  | inl f ↦ some_on groups _ _ new before after f.asks
  | inr f ↦ item_up_on groups link f.item _ new before after f.gives_up
]

-- the same of what a step answers
pub did_on : {E : Type 0} (groups : List (List InputFile)) (link : LinkInput) (old new : StateValue) (before after : List FlagSet) (r : Result Bool E)
    → IfOk r (λ did. MatchBool did (IsStep groups link old new before after) ((old.active ≡ true) × (old.items ≡ []) × (new ≡ old) × (after ≡ before)))
    → OnErr r (IsStepGivenUp groups link old new before after) → GoesOn before after
did_on groups link old new before after (Ok true) step up = step_on groups link old new before after step
did_on groups link old new before after (Ok false) same up = stays before after same.3
did_on groups link old new before after (Err e) step up = step_up_on groups link old new before after up
