-- What a step does to the state of a group, ask by ask, and which flags it sets.
use Rattle.std.specs.Prelude.{◌≡◌, ◌⊎◌, ℕ, ◌==◌, ◌||◌, not, Bool, true, false, List, [], ◌∷◌, ◌++◌, Some, MatchBool}
use Rattle.lk_link.specs.declared.file.InputFile.{InputFile}
use Rattle.lk_link.specs.declared.flags.TheConstants.ValueFlags as flag
use Rattle.lk_link.specs.declared.flags.ValueFlags.{ValueFlags}
use Rattle.lk_link.specs.declared.link.LinkInput.{LinkInput}
use Rattle.lk_link.specs.Flags.{has_resolution}
use Rattle.lk_flags.specs.declared.flags.FlagSet.{FlagSet}
use Rattle.lk_reach.specs.declared.units.Ask.{Ask}
use Rattle.lk_reach.specs.declared.units.Ask.TheVariants as ask
use Rattle.lk_reach.specs.declared.units.Unit.{Unit as LinkUnit}
use Rattle.lk_reach.specs.Marks.{unit_number, word_of}
use Rattle.lk_reach.specs.Units.{follows}
use Rattle.lk_slot_link.specs.LinkGraphs.{group_roots, unit_group}
use Rattle.lk_workers.specs.declared.work.WorkItem.{WorkItem}
use Rattle.lk_workers.specs.declared.work.WorkItem.TheVariants.{ExportDynamic, LoadGcUnit, LoadGlobalSymbol}
use Rattle.lk_workers.specs.Items.{unit_of}
use Rattle.lk_workers.specs.States.{DoesOne, StateValue, activated, is_done, with_items, with_sent}

-- ---- one ask

-- an item that is passed on goes to the end of the group's own list, if it is the group's own; else it is noted as left, once
abbrev pub PassesOn : List (List InputFile) → WorkItem → StateValue → StateValue → Type 0
PassesOn groups item old new = MatchBool (unit_group groups (Some (unit_of item)) == old.group)
    (new ≡ with_items old (old.items ++ item ∷ []))
    (new ≡ with_sent old (old.sent ++ item ∷ []))

-- whether a symbol is asked for that is referred to with flags, by the word that was found
abbrev pub is_asked : ValueFlags → ℕ → Bool
is_asked flags found = (flags.0 == 0) || not (has_resolution found)

-- flags that an ask sets in a symbol's word, and the word as it was found
abbrev pub flags_set : ℕ → ValueFlags → ℕ → FlagSet
flags_set s flags found = record { word = word_of s; bits = flags.0; found = found }

-- a symbol gets its flags, and is asked for where these are none, or the word that was found had no resolution
pub record Refers (groups : List (List InputFile)) (s : ℕ) (flags : ValueFlags) (old new : StateValue) (before after : List FlagSet) : Type 0 where
  pub found : ℕ
  pub sets : after ≡ before ++ flags_set s flags found ∷ []
  pub asks : MatchBool (is_asked flags found) (PassesOn groups (LoadGlobalSymbol s) old new) (new ≡ old)

-- what one ask does: a reference that exports its symbol is passed on, as a section is; any other sets its flags
abbrev pub DoesAsk : List (List InputFile) → Ask → StateValue → StateValue → List FlagSet → List FlagSet → Type 0
DoesAsk groups (ask.Reference s flags) old new before after =
    MatchBool (flags.0 == flag.EXPORT_DYNAMIC.0) (PassesOn groups (ExportDynamic s) old new × (after ≡ before)) (Refers groups s flags old new before after)
DoesAsk groups (ask.Section id i) old new before after = PassesOn groups (LoadGcUnit (record { file_id = id; gc_unit = i })) old new × (after ≡ before)
DoesAsk groups (ask.Mark s flags) old new before after = (new ≡ old) × (found : ℕ) × (after ≡ before ++ flags_set s flags found ∷ [])

-- asks, one after the other
unfoldable pub DoesAsks : List (List InputFile) → List Ask → StateValue → StateValue → List FlagSet → List FlagSet → Type 0
DoesAsks groups [] old new before after = (new ≡ old) × (after ≡ before)
DoesAsks groups (a ∷ asks) old new before after =
    (state : StateValue) × (sets : List FlagSet) × DoesAsk groups a old state before sets × DoesAsks groups asks state new sets after

-- ---- a step

-- a group is activated, and all that its files ask for is done
pub record IsActivated (groups : List (List InputFile)) (link : LinkInput) (old new : StateValue) (before after : List FlagSet) : Type 0 where
  pub fresh : old.active ≡ false
  pub asks : DoesAsks groups (group_roots link old.group) (activated old) new before after

-- a unit that was done stays so; else it is done, and all that it asks for
abbrev pub DoesUnit : List (List InputFile) → LinkInput → LinkUnit → StateValue → StateValue → List FlagSet → List FlagSet → Type 0
DoesUnit groups link unit old new before after =
    MatchBool (is_done old (unit_number groups unit)) ((new ≡ old) × (after ≡ before))
    ((marked : StateValue) × DoesOne old (unit_number groups unit) marked × DoesAsks groups (follows link unit) marked new before after)

-- what is done with an item: a unit is done, and a symbol that is to be exported gets that flag
abbrev pub DoesItem : List (List InputFile) → LinkInput → WorkItem → StateValue → StateValue → List FlagSet → List FlagSet → Type 0
DoesItem groups link (ExportDynamic s) old new before after = Refers groups s flag.EXPORT_DYNAMIC old new before after
DoesItem groups link (LoadGlobalSymbol s) old new before after = DoesUnit groups link (unit_of (LoadGlobalSymbol s)) old new before after
DoesItem groups link (LoadGcUnit r) old new before after = DoesUnit groups link (unit_of (LoadGcUnit r)) old new before after

-- a group takes an item of its own
pub record IsTaken (groups : List (List InputFile)) (link : LinkInput) (old new : StateValue) (before after : List FlagSet) : Type 0 where
  pub active : old.active ≡ true
  pub item : WorkItem
  pub rest : List WorkItem
  pub items : old.items ≡ rest ++ item ∷ []
  pub does : DoesItem groups link item (with_items old rest) new before after

-- a group is activated, or takes an item
abbrev pub IsStep : List (List InputFile) → LinkInput → StateValue → StateValue → List FlagSet → List FlagSet → Type 0
IsStep groups link old new before after = IsActivated groups link old new before after ⊎ IsTaken groups link old new before after

-- ---- a step that finds no memory

-- an ask that is given up: nothing of it is done, or a reference has set its flags, and what it then asks for is given up
abbrev pub IsGivenUp : Ask → List FlagSet → List FlagSet → Type 0
IsGivenUp (ask.Reference s flags) before after = (after ≡ before) ⊎ ((found : ℕ) × (after ≡ before ++ flags_set s flags found ∷ []))
IsGivenUp (ask.Section id i) before after = after ≡ before
IsGivenUp (ask.Mark s flags) before after = after ≡ before

-- of asks that are given up nothing is done, but that the first may have set its flags
abbrev pub AreGivenUp : List Ask → List FlagSet → List FlagSet → Type 0
AreGivenUp [] before after = after ≡ before
AreGivenUp (a ∷ asks) before after = IsGivenUp a before after

-- asks are done from the first on, and the others are given up
pub record DoesSome (groups : List (List InputFile)) (asks : List Ask) (old new : StateValue) (before after : List FlagSet) : Type 0 where
  pub first : List Ask
  pub rest : List Ask
  pub are : asks ≡ first ++ rest
  pub sets : List FlagSet
  pub does : DoesAsks groups first old new before sets
  pub left : AreGivenUp rest sets after

-- a unit is given up, or it is done, and only some of what it asks for
abbrev pub GivesUnitUp : List (List InputFile) → LinkInput → LinkUnit → StateValue → StateValue → List FlagSet → List FlagSet → Type 0
GivesUnitUp groups link unit old new before after =
    ((new ≡ old) × (after ≡ before))
    ⊎ ((marked : StateValue) × (is_done old (unit_number groups unit) ≡ false) × DoesOne old (unit_number groups unit) marked × DoesSome groups (follows link unit) marked new before after)

-- the same of an item; what a symbol that is to be exported asks for
abbrev pub GivesItemUp : List (List InputFile) → LinkInput → WorkItem → StateValue → StateValue → List FlagSet → List FlagSet → Type 0
GivesItemUp groups link (ExportDynamic s) old new before after = (new ≡ old) × IsGivenUp (ask.Reference s flag.EXPORT_DYNAMIC) before after
GivesItemUp groups link (LoadGlobalSymbol s) old new before after = GivesUnitUp groups link (unit_of (LoadGlobalSymbol s)) old new before after
GivesItemUp groups link (LoadGcUnit r) old new before after = GivesUnitUp groups link (unit_of (LoadGcUnit r)) old new before after

-- a group is activated, and only some of what its files ask for is done
pub record IsHalfActivated (groups : List (List InputFile)) (link : LinkInput) (old new : StateValue) (before after : List FlagSet) : Type 0 where
  pub fresh : old.active ≡ false
  pub asks : DoesSome groups (group_roots link old.group) (activated old) new before after

-- a group takes an item of its own, which is given up
pub record IsTakenAndGivenUp (groups : List (List InputFile)) (link : LinkInput) (old new : StateValue) (before after : List FlagSet) : Type 0 where
  pub active : old.active ≡ true
  pub item : WorkItem
  pub rest : List WorkItem
  pub items : old.items ≡ rest ++ item ∷ []
  pub gives_up : GivesItemUp groups link item (with_items old rest) new before after

-- a step that finds no memory: only what was in hand is given up, and no other item of the group, and nothing that was done
abbrev pub IsStepGivenUp : List (List InputFile) → LinkInput → StateValue → StateValue → List FlagSet → List FlagSet → Type 0
IsStepGivenUp groups link old new before after = IsHalfActivated groups link old new before after ⊎ IsTakenAndGivenUp groups link old new before after
