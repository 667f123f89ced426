-- Asks of roots and of reached units are ones that there is reason for, and so are the items that they become.
use Rattle.std.proofs.Common.{◌≡◌, ℕ, ◌<◌, List, length, Some, get_or, refl, sym, ap, ◌∙◌, subst, arith}
use Rattle.std.specs.Int.{bit_at}
use Rattle.std.specs.List.{All, Contains, slice_index}
use Rattle.std.proofs.lemmas.List.Elements.{All-contains, Contains-get_or}
use Rattle.lk_flags.specs.Lists.{Lists}
use Rattle.lk_link.specs.declared.flags.TheConstants.ValueFlags as flag
use Rattle.lk_link.specs.declared.flags.ValueFlags.{ValueFlags}
use Rattle.lk_link.specs.declared.ids.FileId.{FileId}
use Rattle.lk_link.specs.declared.link.LinkInput.{LinkInput}
use Rattle.lk_link.specs.Files.{file_in}
use Rattle.lk_link.specs.Inputs.{NumberedFile, numbered_files}
use Rattle.lk_link.specs.Symbols.{file_number}
use Rattle.lk_link.specs.WellFormed.{IsWellFormed}
use Rattle.lk_link.proofs.Elements.{at_contained, contains_at, flat_map_in}
use Rattle.lk_link.proofs.InputLemmas.{file_stands}
use Rattle.lk_reach.specs.declared.units.Ask.{Ask}
use Rattle.lk_reach.specs.declared.units.Ask.TheVariants as ask
use Rattle.lk_reach.specs.declared.units.Unit.{Unit as LinkUnit}
use Rattle.lk_reach.specs.declared.units.Unit.TheVariants.{Sec, Sym}
use Rattle.lk_reach.specs.Marks.{IsHit, IsInside, IsJoined, IsMarked, IsUnit, asking, flag_words, reached_marks, symbols_in_all, unit_number, word_of}
use Rattle.lk_reach.specs.Units.{file_roots, follows, roots}
use Rattle.lk_reach.proofs.ReachLemmas.{follows_at, reach_is_closed}
use Rattle.lk_reach.proofs.UnitLemmas.{asks_are_inside}
use Rattle.lk_slot_link.specs.LinkLists.{lists_of}
use Rattle.lk_slot_link.proofs.Behind.{symbol_within}
use Rattle.lk_slot_link.proofs.Fitting.{lists_fit}
use Rattle.lk_workers.specs.Asked.{AreListsOf, AreMet, IsMet}
use Rattle.lk_workers.specs.Items.{IsMeant}
use Rattle.lk_workers.specs.declared.work.WorkItem.TheVariants.{ExportDynamic, LoadGcUnit, LoadGlobalSymbol}

-- ---- asks

-- hit and joined
abbrev IsFitted : LinkInput → Ask → Type 0
IsFitted link a = IsHit (asking link) (reached_marks link) a × IsJoined (flag_words link) a

met_by : (link : LinkInput) (asks : List Ask) → All (IsInside link.groups) asks → All (IsFitted link) asks → AreMet (lists_of link) asks
met_by link asks inside fitted k d lt = record { inside = inside k d lt; target = (fitted k d lt).0; flags = (fitted k d lt).1 }

pub all_in : (P : Ask → Type 0) (asks whole : List Ask) → ((a : Ask) → Contains asks a → Contains whole a) → All P whole → All P asks
all_in P asks whole in_whole h k d lt = All-contains P whole (get_or asks k d) h (in_whole (get_or asks k d) (Contains-get_or asks k d lt))

file_root : (link : LinkInput) (f : NumberedFile) → file_in link.groups f.id ≡ Some f.file → (a : Ask) → Contains (file_roots link f) a → Contains (roots link) a
file_root link f there a h =
    let at = at_contained (file_roots link f) a h in
    let stands = file_stands link.groups f.id f.file there in
    let root = flat_map_in (file_roots link) (numbered_files link.groups) (file_number link.groups f.id) at.0 f a stands at.1 in
    contains_at (roots link) root.0 a root.1

-- what a file asks for by itself
pub file_met : (l : Lists) (link : LinkInput) (f : NumberedFile) → AreListsOf l link → file_in link.groups f.id ≡ Some f.file → AreMet l (file_roots link f)
file_met l link f of there =
    let wf = of.well_formed in
    let in_roots = file_root link f there in
    subst (λ m. AreMet m (file_roots link f)) (sym of.lists)
    (met_by link (file_roots link f) (all_in (IsInside link.groups) (file_roots link f) (roots link) in_roots (asks_are_inside.by_roots link wf)) (all_in (IsFitted link) (file_roots link f) (roots link) in_roots (reach_is_closed link wf).by_roots))

unit_met : (link : LinkInput) (unit : LinkUnit) → IsWellFormed link → IsUnit link.groups unit → IsMarked (reached_marks link) (unit_number link.groups unit) → AreMet (lists_of link) (follows link unit)
unit_met link unit wf is reached =
    let n = unit_number link.groups unit in
    met_by link (follows link unit) (asks_are_inside.by_unit link unit wf) (subst (All (IsFitted link)) (follows_at link n unit is) ((reach_is_closed link wf).by_units n reached))

-- what a reached unit asks for
pub follows_met : (l : Lists) (link : LinkInput) (unit : LinkUnit) → AreListsOf l link → IsUnit l.groups unit → IsMarked l.units (unit_number l.groups unit) → AreMet l (follows link unit)
follows_met l link unit of is reached =
    let there : IsUnit link.groups unit = subst (λ (m : Lists). IsUnit m.groups unit) of.lists is in
    let marked : IsMarked (reached_marks link) (unit_number link.groups unit) = subst (λ (m : Lists). IsMarked m.units (unit_number m.groups unit)) of.lists reached in
    subst (λ m. AreMet m (follows link unit)) (sym of.lists) (unit_met link unit of.well_formed there marked)

-- a symbol of the link has a word
pub word_within : (l : Lists) (link : LinkInput) (s : ℕ) → AreListsOf l link → s < symbols_in_all l.groups → word_of s < length l.words
word_within l link s of lt =
    subst (λ (m : Lists). word_of s < length m.words) (sym of.lists)
    (let below : s < symbols_in_all link.groups = subst (λ (m : Lists). s < symbols_in_all m.groups) of.lists lt in omega (arith, below, (lists_fit link of.well_formed).words_count))

-- ---- items

pub symbol_meant : (l : Lists) (s : ℕ) (flags : ValueFlags) → IsMet l (ask.Reference s flags) → IsMeant l (LoadGlobalSymbol s)
symbol_meant l s flags met = record { there = met.inside.target (Sym s) refl; reached = met.target s refl; exported = tt }

pub export_meant : (l : Lists) (s : ℕ) (flags : ValueFlags) → IsMet l (ask.Reference s flags) → flags.0 ≡ flag.EXPORT_DYNAMIC.0 → IsMeant l (ExportDynamic s)
export_meant l s flags met is = record {
  there = met.inside.target (Sym s) refl;
  reached = met.target s refl;
  exported = λ i bit. met.flags (s, flags.0) refl i (ap (λ n. bit_at n i) is ∙ bit);
}

pub section_meant : (l : Lists) (id : FileId) (i : ℕ) → IsMet l (ask.Section id i) → IsMeant l (LoadGcUnit (record { file_id = id; gc_unit = i }))
section_meant l id i met = record { there = met.inside.target (Sec id i) refl; reached = met.target (unit_number l.groups (Sec id i)) refl; exported = tt }

pair_of : (p q : ℕ × ℕ) → Some p ≡ Some q → p ≡ q
pair_of p q h = cc

first_of : (p q : ℕ × ℕ) → Some p ≡ Some q → p.0 ≡ q.0
first_of p q h = ap (λ (x : ℕ × ℕ). x.0) (pair_of p q h)

-- the reference of an export
pub export_met : (l : Lists) (s : ℕ) → IsMeant l (ExportDynamic s) → IsMet l (ask.Reference s flag.EXPORT_DYNAMIC)
export_met l s meant = record {
  inside = record {
    target = λ unit is. let same : Sym s ≡ unit = cc in subst (IsUnit l.groups) same meant.there;
    symbol = λ p is. let below : s < symbols_in_all l.groups = symbol_within l.groups s meant.there in subst (λ t. t < symbols_in_all l.groups) (first_of (s, flag.EXPORT_DYNAMIC.0) p is) below;
  };
  target = λ n is. let same : s ≡ n = cc in subst (IsMarked l.units) same meant.reached;
  flags = λ p is. subst (λ (q : ℕ × ℕ). (i : ℕ) → bit_at q.1 i ≡ 1 → bit_at (slice_index l.words (word_of q.0)) i ≡ 1) (pair_of (s, flag.EXPORT_DYNAMIC.0) p is) meant.exported;
}
