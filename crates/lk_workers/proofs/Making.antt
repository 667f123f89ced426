-- A traversal at its start.
use Rattle.std.proofs.Common.{◌≡◌, ℕ, Bool, false, List, [], ◌∷◌, ◌++◌, length, map, replicate, refl, sym, ap, ◌∙◌, subst, arith, inl, inr}
use Rattle.std.specs.List.{flat_map}
use Rattle.std.proofs.lemmas.Bool.{cases_lt}
use Rattle.std.proofs.lemmas.List.{get_or-replicate, get_or_past, length-replicate, map-append}
use Rattle.lk_flags.specs.Flags.{AllWithin}
use Rattle.lk_flags.specs.Lists.{Lists}
use Rattle.lk_link.specs.declared.link.LinkInput.{LinkInput}
use Rattle.lk_link.specs.declared.symbol.InputSymbol.{InputSymbol}
use Rattle.lk_link.specs.Inputs.{NumberedFile}
use Rattle.lk_link.specs.Marks.{is_marked}
use Rattle.lk_link.specs.NumberedSymbols.{symbols_of}
use Rattle.lk_reach.specs.Marks.{IsMarked, all_units}
use Rattle.lk_slot_link.proofs.Fitting.{lists_fit}
use Rattle.lk_workers.specs.Asked.{AreListsOf, AreReached}
use Rattle.lk_workers.specs.Closings.{AreMarksOf}

pub same_count : (l : Lists) (link : LinkInput) → AreListsOf l link → length l.handed ≡ length l.words
same_count l link of =
    let fit = lists_fit link of.well_formed in
    subst (λ (m : Lists). length m.handed ≡ length m.words) (sym of.lists) (omega (arith, fit.handed_count, fit.words_count))

pub handed_within : (l : Lists) (link : LinkInput) → AreListsOf l link → AllWithin l.handed l.words
handed_within l link of = subst (λ (m : Lists). AllWithin m.handed m.words) (sym of.lists) (lists_fit link of.well_formed).within

unmarked : (count n : ℕ) → is_marked (replicate count false) n ≡ false
unmarked count n = elim (cases_lt n count) [
  | inl lt ↦ get_or-replicate count n false false lt
  | inr past ↦ get_or_past (replicate count false) n false (omega (arith, past, length-replicate count false))
]

none_marked : (count n : ℕ) → IsMarked (replicate count false) n → ⊥
none_marked count n h = absurd (cc (sym (unmarked count n) ∙ h))

-- marks of which none is set
pub none_reached : (l : Lists) (link : LinkInput) (count : ℕ) (marks : List Bool) → AreListsOf l link → count ≡ length (all_units link.groups) → marks ≡ replicate count false → AreReached l marks
none_reached l link count marks of same e =
    let fit = lists_fit link of.well_formed in
    subst (AreReached l) (sym e) (record {
      count = length-replicate count false ∙ same ∙ sym fit.marks_count ∙ ap (λ (m : Lists). length m.units) (sym of.lists);
      reached = λ n h. absurd (none_marked count n h);
    })

-- they are those of nothing
pub none_of : (count : ℕ) (marks : List Bool) → marks ≡ replicate count false → AreMarksOf [] marks
none_of count marks e n = ap (λ ms. is_marked ms n) e ∙ unmarked count n

-- ---- the groups of symbols

abbrev symbol_group : NumberedFile × InputSymbol → ℕ
symbol_group q = q.0.id.group

-- the symbols of a file are all in its group
pub one_group : (f : NumberedFile) (symbols : List InputSymbol) → map symbol_group (map (λ s. (f, s)) symbols) ≡ replicate (length symbols) f.id.group
one_group f [] = refl
one_group f (s ∷ symbols) = ap (λ gs. f.id.group ∷ gs) (one_group f symbols)

pub groups_in_all : (fs : List NumberedFile) → flat_map (λ f. map symbol_group (symbols_of f)) fs ≡ map symbol_group (flat_map symbols_of fs)
groups_in_all [] = refl
groups_in_all (f ∷ fs) = ap (λ gs. map symbol_group (symbols_of f) ++ gs) (groups_in_all fs) ∙ sym (map-append symbol_group (symbols_of f) (flat_map symbols_of fs))
