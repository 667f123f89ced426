-- What the limits give.
use Rattle.std.proofs.Common.{◌≡◌, ℕ, ◌-◌, ◌^◌, ◌<◌, ◌≤◌, min, nat_lt, length, Option, Some, None, Result, Ok, Err, OnOk, refl, subst, arith, sym}
use Rattle.std.proofs.lemmas.Bool.Decides.{nat_tests}
use Rattle.lk_link.specs.declared.fault.Limited.{Limited}
use Rattle.lk_link.specs.declared.fault.Limited.TheVariants.{Groups, Files, OutputSections, Parts, Segments, Regions, Events, Symbols, InputSections, Candidates, Relocations, Relaxations, NameBytes, MergeBytes}
use Rattle.lk_link.specs.declared.fault.LinkFault.{LinkFault}
use Rattle.lk_link.specs.declared.limits.TheConstants.{OUTPUT_SECTIONS, SEGMENTS, SYMBOLS}
use Rattle.lk_link.specs.declared.link.LinkInput.{LinkInput}
use Rattle.lk_link.specs.Limits.{counted, limit_of}
use Rattle.lk_link.specs.WellFormed.{IsWellFormed}
use Rattle.lk_link.specs.Files.{AreNumbered}
use Rattle.lk_link.specs.Symbols.{all_files, symbol_count}
use Rattle.lk_check.specs.FirstExcess.{first_excess}
use Rattle.lk_check.specs.FirstAnswer.{first_of}
use Rattle.lk_check.specs.FirstFault.{all_rules, check_of, first_fault, rule_fault}
use Rattle.lk_check.proofs.Unfaulted.{within_limits, unfaulted}
use Rattle.lk_check.proofs.Faults.{passes, fails}

limit_below : (what : Limited) → limit_of what < 2 ^ 64 - 1
unfolding limit_of
limit_below Groups = omega arith
limit_below Files = omega arith
limit_below OutputSections = omega arith
limit_below Parts = omega arith
limit_below Segments = omega arith
limit_below Regions = omega arith
limit_below Events = omega arith
limit_below Symbols = omega arith
limit_below InputSections = omega arith
limit_below Candidates = omega arith
limit_below Relocations = omega arith
limit_below Relaxations = omega arith
limit_below NameBytes = omega arith
limit_below MergeBytes = omega arith

same_test : (a b m : ℕ) → a < m → nat_lt a (min b m) ≡ nat_lt a b
same_test a b m h = grind (arith, nat_tests)

-- a count that is given as 2^64 - 1 exceeds a limit just as the true one
pub exceeds : (what : Limited) (count : ℕ) → nat_lt (limit_of what) (min count (2 ^ 64 - 1)) ≡ nat_lt (limit_of what) count
exceeds what count = same_test (limit_of what) count (2 ^ 64 - 1) (limit_below what)

pub ruleset exceeding = (exceeds)

-- ---- what a link within the limits is known of

none_where_ok : (o : Option LinkFault) (t : Unit {0}) → Ok t ≡ check_of o → o ≡ None
unfolding check_of
none_where_ok None t h = refl
none_where_ok (Some f) t h = absurd (cc)

within : (link : LinkInput) (t : Unit {0}) → Ok t ≡ check_of (first_excess link) → (what : Limited) → counted link what ≤ limit_of what
within link t h = within_limits link (none_where_ok (first_excess link) t h)

pub numbered : (link : LinkInput) (t : Unit {0}) → Ok t ≡ check_of (first_excess link) → AreNumbered link.groups
unfolding counted limit_of
numbered link t h = record { few_groups = within link t h Groups; few_files = within link t h Files }

pub few_sections : (link : LinkInput) (t : Unit {0}) → Ok t ≡ check_of (first_excess link) → length link.plan.sections ≤ OUTPUT_SECTIONS
unfolding counted limit_of
few_sections link t h = within link t h OutputSections

pub few_symbols : (link : LinkInput) (t : Unit {0}) → Ok t ≡ check_of (first_excess link) → symbol_count (all_files link.groups) ≤ SYMBOLS
unfolding counted limit_of
few_symbols link t h = within link t h Symbols

pub few_segments : (link : LinkInput) (t : Unit {0}) → Ok t ≡ check_of (first_excess link) → length link.plan.segments ≤ SEGMENTS
unfolding counted limit_of
few_segments link t h = within link t h Segments

-- ---- the whole check

pub stops_early : (link : LinkInput) (e : LinkFault) → Err e ≡ check_of (first_excess link) → Err e ≡ check_of (first_fault link)
unfolding first_fault
stops_early link e h = sym (fails (first_excess link) (first_of (rule_fault link) all_rules) e h)

pub goes_on : (link : LinkInput) (t : Unit {0}) → Ok t ≡ check_of (first_excess link) → check_of (first_fault link) ≡ check_of (first_of (rule_fault link) all_rules)
unfolding first_fault
goes_on link t h = passes (first_excess link) (first_of (rule_fault link) all_rules) t h

good : (link : LinkInput) (o : Option LinkFault) → first_fault link ≡ o → OnOk (check_of o) (IsWellFormed link)
unfolding check_of
good link None h = unfaulted link h
good link (Some f) h = tt

-- a check that passes tells that the link is well formed
pub well_formed : (link : LinkInput) (r : Result (Unit {0}) LinkFault) → r ≡ check_of (first_fault link) → OnOk r (IsWellFormed link)
well_formed link r h =
    let P : Result (Unit {0}) LinkFault → Type 0 = λ x. OnOk x (IsWellFormed link) in
    subst P (sym h) (good link (first_fault link) refl)

pub ruleset limits = (numbered, few_symbols, few_sections, few_segments, stops_early, goes_on, well_formed)
