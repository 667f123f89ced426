-- Marks of sections that symbols keep, one symbol after the other.
use Rattle.std.proofs.Common.{◌≡◌, ℕ, ◌+◌, ◌<◌, ◌==◌, ◌&&◌, ◌||◌, Bool, true, false, List, [], ◌∷◌, ◌++◌, length, get_or, take, None, refl, sym, ap, ◌∙◌, subst}
use Rattle.std.specs.Prelude.{if◌then◌else◌}
use Rattle.std.specs.List.{enumerate_from, list_any}
use Rattle.std.specs.Option.{option_map_or}
use Rattle.std.proofs.Math.Bool.{or-false}
use Rattle.std.proofs.lemmas.List.Folds.{list_any-append}
use Rattle.lk_link.specs.declared.file.FileKind.{FileKind}
use Rattle.lk_link.specs.declared.symbol.InputSymbol.{InputSymbol}
use Rattle.lk_link.specs.FileKinds.{is_prelude}
use Rattle.lk_link.specs.Marks.{is_marked}
use Rattle.lk_live.specs.declared.live.Live.{Live}
use Rattle.lk_reach.specs.Placements.{edge_of}
use Rattle.lk_tables.specs.Copied.{is_wanted}
use Rattle.lk_tables.specs.Late.{flags_at}
use Rattle.lk_tables.proofs.TableSums.{numbered_next}
use Rattle.lk_sizes.specs.Emitted.{keeps}

-- the marks are those before, and of those for which something of some list holds
pub record AreMarkedBy {X : Type 0} (test : ℕ → X → Bool) (xs : List X) (old new : List Bool) : Type 0 where
  pub count : length new ≡ length old
  pub each : (s : ℕ) → s < length old → is_marked new s ≡ (is_marked old s || list_any (test s) xs)

none_before : (b : Bool) → b ≡ (b || false)
none_before b = sym (or-false b)

pub none_marked : {X : Type 0} (test : ℕ → X → Bool) (marks : List Bool) → AreMarkedBy test [] marks marks
none_marked test marks = record { count = refl; each = λ s below. none_before (is_marked marks s) }

joined : (a b c : Bool) → ((a || b) || c) ≡ (a || (b || c))
joined true b c = refl
joined false b c = refl

-- one more
pub one_marked : {X : Type 0} (test : ℕ → X → Bool) (done : List X) (x : X) (old middle new : List Bool) → AreMarkedBy test done old middle → length new ≡ length middle
    → ((s : ℕ) → s < length middle → is_marked new s ≡ (is_marked middle s || test s x)) → AreMarkedBy test (done ++ x ∷ []) old new
one_marked test done x old middle new h count step = record {
  count = count ∙ h.count;
  each = λ s below.
      step s (subst (λ (n : ℕ). s < n) (sym h.count) below)
      ∙ ap (λ b. b || test s x) (h.each s below)
      ∙ joined (is_marked old s) (list_any (test s) done) (test s x)
      ∙ ap (λ b. is_marked old s || (list_any (test s) done || b)) (sym (or-false (test s x)))
      ∙ ap (λ b. is_marked old s || b) (sym (list_any-append (test s) done (x ∷ [])));
}

-- the next symbol
pub symbol_marked : (live : Live) (kind : FileKind) (first i : ℕ) (symbols : List InputSymbol) (x d : InputSymbol) (old middle new : List Bool)
    → i < length symbols → x ≡ get_or symbols i d → AreMarkedBy (keeps live kind) (enumerate_from first (take i symbols)) old middle → length new ≡ length middle
    → ((s : ℕ) → s < length middle → is_marked new s ≡ (is_marked middle s || keeps live kind s (first + i, x)))
    → AreMarkedBy (keeps live kind) (enumerate_from first (take (i + 1) symbols)) old new
symbol_marked live kind first i symbols x d old middle new below read h count step =
    subst (λ (qs : List (ℕ × InputSymbol)). AreMarkedBy (keeps live kind) qs old new) (sym (numbered_next first i symbols x d below read))
    (one_marked (keeps live kind) (enumerate_from first (take i symbols)) (first + i, x) old middle new h count step)

-- symbols of other files than the prelude keep nothing
pub others_keep_nothing : (live : Live) (kind : FileKind) (s : ℕ) (qs : List (ℕ × InputSymbol)) → is_prelude kind ≡ false → list_any (keeps live kind s) qs ≡ false
others_keep_nothing live kind s [] h = refl
others_keep_nothing live kind s (q ∷ qs) h =
    ap (λ b. option_map_or (λ o. o == s) (if b && is_wanted kind q.0 q.1 (flags_at live.flags q.0) then edge_of q.1.at else None) false || list_any (keeps live kind s) qs) h
    ∙ others_keep_nothing live kind s qs h
