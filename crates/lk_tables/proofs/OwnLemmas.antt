-- A symbol's entry among those of symbols by number.
use Rattle.std.proofs.Common.{◌≡◌, ℕ, zero, suc, ◌+◌, ◌≤◌, ◌<◌, ◌==◌, not, cond, Bool, true, false, if◌then◌else◌, List, [], ◌∷◌, Some, filter, map, sum_by, take, refl, sym, ap, ◌∙◌, subst, arith}
use Rattle.std.specs.List.{enumerate_from, slice_get}
use Rattle.std.proofs.lemmas.Bool.{eq-eqb, eqb-true}
use Rattle.std.proofs.lemmas.List.Sums.{sum_by-cons}
use Rattle.std.proofs.lemmas.Option.{get_or_from_slice_get, slice_get_within}
use Rattle.lk_link.specs.declared.symbol.InputSymbol.{InputSymbol}
use Rattle.lk_link.specs.declared.tables.Allocation.{Allocation}
use Rattle.lk_link.specs.declared.tables.TableCursors.{TableCursors}
use Rattle.lk_link.specs.Inputs.{NumberedFile}
use Rattle.lk_live.specs.declared.live.Live.{Live}
use Rattle.lk_reach.specs.Units.{numbered_symbols}
use Rattle.lk_tables.specs.OwnEntries.{CursorsMoveOn, CursorsReachEntries, IsReachedBy, cursors_at, own_place, symbols_before_it, taken_by}
use Rattle.lk_tables.specs.SymbolEntries.{allocated, is_resolved}
use Rattle.lk_tables.specs.SymbolTable.{SymbolEntry, TableEntry, entry_bytes, entry_of}
use Rattle.lk_tables.proofs.BySymbol.{by_number}
use Rattle.lk_tables.proofs.TableSums.{sum_more}

-- ---- entries of symbols by number

-- the entries of those that pass, with so many bytes each, the first of them with number o
abbrev pub entries_from : {X : Type 0} → (ℕ × X → Bool) → (ℕ × X → ℕ) → ℕ → List X → List TableEntry
entries_from p n o xs = map (λ r. record { owner = SymbolEntry r.0; bytes = n r }) (filter p (enumerate_from o xs))

-- what those that pass have together
abbrev pub bytes_from : {X : Type 0} → (ℕ × X → Bool) → (ℕ × X → ℕ) → List (ℕ × X) → ℕ
bytes_from p n rs = sum_by (λ r. if p r then n r else 0) rs

-- symbol s has its entry there, behind so many bytes
pub record IsFound (s : ℕ) (bytes : ℕ) (before : ℕ) (entries : List TableEntry) : Type 0 where
  pub there : slice_get entries (own_place s entries) ≡ Some (record { owner = SymbolEntry s; bytes = bytes })
  pub behind : entry_bytes (take (own_place s entries) entries) ≡ before

-- it is the first
found_first : (s bytes : ℕ) (rest : List TableEntry) → IsFound s bytes 0 (record { owner = SymbolEntry s; bytes = bytes } ∷ rest)
found_first s bytes rest =
    let all : List TableEntry = record { owner = SymbolEntry s; bytes = bytes } ∷ rest in
    let here : own_place s all ≡ 0 = ap (λ c. cond (not c) (1 + own_place s rest) 0) (eq-eqb s s refl) in
    record {
      there = ap (slice_get all) here;
      behind = ap (λ k. entry_bytes (take k all)) here;
    }

pub not_same : (a b : ℕ) (c : Bool) → (a == b) ≡ c → a < b → (a == b) ≡ false
not_same a b true h lt = let e = eqb-true a b h in absurd (omega (arith, e, lt))
not_same a b false h lt = h

-- it stands behind another one
found_behind : (s t bytes m before : ℕ) (rest : List TableEntry) → t < s → IsFound s bytes before rest
    → IsFound s bytes (m + before) (record { owner = SymbolEntry t; bytes = m } ∷ rest)
found_behind s t bytes m before rest lt found =
    let e : TableEntry = record { owner = SymbolEntry t; bytes = m } in
    let one : 1 + own_place s rest ≡ suc (own_place s rest) = omega arith in
    let here : own_place s (e ∷ rest) ≡ suc (own_place s rest)
    = ap (λ c. cond (not c) (1 + own_place s rest) 0) (not_same t s (t == s) refl lt) ∙ one in
    record {
      there = ap (slice_get (e ∷ rest)) here ∙ found.there;
      behind = ap (λ k. entry_bytes (take k (e ∷ rest))) here ∙ sum_by-cons (λ (y : TableEntry). y.bytes) e (take (own_place s rest) rest) ∙ ap (λ k. m + k) found.behind;
    }

found_step : {X : Type 0} (p : ℕ × X → Bool) (n : ℕ × X → ℕ) (o s bytes before : ℕ) (y : X) (ys : List X) (b : Bool) → p (o, y) ≡ b → o < s
    → IsFound s bytes before (entries_from p n (o + 1) ys)
    → IsFound s bytes ((if p (o, y) then n (o, y) else 0) + before) (entries_from p n o (y ∷ ys))
found_step {X = X} p n o s bytes before y ys true h lt found =
    let G : ℕ × X → TableEntry = λ r. record { owner = SymbolEntry r.0; bytes = n r } in
    let rest = filter p (enumerate_from (o + 1) ys) in
    let list : entries_from p n o (y ∷ ys) ≡ G (o, y) ∷ map G rest = ap (λ c. map G (if c then (o, y) ∷ rest else rest)) h in
    let sum : n (o, y) + before ≡ (if p (o, y) then n (o, y) else 0) + before = ap (λ c. (if c then n (o, y) else 0) + before) (sym h) in
    subst (λ k. IsFound s bytes k (entries_from p n o (y ∷ ys))) sum
    (subst (IsFound s bytes (n (o, y) + before)) (sym list) (found_behind s o bytes (n (o, y)) before (map G rest) lt found))
found_step {X = X} p n o s bytes before y ys false h lt found =
    let G : ℕ × X → TableEntry = λ r. record { owner = SymbolEntry r.0; bytes = n r } in
    let rest = filter p (enumerate_from (o + 1) ys) in
    let list : entries_from p n o (y ∷ ys) ≡ map G rest = ap (λ c. map G (if c then (o, y) ∷ rest else rest)) h in
    let none : before ≡ 0 + before = omega arith in
    let sum : before ≡ (if p (o, y) then n (o, y) else 0) + before = none ∙ ap (λ c. (if c then n (o, y) else 0) + before) (sym h) in
    subst (λ k. IsFound s bytes k (entries_from p n o (y ∷ ys))) sum (subst (IsFound s bytes before) (sym list) found)

-- one that passes has its entry behind those before it
pub found_at : {X : Type 0} (p : ℕ × X → Bool) (n : ℕ × X → ℕ) (o : ℕ) (xs : List X) (k s : ℕ) (x : X) → s ≡ o + k → slice_get xs k ≡ Some x → p (s, x) ≡ true
    → IsFound s (n (s, x)) (bytes_from p n (enumerate_from o (take k xs))) (entries_from p n o xs)
found_at p n o [] k s x number at pass = cc
found_at {X = X} p n o (y ∷ ys) zero s x number at pass =
    let G : ℕ × X → TableEntry = λ r. record { owner = SymbolEntry r.0; bytes = n r } in
    let rest = filter p (enumerate_from (o + 1) ys) in
    let same : y ≡ x = cc in
    let first : o ≡ s = omega (arith, number) in
    let pair : ◌≡◌ {A = ℕ × X} (o, y) (s, x) = cc in
    let list : entries_from p n o (y ∷ ys) ≡ G (s, x) ∷ map G rest
    = ap (λ c. map G (if c then (o, y) ∷ rest else rest)) (ap p pair ∙ pass) ∙ ap (λ r. G r ∷ map G rest) pair in
    subst (IsFound s (n (s, x)) 0) (sym list) (found_first s (n (s, x)) (map G rest))
found_at p n o (y ∷ ys) (suc k) s x number at pass =
    let later : s ≡ o + 1 + k = omega (arith, number) in
    let found = found_at p n (o + 1) ys k s x later at pass in
    let before = bytes_from p n (enumerate_from (o + 1) (take k ys)) in
    subst (λ m. IsFound s (n (s, x)) m (entries_from p n o (y ∷ ys))) (sym (sum_by-cons (λ r. if p r then n r else 0) (o, y) (enumerate_from (o + 1) (take k ys))))
    (found_step p n o s (n (s, x)) before y ys (p (o, y)) refl (omega (arith, later)) found)

-- an entry ends inside its table
pub ends_inside : (entries : List TableEntry) (k : ℕ) (e : TableEntry) → slice_get entries k ≡ Some e → entry_bytes (take k entries) + e.bytes ≤ entry_bytes entries
ends_inside [] k e h = cc
ends_inside (x ∷ xs) zero e h =
    let same : x ≡ e = cc in
    omega (arith, ap (λ (y : TableEntry). y.bytes) same, sum_by-cons (λ (y : TableEntry). y.bytes) x xs)
ends_inside (x ∷ xs) (suc k) e h =
    omega (arith, ends_inside xs k e h, sum_by-cons (λ (y : TableEntry). y.bytes) x xs, sum_by-cons (λ (y : TableEntry). y.bytes) x (take k xs))

-- ---- cursors

reached : (start s bytes before : ℕ) (entries : List TableEntry) → IsFound s bytes before entries → IsReachedBy start entries s (start + before) bytes
reached start s bytes before entries found = record {
  there = found.there;
  address = ap (λ n. start + n) found.behind;
  room = omega (arith, found.behind, ends_inside entries (own_place s entries) (record { owner = SymbolEntry s; bytes = bytes }) found.there);
}

-- whether a symbol has a resolution, and what it then has
abbrev resolved : Live → ℕ × (NumberedFile × InputSymbol) → Bool
resolved live r = is_resolved live r.1.0.file.kind (r.0, r.1.1)

abbrev has : (ℕ → Allocation) → Live → ℕ × (NumberedFile × InputSymbol) → Allocation
has allocation live r = allocated allocation live (r.0, r.1.1)

pub cursors_reach_entries : CursorsReachEntries
cursors_reach_entries allocation link live starts s f x at pass =
    let N = numbered_symbols link.groups in
    let p : NumberedFile → ℕ × InputSymbol → Bool = λ f. is_resolved live f.file.kind in
    let number : s ≡ 0 + s = omega arith in
    let got = found_at (resolved live) (λ r. (has allocation live r).got) 0 N s s (f, x) number at pass in
    let plt = found_at (resolved live) (λ r. (has allocation live r).plt) 0 N s s (f, x) number at pass in
    let gots = by_number p (λ q. entry_of (allocated allocation live q).got q) link in
    let plts = by_number p (λ q. entry_of (allocated allocation live q).plt q) link in (
      subst (λ es. IsReachedBy starts.got es s (cursors_at allocation link live starts s).got (allocated allocation live (s, x)).got) (sym gots) (reached starts.got s _ _ _ got),
      subst (λ es. IsReachedBy starts.plt es s (cursors_at allocation link live starts s).plt (allocated allocation live (s, x)).plt) (sym plts) (reached starts.plt s _ _ _ plt),
    )

pub cursors_move_on : CursorsMoveOn
cursors_move_on allocation link live starts s f x at =
    let N = numbered_symbols link.groups in
    let lt = slice_get_within N s (f, x) at in
    let read = sym (get_or_from_slice_get N s (f, x) (f, x) at) in
    let more : (n : ℕ × (NumberedFile × InputSymbol) → ℕ) → sum_by n (symbols_before_it link (s + 1)) ≡ sum_by n (symbols_before_it link s) + n (0 + s, (f, x))
    = λ n. sum_more n 0 s N (f, x) (f, x) lt read in
    let none : 0 + s ≡ s = omega arith in
    let got : starts.got + sum_by (λ r. (taken_by allocation live r).got) (symbols_before_it link (s + 1)) ≡ (cursors_at allocation link live starts s).got + (taken_by allocation live (s, (f, x))).got
    = omega (arith, more (λ r. (taken_by allocation live r).got), ap (λ k. (taken_by allocation live (k, (f, x))).got) none) in
    let plt : starts.plt + sum_by (λ r. (taken_by allocation live r).plt) (symbols_before_it link (s + 1)) ≡ (cursors_at allocation link live starts s).plt + (taken_by allocation live (s, (f, x))).plt
    = omega (arith, more (λ r. (taken_by allocation live r).plt), ap (λ k. (taken_by allocation live (k, (f, x))).plt) none) in
    made_cursors _ _ _ _ got plt
  where
    made_cursors : (a b c d : ℕ) → a ≡ c → b ≡ d → ◌≡◌ {A = TableCursors} (record { got = a; plt = b }) (record { got = c; plt = d })
    made_cursors a b c d e g = cc
