-- The entries of a table tile it.
use Rattle.std.proofs.Common.{◌≡◌, ℕ, ◌+◌, ◌<◌, ◌≤◌, suc, zero, List, [], ◌∷◌, take, inl, inr, ap, refl, arith}
use Rattle.std.proofs.lemmas.List.Sums.{sum_by-cons}
use Rattle.std.proofs.lemmas.Bool.{cases_lt}
use Rattle.lk_tables.specs.SymbolTable.{TableEntry, entry_bytes}
use Rattle.lk_tables.specs.TableTiles.{EntriesTileTheirTable, HasEntryByte, entry_address}

behind : (start : ℕ) (e : TableEntry) (es : List TableEntry) (k : ℕ) → entry_address start (e ∷ es) (suc k) ≡ entry_address (start + e.bytes) es k
behind start e es k = omega (arith, sum_by-cons (λ (x : TableEntry). x.bytes) e (take k es))

whole : (e : TableEntry) (es : List TableEntry) → entry_bytes (e ∷ es) ≡ e.bytes + entry_bytes es
whole e es = sum_by-cons (λ (x : TableEntry). x.bytes) e es

first : (start : ℕ) (e : TableEntry) (es : List TableEntry) (b : ℕ) → HasEntryByte start (e ∷ es) 0 b → (start ≤ b) × (b < start + e.bytes)
first start e es b h =
    let same : e ≡ h.entry = cc in
    let bytes : e.bytes ≡ h.entry.bytes = ap (λ (x : TableEntry). x.bytes) same in
    (omega (arith, h.from), omega (arith, h.below))

later : (start : ℕ) (e : TableEntry) (es : List TableEntry) (k b : ℕ) → HasEntryByte start (e ∷ es) (suc k) b → HasEntryByte (start + e.bytes) es k b
later start e es k b h =
    let i = behind start e es k in
    record { entry = h.entry; there = h.there; from = omega (arith, h.from); below = omega (arith, h.below) }

sooner : (start : ℕ) (e : TableEntry) (es : List TableEntry) (k b : ℕ) → HasEntryByte (start + e.bytes) es k b → HasEntryByte start (e ∷ es) (suc k) b
sooner start e es k b h =
    let i = behind start e es k in
    record { entry = h.entry; there = h.there; from = omega (arith, h.from); below = omega (arith, h.below) }

inside : (start : ℕ) (es : List TableEntry) (k b : ℕ) → HasEntryByte start es k b → (start ≤ b) × (b < start + entry_bytes es)
inside start [] k b h = let there = h.there in absurd (cc)
inside start (e ∷ es) zero b h =
    let w = whole e es in
    let f = first start e es b h in
    (f.0, omega (arith, f.1))
inside start (e ∷ es) (suc k) b h =
    let w = whole e es in
    let f = inside (start + e.bytes) es k b (later start e es k b h) in
    (omega (arith, f.0), omega (arith, f.1))

covered : (start : ℕ) (es : List TableEntry) (b : ℕ) → start ≤ b → b < start + entry_bytes es → (k : ℕ) × HasEntryByte start es k b
covered start [] b h k = absurd (omega arith)
covered start (e ∷ es) b h k =
    let w = whole e es in
    elim (cases_lt b (start + e.bytes)) [
      | inl l ↦ (0, record { entry = e; there = refl; from = omega arith; below = omega arith })
      | inr r ↦
          let f = covered (start + e.bytes) es b r (omega arith) in
          (suc f.0, sooner start e es f.0 b f.1)
    ]

apart : (start : ℕ) (es : List TableEntry) (j k b : ℕ) → HasEntryByte start es j b → HasEntryByte start es k b → j ≡ k
apart start [] j k b h i = let there = h.there in absurd (cc)
apart start (e ∷ es) zero zero b h i = refl
apart start (e ∷ es) zero (suc k) b h i =
    let f = first start e es b h in
    let g = inside (start + e.bytes) es k b (later start e es k b i) in
    absurd (omega (arith, f.1, g.0))
apart start (e ∷ es) (suc j) zero b h i =
    let f = first start e es b i in
    let g = inside (start + e.bytes) es j b (later start e es j b h) in
    absurd (omega (arith, f.1, g.0))
apart start (e ∷ es) (suc j) (suc k) b h i =
    ap suc (apart (start + e.bytes) es j k b (later start e es j b h) (later start e es k b i))

pub entries_tile : EntriesTileTheirTable
entries_tile start entries = record { inside = inside start entries; covered = covered start entries; apart = apart start entries }
