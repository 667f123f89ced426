-- What reaches over several records, one after the other, is their hull.
use Rattle.std.proofs.Common.{◌≡◌, ℕ, ◌+◌, ◌-◌, List, [], ◌∷◌, Option, Some, None, refl, sym, ap, ◌∙◌, arith, fold, map}
use Rattle.std.specs.Prelude.{max, min, unwrap_or}
use Rattle.lk_place.specs.Hulls.{spanned, with_record}
use Rattle.lk_expressions.specs.Records.{Record, file_end, mem_end, nowhere}
use Rattle.lk_place.specs.Segments.{hull}

-- from the lesser start on, what reaches to the greater end ends there
ends : (a n b m : ℕ) → min a b + (max (a + n) (b + m) - min a b) ≡ max (a + n) (b + m)
ends a n b m = omega arith

-- from its start on, what reaches to its end is as long as it is
length_of : (a n : ℕ) → a + n - a ≡ n
length_of a n = omega arith

-- the hull of one is that one
hull_one : (r : Record) → hull (r ∷ []) ≡ r
hull_one r =
    let file : r.file_offset + r.file_size - r.file_offset ≡ r.file_size = length_of r.file_offset r.file_size in
    let memory : r.mem_offset + r.mem_size - r.mem_offset ≡ r.mem_size = length_of r.mem_offset r.mem_size in
    λ i. record r { file_size = file i; mem_size = memory i }

-- the hull of what reaches over two, and of others, is that of the two and the others
hull_joined : (a b : Record) (rs : List Record) → hull (spanned a b ∷ rs) ≡ hull (a ∷ b ∷ rs)
hull_joined a b rs =
    let whole : Record = hull (a ∷ b ∷ rs) in
    let file : file_end (spanned a b) ≡ max (file_end a) (file_end b) = ends a.file_offset a.file_size b.file_offset b.file_size in
    let memory : mem_end (spanned a b) ≡ max (mem_end a) (mem_end b) = ends a.mem_offset a.mem_size b.mem_offset b.mem_size in
    λ i. record whole {
      file_size = fold max (file i) (map file_end rs) - whole.file_offset;
      mem_size = fold max (memory i) (map mem_end rs) - whole.mem_offset;
    }

hull_from : (r : Record) (rs : List Record) → fold with_record (Some r) rs ≡ Some (hull (r ∷ rs))
hull_from r [] = ap (λ (x : Record). Some x) (sym (hull_one r))
hull_from r (x ∷ rs) = hull_from (spanned r x) rs ∙ ap (λ (h : Record). Some h) (hull_joined r x rs)

hull_is : (rs : List Record) → unwrap_or (fold with_record None rs) nowhere ≡ hull rs
hull_is [] = refl
hull_is (r ∷ rs) = ap (λ (o : Option Record). unwrap_or o nowhere) (hull_from r rs)

-- what a loop over several records ends with
pub hull_reached : (all : Option Record) (rs left : List Record) (none h : Record) → left ≡ [] → fold with_record all left ≡ fold with_record None rs → none ≡ nowhere → h ≡ unwrap_or all none
    → h ≡ hull rs
hull_reached all rs left none h last reaches is given =
    given
    ∙ ap (unwrap_or all) is
    ∙ ap (λ (o : Option Record). unwrap_or o nowhere) (sym (ap (fold with_record all) last) ∙ reaches)
    ∙ hull_is rs
