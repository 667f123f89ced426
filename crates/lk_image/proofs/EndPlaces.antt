-- The greatest end.
use Rattle.std.proofs.Common.{◌≡◌, ℕ, zero, suc, ◌≤◌, List, [], ◌∷◌, fold, map, max, refl, arith}
use Rattle.std.specs.Prelude.{slice_index}
use Rattle.lk_expressions.specs.Records.{Record, file_end, record_at}

-- a greatest number so far stays below the greatest
fold_from : (n : ℕ) (ns : List ℕ) → n ≤ fold max n ns
fold_from n [] = omega arith
fold_from n (m ∷ ns) = omega (arith, fold_from (max n m) ns)

-- the file end of each record is no greater than the greatest
pub end_within : (n : ℕ) (rs : List Record) (s : ℕ) → file_end (record_at rs s) ≤ fold max n (map file_end rs)
end_within n [] s = omega arith
end_within n (r ∷ rs) zero = omega (arith, fold_from (max n (file_end r)) (map file_end rs))
end_within n (r ∷ rs) (suc s) = end_within (max n (file_end r)) rs s

-- where a part starts in memory, by the starts of all
pub starts_there : (rs : List Record) (p : ℕ) → slice_index (map (λ r. r.mem_offset) rs) p ≡ (record_at rs p).mem_offset
starts_there [] p = refl
starts_there (r ∷ rs) zero = refl
starts_there (r ∷ rs) (suc p) = starts_there rs p
