-- The dynamic symbol table has at most two entries for each symbol behind its own.
use Rattle.std.proofs.Common.{ℕ, ◌≤◌, Bool, true, false, if◌then◌else◌, List, [], ◌++◌, filter, length, ap, arith, length-append}
use Rattle.std.specs.List.{enumerate_from}
use Rattle.std.proofs.lemmas.List.{length-map}
use Rattle.std.proofs.lemmas.List.FromFn.{length-enumerate_from}
use Rattle.std.proofs.lemmas.List.Sums.{count_by-le-length, length-filter}
use Rattle.lk_link.specs.declared.link.LinkInput.{LinkInput}
use Rattle.lk_link.specs.declared.symbol.InputSymbol.{InputSymbol}
use Rattle.lk_link.specs.Inputs.{NumberedFile}
use Rattle.lk_link.specs.OutputKinds.{is_loaded_dynamically}
use Rattle.lk_link.specs.WellFormed.{IsWellFormed}
use Rattle.lk_live.specs.declared.live.Live.{Live}
use Rattle.lk_reach.specs.Units.{numbered_symbols}
use Rattle.lk_tables.specs.Dynamic.{dynamic_table, is_dynamic_symbol, is_export, numbers_where}
use Rattle.lk_tables.proofs.BySymbol.{by_number, passes_of, value_of}
use Rattle.lk_tables.proofs.NumberLemmas.{few_rows}

few_where : (p : NumberedFile → ℕ × InputSymbol → Bool) (link : LinkInput) → IsWellFormed link → length (numbers_where p link) ≤ 16777216
few_where p link good =
    let N = numbered_symbols link.groups in
    let number : ℕ × InputSymbol → ℕ = λ q. q.0 in
    omega (
      arith,
      ap length (by_number p number link),
      length-map (filter (passes_of p) (enumerate_from 0 N)) (value_of number),
      length-filter (passes_of p) (enumerate_from 0 N),
      count_by-le-length (passes_of p) (enumerate_from 0 N),
      length-enumerate_from 0 N,
      few_rows link good,
    )

pub few_entries : (link : LinkInput) (live : Live) (told : List Bool) → IsWellFormed link → length (dynamic_table link live told) ≤ 33554432
few_entries link live told good = by_output (is_loaded_dynamically link.options.output)
  where
    ds : List ℕ
    ds = numbers_where (is_dynamic_symbol link live told) link

    es : List ℕ
    es = numbers_where (is_export live) link

    by_output : (b : Bool) → length (if b then ds ++ es else []) ≤ 33554432
    by_output true = omega (arith, length-append ds es, few_where (is_dynamic_symbol link live told) link good, few_where (is_export live) link good)
    by_output false = omega arith
