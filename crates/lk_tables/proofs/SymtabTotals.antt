-- What a file takes in the symbol table, by what its symbols bring.
use Rattle.std.proofs.Common.{◌≡◌, ℕ, ◌+◌, ◌*◌, ◌^◌, ◌<◌, ◌≤◌, ◌&&◌, not, Bool, true, false, if◌then◌else◌, List, length, Some, refl, ap, ◌∙◌, arith}
use Rattle.std.proofs.lemmas.List.FromFn.{length-enumerate_from}
use Rattle.std.proofs.lemmas.Nat.{mul-le}
use Rattle.lk_link.specs.declared.ids.FileId.{FileId}
use Rattle.lk_link.specs.declared.link.LinkInput.{LinkInput}
use Rattle.lk_link.specs.declared.symbol.InputSymbol.{InputSymbol}
use Rattle.lk_link.specs.FileKinds.{is_prelude}
use Rattle.lk_link.specs.Files.{file_in}
use Rattle.lk_link.specs.Inputs.{NumberedFile}
use Rattle.lk_link.specs.Symbols.{first_symbol}
use Rattle.lk_link.specs.TableSizes.{TableSizes}
use Rattle.lk_link.specs.WellFormed.{IsWellFormed}
use Rattle.lk_link.proofs.SymbolLemmas.{symbols_within}
use Rattle.lk_live.specs.declared.live.Live.{Live}
use Rattle.lk_reach.proofs.SymbolNumbers.{symbols_few}
use Rattle.lk_tables.specs.declared.shares.SymtabShare.{SymtabShare}
use Rattle.lk_tables.specs.HeaderParts.{told_sum}
use Rattle.lk_tables.specs.ShareSteps.{file_share, own_locals, table_share, whole_symtab}
use Rattle.lk_tables.specs.ShareWords.{has_entry_there}
use Rattle.lk_tables.specs.SymbolTable.{entry_bytes, file_symbol_sizes, global_entries, is_local_entry, local_entries, local_start, name_entries, symbols_by_number}
use Rattle.lk_tables.proofs.Columns.{own_of}
use Rattle.lk_tables.proofs.SingletonLemmas.{own_few, start_bytes}
use Rattle.lk_tables.proofs.TableSums.{if_at_most, names_few, sum_at_most, sum_numbered, sum_of_part}
use Rattle.lk_tables.proofs.TotalLemmas.{are_names, each_of, global_bytes, is_global, is_local, local_bytes, locals_of, name_bytes, names_of, start_of}

-- its bytes are those of its entries, and fit
pub record IsSymtab (sizes : TableSizes) (link : LinkInput) (live : Live) (told : List Bool) (f : NumberedFile) (bytes : SymtabShare) : Type 0 where
  pub local : bytes.local ≡ entry_bytes (local_entries sizes.symbol_entry link live told f)
  pub global : bytes.global ≡ entry_bytes (global_entries sizes.symbol_entry link live told f)
  pub names : bytes.names ≡ entry_bytes (name_entries link live told f)
  pub few_local : bytes.local < 2 ^ 64
  pub few_global : bytes.global < 2 ^ 64
  pub few_names : bytes.names < 2 ^ 64

-- a number of both, the table's own in the prelude alone
of_either : (part : SymtabShare → ℕ) (b : Bool) (x y : SymtabShare) → part (if b then x else y) ≡ (if b then part x else part y)
of_either part true x y = refl
of_either part false x y = refl

summed : (b : Bool) (x own start share n : ℕ) → x ≡ (if b then told_sum (own + share) else share) → told_sum own ≡ told_sum start → share ≡ told_sum n → n + start < 2 ^ 64
    → x ≡ n + (if b then start else 0)
summed true x own start share n h i j few = omega (arith, h, i, j, few)
summed false x own start share n h i j few = omega (arith, h, i, j, few)

below : (b : Bool) (n start : ℕ) → n + start < 2 ^ 64 → n + (if b then start else 0) < 2 ^ 64
below true n start few = few
below false n start few = omega (arith, few)

at_most_as : {m n k : ℕ} → m ≡ n → n ≤ k → m ≤ k
at_most_as h i = omega (arith, h, i)

-- there are fewer than 2^32 symbols
few_symbols : (link : LinkInput) (f : NumberedFile) → IsWellFormed link → file_in link.groups f.id ≡ Some f.file → length (symbols_by_number link f) < 2 ^ 32
few_symbols link f good there =
    omega (arith, length-enumerate_from (first_symbol link.groups f.id) f.file.symbols, symbols_within link.groups f.id f.file there, symbols_few link good)

pub symtab_is : (sizes : TableSizes) (link : LinkInput) (live : Live) (told : List Bool) (f : NumberedFile) → sizes.symbol_entry ≤ 65536 → IsWellFormed link
    → file_in link.groups f.id ≡ Some f.file → IsSymtab sizes link live told f (whole_symtab sizes link live told f)
symtab_is sizes link live told f small good there =
    let entry = sizes.symbol_entry in
    let b = is_prelude f.file.kind in
    let symbols = symbols_by_number link f in
    let share = (file_share sizes link live told f).symtab in
    let table = (table_share link live entry told).symtab in
    let own = locals_of entry link live told in
    let whole = whole_symtab sizes link live told f in
    let locals = each_of entry link live (λ g. is_local_entry g.file.kind) told f in
    let globals = each_of entry link live (λ g q. not (is_local_entry g.file.kind q)) told f in
    let names = names_of link live told f in
    let few = few_symbols link f good there in
    let start : own ≤ 65536 * 16842496
    = if_at_most (not link.options.strip_all) (entry_bytes (local_start entry link live told)) (65536 * 16842496)
    (at_most_as (start_bytes entry link live told) (mul-le entry (own_locals link live told) 65536 16842496 small (own_few link live told good))) in
    let one : start_of link 1 ≤ 1 = if_at_most (not link.options.strip_all) 1 1 (omega arith) in
    let few_locals : locals + own < 2 ^ 64
    = omega (arith, few, start, sum_at_most (λ q. has_entry_there link live told f q && is_local_entry f.file.kind q) entry 65536 symbols small) in
    let few_globals : globals + 0 < 2 ^ 64
    = omega (arith, few, sum_at_most (λ q. has_entry_there link live told f q && not (is_local_entry f.file.kind q)) entry 65536 symbols small) in
    let few_names : names + start_of link 1 < 2 ^ 64
    = omega (
      arith,
      one,
      sum_of_part (has_entry_there link live told f) (λ q. length q.1.name + 1) symbols,
      sum_numbered (λ (x : InputSymbol). length x.name + 1) (first_symbol link.groups f.id) f.file.symbols,
      names_few link f.id f.file good there,
    ) in
    let local : whole.local ≡ locals + own_of own f
    = summed b whole.local table.local own share.local locals (of_either (λ s. s.local) b _ share) ((is_local sizes link live).table told)
    ((is_local sizes link live).share told f) few_locals in
    let global : whole.global ≡ globals + own_of 0 f
    = summed b whole.global table.global 0 share.global globals (of_either (λ s. s.global) b _ share) ((is_global sizes link live).table told)
    ((is_global sizes link live).share told f) few_globals in
    let named : whole.names ≡ names + own_of (start_of link 1) f
    = summed b whole.names table.names (start_of link 1) share.names names (of_either (λ s. s.names) b _ share) ((are_names sizes link live).table told)
    ((are_names sizes link live).share told f) few_names in
    record {
      local = omega (arith, local, local_bytes entry link live told f);
      global = omega (arith, global, global_bytes entry link live told f);
      names = omega (arith, named, name_bytes link live told f);
      few_local = omega (arith, local, below b locals own few_locals);
      few_global = omega (arith, global, below b globals 0 few_globals);
      few_names = omega (arith, named, below b names (start_of link 1) few_names);
    }

-- told with its number
pub same_sizes : (sizes : TableSizes) (link : LinkInput) (live : Live) (told : List Bool) (f : NumberedFile) → IsSymtab sizes link live told f (whole_symtab sizes link live told f)
    → (let s = whole_symtab sizes link live told f in (f.id, s.local, s.global, s.names)) ≡ file_symbol_sizes sizes.symbol_entry link live told f
same_sizes sizes link live told f is =
    let s = whole_symtab sizes link live told f in
    let entry = sizes.symbol_entry in
    let row : ℕ → ℕ → ℕ → FileId × ℕ × ℕ × ℕ = λ a b c. (f.id, a, b, c) in
    ap (λ (a : ℕ). row a s.global s.names) is.local
    ∙ ap (λ (b : ℕ). row (entry_bytes (local_entries entry link live told f)) b s.names) is.global
    ∙ ap (λ (c : ℕ). row (entry_bytes (local_entries entry link live told f)) (entry_bytes (global_entries entry link live told f)) c) is.names
