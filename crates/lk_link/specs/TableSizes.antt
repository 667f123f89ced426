-- What tables take on a machine, and where a symbol's entries stand, with the rule of the small platform and the law that the platform cites
-- (so its proof stands here).
use Rattle.std.specs.Prelude.{◌≡◌, ℕ, ◌+◌, ◌<◌, ◌≤◌, ◌==◌, ◌^◌, not, Bool, true, false, if◌then◌else◌, Option, Some, None, bit_and}
use Rattle.std.specs.Int.Bits.{and_zero_l}
use Rattle.std.proofs.Common.{arith, refl, sym, ap, ◌∙◌}
use Rattle.std.proofs.lemmas.Bool.{eqb-true}
use Rattle.std.proofs.lemmas.Nat.{and_assoc}
use Rattle.lk_link.specs.declared.flags.TheConstants.ValueFlags as flag
use Rattle.lk_link.specs.declared.flags.ValueFlags.{ValueFlags}
use Rattle.lk_link.specs.declared.resolution.Resolution.{Resolution}
use Rattle.lk_link.specs.declared.tables.Allocation.{Allocation}
use Rattle.lk_link.specs.declared.tables.TableCursors.{TableCursors}
use Rattle.lk_link.specs.declared.tables.TheConstants.{GREATEST_ENTRY}
use Rattle.lk_link.specs.Flags.{got_entries, has_flag, wants_got_entry}

-- the bytes of entries and headers
pub record TableSizes : Type 0 where
  -- those that a symbol with these flags takes in got and plt
  pub allocation : ℕ → Allocation
  -- that an entry of a symbol table takes
  pub symbol_entry : ℕ
  pub file_header : ℕ
  -- for each segment
  pub program_header : ℕ
  -- for each section
  pub section_header : ℕ

-- what isn't asked for takes nothing, and no entry and no header is greater than a page can be
pub record AreLawful (sizes : TableSizes) : Type 0 where
  pub got : (flags : ℕ) → wants_got_entry flags ≡ false → (sizes.allocation flags).got ≡ 0
  pub plt : (flags : ℕ) → has_flag flag.PLT.0 flags ≡ false → (sizes.allocation flags).plt ≡ 0
  pub symbol_entry : sizes.symbol_entry ≤ GREATEST_ENTRY
  pub file_header : sizes.file_header ≤ GREATEST_ENTRY
  pub program_header : sizes.program_header ≤ GREATEST_ENTRY
  pub section_header : sizes.section_header ≤ GREATEST_ENTRY

-- ---- the entries of a symbol

-- the cursors have room for what is allocated: they stay below 2^64
pub record HaveRoom (cursors : TableCursors) (taken : Allocation) : Type 0 where
  pub got : cursors.got + taken.got < 2 ^ 64
  pub plt : cursors.plt + taken.plt < 2 ^ 64

-- the first byte of what is taken at a cursor, if any is
abbrev pub first_taken : ℕ → ℕ → Option ℕ
first_taken cursor bytes = if bytes == 0 then None else Some cursor

-- the cursors behind what is allocated
abbrev pub behind : TableCursors → Allocation → TableCursors
behind cursors taken = record { got = cursors.got + taken.got; plt = cursors.plt + taken.plt }

-- the resolution of a symbol whose entries are allocated at the cursors
abbrev pub resolution_at : TableCursors → Allocation → ValueFlags → ℕ → Option ℕ → Resolution
resolution_at cursors taken flags value index = record {
  raw_value = value;
  flags = flags;
  dynamic = index;
  got = first_taken cursors.got taken.got;
  plt = first_taken cursors.plt taken.plt;
}

-- ---- the small platform

-- so many bytes, if a flag is set
abbrev pub bytes_for : ℕ → ℕ → ℕ → ℕ
bytes_for one bytes flags = if has_flag one flags then bytes else 0

-- in got an address, an offset, a module with an offset and a descriptor, one behind the other, as far as they are asked for; in plt a jump
abbrev pub small64_allocation : ℕ → Allocation
small64_allocation flags = record {
  got = bytes_for flag.GOT.0 8 flags + bytes_for flag.GOT_TLS_OFFSET.0 8 flags + bytes_for flag.GOT_TLS_MODULE.0 16 flags
      + bytes_for flag.GOT_TLS_DESCRIPTOR.0 16 flags;
  plt = bytes_for flag.PLT.0 16 flags;
}

abbrev pub small64_sizes : TableSizes
small64_sizes = record { allocation = small64_allocation; symbol_entry = 24; file_header = 64; program_header = 56; section_header = 64 }

-- nothing for a flag that isn't set
pub no_bytes : (b : Bool) (n : ℕ) → b ≡ false → (if b then n else 0) ≡ 0
no_bytes true n h = cc
no_bytes false n h = refl

-- what isn't above 0 is 0
pub is_zero : (n : ℕ) → not (n == 0) ≡ false → n ≡ 0
is_zero n h = eqb-true n 0 (not_not (n == 0) h)
  where
    not_not : (b : Bool) → not b ≡ false → b ≡ true
    not_not true h = refl
    not_not false h = cc

-- where no flag that asks for got is set, one of them takes nothing
pub none_taken : (one bytes flags : ℕ) → bit_and got_entries one ≡ one → (0 == one) ≡ false → bit_and flags got_entries ≡ 0 → bytes_for one bytes flags ≡ 0
none_taken one bytes flags among above none =
    let unset : bit_and flags one ≡ 0 = ap (bit_and flags) (sym among) ∙ sym (and_assoc one flags got_entries) ∙ ap (λ n. bit_and n one) none ∙ and_zero_l one in
    no_bytes (has_flag one flags) bytes (ap (λ n. n == one) unset ∙ above)

-- four times nothing is nothing
pub no_four : (a b c d : ℕ) → a ≡ 0 → b ≡ 0 → c ≡ 0 → d ≡ 0 → a + b + c + d ≡ 0
no_four a b c d p q r s = omega (arith, p, q, r, s)

-- so it is lawful
pub small64_sizes_are_lawful : AreLawful small64_sizes
small64_sizes_are_lawful = record {
  got = λ flags h.
      let none : bit_and flags got_entries ≡ 0 = is_zero (bit_and flags got_entries) h in
      no_four (bytes_for flag.GOT.0 8 flags) (bytes_for flag.GOT_TLS_OFFSET.0 8 flags) (bytes_for flag.GOT_TLS_MODULE.0 16 flags)
      (bytes_for flag.GOT_TLS_DESCRIPTOR.0 16 flags) (none_taken flag.GOT.0 8 flags refl refl none)
      (none_taken flag.GOT_TLS_OFFSET.0 8 flags refl refl none) (none_taken flag.GOT_TLS_MODULE.0 16 flags refl refl none)
      (none_taken flag.GOT_TLS_DESCRIPTOR.0 16 flags refl refl none);
  plt = λ flags h. no_bytes (has_flag flag.PLT.0 flags) 16 h;
  symbol_entry = omega arith;
  file_header = omega arith;
  program_header = omega arith;
  section_header = omega arith;
}
