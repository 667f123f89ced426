-- The flags of symbols, as bits.
use Rattle.std.specs.Prelude.{ℕ, ◌+◌, List, [], ◌∷◌, ◌==◌, ◌&&◌, not, Bool, bit_and, codes}
use Rattle.lk_link.specs.declared.flags.TheConstants.ValueFlags as flag

-- the flags and their names
abbrev pub flag_names : List (List ℕ × ℕ)
flag_names = (codes "ABSOLUTE", flag.ABSOLUTE.0) ∷ (codes "DYNAMIC", flag.DYNAMIC.0) ∷ (codes "IFUNC", flag.IFUNC.0)
    ∷ (codes "DOWNGRADE_LOCAL", flag.DOWNGRADE_LOCAL.0) ∷ (codes "GROUP_SIGNATURE", flag.GROUP_SIGNATURE.0)
    ∷ (codes "INTERPOSABLE", flag.INTERPOSABLE.0)
    ∷ (codes "DIRECT", flag.DIRECT.0) ∷ (codes "GOT", flag.GOT.0) ∷ (codes "PLT", flag.PLT.0)
    ∷ (codes "GOT_TLS_OFFSET", flag.GOT_TLS_OFFSET.0)
    ∷ (codes "GOT_TLS_MODULE", flag.GOT_TLS_MODULE.0) ∷ (codes "GOT_TLS_DESCRIPTOR", flag.GOT_TLS_DESCRIPTOR.0)
    ∷ (codes "SYMBOL_SIZE", flag.SYMBOL_SIZE.0)
    ∷ (codes "EXPORT_DYNAMIC", flag.EXPORT_DYNAMIC.0) ∷ (codes "HAS_RANGE_LIMITED_REL", flag.HAS_RANGE_LIMITED_REL.0) ∷ []

-- whether a flag is set
abbrev pub has_flag : ℕ → ℕ → Bool
has_flag one flags = bit_and flags one == one

-- the flags for which a symbol gets a resolution, together
abbrev pub resolution : ℕ
resolution = flag.DIRECT.0 + flag.GOT.0 + flag.PLT.0 + flag.GOT_TLS_OFFSET.0 + flag.GOT_TLS_MODULE.0 + flag.GOT_TLS_DESCRIPTOR.0
    + flag.SYMBOL_SIZE.0 + flag.EXPORT_DYNAMIC.0

-- whether one of them is set
abbrev pub has_resolution : ℕ → Bool
has_resolution flags = not (bit_and flags resolution == 0)

-- the flags for which a symbol gets an entry of a table, together: of plt, of got, and the three kinds of thread-local ones of got
abbrev pub table_entries : ℕ
table_entries = flag.GOT.0 + flag.PLT.0 + flag.GOT_TLS_OFFSET.0 + flag.GOT_TLS_MODULE.0 + flag.GOT_TLS_DESCRIPTOR.0

-- whether one of them is set
abbrev pub wants_table_entry : ℕ → Bool
wants_table_entry flags = not (bit_and flags table_entries == 0)

-- the flags for which a symbol gets an entry of got, together: its own, and the three kinds of thread-local ones
abbrev pub got_entries : ℕ
got_entries = flag.GOT.0 + flag.GOT_TLS_OFFSET.0 + flag.GOT_TLS_MODULE.0 + flag.GOT_TLS_DESCRIPTOR.0

-- whether one of them is set
abbrev pub wants_got_entry : ℕ → Bool
wants_got_entry flags = not (bit_and flags got_entries == 0)

-- neither absolute nor dynamic
abbrev pub has_link_time_address : ℕ → Bool
has_link_time_address flags = not (has_flag flag.ABSOLUTE.0 flags) && not (has_flag flag.DYNAMIC.0 flags)
