-- What a kind of relocation wants of its symbol.
use Rattle.std.specs.Prelude.{ℕ, ◌+◌, Bool, true, false}
use Rattle.lk_link.specs.declared.relocation.RelocationKind.{RelocationKind}
use Rattle.lk_link.specs.declared.relocation.RelocationKind.TheVariants as kind
use Rattle.lk_link.specs.declared.flags.TheConstants.ValueFlags as flag
use Rattle.lk_link.specs.Flags.{has_flag, wants_got_entry}

-- the flags that it asks for
abbrev pub resolution_flags : RelocationKind → ℕ
resolution_flags kind.PltRelative = flag.PLT.0 + flag.GOT.0
resolution_flags kind.PltRelGotBase = flag.PLT.0 + flag.GOT.0
resolution_flags kind.Got = flag.GOT.0
resolution_flags kind.GotRelGotBase = flag.GOT.0
resolution_flags kind.GotRelative = flag.GOT.0
resolution_flags kind.GotRelativeLoongArch64 = flag.GOT.0
resolution_flags kind.GotTpOff = flag.GOT_TLS_OFFSET.0
resolution_flags kind.GotTpOffLoongArch64 = flag.GOT_TLS_OFFSET.0
resolution_flags kind.GotTpOffGot = flag.GOT_TLS_OFFSET.0
resolution_flags kind.GotTpOffGotBase = flag.GOT_TLS_OFFSET.0
resolution_flags kind.TlsGd = flag.GOT_TLS_MODULE.0
resolution_flags kind.TlsGdGot = flag.GOT_TLS_MODULE.0
resolution_flags kind.TlsGdGotBase = flag.GOT_TLS_MODULE.0
resolution_flags kind.TlsDesc = flag.GOT_TLS_DESCRIPTOR.0
resolution_flags kind.TlsDescLoongArch64 = flag.GOT_TLS_DESCRIPTOR.0
resolution_flags kind.TlsDescGot = flag.GOT_TLS_DESCRIPTOR.0
resolution_flags kind.TlsDescGotBase = flag.GOT_TLS_DESCRIPTOR.0
resolution_flags kind.TlsDescCall = flag.GOT_TLS_DESCRIPTOR.0
resolution_flags kind.TlsLd = 0
resolution_flags kind.TlsLdGot = 0
resolution_flags kind.TlsLdGotBase = 0
resolution_flags kind.Absolute = flag.DIRECT.0
resolution_flags kind.AbsoluteSet = flag.DIRECT.0
resolution_flags kind.AbsoluteSetWord6 = flag.DIRECT.0
resolution_flags kind.AbsoluteAddition = flag.DIRECT.0
resolution_flags kind.AbsoluteAdditionWord6 = flag.DIRECT.0
resolution_flags kind.AbsoluteSubtraction = flag.DIRECT.0
resolution_flags kind.AbsoluteSubtractionWord6 = flag.DIRECT.0
resolution_flags kind.AbsoluteLowPart = flag.DIRECT.0
resolution_flags kind.Relative = flag.DIRECT.0
resolution_flags kind.RelativeRiscVLow12 = flag.DIRECT.0
resolution_flags kind.RelativeLoongArchHigh = flag.DIRECT.0
resolution_flags kind.DtpOff = flag.DIRECT.0
resolution_flags kind.TpOff = flag.DIRECT.0
resolution_flags kind.SymRelGotBase = flag.DIRECT.0
resolution_flags kind.PairSubtractionULEB128RiscV = flag.DIRECT.0
resolution_flags kind.PairSubtractionULEB128LoongArch = flag.DIRECT.0
resolution_flags kind.MachoSubtraction = flag.DIRECT.0
resolution_flags kind.SymbolSize = flag.SYMBOL_SIZE.0
resolution_flags kind.None = 0
resolution_flags kind.Alignment = 0
resolution_flags kind.MachoAddition = 0

-- whether it wants an entry of plt
abbrev pub wants_plt : RelocationKind → Bool
wants_plt kind = has_flag flag.PLT.0 (resolution_flags kind)

-- whether it wants an entry of got, thread-local ones among them
abbrev pub wants_got : RelocationKind → Bool
wants_got kind = wants_got_entry (resolution_flags kind)

-- whether it wants the shared module entry of local thread-local symbols
abbrev pub needs_tlsld : RelocationKind → Bool
needs_tlsld kind.TlsLd = true
needs_tlsld kind.TlsLdGot = true
needs_tlsld kind.TlsLdGotBase = true
needs_tlsld _ = false
