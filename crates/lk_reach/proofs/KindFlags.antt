-- What a kind of relocation asks for are flags of 32 bits.
use Rattle.std.proofs.Common.{◌<◌, ◌^◌, arith}
use Rattle.lk_link.specs.declared.relocation.RelocationKind.{RelocationKind}
use Rattle.lk_link.specs.declared.relocation.RelocationKind.TheVariants as kind
use Rattle.lk_link.specs.Relocations.{resolution_flags}

pub kind_few : (of : RelocationKind) → resolution_flags of < 2 ^ 32
kind_few kind.PltRelative = omega arith
kind_few kind.PltRelGotBase = omega arith
kind_few kind.Got = omega arith
kind_few kind.GotRelGotBase = omega arith
kind_few kind.GotRelative = omega arith
kind_few kind.GotRelativeLoongArch64 = omega arith
kind_few kind.GotTpOff = omega arith
kind_few kind.GotTpOffLoongArch64 = omega arith
kind_few kind.GotTpOffGot = omega arith
kind_few kind.GotTpOffGotBase = omega arith
kind_few kind.TlsGd = omega arith
kind_few kind.TlsGdGot = omega arith
kind_few kind.TlsGdGotBase = omega arith
kind_few kind.TlsDesc = omega arith
kind_few kind.TlsDescLoongArch64 = omega arith
kind_few kind.TlsDescGot = omega arith
kind_few kind.TlsDescGotBase = omega arith
kind_few kind.TlsDescCall = omega arith
kind_few kind.TlsLd = omega arith
kind_few kind.TlsLdGot = omega arith
kind_few kind.TlsLdGotBase = omega arith
kind_few kind.Absolute = omega arith
kind_few kind.AbsoluteSet = omega arith
kind_few kind.AbsoluteSetWord6 = omega arith
kind_few kind.AbsoluteAddition = omega arith
kind_few kind.AbsoluteAdditionWord6 = omega arith
kind_few kind.AbsoluteSubtraction = omega arith
kind_few kind.AbsoluteSubtractionWord6 = omega arith
kind_few kind.AbsoluteLowPart = omega arith
kind_few kind.Relative = omega arith
kind_few kind.RelativeRiscVLow12 = omega arith
kind_few kind.RelativeLoongArchHigh = omega arith
kind_few kind.DtpOff = omega arith
kind_few kind.TpOff = omega arith
kind_few kind.SymRelGotBase = omega arith
kind_few kind.PairSubtractionULEB128RiscV = omega arith
kind_few kind.PairSubtractionULEB128LoongArch = omega arith
kind_few kind.MachoSubtraction = omega arith
kind_few kind.SymbolSize = omega arith
kind_few kind.None = omega arith
kind_few kind.Alignment = omega arith
kind_few kind.MachoAddition = omega arith
