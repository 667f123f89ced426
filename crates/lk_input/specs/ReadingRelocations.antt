-- What is read of relocations and of relaxation candidates.
use Rattle.std.specs.Prelude.{ℕ, List, [], ◌∷◌, Result, Ok}
use Rattle.serde_json.specs.Data.{Data}
use Rattle.lk_link.specs.declared.relocation.RelocationKind.{RelocationKind}
use Rattle.lk_link.specs.declared.relocation.RelocationKind.TheVariants as kind
use Rattle.lk_link.specs.declared.relocation.Relocation.{Relocation}
use Rattle.lk_link.specs.declared.relocation.RelaxCandidate.{RelaxCandidate}
use Rattle.lk_input.specs.ReadingSteps.{Path, ◌>>=◌, number_of, index_of, signed_of, truth_of, one_of, fixed_list, element, at_most, written}

-- all kinds
abbrev pub kinds : List (List ℕ × RelocationKind)
kinds =
    (written "Absolute", kind.Absolute) ∷ (written "Relative", kind.Relative) ∷ (written "PltRelative", kind.PltRelative) ∷
    (written "Got", kind.Got) ∷ (written "GotRelative", kind.GotRelative) ∷ (written "GotTpOff", kind.GotTpOff) ∷
    (written "TpOff", kind.TpOff) ∷ (written "DtpOff", kind.DtpOff) ∷ (written "TlsGd", kind.TlsGd) ∷ (written "TlsLd", kind.TlsLd) ∷
    (written "TlsDesc", kind.TlsDesc) ∷ (written "TlsDescCall", kind.TlsDescCall) ∷ (written "None", kind.None) ∷
    (written "SymbolSize", kind.SymbolSize) ∷ (written "SymRelGotBase", kind.SymRelGotBase) ∷
    (written "PltRelGotBase", kind.PltRelGotBase) ∷ (written "GotRelGotBase", kind.GotRelGotBase) ∷
    (written "GotRelativeLoongArch64", kind.GotRelativeLoongArch64) ∷ (written "GotTpOffLoongArch64", kind.GotTpOffLoongArch64) ∷
    (written "GotTpOffGot", kind.GotTpOffGot) ∷ (written "GotTpOffGotBase", kind.GotTpOffGotBase) ∷
    (written "TlsGdGot", kind.TlsGdGot) ∷ (written "TlsGdGotBase", kind.TlsGdGotBase) ∷
    (written "TlsDescLoongArch64", kind.TlsDescLoongArch64) ∷ (written "TlsDescGot", kind.TlsDescGot) ∷
    (written "TlsDescGotBase", kind.TlsDescGotBase) ∷ (written "TlsLdGot", kind.TlsLdGot) ∷
    (written "TlsLdGotBase", kind.TlsLdGotBase) ∷ (written "AbsoluteSet", kind.AbsoluteSet) ∷
    (written "AbsoluteSetWord6", kind.AbsoluteSetWord6) ∷ (written "AbsoluteAddition", kind.AbsoluteAddition) ∷
    (written "AbsoluteAdditionWord6", kind.AbsoluteAdditionWord6) ∷ (written "AbsoluteSubtraction", kind.AbsoluteSubtraction) ∷
    (written "AbsoluteSubtractionWord6", kind.AbsoluteSubtractionWord6) ∷ (written "AbsoluteLowPart", kind.AbsoluteLowPart) ∷
    (written "RelativeRiscVLow12", kind.RelativeRiscVLow12) ∷ (written "RelativeLoongArchHigh", kind.RelativeLoongArchHigh) ∷
    (written "PairSubtractionULEB128RiscV", kind.PairSubtractionULEB128RiscV) ∷
    (written "PairSubtractionULEB128LoongArch", kind.PairSubtractionULEB128LoongArch) ∷
    (written "MachoSubtraction", kind.MachoSubtraction) ∷ (written "Alignment", kind.Alignment) ∷
    (written "MachoAddition", kind.MachoAddition) ∷ []

-- `[offset, kind, local symbol, addend, thunkable]`
unfoldable pub relocation_of : Data → Result Relocation Path
relocation_of d = do
  _ ← fixed_list d
  offset ← element number_of 0 d
  k ← element (one_of kinds) 1 d
  symbol ← element index_of 2 d
  addend ← element signed_of 3 d
  thunkable ← element truth_of 4 d
  _ ← at_most 5 d
  Ok (record { offset = offset; addend = addend; symbol = symbol; kind = k; thunkable = thunkable })

-- `[at, local symbol, limit, del]`
unfoldable pub relax_candidate_of : Data → Result RelaxCandidate Path
relax_candidate_of d = do
  _ ← fixed_list d
  at ← element number_of 0 d
  symbol ← element index_of 1 d
  limit ← element number_of 2 d
  del ← element number_of 3 d
  _ ← at_most 4 d
  Ok (record { at = at; limit = limit; del = del; symbol = symbol })
