-- The listed texts as the code names them: the words of private contracts.
use Rattle.std.specs.Prelude.{ℕ, List, [], map}
use Rattle.lk_link.specs.declared.expression.Operator.TheVariants as operator
use Rattle.lk_link.specs.declared.expression.Operator.{Operator}
use Rattle.lk_link.specs.declared.file.FileKind.TheVariants as file
use Rattle.lk_link.specs.declared.file.FileKind.{FileKind}
use Rattle.lk_link.specs.declared.options.DiscardLocals.TheVariants as discard
use Rattle.lk_link.specs.declared.options.DiscardLocals.{DiscardLocals}
use Rattle.lk_link.specs.declared.options.OutputKind.TheVariants as output
use Rattle.lk_link.specs.declared.options.OutputKind.{OutputKind}
use Rattle.lk_link.specs.declared.plan.Emit.TheVariants as emit
use Rattle.lk_link.specs.declared.plan.Emit.{Emit}
use Rattle.lk_link.specs.declared.plan.SegmentKind.TheVariants as segment
use Rattle.lk_link.specs.declared.plan.SegmentKind.{SegmentKind}
use Rattle.lk_link.specs.declared.relocation.RelocationKind.TheVariants as kind
use Rattle.lk_link.specs.declared.relocation.RelocationKind.{RelocationKind}
use Rattle.lk_link.specs.declared.section.InputSlot.TheVariants as slot
use Rattle.lk_link.specs.declared.section.InputSlot.{InputSlot}
use Rattle.lk_input.specs.declared.read.event.EventForm.TheVariants as event
use Rattle.lk_input.specs.declared.read.event.EventForm.{EventForm}
use Rattle.lk_input.specs.declared.read.expression.ExpressionForm.TheVariants as form
use Rattle.lk_input.specs.declared.read.expression.ExpressionForm.{ExpressionForm}
use Rattle.lk_input.specs.declared.read.expression.OperandForm.TheVariants as operand
use Rattle.lk_input.specs.declared.read.expression.OperandForm.{OperandForm}
use Rattle.lk_input.specs.declared.read.symbol.LocForm.TheVariants as loc
use Rattle.lk_input.specs.declared.read.symbol.LocForm.{LocForm}
use Rattle.lk_input.specs.declared.read.symbol.PlacementForm.TheVariants as placement
use Rattle.lk_input.specs.declared.read.symbol.PlacementForm.{PlacementForm}
use Rattle.lk_input.specs.ReadingSteps.{written}

-- the table of some words, each with how it is written
abbrev pub spelled : {A : Type 0} → (A → List ℕ) → List A → List (List ℕ × A)
spelled spelling words = map (λ w. (spelling w, w)) words

-- how a kind of output is written
unfoldable pub output_text : OutputKind → List ℕ
output_text output.StaticExecutable = written "static"
output_text output.DynamicExecutable = written "dynamic"
output_text output.SharedObject = written "shared"
output_text output.Partial = written "partial"

-- how it is written which local symbols are left out
unfoldable pub discard_text : DiscardLocals → List ℕ
discard_text discard.Default = written "default"
discard_text discard.All = written "all"
discard_text discard.None = written "none"

-- how it is written when a section is emitted
unfoldable pub emit_text : Emit → List ℕ
emit_text emit.Auto = written "auto"
emit_text emit.Always = written "always"
emit_text emit.Never = written "never"

-- how a kind of file is written
unfoldable pub file_kind_text : FileKind → List ℕ
file_kind_text file.Prelude = written "prelude"
file_kind_text file.Object = written "object"
file_kind_text file.Dynamic = written "dynamic"
file_kind_text file.NotLoaded = written "notloaded"
file_kind_text file.SyntheticSymbols = written "synthetic"
file_kind_text file.LinkerScript = written "script"

-- how it is written whether an input section is kept
unfoldable pub slot_text : InputSlot → List ℕ
slot_text slot.Discard = written "discard"
slot_text slot.Unloaded = written "unloaded"
slot_text slot.MustLoad = written "must"
slot_text slot.DebugInfo = written "debug"
slot_text slot.MustLoadDebugInfo = written "mustdebug"
slot_text slot.Merge = written "merge"

-- how it is written what a segment is for
unfoldable pub segment_kind_text : SegmentKind → List ℕ
segment_kind_text segment.Load = written "load"
segment_kind_text segment.Tls = written "tls"
segment_kind_text segment.Stack = written "stack"
segment_kind_text segment.Other = written "other"

-- how a kind is written that goes by a table or by thread-local data; nothing for others
unfoldable pub entry_kind_text : RelocationKind → List ℕ
entry_kind_text kind.PltRelative = written "PltRelative"
entry_kind_text kind.PltRelGotBase = written "PltRelGotBase"
entry_kind_text kind.Got = written "Got"
entry_kind_text kind.GotRelGotBase = written "GotRelGotBase"
entry_kind_text kind.GotRelative = written "GotRelative"
entry_kind_text kind.GotRelativeLoongArch64 = written "GotRelativeLoongArch64"
entry_kind_text kind.GotTpOff = written "GotTpOff"
entry_kind_text kind.GotTpOffLoongArch64 = written "GotTpOffLoongArch64"
entry_kind_text kind.GotTpOffGot = written "GotTpOffGot"
entry_kind_text kind.GotTpOffGotBase = written "GotTpOffGotBase"
entry_kind_text kind.TlsGd = written "TlsGd"
entry_kind_text kind.TlsGdGot = written "TlsGdGot"
entry_kind_text kind.TlsGdGotBase = written "TlsGdGotBase"
entry_kind_text kind.TlsDesc = written "TlsDesc"
entry_kind_text kind.TlsDescLoongArch64 = written "TlsDescLoongArch64"
entry_kind_text kind.TlsDescGot = written "TlsDescGot"
entry_kind_text kind.TlsDescGotBase = written "TlsDescGotBase"
entry_kind_text kind.TlsDescCall = written "TlsDescCall"
entry_kind_text kind.TlsLd = written "TlsLd"
entry_kind_text kind.TlsLdGot = written "TlsLdGot"
entry_kind_text kind.TlsLdGotBase = written "TlsLdGotBase"
entry_kind_text _ = []

-- how a kind is written: its name
unfoldable pub kind_text : RelocationKind → List ℕ
kind_text kind.Absolute = written "Absolute"
kind_text kind.AbsoluteSet = written "AbsoluteSet"
kind_text kind.AbsoluteSetWord6 = written "AbsoluteSetWord6"
kind_text kind.AbsoluteAddition = written "AbsoluteAddition"
kind_text kind.AbsoluteAdditionWord6 = written "AbsoluteAdditionWord6"
kind_text kind.AbsoluteSubtraction = written "AbsoluteSubtraction"
kind_text kind.AbsoluteSubtractionWord6 = written "AbsoluteSubtractionWord6"
kind_text kind.AbsoluteLowPart = written "AbsoluteLowPart"
kind_text kind.Relative = written "Relative"
kind_text kind.RelativeRiscVLow12 = written "RelativeRiscVLow12"
kind_text kind.RelativeLoongArchHigh = written "RelativeLoongArchHigh"
kind_text kind.DtpOff = written "DtpOff"
kind_text kind.TpOff = written "TpOff"
kind_text kind.SymRelGotBase = written "SymRelGotBase"
kind_text kind.PairSubtractionULEB128RiscV = written "PairSubtractionULEB128RiscV"
kind_text kind.PairSubtractionULEB128LoongArch = written "PairSubtractionULEB128LoongArch"
kind_text kind.MachoSubtraction = written "MachoSubtraction"
kind_text kind.SymbolSize = written "SymbolSize"
kind_text kind.None = written "None"
kind_text kind.Alignment = written "Alignment"
kind_text kind.MachoAddition = written "MachoAddition"
kind_text k = entry_kind_text k

-- how it is written what an event begins with
unfoldable pub event_text : EventForm → List ℕ
event_text event.SegmentStart = written "seg"
event_text event.SegmentEnd = written "endseg"
event_text event.Section = written "sec"
event_text event.Location = written "loc"
event_text event.RelativeLocation = written "locrel"
event_text event.SectionAddress = written "addr"

-- how it is written what its place begins with
unfoldable pub loc_text : LocForm → List ℕ
loc_text loc.None = written "none"
loc_text loc.Start = written "start"
loc_text loc.End = written "end"
loc_text loc.Counter = written "counter"

-- how it is written what a placement begins with
unfoldable pub placement_text : PlacementForm → List ℕ
placement_text placement.Section = written "sec"
placement_text placement.Common = written "common"
placement_text placement.Absolute = written "abs"
placement_text placement.Undef = written "undef"
placement_text placement.Dynamic = written "dyn"
placement_text placement.Undefined = written "undefined"
placement_text placement.ForceUndefined = written "force"
placement_text placement.SectionStart = written "start"
placement_text placement.SectionEnd = written "end"
placement_text placement.SectionGroupEnd = written "groupend"
placement_text placement.TlsEnd = written "tlsend"
placement_text placement.LoadBaseAddress = written "loadbase"
placement_text placement.Redirect = written "redirect"

-- how an operand is written
unfoldable pub operand_text : OperandForm → List ℕ
operand_text operand.Number = written "num"
operand_text operand.Symbol = written "sym"
operand_text operand.Dot = written "dot"
operand_text operand.Address = written "addr"
operand_text operand.SizeOf = written "sizeof"
operand_text operand.Origin = written "origin"
operand_text operand.Length = written "length"
operand_text operand.Headers = written "headers"

-- how an operator is written
unfoldable pub operator_text : Operator → List ℕ
operator_text operator.Add = written "add"
operator_text operator.Subtract = written "sub"
operator_text operator.Multiply = written "mul"
operator_text operator.Divide = written "div"
operator_text operator.Align = written "align"
operator_text operator.Max = written "max"
operator_text operator.Min = written "min"

-- how it is written what an expression begins with
abbrev pub form_text : ExpressionForm → List ℕ
form_text (form.Operand o) = operand_text o
form_text (form.Operator o) = operator_text o
