use Rattle.std.proofs.Common.{◌≡◌, true, false, sym, ◌∙◌}
use Rattle.lk_link.specs.declared.section.InputSection.{InputSection}
use Rattle.lk_link.specs.declared.section.InputSlot.{InputSlot}
use Rattle.lk_link.specs.declared.section.InputSlot.TheVariants as slot
use Rattle.lk_link.specs.InputSlots.{can_be_kept, is_debug, is_regular}
use Rattle.lk_link.specs.Walks.{input_of}
use Rattle.lk_reach.proofs.Numbered.{file_of_input}
use Rattle.lk_reach.proofs.SymbolNumbers.{is_there, relocations_from}
use Rattle.lk_image.proofs.contents.write_content.Goals as goal

-- what can be kept, and is no debug data, is regular
regular_of : (s : InputSlot) → can_be_kept s ≡ true → is_debug s ≡ false → is_regular s ≡ true
regular_of slot.Discard kept plain = kept
regular_of slot.Unloaded kept plain = kept
regular_of slot.MustLoad kept plain = kept
regular_of slot.DebugInfo kept plain = sym plain
regular_of slot.MustLoadDebugInfo kept plain = sym plain
regular_of slot.Merge kept plain = kept

pub symbols_in-requires-clause-there : goal.symbols_in-requires-clause-there
symbols_in-requires-clause-there c =
    let f = file_of_input c.args.link.now.groups c.args._number (input_of c.args.input) c.requires.there in
    is_there c.args.link.now.groups c.args.input.file f.0 f.1

pub write_relocations-requires-clause-numbers : goal.write_relocations-requires-clause-numbers
write_relocations-requires-clause-numbers c =
    let link = c.args.link.now in
    let x = input_of c.args.input in
    let f = file_of_input link.groups c.args._number x c.requires.there in
    let s : InputSection = c.args.input.section.now in
    let debug : is_debug s.slot ≡ false = sym c.is_debug.ensures ∙ c.if-is_debug.false in
    relocations_from link x.file f.0 x.index s c.in-Some.symbols.first c.as_slice-relocs.result.now c.requires.ready.good f.1 f.2
    (regular_of s.slot c.requires.kept debug) c.in-Some.ensures.0 c.as_slice-relocs.ensures
