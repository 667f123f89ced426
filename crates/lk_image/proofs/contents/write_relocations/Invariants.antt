use Rattle.std.proofs.Common.{◌≡◌, fold, length, take}
use Rattle.lk_image.specs.Contents.{patch}
use Rattle.lk_image.specs.References.{value_in}
use Rattle.lk_image.proofs.contents.write_relocations.Given as goal

-- those so far are written
abbrev pub invariant-loop-relocation : goal.invariant-loop-relocation
invariant-loop-relocation l = record {
  written : l.bytes ≡ fold (patch (value_in l.link l.layout l.symbols.first l.symbols.symbols.now)) l.initial.bytes (take l.relocation-index l.relocs);
  long : length l.bytes ≡ length l.initial.bytes;
}
