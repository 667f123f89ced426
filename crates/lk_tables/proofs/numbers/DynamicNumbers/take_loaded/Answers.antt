use Rattle.std.proofs.Common.{◌≡◌, ◌+◌, ◌&&◌, ℕ, Bool, Option, Some, None, if◌then◌else◌, ap, ◌∙◌}
use Rattle.lk_link.specs.declared.flags.TheConstants.ValueFlags as flag
use Rattle.lk_link.specs.declared.flags.ValueFlags.{ValueFlags}
use Rattle.lk_link.specs.Files.{first_some}
use Rattle.lk_link.specs.Flags.{has_flag}
use Rattle.lk_link.specs.Walks.{file_of}
use Rattle.lk_link.specs.Symbols.{is_wanted}
use Rattle.lk_tables.specs.Dynamic.{exports, is_dynamic_symbol, is_export}
use Rattle.lk_tables.specs.Late.{flags_at, late_flags}
use Rattle.lk_tables.proofs.NumberLemmas.{number_is, numbers_few, numbers_move}
use Rattle.lk_tables.proofs.numbers.DynamicNumbers.take_loaded.Goals as goal

pub take_if-dynamic-requires : goal.take_if-dynamic-requires
take_if-dynamic-requires c =
    record { room = (numbers_few c.args.link.now c.args.live.now c.args.told.now c.args.number c.args.self.now c.requires.loaded c.requires.good c.requires.stand).0 }

pub take_if-exported-requires : goal.take_if-exported-requires
take_if-exported-requires c =
    record { room = (numbers_few c.args.link.now c.args.live.now c.args.told.now c.args.number c.args.self.now c.requires.loaded c.requires.good c.requires.stand).1 }

pub returns : goal.returns
returns c =
    let link = c.args.link.now in
    let live = c.args.live.now in
    let told = c.args.told.now in
    let f = file_of c.args.file in
    let s = c.args.number in
    let x = c.args.symbol.now in
    let old = c.args.self.now in
    let D = is_dynamic_symbol link live told f (s, x) in
    let E = is_export live f (s, x) in
    let flags : c.flags_at-flags.result ≡ flags_at live.flags s
    = c.flags_at-flags.ensures ∙ ap (λ xs. flags_at xs c.as_usize.result) c.as_slice.ensures ∙ ap (flags_at live.flags) c.as_usize.ensures in
    let late : c.late_flags-late.result ≡ late_flags link told f.file.kind s x (flags_at live.flags s)
    = c.late_flags-late.ensures ∙ ap (late_flags link told f.file.kind s x) flags in
    let exported : c.exports-is_exported.result ≡ E = c.exports-is_exported.ensures ∙ ap (λ (y : ValueFlags). exports f.file.kind s x y.0) flags in
    let dynamic : c.is_dynamic_symbol-is_dynamic.result ≡ D
    = c.is_dynamic_symbol-is_dynamic.ensures ∙ ap (λ (y : ValueFlags). is_wanted f.file.kind s x y && has_flag flag.DYNAMIC.0 y.0) late in
    let first : c.take_if-exported.result ≡ (if E then Some old.export else None)
    = c.take_if-exported.ensures.number ∙ ap (λ (b : Bool). if b then Some old.export else None) exported in
    let other : c.take_if-dynamic.result ≡ (if D then Some old.dynamic else None)
    = c.take_if-dynamic.ensures.number ∙ ap (λ (b : Bool). if b then Some old.dynamic else None) dynamic in
    record {
      index = c.first_of.ensures
          ∙ ap (λ (o : Option ℕ). first_some o c.take_if-dynamic.result) first
          ∙ ap (λ (o : Option ℕ). first_some (if E then Some old.export else None) o) other
          ∙ number_is link live told s f x old c.requires.loaded c.requires.there c.requires.stand;
      moved = numbers_move link live told s f x old (record { dynamic = c.take_if-dynamic.new.next; export = c.take_if-exported.new.next }) c.requires.loaded c.requires.there
          c.requires.stand
          (c.take_if-dynamic.ensures.moved ∙ ap (λ (b : Bool). old.dynamic + (if b then 1 else 0)) dynamic)
          (c.take_if-exported.ensures.moved ∙ ap (λ (b : Bool). old.export + (if b then 1 else 0)) exported);
    }
