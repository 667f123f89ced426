-- Where no entry is asked for, a lawful machine allocates nothing, and the cursors stay.
use Rattle.std.proofs.Common.{◌≡◌, ℕ, Bool, true, false, if◌then◌else◌, Option, None, Some, refl, ap, sym, ◌∙◌, arith}
use Rattle.std.specs.Prelude.{◌==◌, not, bit_and, is_some}
use Rattle.std.specs.Int.Bits.{and_zero_l}
use Rattle.std.proofs.lemmas.Nat.{and_assoc}
use Rattle.lk_link.specs.declared.flags.TheConstants.ValueFlags as flag
use Rattle.lk_link.specs.declared.flags.ValueFlags.{ValueFlags}
use Rattle.lk_link.specs.declared.plan.NamedParts.{NamedParts}
use Rattle.lk_link.specs.declared.resolution.Resolution.{Resolution}
use Rattle.lk_link.specs.declared.tables.Allocation.{Allocation}
use Rattle.lk_link.specs.declared.tables.TableCursors.{TableCursors}
use Rattle.lk_link.specs.Flags.{got_entries, table_entries, wants_table_entry}
use Rattle.lk_link.specs.TableSizes.{AreLawful, TableSizes, first_taken, is_zero}
use Rattle.lk_resolutions.specs.EntryWords.{cursor_behind, cursors_behind, made_at}

-- where none of several flags is set, none of fewer is
pub none_among : (flags all some : ℕ) → bit_and all some ≡ some → bit_and flags all ≡ 0 → bit_and flags some ≡ 0
none_among flags all some among none =
    ap (bit_and flags) (sym among) ∙ sym (and_assoc some flags all) ∙ ap (λ n. bit_and n some) none ∙ and_zero_l some

pub nothing_allocated : (sizes : TableSizes) (flags : ℕ) → AreLawful sizes → wants_table_entry flags ≡ false → sizes.allocation flags ≡ record { got = 0; plt = 0 }
nothing_allocated sizes flags lawful nothing =
    let none : bit_and flags table_entries ≡ 0 = is_zero (bit_and flags table_entries) nothing in
    let got : bit_and flags got_entries ≡ 0 = none_among flags table_entries got_entries refl none in
    let plt : bit_and flags flag.PLT.0 ≡ 0 = none_among flags table_entries flag.PLT.0 refl none in
    let made : ℕ → ℕ → Allocation = λ m n. record { got = m; plt = n } in
    ap (λ n. made n (sizes.allocation flags).plt) (lawful.got flags (ap (λ n. not (n == 0)) got)) ∙ ap (made 0) (lawful.plt flags (ap (λ n. n == flag.PLT.0) plt))

no_address : (b : Bool) (cursor : ℕ) → None ≡ (if b then first_taken cursor 0 else None)
no_address true cursor = refl
no_address false cursor = refl

pub bare : (named : NamedParts) (cursors : TableCursors) (taken : Allocation) (flags : ValueFlags) (value : ℕ) (index : Option ℕ) → taken ≡ record { got = 0; plt = 0 }
    → record { raw_value = value; flags = flags; dynamic = index; got = None; plt = None } ≡ made_at named cursors taken flags value index
bare named cursors taken flags value index none =
    let made : Option ℕ → Option ℕ → Resolution = λ g p. record { raw_value = value; flags = flags; dynamic = index; got = g; plt = p } in
    ap (λ (g : Option ℕ). made g None) (no_address (is_some named.got) cursors.got)
    ∙ ap (made (if is_some named.got then first_taken cursors.got 0 else None)) (no_address (is_some named.plt) cursors.plt)
    ∙ ap (λ (t : Allocation). made_at named cursors t flags value index) (sym none)

stays : (named : Option ℕ) (cursor : ℕ) → cursor ≡ cursor_behind named cursor 0
stays None cursor = refl
stays (Some p) cursor = omega arith

pub cursors_stay : (named : NamedParts) (cursors : TableCursors) (taken : Allocation) → taken ≡ record { got = 0; plt = 0 } → cursors ≡ cursors_behind named cursors taken
cursors_stay named cursors taken none =
    let made : ℕ → ℕ → TableCursors = λ g p. record { got = g; plt = p } in
    ap (λ g. made g cursors.plt) (stays named.got cursors.got) ∙ ap (made (cursor_behind named.got cursors.got 0)) (stays named.plt cursors.plt)
    ∙ ap (cursors_behind named cursors) (sym none)
