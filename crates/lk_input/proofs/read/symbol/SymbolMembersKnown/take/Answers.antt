use Rattle.std.proofs.Common.{◌≡◌, true, false, refl, arith}
use Rattle.std.specs.Str.{bytes_eq}
use Rattle.std.proofs.lemmas.Slice.Eq.{bytes_eq-Decides}
use Rattle.lk_input.specs.declared.read.symbol.SymbolKey.TheVariants as key
use Rattle.lk_input.specs.Known.{symbol_kept}
use Rattle.lk_input.specs.ReadingSteps.{index_of, text_of, truth_of, written}
use Rattle.lk_input.specs.ReadingSymbols.{symbol_placement_of}
use Rattle.lk_input.proofs.Known.{passed-keeps, reread-keeps, symbol-put, symbol_put}
use Rattle.lk_input.proofs.read.symbol.SymbolMembersKnown.take.Goals as goal
use Rattle.lk_input.specs.Keys.{symbol_key_text}

pub returns-then-eq : goal.returns-then-eq
unfolding written
returns-then-eq c =
    let name = c.args.key.now in
    let same : bytes_eq name (symbol_key_text key.Name) ≡ true = grind arith in
    let is : name ≡ symbol_key_text key.Name = (bytes_eq-Decides name (symbol_key_text key.Name)).0 same in
    reread-keeps text_of symbol_kept symbol_put symbol-put name c.args.depth _ _ _ _ _ _ c.reread.ensures (λ d e. rw (is, e) refl)

pub returns-then-eq-2 : goal.returns-then-eq-2
unfolding written
returns-then-eq-2 c =
    let name = c.args.key.now in
    let same : bytes_eq name (symbol_key_text key.At) ≡ true = grind arith in
    let is : name ≡ symbol_key_text key.At = (bytes_eq-Decides name (symbol_key_text key.At)).0 same in
    reread-keeps symbol_placement_of symbol_kept symbol_put symbol-put name c.args.depth _ _ _ _ _ _ c.reread-then-eq-2.ensures (λ d e. rw (is, e) refl)

pub returns-then-eq-3 : goal.returns-then-eq-3
unfolding written
returns-then-eq-3 c =
    let name = c.args.key.now in
    let same : bytes_eq name (symbol_key_text key.Def) ≡ true = grind arith in
    let is : name ≡ symbol_key_text key.Def = (bytes_eq-Decides name (symbol_key_text key.Def)).0 same in
    reread-keeps index_of symbol_kept symbol_put symbol-put name c.args.depth _ _ _ _ _ _ c.reread-then-eq-3.ensures (λ d e. rw (is, e) refl)

pub returns-then-eq-4 : goal.returns-then-eq-4
unfolding written
returns-then-eq-4 c =
    let name = c.args.key.now in
    let same : bytes_eq name (symbol_key_text key.Flags) ≡ true = grind arith in
    let is : name ≡ symbol_key_text key.Flags = (bytes_eq-Decides name (symbol_key_text key.Flags)).0 same in
    reread-keeps index_of symbol_kept symbol_put symbol-put name c.args.depth _ _ _ _ _ _ c.reread-then-eq-4.ensures (λ d e. rw (is, e) refl)

pub returns-then-eq-5 : goal.returns-then-eq-5
unfolding written
returns-then-eq-5 c =
    let name = c.args.key.now in
    let same : bytes_eq name (symbol_key_text key.Local) ≡ true = grind arith in
    let is : name ≡ symbol_key_text key.Local = (bytes_eq-Decides name (symbol_key_text key.Local)).0 same in
    reread-keeps truth_of symbol_kept symbol_put symbol-put name c.args.depth _ _ _ _ _ _ c.reread-then-eq-5.ensures (λ d e. rw (is, e) refl)

pub returns-then-eq-6 : goal.returns-then-eq-6
unfolding written
returns-then-eq-6 c =
    let name = c.args.key.now in
    let same : bytes_eq name (symbol_key_text key.Weak) ≡ true = grind arith in
    let is : name ≡ symbol_key_text key.Weak = (bytes_eq-Decides name (symbol_key_text key.Weak)).0 same in
    reread-keeps truth_of symbol_kept symbol_put symbol-put name c.args.depth _ _ _ _ _ _ c.reread-then-eq-6.ensures (λ d e. rw (is, e) refl)

pub returns-then-eq-7 : goal.returns-then-eq-7
unfolding written
returns-then-eq-7 c =
    let name = c.args.key.now in
    let same : bytes_eq name (symbol_key_text key.Hidden) ≡ true = grind arith in
    let is : name ≡ symbol_key_text key.Hidden = (bytes_eq-Decides name (symbol_key_text key.Hidden)).0 same in
    reread-keeps truth_of symbol_kept symbol_put symbol-put name c.args.depth _ _ _ _ _ _ c.reread-then-eq-7.ensures (λ d e. rw (is, e) refl)

pub returns-else-eq-7 : goal.returns-else-eq-7
unfolding written
returns-else-eq-7 c =
    let name = c.args.key.now in
    let no_name : bytes_eq name (symbol_key_text key.Name) ≡ false = grind arith in
    let no_at : bytes_eq name (symbol_key_text key.At) ≡ false = grind arith in
    let no_def : bytes_eq name (symbol_key_text key.Def) ≡ false = grind arith in
    let no_flags : bytes_eq name (symbol_key_text key.Flags) ≡ false = grind arith in
    let no_local : bytes_eq name (symbol_key_text key.Local) ≡ false = grind arith in
    let no_weak : bytes_eq name (symbol_key_text key.Weak) ≡ false = grind arith in
    let no_hidden : bytes_eq name (symbol_key_text key.Hidden) ≡ false = grind arith in
    passed-keeps symbol_kept symbol_put symbol-put name c.args.depth _ _ _ _ c.pass_value.ensures (λ d. rw (no_name, no_at, no_def, no_flags, no_local, no_weak, no_hidden) refl)
