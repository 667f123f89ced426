use Rattle.std.proofs.Common.{◌++◌, ◌∷◌, [], ℕ, Bool, if◌then◌else◌, ap, ◌∙◌}
use Rattle.lk_link.specs.Walks.{file_of}
use Rattle.lk_tables.specs.DynamicWords.{has_entry}
use Rattle.lk_tables.proofs.DynamicLemmas.{numbers_more}
use Rattle.lk_tables.proofs.dynamic.push_symbols.Goals as goal

pub loop-index-preserved : goal.loop-index-preserved
loop-index-preserved c =
    let p = has_entry c.args.exported c.args.given.link.now c.args.given.live.now c.args.given.told.now (file_of c.args.file) in
    let x = c.index-symbols-index.result in
    let old = c.loop-index.table.items in
    numbers_more p c.args.first c.loop-index.index c.args.symbols.now x x c.args.table.now.items old c.push_if.new.table.items c.loop-index-test.true c.index-symbols-index.is c.loop-index.invariant
    (c.in_ok-push_if.ensures
    ∙ ap (λ (b : Bool). old ++ (if b then c.from_u32-number.result ∷ [] else [])) c.has_entry-found.ensures
    ∙ ap (λ (n : ℕ). old ++ (if p (n, x) then n ∷ [] else [])) c.from_u32-number.ensures)
