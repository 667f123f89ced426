use Rattle.std.proofs.Common.{◌++◌, ◌∙◌, List, ap, rules, arith, sym, ℕ}
use Rattle.std.specs.Prelude.{string_bytes}
use Rattle.lk_report.specs.Report.{block_thunks}
use Rattle.lk_report.proofs.Lines.{each_map, goes_on, ends}
use Rattle.lk_report.proofs.thunks.write_all.Goals as goal

pub loop-number-preserved : goal.loop-number-preserved
loop-number-preserved c =
    goes_on (λ b block. block_thunks c.args.layout.now b block.symbols) _ c.args.blocks.now _ _ _ _ _ (omega arith) c.index-blocks-number.is c.loop-number.invariant (search rules)

pub returns : goal.returns
returns c =
    ends (λ b block. block_thunks c.args.layout.now b block.symbols) _ c.args.blocks.now _ _ _ (omega arith) c.loop-number.invariant
    ∙ ap (λ (t : List ℕ). string_bytes c.args.text.now ++ t) (sym (each_map (block_thunks c.args.layout.now) (λ block. block.symbols) 0 c.args.blocks.now))
