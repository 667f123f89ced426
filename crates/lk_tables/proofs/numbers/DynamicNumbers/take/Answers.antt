use Rattle.std.proofs.Common.{sym, ◌∙◌}
use Rattle.lk_tables.proofs.NumberLemmas.{no_number, no_numbers}
use Rattle.lk_tables.proofs.numbers.DynamicNumbers.take.Goals as goal

pub returns-else-is_loaded_dynamically : goal.returns-else-is_loaded_dynamically
returns-else-is_loaded_dynamically c =
    let link = c.args.link.now in
    let not_loaded = sym c.is_loaded_dynamically.ensures ∙ c.if-is_loaded_dynamically.false in
    record {
      index = no_number link c.args.live.now c.args.told.now c.args.number not_loaded;
      moved = no_numbers link c.args.live.now c.args.told.now _ _ not_loaded;
    }
