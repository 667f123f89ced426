use Rattle.lk_map.proofs.numbers.digit_in.Goals as goal

pub returns-else-base-le10-clause-value : goal.returns-else-base-le10-clause-value
returns-else-base-le10-clause-value c = c.hex_digit.ensures.value c.args.base c.requires
