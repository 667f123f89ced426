use Rattle.std.proofs.Common.{◌≡◌, length, sum_by, take}
use Rattle.lk_merge.specs.declared.inputs.StringMergeInputSection.{StringMergeInputSection}
use Rattle.lk_merge.proofs.section.MergedStringsSection.input_string_byte_size.Given as goal

-- the bytes of the inputs so far
abbrev pub invariant-loop-input : goal.invariant-loop-input
invariant-loop-input l = l.size ≡ sum_by (λ (s : StringMergeInputSection). length s.section_data.now) (take l.input-index l.input-items)
