-- The number of the first export is how many entries stand before the exports.
use Rattle.std.proofs.Common.{◌≡◌, ℕ, ◌+◌, Bool, true, false, refl, ap, ◌∙◌, arith}
use Rattle.std.specs.Prelude.{count_by, if◌then◌else◌}
use Rattle.std.specs.List.{enumerate_from}
use Rattle.lk_link.specs.declared.link.LinkInput.{LinkInput}
use Rattle.lk_link.specs.OutputKinds.{is_loaded_dynamically}
use Rattle.lk_reach.specs.Units.{numbered_symbols}
use Rattle.lk_tables.specs.declared.numbers.DynamicNumbers.{DynamicNumbers}
use Rattle.lk_tables.specs.DynamicCounters.{AreNumbersAt, is_dynamic_one}
use Rattle.lk_sizes.specs.Emitted.{told_marks}
use Rattle.lk_sizes.specs.Owners.{Content}
use Rattle.lk_layout.specs.DynsymStart.{dynsym_start, first_export}

pub numbers_before : (link : LinkInput) (numbers other : DynamicNumbers) → numbers ≡ other → first_export link numbers ≡ first_export link other
numbers_before link numbers other same = ap (first_export link) same

-- two numbers that are the same where a thing is so are so where 0 stands for them otherwise
pub same_where : (b : Bool) (m n : ℕ) → (b ≡ true → m ≡ n) → (if b then m else 0) ≡ (if b then n else 0)
same_where true m n same = same refl
same_where false m n same = refl

pub dynsym_is : (content : Content) (numbers : DynamicNumbers) → AreNumbersAt content.link content.live (told_marks content) 0 numbers → first_export content.link numbers ≡ dynsym_start content
dynsym_is content numbers are =
    let before : ℕ = 1 + count_by (is_dynamic_one content.link content.live (told_marks content)) (enumerate_from 0 (numbered_symbols content.link.groups)) in
    let none : before + 0 ≡ before = omega arith in
    same_where (is_loaded_dynamically content.link.options.output) numbers.export before (λ loaded. are.export loaded ∙ none)
