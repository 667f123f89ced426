-- Which parts symbols and input sections may go to.
use Rattle.std.specs.Prelude.{ℕ, ◌+◌, ◌==◌, ◌&&◌, not, Bool, false, List, [], ◌∷◌, Option, length, nat_le, nat_lt}
use Rattle.std.specs.List.{list_any}
use Rattle.std.specs.Option.{option_map_or}
use Rattle.lk_link.specs.declared.plan.NamedParts.{NamedParts}
use Rattle.lk_link.specs.declared.plan.Plan.{Plan}
use Rattle.lk_link.specs.declared.plan.PlanSection.{PlanSection}
use Rattle.lk_link.specs.Parts.{all_parts, first_part}

-- the table parts, which only the linker fills
abbrev pub table_parts : NamedParts → List (Option ℕ)
table_parts n = n.got ∷ n.plt ∷ n.symtab_local ∷ n.symtab_global ∷ n.strtab ∷ n.dynsym ∷ n.dynstr
    ∷ n.file_header ∷ n.program_headers ∷ n.section_headers ∷ n.shstrtab ∷ []

-- whether it is this part
abbrev pub is_part : ℕ → Option ℕ → Bool
is_part p named = option_map_or (λ q. q == p) named false

-- whether a part is one of them
abbrev pub is_table_part : NamedParts → ℕ → Bool
is_table_part named p = list_any (is_part p) (table_parts named)

-- whether a part is one of the plan's, and no table part
abbrev pub is_free_part : Plan → ℕ → Bool
is_free_part plan p = nat_lt p (length (all_parts plan.sections)) && not (is_table_part plan.named p)

-- whether a part belongs to this section
abbrev pub is_part_of : List PlanSection → ℕ → ℕ → Bool
is_part_of sections s p = nat_le (first_part sections s) p && nat_lt p (first_part sections (s + 1))

-- whether a part belongs to the section whose input sections stay output sections of their own
abbrev pub is_singleton_part : Plan → ℕ → Bool
is_singleton_part plan p = option_map_or (λ s. is_part_of plan.sections s p) plan.singletons false
