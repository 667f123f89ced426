-- The rule on relocations that want entries of tables.
use Rattle.std.specs.Prelude.{◌≡◌, ◌&&◌, ◌||◌, not, Bool, true, is_some}
use Rattle.std.specs.List.{list_all}
use Rattle.lk_link.specs.declared.file.InputFile.{InputFile}
use Rattle.lk_link.specs.declared.plan.NamedParts.{NamedParts}
use Rattle.lk_link.specs.declared.relocation.RelocationKind.{RelocationKind}
use Rattle.lk_link.specs.declared.section.InputSection.{InputSection}
use Rattle.lk_link.specs.Relocations.{wants_got, wants_plt}

-- the plan gives the parts of the tables that a kind wants entries of
abbrev pub has_tables_for : NamedParts → RelocationKind → Bool
has_tables_for named kind = (not (wants_plt kind) || is_some named.plt) && (not (wants_got kind) || is_some named.got)

-- those that a section's relocations want, also where the section is discarded
abbrev pub has_tables : NamedParts → InputSection → Bool
has_tables named s = list_all (λ r. has_tables_for named r.kind) s.relocs

-- those that all sections of a file want
abbrev pub has_file_tables : NamedParts → InputFile → Bool
has_file_tables named f = list_all (has_tables named) f.sections

-- the same, taken apart
pub record HasTablesFor (named : NamedParts) (kind : RelocationKind) : Type 0 where
  pub plt : wants_plt kind ≡ true → is_some named.plt ≡ true
  pub got : wants_got kind ≡ true → is_some named.got ≡ true
