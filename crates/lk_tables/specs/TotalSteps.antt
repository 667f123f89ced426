-- What the code goes by where it adds tables up. Contracts of private functions speak of these.
use Rattle.std.specs.Prelude.{ℕ, if◌then◌else◌, List, [], ◌∷◌, Option}
use Rattle.lk_link.specs.declared.link.LinkInput.{LinkInput}
use Rattle.lk_link.specs.OutputKinds.{is_loaded_dynamically}
use Rattle.lk_link.specs.PartRules.{is_part}
use Rattle.lk_tables.specs.declared.headers.HeaderSizes.{HeaderSizes}
use Rattle.lk_tables.specs.declared.shares.DynamicShare.{DynamicShare}
use Rattle.lk_tables.specs.declared.shares.FileShare.{FileShare}
use Rattle.lk_tables.specs.declared.totals.TableTotals.{TableTotals}
use Rattle.lk_tables.specs.ShareSteps.{plus_dynamic}
use Rattle.lk_tables.specs.ShareWords.{no_dynamic}

-- all of them, in the order in which the plan names their parts
abbrev pub all_totals : TableTotals → List ℕ
all_totals t = t.got ∷ t.plt ∷ t.symtab_local ∷ t.symtab_global ∷ t.strtab ∷ t.dynsym ∷ t.dynstr
    ∷ t.file_header ∷ t.program_headers ∷ t.section_headers ∷ t.shstrtab ∷ []

-- the bytes of a table, if its part is this one
abbrev pub bytes_if : ℕ → Option ℕ × ℕ → ℕ
bytes_if p q = if is_part p q.0 then q.1 else 0

-- what the dynamic symbol table takes, where there is one, by what it takes itself and what files bring
abbrev pub dynamic_total : LinkInput → DynamicShare → FileShare → DynamicShare
dynamic_total link own sum =
    if is_loaded_dynamically link.options.output then plus_dynamic (plus_dynamic own sum.dynamic) sum.exports else no_dynamic

-- the bytes of the tables, by what files bring, what the dynamic symbol table takes, and headers
abbrev pub totals_by : FileShare → DynamicShare → HeaderSizes → TableTotals
totals_by sum dynamic headers = record {
  got = sum.entries.got;
  plt = sum.entries.plt;
  symtab_local = sum.symtab.local;
  symtab_global = sum.symtab.global;
  strtab = sum.symtab.names;
  dynsym = dynamic.entries;
  dynstr = dynamic.names;
  file_header = headers.file_header;
  program_headers = headers.program_headers;
  section_headers = headers.section_headers;
  shstrtab = headers.shstrtab;
}
