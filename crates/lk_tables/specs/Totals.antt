-- The bytes of the tables.
use Rattle.lk_tables.specs.declared.totals.TableTotals.{TableTotals}
use Rattle.lk_tables.specs.HeaderParts.{told_sum}
use Rattle.lk_tables.specs.SymbolTable.{entry_bytes}
use Rattle.lk_tables.specs.TableLists.{TableLists}

-- the bytes of each table; a sum past 2^128 - 1 is told as that
abbrev pub totals_of : TableLists → TableTotals
totals_of t = record {
  got = told_sum (entry_bytes t.got);
  plt = told_sum (entry_bytes t.plt);
  symtab_local = told_sum (entry_bytes t.symtab_local);
  symtab_global = told_sum (entry_bytes t.symtab_global);
  strtab = told_sum (entry_bytes t.strtab);
  dynsym = told_sum (entry_bytes t.dynsym);
  dynstr = told_sum (entry_bytes t.dynstr);
  file_header = told_sum (entry_bytes t.file_header);
  program_headers = told_sum (entry_bytes t.program_headers);
  section_headers = told_sum (entry_bytes t.section_headers);
  shstrtab = told_sum (entry_bytes t.shstrtab);
}
