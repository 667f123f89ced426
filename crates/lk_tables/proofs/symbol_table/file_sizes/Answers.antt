use Rattle.std.proofs.Common.{ap, ◌∙◌, arith}
use Rattle.lk_link.specs.Walks.{file_of}
use Rattle.lk_tables.specs.declared.shares.SymtabShare.{SymtabShare}
use Rattle.lk_tables.proofs.SymtabTotals.{same_sizes, symtab_is}
use Rattle.lk_tables.proofs.symbol_table.file_sizes.Goals as goal

pub sizes_of-requires : goal.sizes_of-requires
sizes_of-requires g c =
    let sizes = g.P.Platform.table_sizes c.args.platform.now in
    let given = c.args.given in
    let small = (g.met.P.Platform.sizes_are_lawful c.args.platform.now).symbol_entry in
    let is = symtab_is sizes given.link.now given.live.now given.told.now (file_of c.args.file) small c.requires.good c.requires.there in
    let same = c.whole_symtab.ensures in
    record {
      local = omega (arith, is.few_local, ap (λ (s : SymtabShare). s.local) same);
      global = omega (arith, is.few_global, ap (λ (s : SymtabShare). s.global) same);
      names = omega (arith, is.few_names, ap (λ (s : SymtabShare). s.names) same);
    }

pub returns : goal.returns
returns g c =
    let sizes = g.P.Platform.table_sizes c.args.platform.now in
    let given = c.args.given in
    let small = (g.met.P.Platform.sizes_are_lawful c.args.platform.now).symbol_entry in
    let is = symtab_is sizes given.link.now given.live.now given.told.now (file_of c.args.file) small c.requires.good c.requires.there in
    c.sizes_of.ensures
    ∙ ap (λ (s : SymtabShare). (c.args.file.id, s.local, s.global, s.names)) c.whole_symtab.ensures
    ∙ same_sizes sizes given.link.now given.live.now given.told.now (file_of c.args.file) is
