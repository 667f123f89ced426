use Rattle.std.proofs.Common.{◌≡◌, ℕ, ◌+◌, ◌*◌, [], sum_by, sym, ap, ◌∙◌, arith}
use Rattle.std.proofs.lemmas.List.Sums.{sum_by-cons}
use Rattle.lk_tables.specs.declared.headers.HeaderSizes.{HeaderSizes}
use Rattle.lk_tables.specs.HeaderParts.{emitted_name_bytes, file_header_entries, program_header_entries, section_header_entries, section_name_entries, told_sum}
use Rattle.lk_tables.specs.HeaderSteps.{event_name}
use Rattle.lk_tables.specs.SymbolTable.{FileEntry, TableEntry, entry_bytes}
use Rattle.lk_tables.proofs.HeaderLemmas.{emitted_names_are, headers_are, names_are}
use Rattle.lk_tables.proofs.ShareSums.{told_left}
use Rattle.lk_tables.proofs.headers.header_sizes.Goals as goal

abbrev made : ℕ → ℕ → ℕ → ℕ → HeaderSizes
made a b c d = record { file_header = a; program_headers = b; section_headers = c; shstrtab = d }

same : (a b c d e f g h : ℕ) → a ≡ e → b ≡ f → c ≡ g → d ≡ h → made a b c d ≡ made e f g h
same a b c d e f g h i j k l = cc

one : (n : ℕ) → entry_bytes (file_header_entries n) ≡ n
one n = omega (arith, sum_by-cons (λ (e : TableEntry). e.bytes) (record { owner = FileEntry; bytes = n }) [])

pub returns : goal.returns
returns g c =
    let link = c.args.link.now in
    let header = c.args.header.now in
    let sizes = g.P.Platform.table_sizes c.args.platform.now in
    let file : c.file_header.result ≡ entry_bytes (file_header_entries sizes.file_header) = c.file_header.ensures ∙ sym (one sizes.file_header) in
    let segments : c.segments_bytes.result ≡ told_sum (entry_bytes (program_header_entries sizes.program_header header.active_segment_ids))
    = c.segments_bytes.ensures ∙ ap (λ (n : ℕ). told_sum (entry_bytes (program_header_entries n c.as_slice-3.result.now))) c.program_header.ensures
    ∙ ap (λ xs. told_sum (entry_bytes (program_header_entries sizes.program_header xs))) c.as_slice-3.ensures in
    let names : c.names_bytes-names.result ≡ told_sum (sum_by (event_name link header.emitted) link.plan.events)
    = c.names_bytes-names.ensures
    ∙ ap (λ ms. told_sum (sum_by (event_name link ms) c.as_slice-2.result.now)) c.as_slice.ensures
    ∙ ap (λ es. told_sum (sum_by (event_name link header.emitted) es)) c.as_slice-2.ensures in
    let named : c.saturating_add.result ≡ told_sum (emitted_name_bytes link header.emitted + header.partial_link_section_name_bytes)
    = c.saturating_add.ensures
    ∙ ap (λ (n : ℕ). told_sum (n + c.from-2.result)) names
    ∙ ap (λ (n : ℕ). told_sum (told_sum (sum_by (event_name link header.emitted) link.plan.events) + n)) c.from-2.ensures
    ∙ told_left (sum_by (event_name link header.emitted) link.plan.events) header.partial_link_section_name_bytes
    ∙ ap (λ (n : ℕ). told_sum (n + header.partial_link_section_name_bytes)) (sym (emitted_names_are link header.emitted)) in
    let counted : c.saturating_mul.result ≡ told_sum (sizes.section_header * header.num_output_sections_with_content)
    = c.saturating_mul.ensures
    ∙ ap (λ (n : ℕ). told_sum (n * c.from.result)) (c.from-headers.ensures ∙ c.section_header.ensures)
    ∙ ap (λ (n : ℕ). told_sum (sizes.section_header * n)) c.from.ensures in
    record {
      all = λ live counts.
          let headers : c.saturating_mul.result ≡ told_sum (entry_bytes (section_header_entries sizes.section_header link live header.emitted))
          = counted
          ∙ ap (λ (n : ℕ). told_sum (sizes.section_header * n)) counts.sections
          ∙ ap told_sum (sym (headers_are sizes.section_header link live header.emitted)) in
          let told : c.saturating_add.result ≡ told_sum (entry_bytes (section_name_entries link live header.emitted))
          = named
          ∙ ap (λ (n : ℕ). told_sum (emitted_name_bytes link header.emitted + n)) counts.names
          ∙ names_are link live header.emitted in
          same _ _ _ _ _ _ _ _ file segments headers told;
      file = file;
      segments = segments;
      headers = counted;
      names = named;
    }
