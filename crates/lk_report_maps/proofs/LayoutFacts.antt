-- What a layout tells: the numbers in it are below 2^64.
use Rattle.std.proofs.Common.{ℕ, ◌<◌, ◌^◌, List, Option, None, Some, map, arith, subst}
use Rattle.std.specs.List.{All}
use Rattle.std.specs.Option.{IfSome}
use Rattle.std.proofs.lemmas.List.{length-map}
use Rattle.std.proofs.lemmas.List.Elements.{All-map}
use mir.Syntax.{w32, w64}
use denote.Builtin.{u32, u64}
use denote.Known.{Known, Knowns, declared_known, struct_known, uint_known, view_known}
use denote.Ref.{NamedLft}
use denote.Struct.Declared.{shape}
use Rattle.std.specs.contracts.option.Option as option_row
use Rattle.lk_expressions.specs.contracts.record.OutputRecordLayout as record_row
use Rattle.lk_layout.specs.LayoutRecord.{LayoutRecord}
use Rattle.lk_layout.specs.contracts.layout.Layout as layout_row
use Rattle.lk_layout.specs.contracts.layout.Layout.TheInside as layout_inside
use Rattle.lk_link.specs.contracts.ids.FileId as file_row
use Rattle.lk_merge.specs.contracts.section.MergedStringsSection as merged_row
use Rattle.lk_place.specs.contracts.segments.SegmentLayout as segment_row
use Rattle.lk_tables.specs.contracts.header_info.HeaderInfo as header_row
use Rattle.lk_thunks.specs.contracts.sets.ThunkBlock as block_row
use Rattle.lk_thunks.specs.declared.sets.ThunkBlock.{ThunkBlock}
use Rattle.lk_report_maps.proofs.ListFacts.{of_block, of_file_id, of_resolutions, of_starts}
use Rattle.lk_report_maps.proofs.MergeFacts.{of_merged}
use Rattle.lk_report_maps.proofs.PlaceFacts.{of_record, of_segment}
use Rattle.lk_report_maps.proofs.ShortLines.{HasShortNumbers}
use Rattle.lk_report_maps.proofs.TypeFacts.{◌&◌, AreFew, few_so, nothing, of_list, of_option, of_vec}

abbrev pub of_header_parts : Knowns (shape header_row.the_type).fields
of_header_parts = nothing & nothing & of_list (option_row.the_row u32) (of_option u32 (uint_known w32)) & nothing & nothing & nothing & tt

some_below : (o : Option ℕ) → IfSome o (λ n. n < 2 ^ 32) → IfSome o (λ n. n < 2 ^ 64)
some_below None h = tt
some_below (Some n) h = omega (arith, h)

blocks_few : (blocks : List ThunkBlock) → AreFew (λ b. All (λ s. s < 2 ^ 64) b.symbols) blocks → AreFew (All (λ s. s < 2 ^ 64)) (map (λ b. b.symbols) blocks)
blocks_few blocks h =
    record { count = omega (arith, length-map blocks (λ (b : ThunkBlock). b.symbols), h.count); each = All-map (All (λ s. s < 2 ^ 64)) (λ (b : ThunkBlock). b.symbols) blocks h.each }

module _ (a : NamedLft) where
  abbrev pub of_inside : Known (layout_inside.the_row a)
  of_inside =
      declared_known (layout_inside.the_type a)
      (nothing & of_vec record_row.the_row of_record & nothing & of_vec record_row.the_row of_record & of_list u32 (uint_known w32) &
      struct_known (shape header_row.the_type) of_header_parts & of_list segment_row.the_row of_segment & nothing & nothing & of_list u64 (uint_known w64) & nothing &
      of_list (merged_row.the_row a) (of_merged a) & of_starts & of_resolutions & nothing & nothing & nothing & nothing & of_list block_row.the_row of_block &
      of_list (option_row.the_row file_row.the_row) (of_option file_row.the_row of_file_id) & nothing & nothing & nothing & nothing & nothing & tt)

  abbrev pub of_layout : Known (layout_row.the_row a)
  of_layout = view_known (layout_inside.the_row a) of_inside LayoutRecord (layout_row.the_row a).coded (layout_row.the_view a) (layout_row.the_invariant a)

  pub layout_tells : (layout : LayoutRecord) → of_layout.Fact layout → HasShortNumbers layout
  layout_tells layout f =
      let t = f.2 in
      subst HasShortNumbers f.1.0
      (record {
        sections = t.1.0;
        parts = t.1.1.1.0;
        attributes = few_so t.1.1.1.1.0 (λ n h. omega (arith, h));
        indexes = few_so t.1.1.1.1.1.0.1.1.0 some_below;
        segments = t.1.1.1.1.1.1.0;
        addresses = t.1.1.1.1.1.1.1.1.1.0;
        merged = t.1.1.1.1.1.1.1.1.1.1.1.0;
        starts = t.1.1.1.1.1.1.1.1.1.1.1.1.0;
        resolutions = t.1.1.1.1.1.1.1.1.1.1.1.1.1.0;
        blocks = blocks_few f.0.thunk_blocks t.1.1.1.1.1.1.1.1.1.1.1.1.1.1.1.1.1.1.0;
        owners = t.1.1.1.1.1.1.1.1.1.1.1.1.1.1.1.1.1.1.1.0;
      })
