-- What the lists of a layout tell: resolutions, blocks of thunks, starts of what is merged.
use Rattle.std.proofs.Common.{ℕ, suc, zero, ◌-◌, ◌<◌, ◌^◌, Bool, true, false, List, [], ◌∷◌, Option, None, Some, map, option_map, subst, arith}
use Rattle.std.specs.Prelude.{◌==◌, if◌then◌else◌, slice_get}
use Rattle.std.specs.List.{All}
use Rattle.std.specs.Option.{IfSome}
use Rattle.std.proofs.lemmas.List.{length-map}
use Rattle.std.proofs.lemmas.List.Elements.{All-map, All-weaker}
use mir.Syntax.{w32, w64}
use denote.Builtin.{u32, u64}
use denote.Enum.Declared as data_of
use denote.Known.{Known, declared_known, enum_known, struct_known, uint_known, view_known}
use denote.Struct.Declared.{shape}
use Rattle.std.specs.contracts.option.Option as option_row
use Rattle.lk_link.specs.contracts.flags.ValueFlags as flags_row
use Rattle.lk_link.specs.contracts.ids.FileId as file_row
use Rattle.lk_link.specs.contracts.ids.SymbolId as symbol_row
use Rattle.lk_link.specs.contracts.ids.SymbolId.TheInside as symbol_inside
use Rattle.lk_link.specs.contracts.resolution.Resolution as resolution_row
use Rattle.lk_link.specs.declared.ids.FileId.{FileId}
use Rattle.lk_link.specs.declared.resolution.Resolution.{Resolution}
use Rattle.lk_resolution_list.specs.Kept.{told_index, told_of, told_short}
use Rattle.lk_resolution_list.specs.contracts.kept.Kept as kept_row
use Rattle.lk_resolution_list.specs.contracts.symbol_resolutions.SymbolResolutions as resolutions_row
use Rattle.lk_resolution_list.specs.contracts.symbol_resolutions.SymbolResolutions.TheInside as resolutions_inside
use Rattle.lk_resolution_list.specs.declared.kept.Kept.{Kept}
use Rattle.lk_resolution_list.specs.Stores.{valued}
use Rattle.lk_merge.specs.contracts.addresses.MergedStringStartAddresses as starts_row
use Rattle.lk_merge.specs.contracts.addresses.MergedStringStartAddresses.TheInside as starts_inside
use Rattle.lk_thunks.specs.contracts.sets.ThunkBlock as block_row
use Rattle.lk_thunks.specs.declared.sets.ThunkBlock.{ThunkBlock}
use Rattle.lk_report_maps.proofs.TypeFacts.{AreFew, of_fixed, of_list, of_vec, some_tells, told_so}

-- ---- files and symbols

-- the numbers of a file are below 2^64
abbrev pub IsShortFileId : FileId → Type 0
IsShortFileId id = (id.group < 2 ^ 64) × (id.file < 2 ^ 64)

abbrev pub of_file_id_parts : Known file_row.the_row
of_file_id_parts = declared_known file_row.the_type (uint_known w32, (uint_known w32, tt))

pub file_id_tells : (id : FileId) → of_file_id_parts.Fact id → IsShortFileId id
file_id_tells id f = (omega (arith, f.0), omega (arith, f.1.0))

abbrev pub of_file_id : Known file_row.the_row
of_file_id = told_so file_row.the_row of_file_id_parts IsShortFileId file_id_tells

abbrev pub of_symbol_id : Known symbol_row.the_row
of_symbol_id =
    of_fixed symbol_inside.the_row (declared_known symbol_inside.the_type (uint_known w32, tt)) ℕ (symbol_row.the_row).coded symbol_row.the_inverse symbol_row.the_view symbol_row.the_invariant

pub symbol_tells : (s : ℕ) → of_symbol_id.Fact s → s < 2 ^ 64
symbol_tells s f = omega (arith, f.0.0)

abbrev pub of_block_parts : Known block_row.the_row
of_block_parts = declared_known block_row.the_type (of_list symbol_row.the_row (told_so symbol_row.the_row of_symbol_id (λ s. s < 2 ^ 64) symbol_tells), tt)

pub block_tells : (b : ThunkBlock) → of_block_parts.Fact b → All (λ s. s < 2 ^ 64) b.symbols
block_tells b f = f.0.each

abbrev pub of_block : Known block_row.the_row
of_block = told_so block_row.the_row of_block_parts (λ b. All (λ s. s < 2 ^ 64) b.symbols) block_tells

-- ---- resolutions

-- the numbers of a resolution are below 2^64
pub record IsShortResolution (r : Resolution) : Type 0 where
  pub value : r.raw_value < 2 ^ 64
  pub flags : r.flags.0 < 2 ^ 64
  pub dynamic : IfSome r.dynamic (λ n. n < 2 ^ 64)
  pub got : IfSome r.got (λ n. n < 2 ^ 64)
  pub plt : IfSome r.plt (λ n. n < 2 ^ 64)

abbrev pub of_resolution_parts : Known resolution_row.the_row
of_resolution_parts =
    declared_known resolution_row.the_type (
      uint_known w64,
      (
        struct_known (shape flags_row.the_type) (uint_known w32, tt),
        (
          enum_known (data_of.shape (option_row.the_type u32)) (tt, ((uint_known w32, tt), tt)),
          (
            enum_known (data_of.shape (option_row.the_type u64)) (tt, ((uint_known w64, tt), tt)),
            (enum_known (data_of.shape (option_row.the_type u64)) (tt, ((uint_known w64, tt), tt)), tt),
          ),
        ),
      ),
    )

some_below : (o : Option ℕ) → IfSome o (λ n. n < 2 ^ 32) → IfSome o (λ n. n < 2 ^ 64)
some_below None h = tt
some_below (Some n) h = omega (arith, h)

pub resolution_tells : (r : Resolution) → of_resolution_parts.Fact r → IsShortResolution r
resolution_tells r f = record {
  value = f.0;
  flags = omega (arith, f.1.0.0);
  dynamic = some_below r.dynamic (some_tells u32 (uint_known w32) r.dynamic f.1.1.0);
  got = some_tells u64 (uint_known w64) r.got f.1.1.1.0;
  plt = some_tells u64 (uint_known w64) r.plt f.1.1.1.1.0;
}

abbrev pub of_resolution : Known resolution_row.the_row
of_resolution = told_so resolution_row.the_row of_resolution_parts IsShortResolution resolution_tells

-- what is kept of a resolution is short
pub record IsShortKept (k : Kept) : Type 0 where
  pub value : k.raw_value < 2 ^ 64
  pub flags : k.flags_or_place < 2 ^ 64
  pub dynamic : k.dynamic < 2 ^ 64

abbrev pub of_kept_parts : Known kept_row.the_row
of_kept_parts = declared_known kept_row.the_type (uint_known w64, (uint_known w32, (uint_known w32, tt)))

pub kept_tells : (k : Kept) → of_kept_parts.Fact k → IsShortKept k
kept_tells k f = record { value = f.0; flags = omega (arith, f.1.0); dynamic = omega (arith, f.1.1.0) }

abbrev pub of_kept : Known kept_row.the_row
of_kept = told_so kept_row.the_row of_kept_parts IsShortKept kept_tells

if_says : {X : Type 0} (P : X → Type 0) (b : Bool) (x y : Option X) → IfSome x P → IfSome y P → IfSome (if b then x else y) P
if_says P true x y h k = h
if_says P false x y h k = k

get_says : {X : Type 0} (P : X → Type 0) (xs : List X) (i : ℕ) → All P xs → IfSome (slice_get xs i) P
get_says P [] i h = tt
get_says P (x ∷ xs) zero h = h 0 x (omega arith)
get_says P (x ∷ xs) (suc i) h = get_says P xs i (λ k d below. h (suc k) d (omega (arith, below)))

map_says : {X Y : Type 0} (P : X → Type 0) (Q : Y → Type 0) (f : X → Y) (o : Option X) → IfSome o P → ((x : X) → P x → Q (f x)) → IfSome (option_map f o) Q
map_says P Q f None h each = tt
map_says P Q f (Some x) h each = each x h

index_says : (n : ℕ) → n < 2 ^ 64 → IfSome (told_index n) (λ m. m < 2 ^ 64)
index_says n h = if_says (λ m. m < 2 ^ 64) (n == 0) None (Some (n - 1)) tt (omega (arith, h))

told_says : (wholes : List Resolution) (k : Kept) → All IsShortResolution wholes → IsShortKept k → IfSome (told_of wholes k) IsShortResolution
told_says wholes k each short =
    let whole : Option Resolution = option_map (valued k.raw_value) (slice_get wholes k.flags_or_place) in
    let some : Option Resolution = if k.dynamic == 4294967294 then whole else Some (told_short k) in
    if_says IsShortResolution (k.dynamic == 4294967295) None some tt
    (if_says IsShortResolution (k.dynamic == 4294967294) whole (Some (told_short k))
    (map_says IsShortResolution IsShortResolution (valued k.raw_value) (slice_get wholes k.flags_or_place) (get_says IsShortResolution wholes k.flags_or_place each)
    (λ r h. record { value = short.value; flags = h.flags; dynamic = h.dynamic; got = h.got; plt = h.plt }))
    (record { value = short.value; flags = short.flags; dynamic = index_says k.dynamic short.dynamic; got = tt; plt = tt }))

abbrev pub of_resolutions_inside : Known resolutions_inside.the_row
of_resolutions_inside = declared_known resolutions_inside.the_type (of_vec kept_row.the_row of_kept, (of_vec resolution_row.the_row of_resolution, tt))

abbrev pub of_resolutions_view : Known resolutions_row.the_row
of_resolutions_view =
    view_known resolutions_inside.the_row of_resolutions_inside (List (Option Resolution)) (resolutions_row.the_row).coded resolutions_row.the_view resolutions_row.the_invariant

pub resolutions_tell : (rs : List (Option Resolution)) → of_resolutions_view.Fact rs → AreFew (λ o. IfSome o IsShortResolution) rs
resolutions_tell rs f =
    let a = f.0 in
    let made : List (Option Resolution) = map (told_of a.wholes.items) a.kept.items in
    let few : AreFew (λ o. IfSome o IsShortResolution) made
    = record {
      count = omega (arith, length-map a.kept.items (told_of a.wholes.items), f.2.0.count);
      each = All-map (λ o. IfSome o IsShortResolution) (told_of a.wholes.items) a.kept.items
          (All-weaker IsShortKept (λ k. IfSome (told_of a.wholes.items k) IsShortResolution) (λ k h. told_says a.wholes.items k f.2.1.0.each h) a.kept.items f.2.0.each);
    } in
    subst (AreFew (λ o. IfSome o IsShortResolution)) f.1.0 few

abbrev pub of_resolutions : Known resolutions_row.the_row
of_resolutions = told_so resolutions_row.the_row of_resolutions_view (AreFew (λ o. IfSome o IsShortResolution)) resolutions_tell

-- ---- what is merged

abbrev pub of_starts_view : Known starts_row.the_row
of_starts_view = view_known starts_inside.the_row (declared_known starts_inside.the_type (of_vec u64 (uint_known w64), tt)) (List ℕ) (starts_row.the_row).coded starts_row.the_view starts_row.the_invariant

pub starts_tell : (starts : List ℕ) → of_starts_view.Fact starts → AreFew (λ a. a < 2 ^ 64) starts
starts_tell starts f = subst (AreFew (λ a. a < 2 ^ 64)) f.1.0 f.2.0

abbrev pub of_starts : Known starts_row.the_row
of_starts = told_so starts_row.the_row of_starts_view (AreFew (λ a. a < 2 ^ 64)) starts_tell
