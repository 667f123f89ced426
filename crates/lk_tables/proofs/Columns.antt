-- What files bring first and late is what their entries take.
use Rattle.std.proofs.Common.{◌≡◌, ℕ, ◌+◌, ◌&&◌, ◌||◌, not, Bool, true, false, if◌then◌else◌, List, [], ◌∷◌, map, sum_by, bit_or, refl, sym, ap, ◌∙◌, arith}
use Rattle.std.specs.List.{flat_map}
use Rattle.std.proofs.lemmas.List.Sums.{sum_by-cons}
use Rattle.lk_link.specs.declared.flags.TheConstants.ValueFlags as flag
use Rattle.lk_link.specs.declared.flags.ValueFlags.{ValueFlags}
use Rattle.lk_link.specs.declared.link.LinkInput.{LinkInput}
use Rattle.lk_link.specs.declared.symbol.InputSymbol.{InputSymbol}
use Rattle.lk_link.specs.FileKinds.{is_prelude}
use Rattle.lk_link.specs.Flags.{has_flag, has_resolution}
use Rattle.lk_link.specs.Inputs.{NumberedFile, numbered_files}
use Rattle.lk_link.specs.TableSizes.{TableSizes}
use Rattle.lk_live.specs.declared.live.Live.{Live}
use Rattle.lk_reach.specs.Units.{flags_from}
use Rattle.lk_tables.specs.declared.shares.FileShare.{FileShare}
use Rattle.lk_link.specs.Symbols.{is_canonical, is_named, is_wanted}
use Rattle.lk_tables.specs.Copied.{is_copied, is_copied_undefined}
use Rattle.lk_tables.specs.Dynamic.{is_dynamic_symbol}
use Rattle.lk_tables.specs.HeaderParts.{told_sum}
use Rattle.lk_tables.specs.Late.{flags_at, is_late_place, late_flags}
use Rattle.lk_tables.specs.ShareSteps.{all_brought_first, brought_first, brought_late, early_part, file_share, late_part, no_share, plus, table_share}
use Rattle.lk_tables.specs.ShareWords.{has_entry_there}
use Rattle.lk_tables.specs.SymbolTable.{TableEntry, entry_bytes}
use Rattle.lk_tables.specs.TableLists.{other_files}
use Rattle.lk_tables.proofs.ShareSums.{entries_of_some, sum_both, sum_made, told_again, told_entries, told_twice}

-- ---- only symbols of the prelude are marked late

flags_alike : (link : LinkInput) (told : List Bool) (f : NumberedFile) (s : ℕ) (x : InputSymbol) (flags : ValueFlags) → is_prelude f.file.kind ≡ false
    → late_flags link told f.file.kind s x flags ≡ flags
flags_alike link told f s x flags h =
    ap (λ b. if b && is_named x && is_canonical s x && not (has_resolution flags.0) && not link.options.strip_all && is_late_place told x.at
    then flags_from (bit_or flags.0 flag.DIRECT.0) else flags) h

pub there_alike : (link : LinkInput) (live : Live) (told : List Bool) (f : NumberedFile) (q : ℕ × InputSymbol) → is_prelude f.file.kind ≡ false
    → has_entry_there link live told f q ≡ has_entry_there link live [] f q
there_alike link live told f q h =
    let none = flags_alike link told f q.0 q.1 (flags_at live.flags q.0) h ∙ sym (flags_alike link [] f q.0 q.1 (flags_at live.flags q.0) h) in
    ap (λ (flags : ValueFlags). not link.options.strip_all && (is_copied link live f q.0 q.1 flags || is_copied_undefined link f q.0 q.1 flags)) none

pub dynamic_alike : (link : LinkInput) (live : Live) (told : List Bool) (f : NumberedFile) (q : ℕ × InputSymbol) → is_prelude f.file.kind ≡ false
    → is_dynamic_symbol link live told f q ≡ is_dynamic_symbol link live [] f q
dynamic_alike link live told f q h =
    let none = flags_alike link told f q.0 q.1 (flags_at live.flags q.0) h ∙ sym (flags_alike link [] f q.0 q.1 (flags_at live.flags q.0) h) in
    ap (λ (flags : ValueFlags). is_wanted f.file.kind q.0 q.1 flags && has_flag flag.DYNAMIC.0 flags.0) none

-- ---- a number of what a file brings that waits for the marks

-- it is a sum over symbols, which the marks change in the prelude alone
pub record IsLate (sizes : TableSizes) (link : LinkInput) (live : Live) (col : FileShare → ℕ) (own : List Bool → ℕ) (each : List Bool → NumberedFile → ℕ) : Type 0 where
  pub early : (s : FileShare) → col (early_part s) ≡ 0
  pub late : (s : FileShare) → col (late_part s) ≡ col s
  pub both : (a b : FileShare) → col (plus a b) ≡ told_sum (col a + col b)
  pub table : (told : List Bool) → told_sum (col (table_share link live sizes.symbol_entry told)) ≡ told_sum (own told)
  pub none : col no_share ≡ 0
  pub share : (told : List Bool) (f : NumberedFile) → col (file_share sizes link live told f) ≡ told_sum (each told f)
  pub alike : (told : List Bool) (f : NumberedFile) → is_prelude f.file.kind ≡ false → each told f ≡ each [] f

-- what the prelude has there of its own
abbrev pub own_of : ℕ → NumberedFile → ℕ
own_of own f = if is_prelude f.file.kind then own else 0

-- what is told of two numbers goes by what is told of one
pub told_plus : (a b c d : ℕ) → told_sum a ≡ told_sum b → c ≡ d → told_sum (a + c) ≡ told_sum (b + d)
told_plus a b c d h i = omega (arith, h, i)

-- first the other files
late_first : (sizes : TableSizes) (link : LinkInput) (live : Live) (col : FileShare → ℕ) (own : List Bool → ℕ) (each : List Bool → NumberedFile → ℕ)
    → IsLate sizes link live col own each → (f : NumberedFile)
    → told_sum (col (brought_first sizes link live f)) ≡ told_sum (if not (is_prelude f.file.kind) then each [] f + own_of (own []) f else 0)
late_first sizes link live col own each is f = by_kind (is_prelude f.file.kind) refl
  where
    by_kind : (b : Bool) → is_prelude f.file.kind ≡ b
        → told_sum (col (brought_first sizes link live f)) ≡ told_sum (if not (is_prelude f.file.kind) then each [] f + own_of (own []) f else 0)
    by_kind true h =
        let s = file_share sizes link live [] f in
        ap (λ b. told_sum (col (if b then early_part s else s))) h
        ∙ ap told_sum (is.early s)
        ∙ ap (λ b. told_sum (if not b then each [] f + (if b then own [] else 0) else 0)) (sym h)
    by_kind false h =
        let s = file_share sizes link live [] f in
        let more : each [] f ≡ each [] f + 0 = omega arith in
        ap (λ b. told_sum (col (if b then early_part s else s))) h
        ∙ ap told_sum (is.share [] f)
        ∙ told_again (each [] f)
        ∙ ap told_sum more
        ∙ ap (λ b. told_sum (if not b then each [] f + (if b then own [] else 0) else 0)) (sym h)

-- and behind that the prelude
late_whole : (sizes : TableSizes) (link : LinkInput) (live : Live) (col : FileShare → ℕ) (own : List Bool → ℕ) (each : List Bool → NumberedFile → ℕ)
    → IsLate sizes link live col own each → (told : List Bool) (f : NumberedFile)
    → told_sum (col (brought_first sizes link live f) + col (brought_late sizes link live told f)) ≡ told_sum (each told f + own_of (own told) f)
late_whole sizes link live col own each is told f = by_kind (is_prelude f.file.kind) refl
  where
    by_kind : (b : Bool) → is_prelude f.file.kind ≡ b
        → told_sum (col (brought_first sizes link live f) + col (brought_late sizes link live told f)) ≡ told_sum (each told f + own_of (own told) f)
    by_kind true h =
        let s = file_share sizes link live [] f in
        let t = file_share sizes link live told f in
        let first : col (brought_first sizes link live f) ≡ 0 = ap (λ b. col (if b then early_part s else s)) h ∙ is.early s in
        let behind : col (brought_late sizes link live told f) ≡ told_sum (own told + col t)
        = ap (λ b. col (if b then plus (table_share link live sizes.symbol_entry told) (late_part t) else no_share)) h
        ∙ is.both (table_share link live sizes.symbol_entry told) (late_part t)
        ∙ told_plus (col (table_share link live sizes.symbol_entry told)) (own told) (col (late_part t)) (col t) (is.table told) (is.late t) in
        let mine : own_of (own told) f ≡ own told = ap (λ b. if b then own told else 0) h in
        omega (arith, first, behind, is.share told f, mine)
    by_kind false h =
        let s = file_share sizes link live [] f in
        let t = file_share sizes link live told f in
        let first : col (brought_first sizes link live f) ≡ col s = ap (λ b. col (if b then early_part s else s)) h in
        let behind : col (brought_late sizes link live told f) ≡ 0
        = ap (λ b. col (if b then plus (table_share link live sizes.symbol_entry told) (late_part t) else no_share)) h ∙ is.none in
        let mine : own_of (own told) f ≡ 0 = ap (λ b. if b then own told else 0) h in
        omega (arith, first, behind, is.share [] f, is.alike told f h, mine)

-- ---- over all files

-- the sum over what files bring first
abbrev pub first_sum : TableSizes → LinkInput → Live → (FileShare → ℕ) → ℕ
first_sum sizes link live col = told_sum (sum_by col (all_brought_first sizes link live))

-- and over what the prelude brings behind
abbrev pub late_sum : TableSizes → LinkInput → Live → List Bool → (FileShare → ℕ) → ℕ
late_sum sizes link live told col = told_sum (sum_by col (map (brought_late sizes link live told) (numbered_files link.groups)))

pub late_first_total : (sizes : TableSizes) (link : LinkInput) (live : Live) (col : FileShare → ℕ) (own : List Bool → ℕ) (each : List Bool → NumberedFile → ℕ)
    (g : List Bool → NumberedFile → List TableEntry) → IsLate sizes link live col own each
    → ((told : List Bool) (f : NumberedFile) → entry_bytes (g told f) ≡ each told f + own_of (own told) f)
    → first_sum sizes link live col ≡ told_sum (entry_bytes (flat_map (g []) (other_files link)))
late_first_total sizes link live col own each g is bytes =
    let files = numbered_files link.groups in
    let others : NumberedFile → List TableEntry = λ f. if not (is_prelude f.file.kind) then g [] f else [] in
    let here : (f : NumberedFile) → told_sum (col (brought_first sizes link live f)) ≡ told_sum (entry_bytes (others f))
    = λ f. late_first sizes link live col own each is f
    ∙ ap (λ n. told_sum (if not (is_prelude f.file.kind) then n else 0)) (sym (bytes [] f))
    ∙ ap told_sum (sym (bytes_if (not (is_prelude f.file.kind)) (g [] f))) in
    ap told_sum (sum_made col (brought_first sizes link live) files)
    ∙ told_entries (λ f. col (brought_first sizes link live f)) others files here
    ∙ ap (λ es. told_sum (entry_bytes es)) (sym (entries_of_some (λ f. not (is_prelude f.file.kind)) (g []) files))
  where
    bytes_if : (b : Bool) (es : List TableEntry) → entry_bytes (if b then es else []) ≡ (if b then entry_bytes es else 0)
    bytes_if true es = refl
    bytes_if false es = refl

pub late_whole_total : (sizes : TableSizes) (link : LinkInput) (live : Live) (col : FileShare → ℕ) (own : List Bool → ℕ) (each : List Bool → NumberedFile → ℕ)
    (g : List Bool → NumberedFile → List TableEntry) → IsLate sizes link live col own each
    → ((told : List Bool) (f : NumberedFile) → entry_bytes (g told f) ≡ each told f + own_of (own told) f)
    → (told : List Bool)
    → told_sum (first_sum sizes link live col + late_sum sizes link live told col) ≡ told_sum (entry_bytes (flat_map (g told) (numbered_files link.groups)))
late_whole_total sizes link live col own each g is bytes told =
    let files = numbered_files link.groups in
    let first : NumberedFile → ℕ = λ f. col (brought_first sizes link live f) in
    let behind : NumberedFile → ℕ = λ f. col (brought_late sizes link live told f) in
    let here : (f : NumberedFile) → told_sum (first f + behind f) ≡ told_sum (entry_bytes (g told f))
    = λ f. late_whole sizes link live col own each is told f ∙ ap told_sum (sym (bytes told f)) in
    ap (λ n. told_sum (told_sum n + late_sum sizes link live told col)) (sum_made col (brought_first sizes link live) files)
    ∙ ap (λ n. told_sum (told_sum (sum_by first files) + told_sum n)) (sum_made col (brought_late sizes link live told) files)
    ∙ told_twice (sum_by first files) (sum_by behind files)
    ∙ ap told_sum (sum_both first behind files)
    ∙ told_entries (λ f. first f + behind f) (g told) files here

-- ---- a number that doesn't wait

pub record IsEarly (sizes : TableSizes) (link : LinkInput) (live : Live) (col : FileShare → ℕ) (g : NumberedFile → List TableEntry) : Type 0 where
  pub early : (s : FileShare) → col (early_part s) ≡ col s
  pub late : (s : FileShare) → col (late_part s) ≡ 0
  pub both : (a b : FileShare) → col (plus a b) ≡ told_sum (col a + col b)
  pub table : (told : List Bool) → col (table_share link live sizes.symbol_entry told) ≡ 0
  pub none : col no_share ≡ 0
  pub share : (f : NumberedFile) → col (file_share sizes link live [] f) ≡ told_sum (entry_bytes (g f))

early_first : (sizes : TableSizes) (link : LinkInput) (live : Live) (col : FileShare → ℕ) (g : NumberedFile → List TableEntry)
    → IsEarly sizes link live col g → (f : NumberedFile) → told_sum (col (brought_first sizes link live f)) ≡ told_sum (entry_bytes (g f))
early_first sizes link live col g is f =
    let s = file_share sizes link live [] f in
    ap told_sum (by_kind (is_prelude f.file.kind) s ∙ is.share f) ∙ told_again (entry_bytes (g f))
  where
    by_kind : (b : Bool) (s : FileShare) → col (if b then early_part s else s) ≡ col s
    by_kind true s = is.early s
    by_kind false s = refl

pub early_total : (sizes : TableSizes) (link : LinkInput) (live : Live) (col : FileShare → ℕ) (g : NumberedFile → List TableEntry)
    → IsEarly sizes link live col g → first_sum sizes link live col ≡ told_sum (entry_bytes (flat_map g (numbered_files link.groups)))
early_total sizes link live col g is =
    let files = numbered_files link.groups in
    ap told_sum (sum_made col (brought_first sizes link live) files)
    ∙ told_entries (λ f. col (brought_first sizes link live f)) g files (early_first sizes link live col g is)

-- the prelude brings none of it behind
pub none_behind : (sizes : TableSizes) (link : LinkInput) (live : Live) (col : FileShare → ℕ) (g : NumberedFile → List TableEntry)
    → IsEarly sizes link live col g → (told : List Bool) (f : NumberedFile) → col (brought_late sizes link live told f) ≡ 0
none_behind sizes link live col g is told f = by_kind (is_prelude f.file.kind)
  where
    by_kind : (b : Bool) → col (if b then plus (table_share link live sizes.symbol_entry told) (late_part (file_share sizes link live told f)) else no_share) ≡ 0
    by_kind true =
        let t = file_share sizes link live told f in
        omega (arith, is.both (table_share link live sizes.symbol_entry told) (late_part t), is.table told, is.late t)
    by_kind false = is.none

pub no_sum : {X : Type 0} (f : X → ℕ) (xs : List X) → ((x : X) → f x ≡ 0) → sum_by f xs ≡ 0
no_sum f [] none = refl
no_sum f (x ∷ xs) none = omega (arith, sum_by-cons f x xs, none x, no_sum f xs none)

pub early_whole_total : (sizes : TableSizes) (link : LinkInput) (live : Live) (col : FileShare → ℕ) (g : NumberedFile → List TableEntry)
    → IsEarly sizes link live col g → (told : List Bool)
    → told_sum (first_sum sizes link live col + late_sum sizes link live told col) ≡ told_sum (entry_bytes (flat_map g (numbered_files link.groups)))
early_whole_total sizes link live col g is told =
    let files = numbered_files link.groups in
    let none : sum_by col (map (brought_late sizes link live told) files) ≡ 0
    = sum_made col (brought_late sizes link live told) files ∙ no_sum (λ f. col (brought_late sizes link live told f)) files (none_behind sizes link live col g is told) in
    omega (arith, none, early_total sizes link live col g is)
