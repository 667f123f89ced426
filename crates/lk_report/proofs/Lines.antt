-- Texts of a list's items, from a place on.
use Rattle.std.proofs.Common.{◌≡◌, ℕ, ◌+◌, ◌<◌, ◌≤◌, List, [], ◌∷◌, ◌++◌, length, map, get_or, take, drop, refl, sym, ap, arith, zero, suc, ◌∙◌, add-one, append_assoc}
use Rattle.std.proofs.lemmas.List.{append-nil}
use Rattle.std.specs.Prelude.{codes}
use Rattle.std.specs.List.{flat_map}
use Rattle.lk_link.specs.declared.link.LinkInput.{LinkInput}
use Rattle.lk_link.specs.Texts.{joined}
use Rattle.lk_layout.specs.LayoutRecord.{LayoutRecord}
use Rattle.lk_layout.specs.Layouts.{emitted_count, resolved_entry, told_live, told_singletons}
use Rattle.lk_merge.specs.Addresses.{image_start}
use Rattle.lk_merge.specs.Image.{all_pieces}
use Rattle.lk_report.specs.Report.{block_text, block_thunks, each, entry_line, laid_out_text, live_line, merged_text, piece_lines, report, report_texts}
use Rattle.lk_report.specs.Report.{section_part_lines, segment_line, single_line, symbol_text}
use Rattle.lk_report.specs.ReportPieces.{report_end}

more : {X : Type 0} (f : ℕ → X → List ℕ) (n : ℕ) (xs : List X) (i : ℕ) (d : X) → i < length xs → each f n (drop i xs) ≡ f n (get_or xs i d) ++ each f (suc n) (drop (suc i) xs)
unfolding each
more f n [] i d h = absurd (omega arith)
more f n (x ∷ xs) zero d h = refl
more f n (x ∷ xs) (suc i) d h = more f n xs i d (omega arith)

past : {X : Type 0} (f : ℕ → X → List ℕ) (n : ℕ) (xs : List X) (i : ℕ) → length xs ≤ i → each f n (drop i xs) ≡ []
unfolding each
past f n [] zero h = refl
past f n [] (suc i) h = refl
past f n (x ∷ xs) zero h = absurd (omega arith)
past f n (x ∷ xs) (suc i) h = past f n xs i (omega arith)

-- where what is left is to follow the text, those behind an item are to follow the text with the item's
pub goes_on : {X : Type 0} (f : ℕ → X → List ℕ) (n : ℕ) (xs : List X) (i : ℕ) (x : X) (before after whole : List ℕ) → i < length xs → x ≡ get_or xs i x →
    before ++ each f n (drop i xs) ≡ whole → after ≡ before ++ f n x → after ++ each f (n + 1) (drop (i + 1) xs) ≡ whole
goes_on f n xs i x before after whole h is left written =
    let next : each f n (drop i xs) ≡ f n x ++ each f (n + 1) (drop (i + 1) xs) = rw (add-one n, add-one i) (more f n xs i x h ∙ ap (λ y. f n y ++ each f (suc n) (drop (suc i) xs)) (sym is)) in
    cc (append_assoc before (f n x) (each f (n + 1) (drop (i + 1) xs)))

item_at : {X : Type 0} (xs : List X) (i : ℕ) → i < length xs → X
item_at [] i h = absurd (omega arith)
item_at (x ∷ xs) zero h = x
item_at (x ∷ xs) (suc i) h = item_at xs i (omega arith)

-- the same, where the texts are of the numbers alone
pub goes_on_by_number : {X : Type 0} (f : ℕ → List ℕ) (n : ℕ) (xs : List X) (i : ℕ) (before after whole : List ℕ) → i < length xs →
    before ++ each (λ m _. f m) n (drop i xs) ≡ whole → after ≡ before ++ f n → after ++ each (λ m _. f m) (n + 1) (drop (i + 1) xs) ≡ whole
goes_on_by_number f n xs i before after whole h left written =
    let next : each (λ m _. f m) n (drop i xs) ≡ f n ++ each (λ m _. f m) (n + 1) (drop (i + 1) xs) = rw (add-one n, add-one i) (more (λ m _. f m) n xs i (item_at xs i h) h) in
    cc (append_assoc before (f n) (each (λ m _. f m) (n + 1) (drop (i + 1) xs)))

-- past the end nothing is left
pub ends : {X : Type 0} (f : ℕ → X → List ℕ) (n : ℕ) (xs : List X) (i : ℕ) (text whole : List ℕ) → length xs ≤ i →
    text ++ each f n (drop i xs) ≡ whole → text ≡ whole
ends f n xs i text whole h left = cc (past f n xs i h, append-nil text)

-- the texts of what a list's items give
pub each_map : {X Y : Type 0} (f : ℕ → Y → List ℕ) (g : X → Y) (n : ℕ) (xs : List X) → each f n (map g xs) ≡ each (λ m x. f m (g x)) n xs
unfolding each
each_map f g n [] = refl
each_map f g n (x ∷ xs) = ap (λ t. f n (g x) ++ t) (each_map f g (suc n) xs)

-- what was written piece by piece is the pieces in a row
pub in_a_row : (text before a b c d e : List ℕ) → text ≡ ((before ++ a) ++ (b ++ c)) ++ (d ++ e) → text ≡ before ++ (a ++ (b ++ (c ++ (d ++ e))))
in_a_row text before a b c d e h = h ∙ simp append_assoc

pub three_in_a_row : (text before a b c : List ℕ) → text ≡ ((before ++ a) ++ b) ++ c → text ≡ before ++ (a ++ (b ++ c))
three_in_a_row text before a b c h = h ∙ simp append_assoc

all_in_a_row : (text a s p g l n m q b t symbols x y : List ℕ) → text ≡ (((([] ++ (a ++ (s ++ (p ++ g)))) ++ l) ++ (n ++ (m ++ (q ++ (b ++ t))))) ++ symbols) ++ (x ++ y)
    → text ≡ a ++ (s ++ (p ++ (g ++ (l ++ (n ++ (m ++ (q ++ (b ++ (t ++ (symbols ++ (x ++ y)))))))))))
all_in_a_row text a s p g l n m q b t symbols x y h = h ∙ simp append_assoc

-- the same of a whole report
pub whole_report : (link : LinkInput) (layout : LayoutRecord) (text : List ℕ) →
    text ≡ (((([] ++ joined (take 4 (report_texts link layout))) ++ flat_map live_line (told_live link layout)) ++ joined (take 5 (drop 5 (report_texts link layout)))) ++ each symbol_text 0 layout.symbol_resolutions) ++ report_end layout
    → text ≡ report link layout
whole_report link layout text h =
    let sections = link.plan.sections in
    let starts = layout.merged_string_start_addresses in
    all_in_a_row text (codes "layout\n") (each (λ s _. laid_out_text layout s) 0 sections) (each (λ s _. section_part_lines sections layout.section_part_layouts s) 0 sections)
    (each (λ _ segment. segment_line segment) 0 layout.segment_layouts) (flat_map live_line (told_live link layout)) (each single_line (emitted_count layout) (told_singletons link layout))
    (each (merged_text starts) 0 layout.merged_strings) (each (λ s inputs. piece_lines s (image_start starts s) (all_pieces inputs)) 0 layout.merged_strings)
    (each block_text 0 layout.thunk_block_owners) (each (block_thunks layout) 0 layout.thunk_blocks) (each symbol_text 0 layout.symbol_resolutions)
    (entry_line (resolved_entry layout)) (codes "end\n") h
