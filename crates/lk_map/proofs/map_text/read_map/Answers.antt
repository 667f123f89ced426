use Rattle.std.proofs.Common.{◌≡◌, ◌<◌, [], None, Err, Ok, length, sym, ◌∙◌, ap, arith}
use Rattle.std.specs.Str.{bytes_eq}
use Rattle.lk_map.specs.Alike.{kept_sections, kept_segments}
use Rattle.lk_map.specs.Reading.{is_end, lines_from, map_of}
use Rattle.lk_map.specs.Values.{shown}
use Rattle.lk_map.specs.Written.{parts_of}
use Rattle.lk_map.proofs.Alike.{less_behind, reading_alike}
use Rattle.lk_map.proofs.Reading.{and_both, and_left, and_right, is_empty_text, map_rises, reading_breaks, reading_ends, reading_first, reading_misplaced, reading_more, reading_unread, told_by}
use Rattle.lk_map.proofs.Refused.{read_says}
use Rattle.lk_map.proofs.map_text.read_map.Goals as goal
use Rattle.lk_map.proofs.map_text.read_map.Goals.{else-is_empty-via-then-is_empty+else-is_last, else-is_empty-via-else-is_empty}

pub lines-init : goal.lines-init
lines-init c = (
  ap (λ ss. told_by ss c.new-2.result.items 1 (lines_from 1 None (parts_of c.args.text.now))) c.new.ensures.items
      ∙ ap (λ gs. told_by [] gs 1 (lines_from 1 None (parts_of c.args.text.now))) c.new-2.ensures.items
      ∙ reading_first c.args.text.now,
  omega arith,
)

read_to_end : (c : goal.Then-is_last) → map_of c.args.text.now ≡ Ok (c.lines.map.sections.items, c.lines.map.segments.items)
read_to_end c =
    reading_ends c.lines.map.sections.items c.lines.map.segments.items c.lines.line c.lines.before c.cut_line.result.0.now (map_of c.args.text.now)
    (rw (c.cut_line.ensures.parts, c.in_default-behind.is) at c.lines.invariant.0)
    (and_both (is_empty_text c.cut_line.result.0.now ∙ sym (c.if-is_empty.ensures {u = tt})) (sym (c.if-is_last.ensures {u = tt})))

pub returns-then-is_last-clause-read : goal.returns-then-is_last-clause-read
returns-then-is_last-clause-read c = read_says c.args.text.now (Ok (c.lines.map.sections.items, c.lines.map.segments.items)) (read_to_end c)

pub returns-then-is_last-clause-rises : goal.returns-then-is_last-clause-rises
returns-then-is_last-clause-rises c = map_rises c.args.text.now c.lines.map.sections.items c.lines.map.segments.items (read_to_end c)

pub returns-in_default-behind-clause-read : goal.returns-in_default-behind-clause-read
returns-in_default-behind-clause-read c =
    read_says c.args.text.now (Err c.lines.line)
    (reading_breaks c.lines.map.sections.items c.lines.map.segments.items c.lines.line c.lines.before c.cut_line.result.0.now (map_of c.args.text.now)
    (rw (c.cut_line.ensures.parts, c.in_default-behind.is) at c.lines.invariant.0)
    (elim c.else-is_empty.branch [
      | else-is_empty-via-then-is_empty+else-is_last w ↦ and_right (bytes_eq c.cut_line.result.0.now []) (sym (w.if-is_last.ensures {u = tt}))
      | else-is_empty-via-else-is_empty w ↦ and_left (is_end c.lines.before) (is_empty_text c.cut_line.result.0.now ∙ sym (w.if-is_empty.ensures {u = tt}))
    ]))

pub returns-in_default-read_line-clause-read : goal.returns-in_default-read_line-clause-read
returns-in_default-read_line-clause-read c =
    read_says c.args.text.now (Err c.lines.line)
    (reading_unread c.lines.map.sections.items c.lines.map.segments.items c.lines.line c.lines.before c.cut_line.result.0.now (map_of c.args.text.now) c.in-Some-behind.behind.now
    (c.in_default-read_line.ensures {u = tt})
    (rw (c.cut_line.ensures.parts, c.in-Some-behind.is) at c.lines.invariant.0))

pub returns-then-not-goes_on-clause-read : goal.returns-then-not-goes_on-clause-read
returns-then-not-goes_on-clause-read c =
    read_says c.args.text.now (Err c.lines.line)
    (reading_misplaced c.lines.map.sections.items c.lines.map.segments.items c.lines.line c.lines.before c.cut_line.result.0.now (map_of c.args.text.now) c.in-Some-behind.behind.now
    c.in-Some-read_line.form (shown c.read_line.new.values) (c.in-Some-read_line.ensures {u = tt}) (sym c.if-not-goes_on.true ∙ c.goes_on.ensures)
    (rw (c.cut_line.ensures.parts, c.in-Some-behind.is) at c.lines.invariant.0))

pub lines-preserved-in-Some : goal.lines-preserved-in-Some
lines-preserved-in-Some c =
    let (form, is, tells) = c.in-Some.ensures.found in
    let sections = kept_sections c.in-Some.kept in
    let segments = kept_segments c.in-Some.kept in
    let less : length c.in-Some.after.now < length c.lines.rest.now = less_behind c.lines.line form c.lines.rest.now c.in-Some.after.now sections segments tells in (
      rw (c.in_ok-keep_alike.ensures.sections, c.in_ok-keep_alike.ensures.segments)
          (reading_alike c.lines.line form c.lines.rest.now c.in-Some.after.now sections segments tells c.lines.map.sections.items c.lines.map.segments.items c.lines.before (map_of c.args.text.now) is c.lines.invariant.0),
      omega (arith, less, c.lines.invariant.1),
    )

pub lines-preserved : goal.lines-preserved
lines-preserved c = (
  rw (c.in_ok-keep.ensures.sections, c.in_ok-keep.ensures.segments)
      (reading_more c.lines.map.sections.items c.lines.map.segments.items c.lines.line c.lines.before c.cut_line.result.0.now (map_of c.args.text.now) c.in-Some-behind.behind.now
      c.in-Some-read_line.form (shown c.read_line.new.values) (c.in-Some-read_line.ensures {u = tt}) (sym c.if-not-goes_on.false ∙ c.goes_on.ensures)
      (rw (c.cut_line.ensures.parts, c.in-Some-behind.is) at c.lines.invariant.0)),
  (let shorter : length c.in-Some-behind.behind.now < length c.lines.rest.now = rw c.in-Some-behind.is at c.cut_line.ensures.shorter in omega (arith, c.lines.invariant.1)),
)
