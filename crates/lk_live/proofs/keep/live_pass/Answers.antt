use Rattle.std.proofs.Common.{rules, ◌≡◌, ◌+◌, ◌<◌, ◌&&◌, Bool, List, ◌++◌, ◌∷◌, [], length, map, sym, ap, ◌∙◌, arith}
use Rattle.std.specs.List.{enumerate_from, list_any}
use Rattle.std.proofs.lemmas.List.{length-map}
use Rattle.std.proofs.lemmas.List.FromFn.{length-enumerate_from}
use Rattle.lk_link.specs.Inputs.{Input}
use Rattle.lk_link.specs.InputSlots.{can_be_kept}
use Rattle.lk_link.specs.Marks.{is_marked}
use Rattle.lk_link.specs.Walks.{input_of}
use Rattle.lk_reach.specs.Marks.{symbols_in_all}
use Rattle.lk_live.specs.KeptParts.{keeps_part, live_mark}
use Rattle.lk_live.specs.Reach.{marked}
use Rattle.lk_live.proofs.KeepLemmas.{live_next, part_next}
use Rattle.lk_reach.proofs.Numbered.{are_numbered}
use Rattle.lk_reach.proofs.SymbolNumbers.{symbols_few}
use Rattle.lk_live.proofs.keep.live_pass.Goals as goal

pub inputs-input-items-requires : goal.inputs-input-items-requires
inputs-input-items-requires c = are_numbered c.args.link.now c.requires

pub overflow_add-unit : goal.overflow_add-unit
overflow_add-unit c = omega (arith, symbols_few c.args.link.now c.requires, c.loop-input.live.small)

pub loop-input-preserved : goal.loop-input-preserved
loop-input-preserved c =
    let link = c.args.link.now in
    let live : List Bool = c.loop-input.live.items in
    let x = c.in-Some.input in
    let before : List Input = map input_of c.loop-input.yielded in
    let many : length live ≡ c.len.result = search rules in
    let number : c.symbol_count-symbols.result + c.len.result ≡ symbols_in_all link.groups + length live = omega (arith, symbols_few link c.requires, many) in
    let mark : c.is_live-alive.result ≡ live_mark link c.args.marks.now (length live, input_of x)
    = c.is_live-alive.ensures ∙ ap (λ n. is_marked c.args.marks.now n && can_be_kept x.section.now.slot) number in
    let as_many : length live ≡ length before
    = ap length c.loop-input.invariant.0 ∙ length-map (enumerate_from 0 before) (live_mark link c.args.marks.now) ∙ length-enumerate_from 0 before in (
      live_next (live_mark link c.args.marks.now) c.loop-input.yielded x live c.push.new.self.items c.loop-input.invariant.0 (c.in_ok-push.ensures.items ∙ ap (λ b. live ++ b ∷ []) mark),
      c.keep_part.ensures.count ∙ c.loop-input.invariant.1,
      λ p lt.
          let before_it : p < length c.loop-input.parts.items = omega (arith, c.keep_part.ensures.count, lt) in
          part_next p c.loop-input.yielded x live c.is_live-alive.result (is_marked c.loop-input.parts.items p) (is_marked c.keep_part.new.parts.items p) as_many (c.loop-input.invariant.2 p before_it)
          (c.keep_part.ensures.marks p before_it)
          ∙ ap (λ (ms : List Bool). list_any (λ y. keeps_part p y.section) (marked ms (map input_of (c.loop-input.yielded ++ x ∷ [])))) (sym c.in_ok-push.ensures.items),
    )
