use Rattle.std.proofs.Common.{arith, ◌≡◌, ◌+◌, ◌<◌, length, ap, ◌∙◌, subst, sym, nat_eq, bit_and}
use Rattle.std.specs.List.{slice_index}
use Rattle.std.proofs.lemmas.List.{get_or_read}
use Rattle.lk_reach.specs.Marks.{word_of}
use Rattle.lk_workers.specs.Closings.{ClosedValue}
use Rattle.lk_workers.proofs.Closing.{word_there}
use Rattle.lk_workers.proofs.closed.Closed.has_flags.Goals as goal

pub index-requires : goal.index-requires
index-requires g c =
    omega (
      arith,
      c.as_usize.ensures,
      c.self.inside.words.ok.0,
      word_there g.J.Reach.lists c.args.link.now c.args.symbol c.self.inside.words.items c.requires.link c.requires.there c.self.invariant.words_count,
    )

pub returns : goal.returns
returns g c =
    let words = c.self.inside.words.items in
    let at = word_of c.args.symbol in
    let within : c.as_usize.result + 1 < length words
    = subst (λ n. n + 1 < length words) (sym c.as_usize.ensures) (word_there g.J.Reach.lists c.args.link.now c.args.symbol words c.requires.link c.requires.there c.self.invariant.words_count) in
    let read : c.index.result.now ≡ slice_index words (c.as_usize.result + 1) = get_or_read words (c.as_usize.result + 1) c.index.result.now within c.index.ensures 0 in
    let word : c.index.result.now ≡ slice_index c.args.self.now.words at
    = read ∙ ap (λ n. slice_index words (n + 1)) c.as_usize.ensures ∙ ap (λ (v : ClosedValue). slice_index v.words at) c.self.view_is in
    ap (λ w. nat_eq (bit_and w c.from-flags.result) c.from-flags.result) word
    ∙ ap (λ f. nat_eq (bit_and (slice_index c.args.self.now.words at) f) f) c.from-flags.ensures
