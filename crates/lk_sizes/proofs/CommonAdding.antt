-- What commons bring to parts, one after the other.
use Rattle.std.proofs.Common.{◌≡◌, ℕ, ◌+◌, ◌-◌, ◌<◌, ◌^◌, min, List, [], ◌∷◌, ◌++◌, length, map, set, Some, refl, sym, ap, ◌∙◌, subst, arith, inl, inr}
use Rattle.std.specs.List.{slice_get, slice_index_or}
use Rattle.std.proofs.lemmas.Bool.Decides.{eqb_tells}
use Rattle.std.proofs.lemmas.List.{get_or_default, length-set, get_or-set_same, get_or-set_other, map-append}
use Rattle.std.proofs.lemmas.Option.{get_or_from_slice_get, slice_get_within}
use Rattle.lk_link.specs.declared.link.LinkInput.{LinkInput}
use Rattle.lk_link.proofs.Elements.{at_index}
use Rattle.lk_link.specs.Parts.{part_at}
use Rattle.lk_link.specs.Sizes.{capacity}
use Rattle.lk_tables.specs.declared.commons.Common.{Common}
use Rattle.lk_sizes.specs.declared.owners.PartTotal.{PartTotal}
use Rattle.lk_sizes.specs.Owners.{common_taker}
use Rattle.lk_sizes.specs.Tables.{AreAdded, bytes_in, commons_size}
use Rattle.lk_sizes.proofs.Takers.{bytes_in-append, bytes_in_here, bytes_in_other}

pub commons_size-append : (link : LinkInput) (p : ℕ) (cs ds : List Common) → commons_size link p (cs ++ ds) ≡ commons_size link p cs + commons_size link p ds
commons_size-append link p cs ds = ap (bytes_in link p) (map-append common_taker cs ds) ∙ bytes_in-append link p (map common_taker cs) (map common_taker ds)

pub none_added : (link : LinkInput) (totals : List PartTotal) → AreAdded link [] totals totals
none_added link totals = record { count = refl; bytes = λ p d h. omega arith; image = λ p d h. refl; attrs = λ p d h. refl }

-- those of one list and then those of another
pub both_added : (link : LinkInput) (cs ds : List Common) (a b c : List PartTotal) → AreAdded link cs a b → AreAdded link ds b c → AreAdded link (cs ++ ds) a c
both_added link cs ds a b c h i = record {
  count = i.count ∙ h.count;
  bytes = λ p d below. omega (arith, h.bytes p d below, i.bytes p d (omega (arith, h.count)), commons_size-append link p cs ds);
  image = λ p d below. i.image p d (omega (arith, h.count)) ∙ h.image p d below;
  attrs = λ p d below. i.attrs p d (omega (arith, h.count)) ∙ h.attrs p d below;
}

-- one more common
pub one_added : (link : LinkInput) (done : List Common) (c : Common) (old totals : List PartTotal) (at : ℕ) (read new : PartTotal)
    → AreAdded link done old totals → at ≡ c.part → at < length old → read ≡ slice_index_or totals at read
    → new.bytes ≡ min (read.bytes + capacity (part_at link.plan.sections at) c.size) (2 ^ 128 - 1) → new.has_image ≡ read.has_image → new.attrs ≡ read.attrs
    → AreAdded link (done ++ c ∷ []) old (set totals at new)
one_added link done c old totals at read new h here within is bytes image attrs =
    let inside : at < length totals = omega (arith, h.count) in
    let same : (d : PartTotal) → slice_index_or totals at d ≡ read = λ d. get_or_default totals at d read inside ∙ sym is in
    record {
      count = length-set totals at new ∙ h.count;
      bytes = λ p d below. elim (eqb_tells at p) [
        | inl hit ↦ subst (λ (q : ℕ). min (slice_index_or (set totals at new) q d).bytes (2 ^ 64) ≡ min ((slice_index_or old q d).bytes + commons_size link q (done ++ c ∷ [])) (2 ^ 64)) hit.1
            (omega (
              arith,
              ap (λ (t : PartTotal). t.bytes) (get_or-set_same totals at new d inside),
              bytes,
              h.bytes at d within,
              ap (λ (t : PartTotal). t.bytes) (same d),
              commons_size-append link at done (c ∷ []),
              bytes_in_here link at (common_taker c) (sym here),
            ))
        | inr miss ↦ omega (
          arith,
          ap (λ (t : PartTotal). t.bytes) (get_or-set_other totals at p new d (λ e. miss.1 (sym e))),
          h.bytes p d below,
          commons_size-append link p done (c ∷ []),
          bytes_in_other link p (common_taker c) (λ goes. miss.1 (here ∙ goes)),
        )
      ];
      image = λ p d below. elim (eqb_tells at p) [
        | inl hit ↦ subst (λ (q : ℕ). (slice_index_or (set totals at new) q d).has_image ≡ (slice_index_or old q d).has_image) hit.1
            (ap (λ (t : PartTotal). t.has_image) (get_or-set_same totals at new d inside) ∙ image ∙ ap (λ (t : PartTotal). t.has_image) (sym (same d)) ∙ h.image at d within)
        | inr miss ↦ ap (λ (t : PartTotal). t.has_image) (get_or-set_other totals at p new d (λ e. miss.1 (sym e))) ∙ h.image p d below
      ];
      attrs = λ p d below. elim (eqb_tells at p) [
        | inl hit ↦ subst (λ (q : ℕ). (slice_index_or (set totals at new) q d).attrs ≡ (slice_index_or old q d).attrs) hit.1
            (ap (λ (t : PartTotal). t.attrs) (get_or-set_same totals at new d inside) ∙ attrs ∙ ap (λ (t : PartTotal). t.attrs) (sym (same d)) ∙ h.attrs at d within)
        | inr miss ↦ ap (λ (t : PartTotal). t.attrs) (get_or-set_other totals at p new d (λ e. miss.1 (sym e))) ∙ h.attrs p d below
      ];
    }

-- what is read of the new ones, by what is read of the old
pub record IsAddedTo (link : LinkInput) (cs : List Common) (p : ℕ) (old : List PartTotal) (total : PartTotal) : Type 0 where
  pub before : PartTotal
  pub there : slice_get old p ≡ Some before
  pub bytes : min total.bytes (2 ^ 64) ≡ min (before.bytes + commons_size link p cs) (2 ^ 64)
  pub image : total.has_image ≡ before.has_image
  pub attrs : total.attrs ≡ before.attrs

pub added_at : (link : LinkInput) (cs : List Common) (old new : List PartTotal) (p : ℕ) (total : PartTotal) → AreAdded link cs old new → slice_get new p ≡ Some total → IsAddedTo link cs p old total
added_at link cs old new p total h there =
    let below : p < length old = omega (arith, h.count, slice_get_within new p total there) in
    let at = at_index old p below in
    let read : slice_index_or new p total ≡ total = get_or_from_slice_get new p total total there in
    let was : slice_index_or old p total ≡ at.0 = get_or_from_slice_get old p at.0 total at.1 in
    record {
      before = at.0;
      there = at.1;
      bytes = omega (arith, h.bytes p total below, ap (λ (t : PartTotal). t.bytes) read, ap (λ (t : PartTotal). t.bytes) was);
      image = ap (λ (t : PartTotal). t.has_image) (sym read) ∙ h.image p total below ∙ ap (λ (t : PartTotal). t.has_image) was;
      attrs = ap (λ (t : PartTotal). t.attrs) (sym read) ∙ h.attrs p total below ∙ ap (λ (t : PartTotal). t.attrs) was;
    }
