-- What waits, one ask more at a time.
use Rattle.std.proofs.Common.{◌≡◌, ◌++◌, List, [], ◌∷◌, Option, Some, None, refl, sym, ap, ◌∙◌, append_assoc}
use Rattle.std.specs.List.{cons_option}
use Rattle.std.specs.Option.{option_to_list}
use Rattle.std.proofs.lemmas.List.Elements.{filter_map-append}
use Rattle.lk_reach.specs.declared.units.Ask.{Ask}
use Rattle.lk_workers.specs.declared.work.WorkItem.{WorkItem}
use Rattle.lk_workers.specs.Work.{item_of, items_of}

kept_or_not : {Y : Type 0} (o : Option Y) → cons_option o [] ≡ option_to_list o
kept_or_not None = refl
kept_or_not (Some y) = refl

-- the next ask's item is added
pub items_next : (first queue new : List WorkItem) (done : List Ask) (ask : Ask) → queue ≡ first ++ items_of done → new ≡ queue ++ option_to_list (item_of ask) → new ≡ first ++ items_of (done ++ ask ∷ [])
items_next first queue new done ask so_far step =
    step ∙ ap (λ ws. ws ++ option_to_list (item_of ask)) so_far ∙ append_assoc first (items_of done) (option_to_list (item_of ask))
    ∙ ap (λ ws. first ++ (items_of done ++ ws)) (sym (kept_or_not (item_of ask))) ∙ ap (λ ws. first ++ ws) (sym (filter_map-append item_of done (ask ∷ [])))
