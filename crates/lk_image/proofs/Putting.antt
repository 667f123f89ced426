-- Bytes that are put one behind the other are put together.
use Rattle.std.proofs.Common.{◌≡◌, ℕ, ◌+◌, ◌<◌, ◌≤◌, List, [], ◌∷◌, ◌++◌, length, take, drop, get_or, sym, ap, ◌∙◌, arith, append_assoc, length-append}
use Rattle.std.specs.List.{flat_map}
use Rattle.std.proofs.Math.Seq.{drop-append-add, drop-append_seam, take-append-add, take-append_seam}
use Rattle.std.proofs.lemmas.Grind.{flat_map-append}
use Rattle.std.proofs.lemmas.List.{append-nil, drop-drop, length-take-le, take_more}
use Rattle.std.proofs.lemmas.List.Folds.{length-flat_map-take}
use Rattle.lk_image.specs.Stretches.{put}

drop_more : (n m : ℕ) (xs : List ℕ) → drop n (drop m xs) ≡ drop (m + n) xs
drop_more n m xs = drop-drop n m xs

pub put_more : (at n : ℕ) (a b under : List ℕ) → n ≡ at + length a → n + length b ≤ length under → put n b (put at a under) ≡ put at (a ++ b) under
put_more at n a b under place room =
    let front : List ℕ = take at under in
    let behind : List ℕ = drop (length a) (drop at under) in
    let first : length front ≡ at = length-take-le at under (omega (arith, room, place)) in
    let seam : n ≡ length front + length a = omega (arith, place, first) in
    let before : take n (front ++ (a ++ behind)) ≡ front ++ a
    = ap (λ (k : ℕ). take k (front ++ (a ++ behind))) seam ∙ take-append-add front (a ++ behind) (length a) ∙ ap (λ (zs : List ℕ). front ++ zs) (take-append_seam a behind) in
    let after : drop n (front ++ (a ++ behind)) ≡ behind
    = ap (λ (k : ℕ). drop k (front ++ (a ++ behind))) seam ∙ drop-append-add front (a ++ behind) (length a) ∙ drop-append_seam a behind in
    let rest : drop (length b) behind ≡ drop (length (a ++ b)) (drop at under)
    = drop_more (length b) (length a) (drop at under) ∙ ap (λ (k : ℕ). drop k (drop at under)) (sym (length-append a b)) in
    ap (λ (zs : List ℕ). zs ++ (b ++ drop (length b) (drop n (front ++ (a ++ behind))))) before
    ∙ ap (λ (zs : List ℕ). (front ++ a) ++ (b ++ drop (length b) zs)) after
    ∙ ap (λ (zs : List ℕ). (front ++ a) ++ (b ++ zs)) rest
    ∙ append_assoc front a (b ++ drop (length (a ++ b)) (drop at under))
    ∙ ap (λ (zs : List ℕ). front ++ zs) (sym (append_assoc a b (drop (length (a ++ b)) (drop at under))))

-- one more of some things whose bytes are put
pub taken_more : {X : Type 0} (f : X → List ℕ) (xs : List X) (k : ℕ) (d : X) → k < length xs → flat_map f (take (k + 1) xs) ≡ flat_map f (take k xs) ++ f (get_or xs k d)
taken_more {X} f xs k d lt =
    ap (flat_map f) (take_more xs k d lt) ∙ flat_map-append f (take k xs) (get_or xs k d ∷ []) ∙ ap (λ (zs : List ℕ). flat_map f (take k xs) ++ zs) (append-nil (f (get_or xs k d)))

-- what is left has room for the next of some things
pub room_next : {X : Type 0} (f : X → List ℕ) (xs : List X) (k : ℕ) (d : X) (bytes : List ℕ) → k < length xs → bytes ≡ f (get_or xs k d)
    → length (flat_map f (take k xs)) + length bytes ≤ length (flat_map f xs)
room_next f xs k d bytes lt is = omega (arith, ap length is, length-flat_map-take f xs k d lt)

-- and with it all so far are put
pub put_next : {X : Type 0} (f : X → List ℕ) (xs : List X) (k at n : ℕ) (d : X) (bytes before under after : List ℕ) → k < length xs → bytes ≡ f (get_or xs k d)
    → n ≡ at + length (flat_map f (take k xs)) → at + length (flat_map f xs) ≤ length under → before ≡ put at (flat_map f (take k xs)) under → after ≡ put n bytes before
    → after ≡ put at (flat_map f (take (k + 1) xs)) under
put_next f xs k at n d bytes before under after lt is place room so_far next =
    let done : List ℕ = flat_map f (take k xs) in
    let more : flat_map f (take (k + 1) xs) ≡ done ++ bytes = taken_more f xs k d lt ∙ ap (λ (zs : List ℕ). done ++ zs) (sym is) in
    next ∙ ap (put n bytes) so_far ∙ put_more at n done bytes under place (omega (arith, place, room, room_next f xs k d bytes lt is))
    ∙ ap (λ (zs : List ℕ). put at zs under) (sym more)

-- and it ends where they do
pub end_next : {X : Type 0} (f : X → List ℕ) (xs : List X) (k at n : ℕ) (d : X) (bytes : List ℕ) → k < length xs → bytes ≡ f (get_or xs k d)
    → n ≡ at + length (flat_map f (take k xs)) → n + length bytes ≡ at + length (flat_map f (take (k + 1) xs))
end_next f xs k at n d bytes lt is place =
    let done : List ℕ = flat_map f (take k xs) in
    omega (arith, place, ap length (taken_more f xs k d lt), length-append done (f (get_or xs k d)), ap length is)
