-- The parts that stay, one after the other.
use Rattle.std.proofs.Common.{◌≡◌, ℕ, ◌+◌, ◌<◌, Bool, true, false, cond, List, [], ◌∷◌, ◌++◌, length, take, get_or, sym, ap, ◌∙◌}
use Rattle.std.specs.Prelude.{not, ◌==◌}
use Rattle.std.specs.List.{list_any}
use Rattle.std.proofs.lemmas.List.{append-nil}
use Rattle.std.proofs.lemmas.List.Elements.{filter-append}
use Rattle.serving.specs.Partitions.{Seat}
use Rattle.reshard_create.specs.reopening.Rebuilt.{others}
use Rattle.reshard_cutover.proofs.Prepares.{next_item}

module _ (seats parts : List Seat) (i : ℕ) (x : Seat) (rest new : List Seat) (there : i < length parts) (is : x ≡ get_or parts i x)
    (so_far : rest ≡ others seats (take i parts)) where
  abbrev stays : Seat → Bool
  stays part = not (list_any (λ seat. seat.0 == part.0) seats)

  more : others seats (take (i + 1) parts) ≡ others seats (take i parts) ++ cond (stays x) (x ∷ []) []
  more = ap (others seats) (next_item parts i x there is) ∙ filter-append stays (take i parts) (x ∷ [])

  pub other_next : stays x ≡ true → new ≡ rest ++ x ∷ [] → new ≡ others seats (take (i + 1) parts)
  other_next passes grown =
      grown ∙ ap (λ (l : List Seat). l ++ x ∷ []) so_far ∙ ap (λ (b : Bool). others seats (take i parts) ++ cond {A = List Seat} b (x ∷ []) []) (sym passes) ∙ sym more

  pub same_next : stays x ≡ false → new ≡ rest → new ≡ others seats (take (i + 1) parts)
  same_next fails same =
      same ∙ so_far ∙ sym (append-nil (others seats (take i parts)))
      ∙ ap (λ (b : Bool). others seats (take i parts) ++ cond {A = List Seat} b (x ∷ []) []) (sym fails) ∙ sym more
