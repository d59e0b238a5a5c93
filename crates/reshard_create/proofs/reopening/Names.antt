-- What holds of each of a list, one after the other.
use Rattle.std.proofs.Common.{◌≡◌, ◌+◌, ◌<◌, ◌∙◌, ℕ, List, [], ◌∷◌, ◌++◌, ap, sym, subst, take, get_or, length}
use Rattle.std.specs.List.{AllByRecursion}
use Rattle.std.proofs.lemmas.List.{take_more}
use Rattle.reshard_create.proofs.split.Lists.{all_push}

pub all_next : {X : Type 0} (P : X → Type 0) (xs : List X) (i : ℕ) (x : X) → i < length xs → x ≡ get_or xs i x → AllByRecursion P (take i xs) → P x
    → AllByRecursion P (take (i + 1) xs)
all_next {X} P xs i x there is all one =
    subst (AllByRecursion P) (sym (take_more xs i x there ∙ ap (λ (y : X). take i xs ++ y ∷ []) (sym is))) (all_push P (take i xs) x all one)
