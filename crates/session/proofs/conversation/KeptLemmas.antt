-- What was read and written in all, together with what is kept.
use Rattle.std.proofs.Common.{◌≡◌, ℕ, List, [], ◌∷◌, ◌++◌, take, drop, Option, Some, None, refl, sym, ap, subst, ◌∙◌, append_assoc}
use Rattle.std.specs.Io.KnownBytes.{Appends, Consumes, IsAtEnd, Keeps, append_known, prepend_known}
use Rattle.std.proofs.KnownBytes.{Appends-trans}
use Rattle.std.proofs.lemmas.List.{append-nil, take-append-drop}
use mathlib.Core.List.{IsPrefix}
use Rattle.std.specs.Prelude.{Ok}
use Rattle.session.specs.conversation.Devices.{AppendsFront, ReadsNow}
use Rattle.session.specs.conversation.inner.Kept.{HasSent, StillRead}

abbrev Known : Type 0
Known = Option (List ℕ)

-- ---- reading

-- a piece that was read lies before what is left
pub piece_kept : (k l : Known) (piece : List ℕ) → Consumes k l piece → StillRead k (prepend_known piece l)
piece_kept k l piece took None read before = tt
piece_kept None l piece took (Some xs) read before = absurd before
piece_kept (Some ys) None piece took (Some xs) read before = absurd took
piece_kept (Some ys) (Some zs) piece took (Some xs) read before = before ∙ ap (λ (w : List ℕ). read ++ w) took

-- nothing was read
pub none_read : (k l : Known) → Keeps k l → StillRead k (prepend_known [] l)
none_read k l kept None read before = tt
none_read None l kept (Some xs) read before = absurd before
none_read (Some ys) None kept (Some xs) read before = absurd kept
none_read (Some ys) (Some zs) kept (Some xs) read before = before ∙ ap (λ (w : List ℕ). read ++ w) (sym kept)

-- a front of what is unfed is fed
pub front_fed : (unfed : List ℕ) (n : ℕ) (k : Known) → Consumes (prepend_known unfed k) (prepend_known (drop n unfed) k) (take n unfed)
front_fed unfed n None = tt
front_fed unfed n (Some xs) =
    ap (λ (w : List ℕ). w ++ xs) (sym (take-append-drop n unfed)) ∙ append_assoc (take n unfed) (drop n unfed) xs

pub fed_front : (unfed piece left : List ℕ) (n : ℕ) (k : Known) → piece ≡ take n unfed → left ≡ drop n unfed → Consumes (prepend_known unfed k) (prepend_known left k) piece
fed_front unfed piece left n k front rest =
    subst (λ (w : List ℕ). Consumes (prepend_known unfed k) (prepend_known left k) w) (sym front)
    (subst (λ (w : List ℕ). Consumes (prepend_known unfed k) (prepend_known w k) (take n unfed)) (sym rest) (front_fed unfed n k))

-- where nothing is unfed, nothing lies before what is left
pub none_unfed : (a k : Known) (unfed read : List ℕ) → unfed ≡ [] → Consumes a (prepend_known unfed k) read → Consumes a k read
none_unfed None k unfed read none c = tt
none_unfed (Some xs) None unfed read none c = absurd c
none_unfed (Some xs) (Some ys) unfed read none c = c ∙ ap (λ (w : List ℕ). read ++ (w ++ ys)) none

pub end_kept : (k : Known) (unfed : List ℕ) → unfed ≡ [] → IsAtEnd k → IsAtEnd (prepend_known unfed k)
end_kept None unfed none ends = tt
end_kept (Some xs) unfed none ends = ap (λ (w : List ℕ). w ++ xs) none ∙ ends

-- ---- writing

-- what is unsent grows
pub unsent_on : (t : Known) (unsent left more : List ℕ) → left ≡ unsent ++ more → Appends (append_known t unsent) (append_known t left) more
unsent_on None unsent left more is = tt
unsent_on (Some ys) unsent left more is = ap (λ (w : List ℕ). ys ++ w) is ∙ sym (append_assoc ys unsent more)

-- where nothing is unsent, all is taken
pub none_unsent : (a t : Known) (unsent written : List ℕ) → unsent ≡ [] → Appends a (append_known t unsent) written → Appends a t written
none_unsent None t unsent written none p = tt
none_unsent (Some xs) None unsent written none p = absurd p
none_unsent (Some xs) (Some ys) unsent written none p = sym (append-nil ys) ∙ ap (λ (w : List ℕ). ys ++ w) (sym none) ∙ p

pub all_unsent : (a t : Known) (unsent written : List ℕ) → unsent ≡ [] → Appends a t written → Appends a (append_known t unsent) written
all_unsent None t unsent written none p = tt
all_unsent (Some xs) None unsent written none p = absurd p
all_unsent (Some xs) (Some ys) unsent written none p = ap (λ (w : List ℕ). ys ++ w) none ∙ append-nil ys ∙ p

cancel : (xs ys zs : List ℕ) → xs ++ ys ≡ xs ++ zs → ys ≡ zs
cancel [] ys zs e = e
cancel (x ∷ xs) ys zs e = cancel xs ys zs cc

module _ (a t u : Known) (unsent written : List ℕ) where
  -- a front of what was unsent was taken
  pub sent_on : (left : List ℕ) → HasSent t u unsent left → Appends a (append_known t unsent) written → Appends a (append_known u left) written
  sent_on left sent = go a t u sent.0 sent.1 sent.2
    where
      go : (a t u : Known) (part : List ℕ) → unsent ≡ part ++ left → Appends t u part → Appends a (append_known t unsent) written → Appends a (append_known u left) written
      go None t u part is took p = tt
      go (Some xs) None u part is took p = absurd p
      go (Some xs) (Some ys) None part is took p = absurd took
      go (Some xs) (Some ys) (Some zs) part is took p =
          ap (λ (w : List ℕ). w ++ left) took ∙ append_assoc ys part left ∙ ap (λ (w : List ℕ). ys ++ w) (sym is) ∙ p

  pub grown_on : (left : List ℕ) → HasSent t u unsent left → (sent : List ℕ) × Appends a t sent → (sent : List ℕ) × Appends a u sent
  grown_on left sent before = (before.0 ++ sent.0, Appends-trans a t u before.0 sent.0 before.1 sent.2)

  pub grown_front : AppendsFront t u unsent → (sent : List ℕ) × Appends a t sent → (sent : List ℕ) × Appends a u sent
  grown_front front before = (before.0 ++ front.0, Appends-trans a t u before.0 front.0 before.1 front.2)

  -- or a front of it, and the rest is dropped
  pub cut_on : (sent : List ℕ) × Appends a t sent → AppendsFront t u unsent → Appends a (append_known t unsent) written → AppendsFront a u written
  cut_on before front = go a t u before.0 before.1 front.0 front.1.0 front.1.1 front.2
    where
      go : (a t u : Known) (sent : List ℕ) → Appends a t sent → (part rest : List ℕ) → part ++ rest ≡ unsent → Appends t u part → Appends a (append_known t unsent) written
          → AppendsFront a u written
      go None t u sent grown part rest is took p = ([], (written, refl), tt)
      go (Some xs) None u sent grown part rest is took p = absurd p
      go (Some xs) (Some ys) None sent grown part rest is took p = absurd took
      go (Some xs) (Some ys) (Some zs) sent grown part rest is took p =
          let all : sent ++ unsent ≡ written = cancel xs (sent ++ unsent) written (sym (append_assoc xs sent unsent) ∙ ap (λ (w : List ℕ). w ++ unsent) (sym grown) ∙ p) in (
            sent ++ part,
            (rest, append_assoc sent part rest ∙ ap (λ (w : List ℕ). sent ++ w) is ∙ all),
            took ∙ ap (λ (w : List ℕ). w ++ part) grown ∙ append_assoc xs sent part,
          )

pub nil_right : (xs ys : List ℕ) → xs ++ ys ≡ [] → ys ≡ []
nil_right [] ys e = e
nil_right (x ∷ xs) ys e = absurd (let wrong : x ∷ (xs ++ ys) ≡ [] = e in cc)

pub all_unfed : (a k : Known) (unfed read : List ℕ) → unfed ≡ [] → Consumes a k read → Consumes a (prepend_known unfed k) read
all_unfed None k unfed read none c = tt
all_unfed (Some xs) None unfed read none c = absurd c
all_unfed (Some xs) (Some ys) unfed read none c = c ∙ ap (λ (w : List ℕ). read ++ (w ++ ys)) (sym none)

-- a read that found some bytes
pub some_read : (E : Type 0) (k l : Known) (read : Option ℕ) (n : ℕ) (buffer : List ℕ) → read ≡ Some n → ReadsNow {E = E} k l (Ok read) buffer → Consumes k l (take n buffer)
some_read E k l None n buffer is p = absurd cc
some_read E k l (Some m) n buffer is p = let same : m ≡ n = cc in subst (λ (i : ℕ). Consumes k l (take i buffer)) same p.0

pub end_left : (unfed : List ℕ) (k : Known) → IsAtEnd (prepend_known unfed k) → IsAtEnd k
end_left unfed None ends = tt
end_left unfed (Some xs) ends = nil_right unfed xs ends
