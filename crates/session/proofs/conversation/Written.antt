-- What a writer has taken, write by write.
use Rattle.std.proofs.Common.{◌≡◌, ℕ, ◌+◌, ◌<◌, List, [], ◌∷◌, ◌++◌, length, get_or, take, drop, Option, Some, None, refl, sym, ap, subst, ◌∙◌, append_assoc}
use Rattle.std.specs.Prelude.{Result, Ok, Err, OnOk, OnErr}
use Rattle.std.specs.List.{concat}
use Rattle.std.proofs.lemmas.List.{append-nil, take-append-drop, take_more}
use Rattle.std.proofs.lemmas.List.Folds.{concat-append}
use Rattle.std.specs.Io.KnownBytes.{Appends, Keeps}
use Rattle.std.proofs.KnownBytes.{Appends-nil, Appends-trans, Appends-kept}
use Rattle.session.specs.conversation.Devices.{AppendsFront}

abbrev Known : Type 0
Known = Option (List ℕ)

-- a front of the bytes was taken, and this is left
abbrev pub Leaves : Known → Known → List ℕ → List ℕ → Type 0
Leaves a b bytes rest = (front : List ℕ) × (front ++ rest ≡ bytes) × Appends a b front

pub all_left : (a : Known) (bytes : List ℕ) → Leaves a a bytes bytes
all_left a bytes = ([], refl, Appends-nil a)

pub none_left : (a b : Known) (bytes rest : List ℕ) → rest ≡ [] → Leaves a b bytes rest → Appends a b bytes
none_left a b bytes rest none l =
    subst (Appends a b) (sym (append-nil l.0) ∙ (ap (λ (w : List ℕ). l.0 ++ w) (sym none) ∙ l.1)) l.2

pub front_taken : (a b : Known) (bytes rest : List ℕ) → Leaves a b bytes rest → AppendsFront a b bytes
front_taken a b bytes rest l = (l.0, (rest, l.1), l.2)

pub more_taken : (a b c : Known) (bytes rest : List ℕ) (n : ℕ) → Leaves a b bytes rest → Appends b c (take n rest) → Leaves a c bytes (drop n rest)
more_taken a b c bytes rest n l more = (
  l.0 ++ take n rest,
  append_assoc l.0 (take n rest) (drop n rest) ∙ (ap (λ (w : List ℕ). l.0 ++ w) (take-append-drop n rest) ∙ l.1),
  Appends-trans a b c l.0 (take n rest) l.2 more,
)

pub none_taken : (a b c : Known) (bytes rest : List ℕ) → Leaves a b bytes rest → Keeps b c → Leaves a c bytes rest
none_taken a b c bytes rest l kept = (l.0, l.1, Appends-kept a b c l.0 l.2 kept)

-- a write that took none
pub none_appended : (a b : Known) (bytes : List ℕ) → Appends a b (take 0 bytes) → Keeps a b
none_appended None b bytes p = tt
none_appended (Some xs) None bytes p = absurd p
none_appended (Some xs) (Some ys) bytes p = p ∙ append-nil xs

pub none_kept : (a b : Known) (bytes : List ℕ) → Keeps a b → Appends a b (take 0 bytes)
none_kept None b bytes p = tt
none_kept (Some xs) None bytes p = absurd p
none_kept (Some xs) (Some ys) bytes p = p ∙ sym (append-nil xs)

-- ---- bytes that are written after others

module _ {A E : Type 0} (a b c : Known) (xs ys : List ℕ) (before : Appends a b xs) where
  pub both_written : (r : Result A E) → OnOk r (Appends b c ys) → OnOk r (Appends a c (xs ++ ys))
  both_written (Ok x) more = Appends-trans a b c xs ys before more
  both_written (Err e) more = tt

  pub both_cut : (r : Result A E) → OnErr r (AppendsFront b c ys) → OnErr r (AppendsFront a c (xs ++ ys))
  both_cut (Ok x) cut = tt
  both_cut (Err e) cut = (
    xs ++ cut.0,
    (cut.1.0, append_assoc xs cut.0 cut.1.0 ∙ ap (λ (l : List ℕ). xs ++ l) cut.1.1),
    Appends-trans a b c xs cut.0 before cut.2,
  )

-- a front of the first of two
pub first_cut : (a b : Known) (xs ys : List ℕ) → AppendsFront a b xs → AppendsFront a b (xs ++ ys)
first_cut a b xs ys cut =
    (cut.0, (cut.1.0 ++ ys, sym (append_assoc cut.0 cut.1.0 ys) ∙ ap (λ (l : List ℕ). l ++ ys) cut.1.1), cut.2)

-- ---- chunks that are written one after another

more_chunks : (i : ℕ) (chunks : List (List ℕ)) (chunk : List ℕ) → i < length chunks → chunk ≡ get_or chunks i chunk
    → concat (take (i + 1) chunks) ≡ concat (take i chunks) ++ chunk
more_chunks i chunks chunk lt is =
    ap concat (take_more chunks i chunk lt ∙ ap (λ (c : List ℕ). take i chunks ++ c ∷ []) (sym is))
    ∙ concat-append (take i chunks) (chunk ∷ []) ∙ ap (λ (l : List ℕ). concat (take i chunks) ++ l) (append-nil chunk)

module _ (a b c : Known) (i : ℕ) (chunks : List (List ℕ)) (chunk bytes : List ℕ) (lt : i < length chunks) (is : chunk ≡ get_or chunks i chunk) (e : bytes ≡ chunk)
    (before : Appends a b (concat (take i chunks))) where
  pub next_chunk : Appends b c bytes → Appends a c (concat (take (i + 1) chunks))
  next_chunk more =
      subst (Appends a c) (ap (λ (l : List ℕ). concat (take i chunks) ++ l) e ∙ sym (more_chunks i chunks chunk lt is))
      (Appends-trans a b c (concat (take i chunks)) bytes before more)

  -- the sink failed at a chunk
  pub chunk_cut : AppendsFront b c bytes → AppendsFront a c (concat chunks)
  chunk_cut cut = (
    concat (take i chunks) ++ cut.0,
    (cut.1.0 ++ concat (drop (i + 1) chunks), joined),
    Appends-trans a b c (concat (take i chunks)) cut.0 before cut.2,
  )
    where
      joined : (concat (take i chunks) ++ cut.0) ++ (cut.1.0 ++ concat (drop (i + 1) chunks)) ≡ concat chunks
      joined =
          sym (append_assoc (concat (take i chunks) ++ cut.0) cut.1.0 _)
          ∙ ap (λ (l : List ℕ). l ++ concat (drop (i + 1) chunks)) (append_assoc (concat (take i chunks)) cut.0 cut.1.0 ∙ ap (λ (l : List ℕ). concat (take i chunks) ++ l) (cut.1.1 ∙ e) ∙ sym (more_chunks i chunks chunk lt is))
          ∙ sym (concat-append (take (i + 1) chunks) (drop (i + 1) chunks)) ∙ ap concat (take-append-drop (i + 1) chunks)
