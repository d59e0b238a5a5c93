-- The bytes at the front that pass.
use Rattle.std.proofs.Common.{◌≡◌, ℕ, suc, ◌≤◌, Bool, true, false, cond, List, [], ◌∷◌, ◌++◌, length, take, drop, refl, arith}
use Rattle.std.specs.List.{list_all}
use Rattle.std.proofs.lemmas.Bool.{and_parts}
use Rattle.sql_lexer.specs.inner.Scanning.{run, first_passes}

pub run_within : (p : ℕ → Bool) (bs : List ℕ) → run p bs ≤ length bs
run_within p [] = omega arith
run_within p (b ∷ bs) = go (p b) (run_within p bs)
  where
    go : (t : Bool) → run p bs ≤ length bs → cond t (suc (run p bs)) 0 ≤ length (b ∷ bs)
    go true e = omega arith
    go false e = omega arith

pub run_passes : (p : ℕ → Bool) (bs : List ℕ) → list_all p (take (run p bs) bs) ≡ true
run_passes p [] = refl
run_passes p (b ∷ bs) = go (p b) refl (run_passes p bs)
  where
    go : (t : Bool) → p b ≡ t → list_all p (take (run p bs) bs) ≡ true → list_all p (take (cond t (suc (run p bs)) 0) (b ∷ bs)) ≡ true
    go true is e = rw (is, e) refl
    go false is e = refl

pub run_stops : (p : ℕ → Bool) (bs : List ℕ) → first_passes p (drop (run p bs) bs) ≡ false
run_stops p [] = refl
run_stops p (b ∷ bs) = go (p b) refl (run_stops p bs)
  where
    go : (t : Bool) → p b ≡ t → first_passes p (drop (run p bs) bs) ≡ false → first_passes p (drop (cond t (suc (run p bs)) 0) (b ∷ bs)) ≡ false
    go true is e = e
    go false is e = is

-- bytes that pass, before one that doesn't, are counted
pub run_exact : (p : ℕ → Bool) (bs : List ℕ) → list_all p bs ≡ true → (rest : List ℕ) → first_passes p rest ≡ false → run p (bs ++ rest) ≡ length bs
run_exact p [] h [] stop = refl
run_exact p [] h (c ∷ rest) stop = rw stop refl
run_exact p (b ∷ bs) h rest stop =
    let q = and_parts (p b) (list_all p bs) h in
    rw (q.0, run_exact p bs q.1 rest stop) refl

-- bytes that pass are counted, whatever follows
pub run_at_least : (p : ℕ → Bool) (bs : List ℕ) → list_all p bs ≡ true → (rest : List ℕ) → length bs ≤ run p (bs ++ rest)
run_at_least p [] h rest = omega arith
run_at_least p (b ∷ bs) h rest =
    let q = and_parts (p b) (list_all p bs) h in
    rw q.0 (let e = run_at_least p bs q.1 rest in omega arith)
