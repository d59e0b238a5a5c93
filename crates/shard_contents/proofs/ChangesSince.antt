-- How many entries there were when one last changed a table, while entries are stored.
use Rattle.std.proofs.Common.{◌≡◌, ◌⊎◌, inl, inr, ℕ, zero, suc, ◌+◌, ◌<◌, ◌≤◌, nat_lt, Bool, true, false, ◌||◌, ◌==◌, List, [], ◌∷◌, ◌++◌, if◌then◌else◌, drop, take, length, get_or, set, refl, sym, ap, ◌∙◌, subst, arith}
use Rattle.std.specs.List.{list_any}
use Rattle.std.proofs.lemmas.Bool.{eqb-true, eqb-false, lt-ltb, le-ltb, cases_lt}
use Rattle.std.proofs.lemmas.List.{get_or-set_same, get_or-set_other, take_more, drop-append-le, drop_all, length_push}
use Rattle.std.proofs.lemmas.List.Folds.{list_any-append}
use Rattle.vschema.specs.declared.changes.RowChange.{RowChange}
use Rattle.vschema.specs.Database.{changed_table}
use Rattle.shard_contents.specs.inner.KeptConflicts.{keeps_table, is_changed_since}
use Rattle.shard_contents.specs.inner.LastChanges.{last_change, TellLastChanges}

pub last_longer : (last : List ℕ) (n : ℕ) → last_change (last ++ 0 ∷ []) n ≡ last_change last n
last_longer [] zero = refl
last_longer [] (suc n) = refl
last_longer (x ∷ last) zero = refl
last_longer (x ∷ last) (suc n) = last_longer last n

last_set : (last : List ℕ) (at count n : ℕ) → at < length last → last_change (set last at count) n ≡ (if at == n then count else last_change last n)
last_set last at count n there = by (at == n) refl
  where
    by : (b : Bool) → (at == n) ≡ b → last_change (set last at count) n ≡ (if b then count else last_change last n)
    by true e = subst (λ (k : ℕ). get_or (set last at count) k 0 ≡ count) (eqb-true at n e) (get_or-set_same last at count 0 there)
    by false e = get_or-set_other last at n count 0 (λ same. eqb-false at n e (sym same))

or_true : (b : Bool) → (b || true) ≡ true
or_true true = refl
or_true false = refl

or_false : (b : Bool) → (b || false) ≡ b
or_false true = refl
or_false false = refl

any_push : {X : Type 0} (p : X → Bool) (xs : List X) (x : X) → list_any p (xs ++ x ∷ []) ≡ (list_any p xs || p x)
any_push p xs x = list_any-append p xs (x ∷ []) ∙ ap (λ (b : Bool). list_any p xs || b) (or_false (p x))

-- ---- the changes of one entry

-- one more of them is noted
pub note_next : (changes : List RowChange) (i : ℕ) (c : RowChange) (last now old : List ℕ) (count n : ℕ) → i < length changes → c ≡ get_or changes i c
    → last_change now n ≡ (if changed_table c == n then count else last_change last n)
    → last_change last n ≡ (if keeps_table n (take i changes) then count else last_change old n)
    → last_change now n ≡ (if keeps_table n (take (i + 1) changes) then count else last_change old n)
note_next changes i c last now old count n within is noted before =
    noted
    ∙ ap (λ (k : ℕ). if changed_table c == n then count else k) before
    ∙ by (keeps_table n (take i changes)) (changed_table c == n)
    ∙ ap (λ (b : Bool). if b then count else last_change old n)
    (sym (ap (keeps_table n) (take_more changes i c within ∙ ap (λ (x : RowChange). take i changes ++ x ∷ []) (sym is))
    ∙ any_push (λ (x : RowChange). changed_table x == n) (take i changes) c))
  where
    by : (a b : Bool) → (if b then count else (if a then count else last_change old n)) ≡ (if a || b then count else last_change old n)
    by true true = refl
    by true false = refl
    by false true = refl
    by false false = refl

-- ---- one more entry

pub tell_next : (entries : List (List RowChange)) (e : List RowChange) (last now : List ℕ) → TellLastChanges entries last
    → ((n : ℕ) → last_change now n ≡ (if keeps_table n e then length entries + 1 else last_change last n)) → TellLastChanges (entries ++ e ∷ []) now
tell_next entries e last now tell noted t = by (cases_lt (length entries) t.stored)
  where
    p : List RowChange → Bool
    p = keeps_table t.table

    by : (length entries < t.stored) ⊎ (t.stored ≤ length entries) → is_changed_since (entries ++ e ∷ []) t ≡ nat_lt t.stored (last_change now t.table)
    by (inl beyond) =
        ap (list_any p) (drop_all t.stored (entries ++ e ∷ []) (let l = length_push entries e in omega (arith, l, beyond)))
        ∙ none (p e)
        ∙ ap (nat_lt t.stored) (sym (noted t.table))
      where
        none : (b : Bool) → false ≡ nat_lt t.stored (if b then length entries + 1 else last_change last t.table)
        none true = sym (le-ltb t.stored (length entries + 1) (omega (arith, beyond)))
        none false = sym (ap (list_any p) (drop_all t.stored entries (omega (arith, beyond)))) ∙ tell t
    by (inr within) =
        ap (list_any p) (drop-append-le t.stored entries (e ∷ []) within)
        ∙ any_push p (drop t.stored entries) e
        ∙ ap (λ (b : Bool). b || p e) (tell t)
        ∙ one (p e)
        ∙ ap (nat_lt t.stored) (sym (noted t.table))
      where
        one : (b : Bool) → (nat_lt t.stored (last_change last t.table) || b) ≡ nat_lt t.stored (if b then length entries + 1 else last_change last t.table)
        one true = or_true (nat_lt t.stored (last_change last t.table)) ∙ sym (lt-ltb t.stored (length entries + 1) (omega (arith, within)))
        one false = or_false (nat_lt t.stored (last_change last t.table))
