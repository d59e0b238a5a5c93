-- The rows of a table with changes that the table does not have.
use Rattle.std.proofs.Common.{◌≡◌, ℕ, Bool, true, false, cond, ◌||◌, ◌&&◌, not, ◌<◌, zero, suc, List, [], ◌∷◌, ◌++◌, length, get_or, position, map, filter, option_to_list, Option, Some, Bor, refl, sym, ap, ◌∙◌, subst, arith}
use Rattle.std.specs.Prelude.{nat_lt}
use Rattle.std.specs.List.{list_any, remove, position_or_len}
use Rattle.std.specs.Map.{keys_of}
use Rattle.std.specs.BTreeMap.{insert_entry}
use Rattle.std.specs.Ordering.{match_ordering, eq_by_cmp}
use Rattle.std.specs.declared.cmp.Ordering.{Ordering}
use Rattle.std.specs.declared.cmp.Ordering.TheVariants.{Less, Equal, Greater}
use Rattle.std.proofs.lemmas.Bool.{false≢true, true≢false, ltb-false}
use Rattle.std.proofs.lemmas.List.Elements.{filter-append}
use Rattle.std.proofs.lemmas.List.Quantifiers.{position-Some}
use Rattle.std.proofs.lemmas.List.Sums.{fails_before_first}
use Rattle.sql_eval.proofs.OrderLemmas.{rows_cmp-same}
use Rattle.vt_value.specs.Values.{Row, same_row}
use Rattle.sql_eval.specs.Database.{without}
use Rattle.shard_store.specs.declared.removed_rows.LentRow.{LentRow}
use Rattle.shard_store.specs.declared.key.RowKey.{RowKey}
use Rattle.shard_store.specs.Slots.{Slot, rows_in}
use Rattle.shard_store.specs.Tables.{key_at, has_key, IsAtItsKey}
use Rattle.shard_store.specs.inner.Joined.{rows_lent}
use Rattle.shard_store.specs.inner.Overlays.{ColumnKeys, lent_key, lent_cmp, is_gone, left_of}
use Rattle.shard_store.proofs.Rows.{row_is, nil_is, head_is, tail_is}
use Rattle.shard_store.proofs.Bags.{same_self}

-- ---- rows that are found by their keys

abbrev pub keys_in : List (LentRow × Unit {0}) → List Row
keys_in entries = map lent_key (keys_of entries)

pub among : (x : LentRow) (ks : List LentRow) → list_any (eq_by_cmp lent_cmp x) ks ≡ list_any (same_row (lent_key x)) (map lent_key ks)
among x [] = refl
among x (k ∷ ks) = ap (λ b. same_row (lent_key x) (lent_key k) || b) (among x ks)

turn : (a b c : Bool) → (a || (b || c)) ≡ (b || (a || c))
turn true true c = refl
turn true false c = refl
turn false b c = refl

twice : (a b : Bool) → (a || b) ≡ (a || (a || b))
twice true b = refl
twice false b = refl

-- one key more is found
pub one_more : (key : Row) (x : LentRow) (entries : List (LentRow × Unit {0}))
    → list_any (same_row key) (keys_in (insert_entry lent_cmp entries x tt)) ≡ (same_row key (lent_key x) || list_any (same_row key) (keys_in entries))
one_more key x [] = refl
one_more key x (e ∷ es) = by (one_more key x es) (lent_cmp x e.0) refl
  where
    by : list_any (same_row key) (keys_in (insert_entry lent_cmp es x tt)) ≡ (same_row key (lent_key x) || list_any (same_row key) (keys_in es))
        → (o : Ordering) → lent_cmp x e.0 ≡ o
        → list_any (same_row key) (keys_in (match_ordering (lent_cmp x e.0) ((x, tt) ∷ e ∷ es) ((e.0, tt) ∷ es) (e ∷ insert_entry lent_cmp es x tt)))
        ≡ (same_row key (lent_key x) || list_any (same_row key) (keys_in (e ∷ es)))
    by ih Less t = simp t
    by ih Equal t =
        let same = rows_cmp-same (lent_key x) (lent_key e.0) t in
        simp t (twice (same_row key (lent_key e.0)) (list_any (same_row key) (keys_in es))
        ∙ ap (λ (k : Row). same_row key k || (same_row key (lent_key e.0) || list_any (same_row key) (keys_in es))) (sym same))
    by ih Greater t =
        simp t (ap (λ b. same_row key (lent_key e.0) || b) ih
        ∙ turn (same_row key (lent_key e.0)) (same_row key (lent_key x)) (list_any (same_row key) (keys_in es)))

-- ---- tests

-- what passes the one test passes the other
pub any_kept : (q p : Row → Bool) → ((x : Row) → q x ≡ true → p x ≡ true) → (xs : List Row) → list_any q (filter p xs) ≡ list_any q xs
any_kept q p h [] = refl
any_kept q p h (x ∷ xs) = by (any_kept q p h xs) (p x) refl (q x) refl
  where
    by : list_any q (filter p xs) ≡ list_any q xs → (b : Bool) → p x ≡ b → (d : Bool) → q x ≡ d
        → list_any q (cond (p x) (x ∷ filter p xs) (filter p xs)) ≡ (q x || list_any q xs)
    by ih true t d u = simp t (ap (λ b. q x || b) ih)
    by ih false t true u = absurd (false≢true (sym t ∙ h x u))
    by ih false t false u = simp (t, u, ih)

-- what passes the one test fails the other
pub any_dropped : (q p : Row → Bool) → ((x : Row) → q x ≡ true → p x ≡ false) → (xs : List Row) → list_any q (filter p xs) ≡ false
any_dropped q p h [] = refl
any_dropped q p h (x ∷ xs) = by (any_dropped q p h xs) (p x) refl (q x) refl
  where
    by : list_any q (filter p xs) ≡ false → (b : Bool) → p x ≡ b → (d : Bool) → q x ≡ d
        → list_any q (cond (p x) (x ∷ filter p xs) (filter p xs)) ≡ false
    by ih true t true u = absurd (true≢false (sym t ∙ h x u))
    by ih true t false u = simp (t, u, ih)
    by ih false t d u = simp (t, ih)

pub none_filtered : (q p : Row → Bool) (xs : List Row) → list_any q xs ≡ false → list_any q (filter p xs) ≡ false
none_filtered q p [] h = refl
none_filtered q p (x ∷ xs) h = by (none_filtered q p xs) (p x) refl (q x) refl h
  where
    by : (list_any q xs ≡ false → list_any q (filter p xs) ≡ false) → (b : Bool) → p x ≡ b → (d : Bool) → q x ≡ d → (q x || list_any q xs) ≡ false
        → list_any q (cond (p x) (x ∷ filter p xs) (filter p xs)) ≡ false
    by ih b t true u g =
        let f : true ≡ false = rw u at g in
        absurd (true≢false f)
    by ih true t false u g =
        let f : list_any q xs ≡ false = rw u at g in
        let k = ih f in
        simp (t, u, k)
    by ih false t false u g =
        let f : list_any q xs ≡ false = rw u at g in
        let k = ih f in
        simp (t, k)

pub any_swap : (p q : Row → Bool) (xs : List Row) → list_any p (filter q xs) ≡ list_any q (filter p xs)
any_swap p q [] = refl
any_swap p q (x ∷ xs) = by (any_swap p q xs) (p x) refl (q x) refl
  where
    by : list_any p (filter q xs) ≡ list_any q (filter p xs) → (b : Bool) → p x ≡ b → (d : Bool) → q x ≡ d
        → list_any p (cond (q x) (x ∷ filter q xs) (filter q xs)) ≡ list_any q (cond (p x) (x ∷ filter p xs) (filter p xs))
    by ih true t true u = simp (t, u)
    by ih true t false u = simp (t, u, ih)
    by ih false t true u = simp (t, u, ih)
    by ih false t false u = simp (t, u, ih)

pub filter_swap : (p q : Row → Bool) (xs : List Row) → filter p (filter q xs) ≡ filter q (filter p xs)
filter_swap p q [] = refl
filter_swap p q (x ∷ xs) = by (filter_swap p q xs) (p x) refl (q x) refl
  where
    by : filter p (filter q xs) ≡ filter q (filter p xs) → (b : Bool) → p x ≡ b → (d : Bool) → q x ≡ d
        → filter p (cond (q x) (x ∷ filter q xs) (filter q xs)) ≡ filter q (cond (p x) (x ∷ filter p xs) (filter p xs))
    by ih true t true u = simp (t, u, ih)
    by ih true t false u = simp (t, u, ih)
    by ih false t true u = simp (t, u, ih)
    by ih false t false u = simp (t, u, ih)

-- the rows that a condition keeps, of those that are left of rows among which are all that it keeps
pub kept_left : (p : Row → Bool) (gone : ColumnKeys) (xs ys others : List Row) → filter p xs ≡ filter p ys
    → filter p (left_of gone xs ++ others) ≡ filter p (left_of gone ys ++ others)
kept_left p gone xs ys others e =
    filter-append p (left_of gone xs) others
    ∙ ap (λ (z : List Row). z ++ filter p others) (filter_swap p here xs ∙ ap (filter here) e ∙ sym (filter_swap p here ys))
    ∙ sym (filter-append p (left_of gone ys) others)
  where
    here : Row → Bool
    here r = not (is_gone gone r)

-- all are left of rows where none is gone
pub none_gone : (gone : ColumnKeys) → gone.keys ≡ [] → (xs : List Row) → left_of gone xs ≡ xs
none_gone gone none [] = refl
none_gone gone none (x ∷ xs) =
    let here : is_gone gone x ≡ false = ap (list_any (same_row (key_at gone.columns x))) none in
    let rest = none_gone gone none xs in
    simp (here, rest)

-- ---- a row that goes

any_self : (r x : Row) (gone : ColumnKeys) → same_row r x ≡ true → is_gone gone x ≡ is_gone gone r
any_self r x gone e = ap (λ (y : Row). is_gone gone y) (sym (row_is r x e))

turned : (r x : Row) → same_row r x ≡ false → same_row x r ≡ false
turned r x e = by (same_row x r) refl
  where
    by : (b : Bool) → same_row x r ≡ b → same_row x r ≡ false
    by true t = absurd (false≢true (sym e ∙ ap (λ (y : Row). same_row r y) (row_is x r t) ∙ same_self r))
    by false t = t

module _ (gone more : ColumnKeys) (row : Row) (columns : more.columns ≡ gone.columns)
    (next : (k : Row) → list_any (same_row k) more.keys ≡ (same_row k (key_at gone.columns row) || list_any (same_row k) gone.keys)) where
  gone_more : (x : Row) → is_gone more x ≡ (same_row (key_at gone.columns x) (key_at gone.columns row) || is_gone gone x)
  gone_more x = ap (λ (cs : List ℕ). list_any (same_row (key_at cs x)) more.keys) columns ∙ next (key_at gone.columns x)

  other_key : (x : Row) → has_key gone.columns (key_at gone.columns row) x ≡ false → is_gone more x ≡ is_gone gone x
  other_key x t = gone_more x ∙ ap (λ b. b || is_gone gone x) (turned (key_at gone.columns row) (key_at gone.columns x) t)

  -- no row of these has the key of the one that goes
  others_left : (xs : List Row) → [] ≡ filter (has_key gone.columns (key_at gone.columns row)) xs → left_of more xs ≡ left_of gone xs
  others_left [] h = refl
  others_left (x ∷ xs) h = by (others_left xs) (has_key gone.columns (key_at gone.columns row) x) refl
    where
      by : ([] ≡ filter (has_key gone.columns (key_at gone.columns row)) xs → left_of more xs ≡ left_of gone xs)
          → (b : Bool) → has_key gone.columns (key_at gone.columns row) x ≡ b → left_of more (x ∷ xs) ≡ left_of gone (x ∷ xs)
      by ih true t =
          let f : [] ≡ x ∷ filter (has_key gone.columns (key_at gone.columns row)) xs = rw t at h in
          nil_is f
      by ih false t =
          let f : [] ≡ filter (has_key gone.columns (key_at gone.columns row)) xs = rw t at h in
          let rest = ih f in
          ap (λ b. cond (not b) (x ∷ left_of more xs) (left_of more xs)) (other_key x t)
          ∙ ap (λ (z : List Row). cond (not (is_gone gone x)) (x ∷ z) z) rest

  -- the only row of its key goes
  pub one_left : (xs : List Row) → filter (has_key gone.columns (key_at gone.columns row)) xs ≡ row ∷ [] → is_gone gone row ≡ false
      → left_of more xs ≡ without row (left_of gone xs)
  one_left [] e free = nil_is e
  one_left (x ∷ xs) e free = by (one_left xs) (has_key gone.columns (key_at gone.columns row) x) refl
    where
      it : x ≡ row → [] ≡ filter (has_key gone.columns (key_at gone.columns row)) xs → left_of more (x ∷ xs) ≡ without row (left_of gone (x ∷ xs))
      it is none =
          let rest = others_left xs none in
          let here : is_gone more x ≡ true =
          gone_more x ∙ ap (λ b. b || is_gone gone x) (ap (λ (y : Row). same_row (key_at gone.columns y) (key_at gone.columns row)) is ∙ same_self (key_at gone.columns row)) in
          let before : is_gone gone x ≡ false = ap (is_gone gone) is ∙ free in
          let self : same_row row x ≡ true = ap (same_row row) is ∙ same_self row in
          simp (here, before, self, rest)

      other : left_of more xs ≡ without row (left_of gone xs) → same_row row x ≡ false → (g : Bool) → is_gone gone x ≡ g → is_gone more x ≡ g
          → left_of more (x ∷ xs) ≡ without row (left_of gone (x ∷ xs))
      other rest u true w here = simp (here, w, rest)
      other rest u false w here = simp (here, w, u, rest)

      differs : has_key gone.columns (key_at gone.columns row) x ≡ false → (b : Bool) → same_row row x ≡ b → same_row row x ≡ false
      differs t true u =
          absurd (false≢true (sym t ∙ ap (λ (y : Row). same_row (key_at gone.columns row) (key_at gone.columns y)) (sym (row_is row x u)) ∙ same_self (key_at gone.columns row)))
      differs t false u = u

      by : (filter (has_key gone.columns (key_at gone.columns row)) xs ≡ row ∷ [] → is_gone gone row ≡ false → left_of more xs ≡ without row (left_of gone xs))
          → (b : Bool) → has_key gone.columns (key_at gone.columns row) x ≡ b → left_of more (x ∷ xs) ≡ without row (left_of gone (x ∷ xs))
      by ih true t =
          let f : x ∷ filter (has_key gone.columns (key_at gone.columns row)) xs ≡ row ∷ [] = rw t at e in
          it (head_is f) (sym (tail_is f))
      by ih false t =
          let f : filter (has_key gone.columns (key_at gone.columns row)) xs ≡ row ∷ [] = rw t at e in
          other (ih f free) (differs t (same_row row x) refl) (is_gone gone x) refl (other_key x t)

-- a slot's row is the next that is left where its key isn't gone, and else passed over
pub left_first : (gone : ColumnKeys) (key : RowKey) (slot : Option Row) (row : Row) (slots : List Slot) → slot ≡ Some row → IsAtItsKey gone.columns (key, slot)
    → list_any (same_row key.values) gone.keys ≡ false → left_of gone (rows_in ((key, slot) ∷ slots)) ≡ row ∷ left_of gone (rows_in slots)
left_first gone key slot row slots is at free =
    let here : is_gone gone row ≡ false = ap (λ (k : Row). list_any (same_row k) gone.keys) (sym (at row is)) ∙ free in
    subst (λ (o : Option Row). left_of gone (option_to_list o ++ rows_in slots) ≡ row ∷ left_of gone (rows_in slots)) (sym is) (simp here)

pub left_passed : (gone : ColumnKeys) (key : RowKey) (slot : Option Row) (row : Row) (slots : List Slot) → slot ≡ Some row → IsAtItsKey gone.columns (key, slot)
    → list_any (same_row key.values) gone.keys ≡ true → left_of gone (rows_in ((key, slot) ∷ slots)) ≡ left_of gone (rows_in slots)
left_passed gone key slot row slots is at taken =
    let here : is_gone gone row ≡ true = ap (λ (k : Row). list_any (same_row k) gone.keys) (sym (at row is)) ∙ taken in
    subst (λ (o : Option Row). left_of gone (option_to_list o ++ rows_in slots) ≡ left_of gone (rows_in slots)) (sym is) (simp here)

pub not_left : (row : Row) (gone : ColumnKeys) (xs : List Row) → list_any (same_row row) xs ≡ false → list_any (same_row row) (left_of gone xs) ≡ false
not_left row gone xs h = none_filtered (same_row row) (λ r. not (is_gone gone r)) xs h

-- ---- rows that are lent

lent-at : (r : Row) (xs : List (Bor Row)) (i : ℕ) (d : Bor Row) → i < length xs → same_row r (get_or xs i d).now ≡ true
    → ((k : ℕ) → k < i → same_row r (get_or xs k d).now ≡ false) → without r (rows_lent xs) ≡ rows_lent (remove xs i)
lent-at r [] i d l e h = absurd (omega (arith, l))
lent-at r (x ∷ xs) zero d l e h = simp e
lent-at r (x ∷ xs) (suc i) d l e h =
    let f = h 0 (omega arith) in
    let g = lent-at r xs i d (omega (arith, l)) e (λ k below. h (suc k) (omega (arith, below))) in
    simp f (ap (λ (z : List Row). x.now ∷ z) g)

lent-none : (r : Row) (xs : List (Bor Row)) (d : Bor Row) → ((k : ℕ) → k < length xs → same_row r (get_or xs k d).now ≡ false)
    → without r (rows_lent xs) ≡ rows_lent xs
lent-none r [] d h = refl
lent-none r (x ∷ xs) d h =
    let f = h 0 (omega arith) in
    simp f (ap (λ (z : List Row). x.now ∷ z) (lent-none r xs d (λ k below. h (suc k) (omega (arith, below)))))

pub lent-found : (r : Row) (xs : List (Bor Row)) (d : Bor Row) (o : Option ℕ) (i : ℕ) → o ≡ position (λ x. same_row r x.now) xs → o ≡ Some i
    → rows_lent (remove xs i) ≡ without r (rows_lent xs)
lent-found r xs d o i is e =
    let h = position-Some (λ x. same_row r x.now) xs i d (sym is ∙ e) in
    sym (lent-at r xs i d h.0 h.1 h.2)

pub lent-unfound : (r : Row) (xs : List (Bor Row)) (d : Bor Row) (o : Option ℕ) → o ≡ position (λ x. same_row r x.now) xs → ((i : ℕ) → o ≡ Some i → ⊥)
    → rows_lent xs ≡ without r (rows_lent xs)
lent-unfound r xs d o is none = by (nat_lt (position_or_len p xs) (length xs)) refl
  where
    p : Bor Row → Bool
    p x = same_row r x.now

    by : (b : Bool) → nat_lt (position_or_len p xs) (length xs) ≡ b → rows_lent xs ≡ without r (rows_lent xs)
    by true e = absurd (none (position_or_len p xs) (is ∙ simp e))
    by false e =
        let all = ltb-false (position_or_len p xs) (length xs) e in
        sym (lent-none r xs d (λ k below. fails_before_first p xs k d (omega (arith, all, below))))

pub any_lent : (p : Row → Bool) (xs : List (Bor Row)) → list_any (λ r. p r.now) xs ≡ list_any p (rows_lent xs)
any_lent p [] = refl
any_lent p (x ∷ xs) = ap (λ b. p x.now || b) (any_lent p xs)

-- ---- a key

or_false : (b : Bool) → (b || false) ≡ b
or_false true = refl
or_false false = refl

pub slot_left : (p : Row → Bool) (gone : ColumnKeys) (xs : List Row) (row : Row) → filter p xs ≡ row ∷ [] → not (is_gone gone row) ≡ list_any p (left_of gone xs)
slot_left p gone xs row e =
    sym (any_swap p (λ r. not (is_gone gone r)) xs ∙ ap (list_any (λ r. not (is_gone gone r))) e ∙ or_false (not (is_gone gone row)))

pub slot_none : (p : Row → Bool) (gone : ColumnKeys) (xs : List Row) → filter p xs ≡ [] → false ≡ list_any p (left_of gone xs)
slot_none p gone xs e = sym (any_swap p (λ r. not (is_gone gone r)) xs ∙ ap (list_any (λ r. not (is_gone gone r))) e)

-- a row of which the key is known to have one row, or none
module _ (ordinals : List ℕ) (values : Row) (row : Row) (key : values ≡ key_at ordinals row) (gone : ColumnKeys) (xs : List Row) where
  has_it : (x : Row) → same_row row x ≡ true → has_key ordinals values x ≡ true
  has_it x e =
      subst (λ (r : Row). same_row values (key_at ordinals r) ≡ true) (row_is row x e)
      (subst (λ (vs : Row). same_row vs (key_at ordinals row) ≡ true) (sym key) (same_self (key_at ordinals row)))

  by_key : list_any (same_row row) (left_of gone xs) ≡ list_any (same_row row) (left_of gone (filter (has_key ordinals values) xs))
  by_key =
      sym (any_kept (same_row row) (has_key ordinals values) has_it (left_of gone xs))
      ∙ ap (list_any (same_row row)) (filter_swap (has_key ordinals values) (λ r. not (is_gone gone r)) xs)

  pub one_there : (x : Row) → filter (has_key ordinals values) xs ≡ x ∷ []
      → (same_row row x && not (is_gone gone row)) ≡ list_any (same_row row) (left_of gone xs)
  one_there x e = by (same_row row x) refl (is_gone gone row) refl ∙ sym (by_key ∙ ap (λ (l : List Row). list_any (same_row row) (left_of gone l)) e)
    where
      by : (d : Bool) → same_row row x ≡ d → (g : Bool) → is_gone gone row ≡ g
          → (same_row row x && not (is_gone gone row)) ≡ list_any (same_row row) (left_of gone (x ∷ []))
      by true u true w =
          let here = any_self row x gone u ∙ w in
          simp (here, u, w)
      by true u false w =
          let here = any_self row x gone u ∙ w in
          simp (here, u, w)
      by false u g w = simp u (sym (not_left row gone (x ∷ []) (simp u)))

  pub none_there : filter (has_key ordinals values) xs ≡ [] → false ≡ list_any (same_row row) (left_of gone xs)
  none_there e = sym (by_key ∙ ap (λ (l : List Row). list_any (same_row row) (left_of gone l)) e)
