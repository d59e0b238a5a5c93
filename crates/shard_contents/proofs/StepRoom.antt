-- What the tests by counts say of a step of a target, a Copy or a Follow.
use Rattle.std.proofs.Common.{◌≡◌, ◌⊎◌, inl, inr, ℕ, ◌+◌, ◌<◌, ◌≤◌, Bool, true, false, cond, List, [], ◌∷◌, length, get_or, map, refl, sym, ap, subst, arith, length-append}
use Rattle.std.specs.Prelude.{count_by, nat_lt, nat_le, ◌&&◌, ◌^◌}
use Rattle.std.specs.List.{AllByRecursion}
use Rattle.std.proofs.lemmas.Bool.{and_parts, ltb-true, ltb-false, leb-true, leb-false}
use Rattle.std.proofs.lemmas.List.Sums.{sum_by-set, sum_by-append}
use Rattle.vt_value.specs.Values.{Row}
use Rattle.vschema.specs.declared.changes.RowChange.{RowChange}
use Rattle.vschema.specs.declared.changes.RowChange.TheVariants.{Added, Replaced, Removed}
use Rattle.vschema.specs.Database.{Database, same_row, without, applied, all_applied, changed_table}
use Rattle.shard_law.proofs.Databases.{length-applied}
use Rattle.shard_law.specs.Openings.{row_count}
use Rattle.shard_law.specs.declared.limits.Limits.{Limits}
use Rattle.shard_contents.specs.Commits.{is_added, is_removed}
use Rattle.shard_contents.specs.inner.Stores.{row_after}
use Rattle.shard_contents.specs.inner.Transactions.{has_room_for}
use Rattle.shard_contents.specs.inner.Copying.{has_room_to_copy}
use Rattle.shard_contents.proofs.Counts.{one_applied}

-- ---- rows after changes

-- a removal takes one row at most
without_fewer : (r : Row) (rows : List Row) → length rows ≤ length (without r rows) + 1
without_fewer r [] = omega arith
without_fewer r (x ∷ rows) = by (same_row r x) (without_fewer r rows)
  where
    by : (b : Bool) → length rows ≤ length (without r rows) + 1 → length (x ∷ rows) ≤ length (cond b rows (x ∷ without r rows)) + 1
    by true h = omega arith
    by false h = omega (arith, h)

counted : (p : RowChange → Bool) (c : RowChange) (changes : List RowChange) → count_by p (c ∷ changes) ≡ cond (p c) 1 0 + count_by p changes
counted p c changes = let h = sum_by-append (λ x. cond (p x) 1 0) (c ∷ []) changes in omega (arith, h)

one_more : (c : RowChange) (rows : List Row) → length rows + cond (is_added c) 1 0 ≤ length (row_after c rows) + cond (is_removed c) 1 0
one_more (Added n row) rows = let h = length-append rows (row ∷ []) in omega (arith, h)
one_more (Replaced n old new) rows = let h = length-append (without old rows) (new ∷ []) in let k = without_fewer old rows in omega (arith, h, k)
one_more (Removed n row) rows = let k = without_fewer row rows in omega (arith, k)

-- at least so many rows are left: the added ones more, the removed ones fewer
pub at_least : (changes : List RowChange) (db : Database) → AllByRecursion (λ c. changed_table c < length db) changes
    → row_count db + count_by is_added changes ≤ row_count (all_applied changes db) + count_by is_removed changes
at_least [] db there = omega arith
at_least (c ∷ changes) db there =
    let n = changed_table c in
    let rows = get_or db n [] in
    let same = length-applied c db in
    let rest = at_least changes (applied c db) (subst (λ (k : ℕ). AllByRecursion (λ c. changed_table c < k) changes) (sym same) there.1) in
    let one = ap row_count (one_applied c db n refl) in
    let all = sum_by-set length db n (row_after c rows) [] there.0 in
    let more = one_more c rows in
    let a = counted is_added c changes in
    let d = counted is_removed c changes in
    omega (arith, rest, one, all, more, a, d)

-- a Copy leaves just so many
pub copied_count : (n : ℕ) (new : List Row) (db : Database) → n < length db → row_count (all_applied (map (Added n) new) db) ≡ row_count db + length new
copied_count n [] db there = omega arith
copied_count n (row ∷ new) db there =
    let rows = get_or db n [] in
    let same = length-applied (Added n row) db in
    let rest = copied_count n new (applied (Added n row) db) (omega (arith, same, there)) in
    let one = ap row_count (one_applied (Added n row) db n refl) in
    let all = sum_by-set length db n (row_after (Added n row) rows) [] there in
    let h = length-append rows (row ∷ []) in
    omega (arith, rest, one, all, h)

-- ---- the tests

-- a limit is passed by a Follow with these changes, by counts
abbrev pub IsNoRoomFor : Limits → ℕ → ℕ → ℕ → List RowChange → Type 0
IsNoRoomFor limits entries stored rows changes =
    (2 ^ 40 ≤ entries) ⊎ ((limits.stored ≤ stored) ⊎ (limits.rows + count_by is_removed changes < rows + count_by is_added changes))

pub no_room_for : (limits : Limits) (entries stored rows : ℕ) (changes : List RowChange) → has_room_for limits entries stored rows changes ≡ false
    → IsNoRoomFor limits entries stored rows changes
no_room_for limits entries stored rows changes h =
    by (nat_lt entries (2 ^ 40)) refl (nat_lt stored limits.stored) refl (nat_le (rows + count_by is_added changes) (limits.rows + count_by is_removed changes)) refl h
  where
    by : (a : Bool) → nat_lt entries (2 ^ 40) ≡ a → (b : Bool) → nat_lt stored limits.stored ≡ b → (c : Bool)
        → nat_le (rows + count_by is_added changes) (limits.rows + count_by is_removed changes) ≡ c → ((a && b) && c) ≡ false
        → IsNoRoomFor limits entries stored rows changes
    by false i b j c k h = inl (ltb-false entries (2 ^ 40) i)
    by true i false j c k h = inr (inl (ltb-false stored limits.stored j))
    by true i true j false k h = inr (inr (leb-false (rows + count_by is_added changes) (limits.rows + count_by is_removed changes) k))
    by true i true j true k h = absurd (cc h)

pub room_by_rows : (limits : Limits) (entries stored rows : ℕ) (changes : List RowChange) → has_room_for limits entries stored rows changes ≡ true
    → rows + count_by is_added changes ≤ limits.rows + count_by is_removed changes
room_by_rows limits entries stored rows changes h =
    leb-true (rows + count_by is_added changes) (limits.rows + count_by is_removed changes)
    (and_parts (nat_lt entries (2 ^ 40) && nat_lt stored limits.stored) (nat_le (rows + count_by is_added changes) (limits.rows + count_by is_removed changes)) h).1

pub room_by_entries : (limits : Limits) (entries stored rows : ℕ) (changes : List RowChange) → has_room_for limits entries stored rows changes ≡ true → entries < 2 ^ 40
room_by_entries limits entries stored rows changes h =
    ltb-true entries (2 ^ 40)
    (and_parts (nat_lt entries (2 ^ 40)) (nat_lt stored limits.stored)
    (and_parts (nat_lt entries (2 ^ 40) && nat_lt stored limits.stored) (nat_le (rows + count_by is_added changes) (limits.rows + count_by is_removed changes)) h).0).0

pub room_by_stored : (limits : Limits) (entries stored rows : ℕ) (changes : List RowChange) → has_room_for limits entries stored rows changes ≡ true → stored < limits.stored
room_by_stored limits entries stored rows changes h =
    ltb-true stored limits.stored
    (and_parts (nat_lt entries (2 ^ 40)) (nat_lt stored limits.stored)
    (and_parts (nat_lt entries (2 ^ 40) && nat_lt stored limits.stored) (nat_le (rows + count_by is_added changes) (limits.rows + count_by is_removed changes)) h).0).1

pub copy_by_entries : (limits : Limits) (entries rows copied : ℕ) → has_room_to_copy limits entries rows copied ≡ true → entries < 2 ^ 40
copy_by_entries limits entries rows copied h = ltb-true entries (2 ^ 40) (and_parts (nat_lt entries (2 ^ 40)) (nat_le (rows + copied) limits.rows) h).0

pub room_to_copy : (limits : Limits) (entries rows copied : ℕ) → has_room_to_copy limits entries rows copied ≡ true → rows + copied ≤ limits.rows
room_to_copy limits entries rows copied h = leb-true (rows + copied) limits.rows (and_parts (nat_lt entries (2 ^ 40)) (nat_le (rows + copied) limits.rows) h).1

pub no_room_to_copy : (limits : Limits) (entries rows copied : ℕ) → has_room_to_copy limits entries rows copied ≡ false
    → (2 ^ 40 ≤ entries) ⊎ (limits.rows < rows + copied)
no_room_to_copy limits entries rows copied h = by (nat_lt entries (2 ^ 40)) refl (nat_le (rows + copied) limits.rows) refl h
  where
    by : (a : Bool) → nat_lt entries (2 ^ 40) ≡ a → (b : Bool) → nat_le (rows + copied) limits.rows ≡ b → (a && b) ≡ false
        → (2 ^ 40 ≤ entries) ⊎ (limits.rows < rows + copied)
    by false i b j h = inl (ltb-false entries (2 ^ 40) i)
    by true i false j h = inr (leb-false (rows + copied) limits.rows j)
    by true i true j h = absurd (cc h)
