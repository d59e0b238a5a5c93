-- What is meant where no fault applies is a VSchema.
use Rattle.std.proofs.Common.{◌≡◌, ℕ, zero, suc, ◌+◌, ◌==◌, List, [], ◌∷◌, ◌++◌, length, drop, map, filter, find, slice_get, Option, Some, None, option_map, option_and_then, unwrap_or, is_none, Bool, true, false, ◌||◌, not, nat_le, nat_lt, bytes_eq, refl, sym, ap, ◌∙◌, true≢false, arith, cond}
use Rattle.std.proofs.lemmas.Bool.Decides.{nat_tests}
use Rattle.std.proofs.lemmas.List.{length-map, map-append, drop-drop}
use Rattle.std.proofs.Math.Seq.{drop-nil}
use Rattle.std.proofs.lemmas.Simd.{map-map}
use Rattle.std.proofs.lemmas.List.Folds.{list_all-append}
use Rattle.std.specs.List.{list_all, list_any}
use Rattle.sql_tree.specs.Lexemes.{is_word}
use Rattle.vschema_json.specs.AnyVindex.{AnyVindex}
use Rattle.vschema.specs.declared.schema.ColumnVindex.{ColumnVindex}
use Rattle.vschema.specs.declared.schema.Keyspace.{Keyspace}
use Rattle.vschema_json.specs.declared.document.DeclaredKey.{DeclaredKey}
use Rattle.vschema_json.specs.declared.document.DeclaredTable.{DeclaredTable}
use Rattle.vschema_json.specs.declared.document.DeclaredKeyspace.{DeclaredKeyspace}
use Rattle.vschema_json.specs.declared.fault.SchemaFault.{SchemaFault}
use Rattle.vschema_json.specs.declared.fault.SchemaFault.TheVariants.{OutOfMemory, NotJson, IllFormed, UnknownVindex, MissingColumn, WrongKeyType, NullableKey, KeyWithoutVindex, NamedTwice, AboveLimit}
use Rattle.vschema.specs.WriteChecks.{has_twice}
use Rattle.vschema.specs.WellFormed.{is_formed, is_table, is_in_keyspace, is_sharded_at, is_vindex_right, fits_vindex, takes_type, has_number_twice}
use Rattle.vschema_json.specs.Faults.{keys, vindex_of, column_of, lacks_column, is_nullable, mismatch, is_misplaced, table_has, keyspace_has, whole_has, all_tables, has, faults, first_fault}
use Rattle.vschema.specs.Meant.{ordinal_in, vindex_number, vindex_on, meant_table, meant_tables, meant_keyspace, meant}
use Rattle.vschema_json.proofs.Formats.{good_column, good_table, good_keyspace}
use Rattle.vschema_json.proofs.Options.{some_same, never, both, neither, join, turned, unturned, unfound, any_never}
use Rattle.vschema.proofs.Places.{has_column, ordinals_apart, ordinal_among, present, needed, all_needed}

-- no fault lies in a table
abbrev Clean : DeclaredKeyspace → DeclaredTable → Type 0
Clean k t = (f : SchemaFault) → table_has f k t ≡ false

some_there : (n : ℕ) → (n == 0) ≡ false → nat_le 1 n ≡ true
some_there n e = grind (arith, nat_tests)

not_above : (most n : ℕ) → nat_lt most n ≡ false → nat_le n most ≡ true
not_above most n e = grind (arith, nat_tests)

-- the one vindex of a table of a sharded keyspace
record KeyIsRight (k : DeclaredKeyspace) (t : DeclaredTable) (e : DeclaredKey) : Type 0 where
  pub known : is_none (vindex_of k e.vindex) ≡ false
  pub there : lacks_column t e.column ≡ false
  pub fits : mismatch (vindex_of k e.vindex) (column_of t e.column) ≡ false
  pub not_null : is_nullable t e.column ≡ false
  pub within : not (list_any (bytes_eq e.column) t.primary_key) ≡ false

first_false : {X : Type 0} (p : X → Bool) (xs : List X) (x : X) (more : List X) → xs ≡ x ∷ more → list_any p xs ≡ false → p x ≡ false
first_false p xs x more e f = (neither (p x) (list_any p more) (sym (ap (list_any p) e) ∙ f)).0

key_right : (k : DeclaredKeyspace) (t : DeclaredTable) (e : DeclaredKey) (es : List DeclaredKey) → Clean k t → keys t ≡ e ∷ es → KeyIsRight k t e
key_right k t e es clean is = record {
  known = first_false (λ e. is_none (vindex_of k e.vindex)) (keys t) e es is (clean UnknownVindex);
  there = first_false (λ e. lacks_column t e.column) (keys t) e es is (neither (list_any (lacks_column t) t.primary_key) (list_any (λ e. lacks_column t e.column) (keys t)) (clean MissingColumn)).1;
  fits = first_false (λ e. mismatch (vindex_of k e.vindex) (column_of t e.column)) (keys t) e es is (clean WrongKeyType);
  not_null = first_false (λ e. is_nullable t e.column) (keys t) e es is (neither (list_any (is_nullable t) t.primary_key) (list_any (λ e. is_nullable t e.column) (keys t)) (clean NullableKey)).1;
  within = first_false (λ e. not (list_any (bytes_eq e.column) t.primary_key)) (keys t) e es is (clean KeyWithoutVindex);
}

right_key : (k : DeclaredKeyspace) (n : ℕ) (t : DeclaredTable) (e : DeclaredKey) (v : AnyVindex) → KeyIsRight k t e → vindex_of k e.vindex ≡ Some v → k.sharded ≡ true
    → is_vindex_right (meant_table k n t) k.sharded (Some (record { column = ordinal_in t e.column; vindex = v; number = vindex_number k e.vindex })) ≡ true
right_key k n t e v right is sharded =
    let x = has_column t e.column right.there in
    let w : ColumnVindex = record { column = ordinal_in t e.column; vindex = v; number = vindex_number k e.vindex } in
    let taken : mismatch (Some v) (Some x.0) ≡ false = ap (λ o. mismatch o (Some x.0)) (sym is) ∙ ap (mismatch (vindex_of k e.vindex)) (sym x.1.is_found) ∙ right.fits in
    let fits : fits_vindex w (slice_get t.columns (ordinal_in t e.column)) ≡ true = ap (fits_vindex w) x.1.stands ∙ unturned (takes_type v x.0.kind) taken in
    let inside = ordinal_among t e.column t.primary_key (unturned (list_any (bytes_eq e.column) t.primary_key) right.within) in
    join (join (join sharded fits) (needed t (meant_table k n t) e.column refl right.there right.not_null)) inside

vindex_right : (k : DeclaredKeyspace) (n : ℕ) (t : DeclaredTable) (o : Option (List DeclaredKey)) → Clean k t → t.column_vindexes ≡ o → is_misplaced k.sharded o ≡ false
    → is_vindex_right (meant_table k n t) k.sharded (meant_table k n t).vindex ≡ true
vindex_right k n t None clean is fits =
    ap (λ o. is_vindex_right (meant_table k n t) k.sharded (option_and_then (vindex_on k t) (slice_get (unwrap_or o []) 0))) is ∙ turned k.sharded fits
vindex_right k n t (Some []) clean is fits = absurd (true≢false (neither (not k.sharded) (0 == 0) fits).1)
vindex_right k n t (Some (e ∷ es)) clean is fits =
    let listed : keys t ≡ e ∷ es = ap (λ o. unwrap_or o []) is in
    let right = key_right k t e es clean listed in
    let v = present (vindex_of k e.vindex) right.known in
    let sharded = unturned k.sharded (neither (not k.sharded) (length (e ∷ es) == 0) fits).0 in
    ap (λ es. is_vindex_right (meant_table k n t) k.sharded (option_and_then (vindex_on k t) (slice_get es 0))) listed
    ∙ ap (λ o. is_vindex_right (meant_table k n t) k.sharded (option_map (λ v. record { column = ordinal_in t e.column; vindex = v; number = vindex_number k e.vindex }) o)) v.1
    ∙ right_key k n t e v.0 right v.1 sharded

table_lawful : (all : List Keyspace) (k : DeclaredKeyspace) (n : ℕ) (t : DeclaredTable) → is_sharded_at all n ≡ Some k.sharded → good_table t ≡ true → Clean k t
    → is_table all (meant_table k n t) ≡ true
table_lawful all k n t at good clean =
    let well = neither ((length t.columns == 0) || (length t.primary_key == 0) || has_twice t.primary_key) (is_misplaced k.sharded t.column_vindexes) (clean IllFormed) in
    let once = neither ((length t.columns == 0) || (length t.primary_key == 0)) (has_twice t.primary_key) well.0 in
    let some = neither (length t.columns == 0) (length t.primary_key == 0) once.0 in
    let words = both (is_word t.name) (list_all good_column t.columns) good in
    let there = (neither (list_any (lacks_column t) t.primary_key) (list_any (λ e. lacks_column t e.column) (keys t)) (clean MissingColumn)).0 in
    let not_null = (neither (list_any (is_nullable t) t.primary_key) (list_any (λ e. is_nullable t e.column) (keys t)) (clean NullableKey)).0 in
    let within = (neither (nat_lt 64 (length t.columns)) (nat_lt 1 (length (keys t))) (clean AboveLimit)).0 in
    let u = meant_table k n t in
    let key_length : nat_le 1 (length (map (ordinal_in t) t.primary_key)) ≡ true = ap (nat_le 1) (length-map t.primary_key (ordinal_in t)) ∙ some_there (length t.primary_key) some.1 in
    let in_keyspace : is_in_keyspace u (is_sharded_at all n) ≡ true = ap (is_in_keyspace u) at ∙ vindex_right k n t t.column_vindexes clean refl well.1 in
    join (join (join (join (join (join (join (join words.0 (some_there (length t.columns) some.0)) (not_above 64 (length t.columns) within))
    (turned (has_twice (map (λ c. c.name) t.columns)) (clean NamedTwice))) words.1) key_length)
    (turned (has_number_twice (map (ordinal_in t) t.primary_key)) (ordinals_apart t t.primary_key there once.1))) (all_needed t u t.primary_key refl there not_null)) in_keyspace

tables_within : (all : List Keyspace) (k : DeclaredKeyspace) (n : ℕ) → is_sharded_at all n ≡ Some k.sharded → (ts : List DeclaredTable) → list_all good_table ts ≡ true
    → ((f : SchemaFault) → list_any (table_has f k) ts ≡ false) → list_all (is_table all) (map (meant_table k n) ts) ≡ true
tables_within all k n at [] good clean = refl
tables_within all k n at (t ∷ ts) good clean =
    let g = both (good_table t) (list_all good_table ts) good in
    join (table_lawful all k n t at g.0 (λ f. (neither (table_has f k t) (list_any (table_has f k) ts) (clean f)).0))
    (tables_within all k n at ts g.1 (λ f. (neither (table_has f k t) (list_any (table_has f k) ts) (clean f)).1))

first_past : {X : Type 0} (all : List X) (n : ℕ) → slice_get all n ≡ slice_get (drop n all) 0
first_past [] n = sym (ap (λ xs. slice_get xs 0) (drop-nil n))
first_past (x ∷ xs) zero = refl
first_past (x ∷ xs) (suc n) = first_past xs n

head_at : {X : Type 0} (all : List X) (n : ℕ) (x : X) (xs : List X) → drop n all ≡ x ∷ xs → slice_get all n ≡ Some x
head_at all n x xs e = first_past all n ∙ ap (λ ys. slice_get ys 0) e

tail_at : {X : Type 0} (all : List X) (n : ℕ) (x : X) (xs : List X) → drop n all ≡ x ∷ xs → drop (n + 1) all ≡ xs
tail_at all n x xs e = sym (drop-drop 1 n all) ∙ ap (drop 1) e

-- a fault of a keyspace or of one of its tables
abbrev inside : SchemaFault → DeclaredKeyspace → Bool
inside f k = keyspace_has f k || list_any (table_has f k) k.tables

tables_lawful : (all : List Keyspace) (n : ℕ) (ks : List DeclaredKeyspace) → drop n all ≡ map meant_keyspace ks → list_all good_keyspace ks ≡ true
    → ((f : SchemaFault) → list_any (inside f) ks ≡ false) → list_all (is_table all) (meant_tables n ks) ≡ true
tables_lawful all n [] at good clean = refl
tables_lawful all n (k ∷ ks) at good clean =
    let g = both (good_keyspace k) (list_all good_keyspace ks) good in
    let at_k : is_sharded_at all n ≡ Some k.sharded = ap (option_map (λ k. k.sharded)) (head_at all n (meant_keyspace k) (map meant_keyspace ks) at) in
    let here = λ (f : SchemaFault). neither (inside f k) (list_any (inside f) ks) (clean f) in
    list_all-append (is_table all) (map (meant_table k n) k.tables) (meant_tables (n + 1) ks)
    ∙ join (tables_within all k n at_k k.tables (both (is_word k.name) (list_all good_table k.tables) g.0).1 (λ f. (neither (keyspace_has f k) (list_any (table_has f k) k.tables) (here f).0).1))
    (tables_lawful all (n + 1) ks (tail_at all n (meant_keyspace k) (map meant_keyspace ks) at) g.1 (λ f. (here f).1))

-- the names of the tables, and how many there are
names_meant : (n : ℕ) (ks : List DeclaredKeyspace) → map (λ t. t.name) (meant_tables n ks) ≡ map (λ t. t.name) (all_tables ks)
names_meant n [] = refl
names_meant n (k ∷ ks) =
    map-append (λ t. t.name) (map (meant_table k n) k.tables) (meant_tables (n + 1) ks)
    ∙ rw (names_meant (n + 1) ks) (ap (λ ns. ns ++ map (λ t. t.name) (all_tables ks)) (named k.tables) ∙ sym (map-append (λ t. t.name) k.tables (all_tables ks)))
  where
    named : (ts : List DeclaredTable) → map (λ t. t.name) (map (meant_table k n) ts) ≡ map (λ t. t.name) ts
    named [] = refl
    named (t ∷ ts) = ap (λ ns. t.name ∷ ns) (named ts)

counted : {X Y : Type 0} (b : Bool) (x : X) (xs : List X) (y : Y) (ys : List Y) → length xs ≡ length ys → length (cond b (x ∷ xs) xs) ≡ length (cond b (y ∷ ys) ys)
counted true x xs y ys e = omega (arith, e)
counted false x xs y ys e = e

count_meant : (p : Keyspace → Bool) (ks : List DeclaredKeyspace) → length (filter p (map meant_keyspace ks)) ≡ length (filter (λ k. p (meant_keyspace k)) ks)
count_meant p [] = refl
count_meant p (k ∷ ks) =
    counted (p (meant_keyspace k)) (meant_keyspace k) (filter p (map meant_keyspace ks)) k (filter (λ k. p (meant_keyspace k)) ks) (count_meant p ks)

none_at : {X : Type 0} (p : X → Bool) (xs : List X) → find p xs ≡ None → (n : ℕ) (x : X) → slice_get xs n ≡ Some x → p x ≡ false
none_at p [] e n x at = never x at
none_at p (y ∷ ys) e zero x at = ap p (sym (some_same y x at)) ∙ (unfound (p y) y (find p ys) e).0
none_at p (y ∷ ys) e (suc n) x at = none_at p ys (unfound (p y) y (find p ys) e).1 n x at

no_fault : (ks : List DeclaredKeyspace) → first_fault ks ≡ None → (f : SchemaFault) → has f ks ≡ false
no_fault ks none OutOfMemory = any_never (inside OutOfMemory) (λ k. any_never (table_has OutOfMemory k) (λ t. refl) k.tables) ks
no_fault ks none NotJson = any_never (inside NotJson) (λ k. any_never (table_has NotJson k) (λ t. refl) k.tables) ks
no_fault ks none IllFormed = none_at (λ f. has f ks) faults none 0 IllFormed refl
no_fault ks none UnknownVindex = none_at (λ f. has f ks) faults none 1 UnknownVindex refl
no_fault ks none MissingColumn = none_at (λ f. has f ks) faults none 2 MissingColumn refl
no_fault ks none WrongKeyType = none_at (λ f. has f ks) faults none 3 WrongKeyType refl
no_fault ks none NullableKey = none_at (λ f. has f ks) faults none 4 NullableKey refl
no_fault ks none KeyWithoutVindex = none_at (λ f. has f ks) faults none 5 KeyWithoutVindex refl
no_fault ks none NamedTwice = none_at (λ f. has f ks) faults none 6 NamedTwice refl
no_fault ks none AboveLimit = none_at (λ f. has f ks) faults none 7 AboveLimit refl

keyspace_words : (ks : List DeclaredKeyspace) → list_all good_keyspace ks ≡ true → list_all (λ k. is_word k.name) (map meant_keyspace ks) ≡ true
keyspace_words [] good = refl
keyspace_words (k ∷ ks) good =
    let g = both (good_keyspace k) (list_all good_keyspace ks) good in
    join (both (is_word k.name) (list_all good_table k.tables) g.0).0 (keyspace_words ks g.1)

pub meant_is_formed : (ks : List DeclaredKeyspace) → list_all good_keyspace ks ≡ true → has_twice (map (λ k. k.name) ks) ≡ false → first_fault ks ≡ None → is_formed (meant ks).keyspaces (meant ks).tables ≡ true
meant_is_formed ks good once none =
    let parts = λ (f : SchemaFault). neither (whole_has f ks) (list_any (inside f) ks) (no_fault ks none f) in
    let two_sharded = nat_lt 1 (length (filter (λ k. k.sharded) ks)) in
    let two_unsharded = nat_lt 1 (length (filter (λ k. not k.sharded) ks)) in
    let most = neither (two_sharded || two_unsharded) (nat_lt 256 (length (all_tables ks))) (parts AboveLimit).0 in
    let kinds = neither two_sharded two_unsharded most.0 in
    let some : nat_le 1 (length (map meant_keyspace ks)) ≡ true = ap (nat_le 1) (length-map ks meant_keyspace) ∙ some_there (length ks) (parts IllFormed).0 in
    let sharded : nat_le (length (filter (λ k. k.sharded) (map meant_keyspace ks))) 1 ≡ true =
    ap (λ n. nat_le n 1) (count_meant (λ k. k.sharded) ks) ∙ not_above 1 (length (filter (λ k. k.sharded) ks)) kinds.0 in
    let unsharded : nat_le (length (filter (λ k. not k.sharded) (map meant_keyspace ks))) 1 ≡ true =
    ap (λ n. nat_le n 1) (count_meant (λ k. not k.sharded) ks) ∙ not_above 1 (length (filter (λ k. not k.sharded) ks)) kinds.1 in
    let apart : not (has_twice (map (λ k. k.name) (map meant_keyspace ks))) ≡ true =
    ap (λ ns. not (has_twice ns)) (map-map (λ k. k.name) meant_keyspace ks) ∙ turned (has_twice (map (λ k. k.name) ks)) once in
    let names = names_meant 0 ks in
    let many : length (meant_tables 0 ks) ≡ length (all_tables ks) =
    sym (length-map (meant_tables 0 ks) (λ t. t.name)) ∙ ap length names ∙ length-map (all_tables ks) (λ t. t.name) in
    let tables : nat_le (length (meant_tables 0 ks)) 256 ≡ true = ap (λ n. nat_le n 256) many ∙ not_above 256 (length (all_tables ks)) most.1 in
    let tables_apart : not (has_twice (map (λ t. t.name) (meant_tables 0 ks))) ≡ true =
    ap (λ ns. not (has_twice ns)) names ∙ turned (has_twice (map (λ t. t.name) (all_tables ks))) (parts NamedTwice).0 in
    join (join (join (join (join (join (join some sharded) unsharded) (keyspace_words ks good)) apart) tables) tables_apart)
    (tables_lawful (map meant_keyspace ks) 0 ks refl good (λ f. (parts f).1))
