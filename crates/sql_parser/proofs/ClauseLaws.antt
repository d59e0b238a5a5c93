-- The two laws for a SELECT's list, for its second table and for the clauses after its tables.
use Rattle.std.proofs.Common.{◌≡◌, ℕ, ◌<◌, ◌^◌, Bool, false, List, [], ◌∷◌, ◌++◌, Option, Some, None, refl, sym, ap, subst, ◌∙◌, append_assoc}
use Rattle.vt_value.specs.declared.value.Comparison.TheVariants.{Eq}
use Rattle.sql_lexer.specs.declared.token.Keyword.{Keyword}
use Rattle.sql_lexer.specs.declared.token.Keyword.TheVariants as k
use Rattle.sql_lexer.specs.declared.token.Sign.TheVariants.{LeftParenthesis, RightParenthesis, Star, Comma}
use Rattle.sql_lexer.specs.Lexemes.{keyword, identifier, number, sign, operator}
use Rattle.sql_lexer.specs.inner.Results.{◌>>=◌}
use Rattle.sql_lexer.proofs.Options.{some_is, bound}
use Rattle.sql_tree.specs.declared.ColumnName.{ColumnName}
use Rattle.sql_tree.specs.declared.JoinOn.{JoinOn}
use Rattle.sql_tree.specs.declared.Condition.{Condition}
use Rattle.sql_tree.specs.declared.Item.{Item}
use Rattle.sql_tree.specs.declared.Item.TheVariants as shown
use Rattle.sql_tree.specs.declared.SelectList.{SelectList}
use Rattle.sql_tree.specs.declared.SelectList.TheVariants.{All, Items}
use Rattle.sql_tree.specs.declared.Key.{Key}
use Rattle.sql_tree.specs.declared.LimitClause.{LimitClause}
use Rattle.sql_tree.specs.Literals.{Name}
use Rattle.sql_parser.specs.Grammar.{Lexemes, Listed, Optional, call, max_depth, ReadsColumn, ReadsItem, ReadsList, ReadsJoin, ReadsWhere, ReadsGroup, ReadsKey, ReadsOrder, ReadsLimit}
use Rattle.sql_parser.specs.Grammar as g
use Rattle.sql_parser.specs.inner.Reading.{is_comma, after_at, listed_at, name_at, column_at, open_at, close_at, argument_at, count_at, item_at, list_at, from_at, on_at, equals_at, joined_on_at, join_at, where_at, group_at, direction_at, sort_key_at, order_at, offset_at, limit_at}
use Rattle.sql_parser.proofs.Sound.{Front, glue, listed_sound}
use Rattle.sql_parser.proofs.Again.{listed_again}
use Rattle.sql_parser.proofs.LiteralLaws.{NoDot, name_is, number_is, number_again, open_is, close_is, column_sound, column_again}
use Rattle.sql_parser.proofs.ConditionsSound.{or_sound}
use Rattle.sql_parser.proofs.ConditionsAgain.{or_again}
use Rattle.sql_parser.proofs.AfterClause.{AfterClause, no_comma, no_and, no_or, no_dot, no_join, no_where, no_group, no_order, no_limit, no_direction, no_offset}

-- ---- what is read is in the grammar

-- what is read of a column in parentheses
record Argument (ts : Lexemes) (x : ColumnName × Lexemes) : Type 0 where
  inside : Lexemes
  parts : ts ≡ (sign LeftParenthesis ∷ inside ++ sign RightParenthesis ∷ []) ++ x.1
  reads : ReadsColumn inside x.0

argument_sound : (ts : Lexemes) (x : ColumnName × Lexemes) → argument_at ts ≡ Some x → Argument ts x
unfolding argument_at
argument_sound ts x e =
    bound _ _ _ e (λ inside p e1. bound _ _ _ e1 (λ column q e2. bound _ _ _ e2 (λ rest r e3.
    let f = column_sound inside column q in
    let tail : column.1 ≡ (sign RightParenthesis ∷ []) ++ rest = close_is column.1 rest r in
    let parts = glue inside f.front column.1 (sign RightParenthesis ∷ []) rest f.parts tail in
    subst (Argument ts) (some_is _ x e3) (record {
      inside = f.front;
      parts = open_is ts inside p ∙ ap (λ (us : Lexemes). sign LeftParenthesis ∷ us) parts;
      reads = f.reads;
    }))))

-- an aggregate of a column
aggregate_sound : (f : Keyword) (node : ColumnName → Item ColumnName) → ((us : Lexemes) (c : ColumnName) → ReadsColumn us c → ReadsItem (call f us) (node c))
    → (ts : Lexemes) (x : Item ColumnName × Lexemes) → (argument_at ts >>= λ column. Some (node column.0, column.1)) ≡ Some x → Front ReadsItem (keyword f ∷ ts) x
aggregate_sound f node is ts x e =
    bound _ _ _ e (λ column p e1.
    let a = argument_sound ts column p in
    subst (Front ReadsItem (keyword f ∷ ts)) (some_is _ x e1) (record {
      front = call f a.inside;
      parts = ap (λ (us : Lexemes). keyword f ∷ us) a.parts;
      reads = is a.inside column.0 a.reads;
    }))

count_sound : (ts : Lexemes) (x : Item ColumnName × Lexemes) → count_at ts ≡ Some x → Front ReadsItem (keyword k.Count ∷ ts) x
unfolding count_at
count_sound (sign LeftParenthesis ∷ sign Star ∷ sign RightParenthesis ∷ ts) x e =
    subst (Front ReadsItem (keyword k.Count ∷ sign LeftParenthesis ∷ sign Star ∷ sign RightParenthesis ∷ ts)) (some_is (shown.CountRows, ts) x e)
    (record { front = call k.Count (sign Star ∷ []); parts = refl; reads = g.count_rows })
count_sound ts x e = aggregate_sound k.Count shown.Count (λ us c r. g.count_item r) ts x e

column_item_sound : (ts : Lexemes) (x : Item ColumnName × Lexemes)
    → (column_at ts >>= λ column. Some (shown.Column column.0, column.1)) ≡ Some x → Front ReadsItem ts x
column_item_sound ts x e =
    bound _ _ _ e (λ column p e1.
    let f = column_sound ts column p in
    subst (Front ReadsItem ts) (some_is _ x e1) (record { front = f.front; parts = f.parts; reads = g.column_item f.reads }))

pub item_sound : (ts : Lexemes) (x : Item ColumnName × Lexemes) → item_at ts ≡ Some x → Front ReadsItem ts x
unfolding item_at
item_sound (keyword k.Count ∷ ts) x e = count_sound ts x e
item_sound (keyword k.Sum ∷ ts) x e = aggregate_sound k.Sum shown.Sum (λ us c r. g.sum_item r) ts x e
item_sound (keyword k.Min ∷ ts) x e = aggregate_sound k.Min shown.Min (λ us c r. g.min_item r) ts x e
item_sound (keyword k.Max ∷ ts) x e = aggregate_sound k.Max shown.Max (λ us c r. g.max_item r) ts x e
item_sound ts x e = column_item_sound ts x e

items_sound : (ts : Lexemes) (x : SelectList × Lexemes) → (listed_at item_at ts >>= λ items. Some (Items items.0, items.1)) ≡ Some x
    → Front ReadsList ts x
items_sound ts x e =
    bound _ _ _ e (λ items p e1.
    let f = listed_sound item_at ReadsItem item_sound ts items p in
    subst (Front ReadsList ts) (some_is _ x e1) (record { front = f.front; parts = f.parts; reads = g.listed f.reads }))

pub list_sound : (ts : Lexemes) (x : SelectList × Lexemes) → list_at ts ≡ Some x → Front ReadsList ts x
unfolding list_at
list_sound (sign Star ∷ ts) x e =
    subst (Front ReadsList (sign Star ∷ ts)) (some_is (All, ts) x e) (record { front = sign Star ∷ []; parts = refl; reads = g.star })
list_sound ts x e = items_sound ts x e

pub from_is : (ts : Lexemes) (x : Name × Lexemes) → from_at ts ≡ Some x → ts ≡ keyword k.From ∷ identifier x.0 ∷ x.1
unfolding from_at
from_is (keyword k.From ∷ ts) x e = ap (λ (us : Lexemes). keyword k.From ∷ us) (name_is ts x e)
from_is _ x e = absurd cc

on_is : (ts rest : Lexemes) → on_at ts ≡ Some rest → ts ≡ keyword k.On ∷ rest
unfolding on_at
on_is (keyword k.On ∷ ts) rest e = ap (λ (us : Lexemes). keyword k.On ∷ us) (some_is ts rest e)
on_is _ rest e = absurd cc

pub equals_is : (ts rest : Lexemes) → equals_at ts ≡ Some rest → ts ≡ operator Eq ∷ rest
unfolding equals_at
equals_is (operator Eq ∷ ts) rest e = ap (λ (us : Lexemes). operator Eq ∷ us) (some_is ts rest e)
equals_is _ rest e = absurd cc

-- what is read after JOIN
record Joins (ts : Lexemes) (x : JoinOn × Lexemes) : Type 0 where
  left : Lexemes
  right : Lexemes
  parts : ts ≡ (identifier x.0.table ∷ keyword k.On ∷ left ++ operator Eq ∷ right) ++ x.1
  reads_left : ReadsColumn left x.0.left
  reads_right : ReadsColumn right x.0.right

joined_on_sound : (ts : Lexemes) (x : JoinOn × Lexemes) → joined_on_at ts ≡ Some x → Joins ts x
unfolding joined_on_at
joined_on_sound ts x e =
    bound _ _ _ e (λ table p e1. bound _ _ _ e1 (λ rest q e2. bound _ _ _ e2 (λ left r e3. bound _ _ _ e3 (λ trailing s e4.
    bound _ _ _ e4 (λ right t e5.
    let a = column_sound rest left r in
    let b = column_sound trailing right t in
    let tail : left.1 ≡ (operator Eq ∷ b.front) ++ right.1 = equals_is left.1 trailing s ∙ ap (λ (us : Lexemes). operator Eq ∷ us) b.parts in
    let columns = glue rest a.front left.1 (operator Eq ∷ b.front) right.1 a.parts tail in
    let on = on_is table.1 rest q ∙ ap (λ (us : Lexemes). keyword k.On ∷ us) columns in
    subst (Joins ts) (some_is _ x e5) (record {
      left = a.front;
      right = b.front;
      parts = name_is ts table p ∙ ap (λ (us : Lexemes). identifier table.0 ∷ us) on;
      reads_left = a.reads;
      reads_right = b.reads;
    }))))))

pub join_sound : (ts : Lexemes) (x : Option JoinOn × Lexemes) → join_at ts ≡ Some x → Front (Optional ReadsJoin) ts x
unfolding join_at
join_sound (keyword k.Join ∷ ts) x e =
    bound _ _ _ e (λ y p e1.
    let j = joined_on_sound ts y p in
    subst (Front (Optional ReadsJoin) (keyword k.Join ∷ ts)) (some_is _ x e1) (record {
      front = keyword k.Join ∷ identifier y.0.table ∷ keyword k.On ∷ j.left ++ operator Eq ∷ j.right;
      parts = ap (λ (us : Lexemes). keyword k.Join ∷ us) j.parts;
      reads = g.present (g.join j.reads_left j.reads_right);
    }))
join_sound (keyword k.Inner ∷ keyword k.Join ∷ ts) x e =
    bound _ _ _ e (λ y p e1.
    let j = joined_on_sound ts y p in
    subst (Front (Optional ReadsJoin) (keyword k.Inner ∷ keyword k.Join ∷ ts)) (some_is _ x e1) (record {
      front = keyword k.Inner ∷ keyword k.Join ∷ identifier y.0.table ∷ keyword k.On ∷ j.left ++ operator Eq ∷ j.right;
      parts = ap (λ (us : Lexemes). keyword k.Inner ∷ keyword k.Join ∷ us) j.parts;
      reads = g.present (g.inner_join j.reads_left j.reads_right);
    }))
join_sound ts x e = subst (Front (Optional ReadsJoin) ts) (some_is (None, ts) x e) (record { front = []; parts = refl; reads = g.absent })

pub where_sound : (ts : Lexemes) (x : Option (Condition ColumnName) × Lexemes) → where_at ts ≡ Some x → Front (Optional ReadsWhere) ts x
unfolding where_at
where_sound (keyword k.Where ∷ ts) x e =
    bound _ _ _ e (λ y p e1.
    let f = or_sound max_depth ts y p in
    subst (Front (Optional ReadsWhere) (keyword k.Where ∷ ts)) (some_is _ x e1)
    (record { front = keyword k.Where ∷ f.front; parts = ap (λ (us : Lexemes). keyword k.Where ∷ us) f.parts; reads = g.present (g.filter f.reads) }))
where_sound ts x e = subst (Front (Optional ReadsWhere) ts) (some_is (None, ts) x e) (record { front = []; parts = refl; reads = g.absent })

-- two words and a list
clause_sound : {A : Type 0} (f h : Keyword) (Item : Lexemes → A → Type 0) (ts : Lexemes) (x : List A × Lexemes) → Front (Listed Item) ts x
    → Front (g.Clause (keyword f ∷ keyword h ∷ []) Item) (keyword f ∷ keyword h ∷ ts) x
clause_sound f h Item ts x front = record {
  front = keyword f ∷ keyword h ∷ front.front;
  parts = ap (λ (us : Lexemes). keyword f ∷ keyword h ∷ us) front.parts;
  reads = g.clause front.reads;
}

no_clause : {A : Type 0} (words : Lexemes) (Item : Lexemes → A → Type 0) (ts : Lexemes) (x : List A × Lexemes) → ◌≡◌ {A = Option (List A × Lexemes)} (Some ([], ts)) (Some x)
    → Front (g.Clause words Item) ts x
no_clause words Item ts x e = subst (Front (g.Clause words Item) ts) (some_is ([], ts) x e) (record { front = []; parts = refl; reads = g.without })

pub group_sound : (ts : Lexemes) (x : List ColumnName × Lexemes) → group_at ts ≡ Some x → Front ReadsGroup ts x
unfolding group_at
group_sound (keyword k.Group ∷ keyword k.By ∷ ts) x e = clause_sound k.Group k.By ReadsColumn ts x (listed_sound column_at ReadsColumn column_sound ts x e)
group_sound ts x e = no_clause (keyword k.Group ∷ keyword k.By ∷ []) ReadsColumn ts x e

-- what is read of a key whose column has these tokens, and of its direction after them
record Direction (column_tokens : Lexemes) (c : ColumnName) (ts : Lexemes) (x : Bool × Lexemes) : Type 0 where
  front : Lexemes
  parts : column_tokens ++ ts ≡ front ++ x.1
  reads : ReadsKey front (record { column = c; descending = x.0 })

direction_sound : (us : Lexemes) (c : ColumnName) → ReadsColumn us c → (ts : Lexemes) → Direction us c ts (direction_at ts)
unfolding direction_at
direction_sound us c r (keyword k.Asc ∷ ts) =
    record { front = us ++ keyword k.Asc ∷ []; parts = sym (append_assoc us (keyword k.Asc ∷ []) ts); reads = g.ascending_key r }
direction_sound us c r (keyword k.Desc ∷ ts) =
    record { front = us ++ keyword k.Desc ∷ []; parts = sym (append_assoc us (keyword k.Desc ∷ []) ts); reads = g.descending_key r }
direction_sound us c r ts = record { front = us; parts = refl; reads = g.plain_key r }

pub key_sound : (ts : Lexemes) (x : Key ColumnName × Lexemes) → sort_key_at ts ≡ Some x → Front ReadsKey ts x
unfolding sort_key_at
key_sound ts x e =
    bound _ _ _ e (λ column p e1.
    let f = column_sound ts column p in
    let d = direction_sound f.front column.0 f.reads column.1 in
    subst (Front ReadsKey ts) (some_is _ x e1) (record { front = d.front; parts = f.parts ∙ d.parts; reads = d.reads }))

pub order_sound : (ts : Lexemes) (x : List (Key ColumnName) × Lexemes) → order_at ts ≡ Some x → Front ReadsOrder ts x
unfolding order_at
order_sound (keyword k.Order ∷ keyword k.By ∷ ts) x e = clause_sound k.Order k.By ReadsKey ts x (listed_sound sort_key_at ReadsKey key_sound ts x e)
order_sound ts x e = no_clause (keyword k.Order ∷ keyword k.By ∷ []) ReadsKey ts x e

-- what is read of an OFFSET after a count
pub record Offset (n : ℕ) (ts : Lexemes) (x : ℕ × Lexemes) : Type 0 where
  pub front : Lexemes
  pub parts : ts ≡ front ++ x.1
  pub reads : ReadsLimit (keyword k.Limit ∷ number n ∷ front) (record { count = n; offset = x.0 })

offset_sound : (n : ℕ) → n < 2 ^ 64 → (ts : Lexemes) (x : ℕ × Lexemes) → offset_at ts ≡ Some x → Offset n ts x
unfolding offset_at
offset_sound n lt (keyword k.Offset ∷ ts) x e =
    let size = number_is ts x e in
    record {
      front = keyword k.Offset ∷ number x.0 ∷ [];
      parts = ap (λ (us : Lexemes). keyword k.Offset ∷ us) size.1;
      reads = g.offset n x.0 lt size.0;
    }
offset_sound n lt ts x e = subst (Offset n ts) (some_is (0, ts) x e) (record { front = []; parts = refl; reads = g.limit n lt })

pub limit_sound : (ts : Lexemes) (x : Option LimitClause × Lexemes) → limit_at ts ≡ Some x → Front (Optional ReadsLimit) ts x
unfolding limit_at
limit_sound (keyword k.Limit ∷ ts) x e =
    bound _ _ _ e (λ count p e1. bound _ _ _ e1 (λ offset q e2.
    let size = number_is ts count p in
    let f = offset_sound count.0 size.0 count.1 offset q in
    subst (Front (Optional ReadsLimit) (keyword k.Limit ∷ ts)) (some_is _ x e2) (record {
      front = keyword k.Limit ∷ number count.0 ∷ f.front;
      parts = ap (λ (us : Lexemes). keyword k.Limit ∷ us) (size.1 ∙ ap (λ (us : Lexemes). number count.0 ∷ us) f.parts);
      reads = g.present f.reads;
    })))
limit_sound ts x e = subst (Front (Optional ReadsLimit) ts) (some_is (None, ts) x e) (record { front = []; parts = refl; reads = g.absent })

-- ---- what is in the grammar is read

argument_again : (ts : Lexemes) (c : ColumnName) → ReadsColumn ts c → (rest : Lexemes)
    → argument_at ((sign LeftParenthesis ∷ ts ++ sign RightParenthesis ∷ []) ++ rest) ≡ Some (c, rest)
unfolding argument_at open_at close_at
argument_again ts c r rest = rw (append_assoc ts (sign RightParenthesis ∷ []) rest, column_again ts c r (sign RightParenthesis ∷ rest) refl) refl

pub item_again : (ts : Lexemes) (x : Item ColumnName) → ReadsItem ts x → (rest : Lexemes) → NoDot rest → item_at (ts ++ rest) ≡ Some (x, rest)
unfolding item_at count_at
item_again _ _ (g.column_item (g.bare bytes)) rest none = rw (column_again _ _ (g.bare bytes) rest none) refl
item_again _ _ (g.column_item (g.qualified table bytes)) rest none = rw (column_again _ _ (g.qualified table bytes) rest none) refl
item_again _ _ g.count_rows rest none = refl
item_again _ _ (g.count_item (g.bare bytes)) rest none = rw (argument_again _ _ (g.bare bytes) rest) refl
item_again _ _ (g.count_item (g.qualified table bytes)) rest none = rw (argument_again _ _ (g.qualified table bytes) rest) refl
item_again _ _ (g.sum_item {ts} {c} r) rest none = rw (argument_again ts c r rest) refl
item_again _ _ (g.min_item {ts} {c} r) rest none = rw (argument_again ts c r rest) refl
item_again _ _ (g.max_item {ts} {c} r) rest none = rw (argument_again ts c r rest) refl

items_again : (ts : Lexemes) (xs : List (Item ColumnName)) → Listed ReadsItem ts xs → (rest : Lexemes) → NoDot rest → after_at is_comma rest ≡ None
    → listed_at item_at (ts ++ rest) ≡ Some (xs, rest)
items_again = listed_again item_at ReadsItem NoDot (λ ts. refl) item_again

-- an item is no star
begins_item : (ts us : Lexemes) (x : Item ColumnName) → ReadsItem ts x → list_at (ts ++ us) ≡ (listed_at item_at (ts ++ us) >>= λ items. Some (Items items.0, items.1))
unfolding list_at
begins_item _ us _ (g.column_item (g.bare bytes)) = refl
begins_item _ us _ (g.column_item (g.qualified table bytes)) = refl
begins_item _ us _ g.count_rows = refl
begins_item _ us _ (g.count_item r) = refl
begins_item _ us _ (g.sum_item r) = refl
begins_item _ us _ (g.min_item r) = refl
begins_item _ us _ (g.max_item r) = refl

pub list_again : (ts : Lexemes) (x : SelectList) → ReadsList ts x → (rest : Lexemes) → NoDot rest → after_at is_comma rest ≡ None
    → list_at (ts ++ rest) ≡ Some (x, rest)
unfolding list_at
list_again _ _ g.star rest dot none = refl
list_again _ _ (g.listed (g.items {ts} {us} {x} {xs} r s)) rest dot none =
    let all : listed_at item_at (ts ++ (us ++ rest)) ≡ Some (x ∷ xs, rest) =
    rw (← append_assoc ts us rest) (items_again (ts ++ us) (x ∷ xs) (g.items r s) rest dot none) in
    rw (append_assoc ts us rest) (begins_item ts (us ++ rest) x r ∙ rw all refl)

joined_on_again : (table : Name) (ts us : Lexemes) (left right : ColumnName) → ReadsColumn ts left → ReadsColumn us right → (rest : Lexemes) → NoDot rest
    → joined_on_at ((identifier table ∷ keyword k.On ∷ ts ++ operator Eq ∷ us) ++ rest) ≡ Some (record { table = table; left = left; right = right }, rest)
unfolding joined_on_at name_at on_at equals_at
joined_on_again table ts us left right r s rest none =
    rw (append_assoc ts (operator Eq ∷ us) rest, column_again ts left r (operator Eq ∷ us ++ rest) refl, column_again us right s rest none) refl

pub join_again : (us : Lexemes) (x : Option JoinOn) → Optional ReadsJoin us x → (rest : Lexemes) → AfterClause 0 rest → join_at (us ++ rest) ≡ Some (x, rest)
unfolding join_at
join_again _ _ g.absent rest b = no_join rest b
join_again _ _ (g.present (g.join {table} {ts} {us} {left} {right} r s)) rest b =
    rw (joined_on_again table ts us left right r s rest (no_dot rest b)) refl
join_again _ _ (g.present (g.inner_join {table} {ts} {us} {left} {right} r s)) rest b =
    rw (joined_on_again table ts us left right r s rest (no_dot rest b)) refl

pub where_again : (us : Lexemes) (x : Option (Condition ColumnName)) → Optional ReadsWhere us x → (rest : Lexemes) → AfterClause 1 rest → where_at (us ++ rest) ≡ Some (x, rest)
unfolding where_at
where_again _ _ g.absent rest b = no_where rest b
where_again _ _ (g.present (g.filter {ts} {x} r)) rest b = rw (or_again max_depth ts x r rest (no_and rest b, no_dot rest b) (no_or rest b)) refl

pub group_again : (us : Lexemes) (x : List ColumnName) → ReadsGroup us x → (rest : Lexemes) → AfterClause 2 rest → group_at (us ++ rest) ≡ Some (x, rest)
unfolding group_at
group_again _ _ g.without rest b = no_group rest b
group_again _ _ (g.clause {ts} {xs} r) rest b = listed_again column_at ReadsColumn NoDot (λ ts. refl) column_again ts xs r rest (no_dot rest b) (no_comma rest b)

-- where a key may end
abbrev EndsKey : Lexemes → Type 0
EndsKey rest = (direction_at rest ≡ (false, rest)) × NoDot rest

key_again : (ts : Lexemes) (x : Key ColumnName) → ReadsKey ts x → (rest : Lexemes) → EndsKey rest → sort_key_at (ts ++ rest) ≡ Some (x, rest)
unfolding sort_key_at direction_at
key_again _ _ (g.plain_key {ts} {c} r) rest ends = rw (column_again ts c r rest ends.1, ends.0) refl
key_again _ _ (g.ascending_key {ts} {c} r) rest ends =
    rw (append_assoc ts (keyword k.Asc ∷ []) rest, column_again ts c r (keyword k.Asc ∷ rest) refl) refl
key_again _ _ (g.descending_key {ts} {c} r) rest ends =
    rw (append_assoc ts (keyword k.Desc ∷ []) rest, column_again ts c r (keyword k.Desc ∷ rest) refl) refl

comma_ends : (ts : Lexemes) → EndsKey (sign Comma ∷ ts)
unfolding direction_at
comma_ends ts = (refl, refl)

pub order_again : (us : Lexemes) (x : List (Key ColumnName)) → ReadsOrder us x → (rest : Lexemes) → AfterClause 3 rest → order_at (us ++ rest) ≡ Some (x, rest)
unfolding order_at
order_again _ _ g.without rest b = no_order rest b
order_again _ _ (g.clause {ts} {xs} r) rest b =
    listed_again sort_key_at ReadsKey EndsKey comma_ends key_again ts xs r rest (no_direction rest b, no_dot rest b) (no_comma rest b)

pub limit_again : (us : Lexemes) (x : Option LimitClause) → Optional ReadsLimit us x → (rest : Lexemes) → AfterClause 4 rest → limit_at (us ++ rest) ≡ Some (x, rest)
unfolding limit_at offset_at
limit_again _ _ g.absent rest b = no_limit rest b
limit_again _ _ (g.present (g.limit n lt)) rest b = rw (number_again n lt rest, no_offset rest b) refl
limit_again _ _ (g.present (g.offset n m lt lt2)) rest b = rw (number_again n lt (keyword k.Offset ∷ number m ∷ rest), number_again m lt2 rest) refl
