-- The two laws for whole texts: what is read is in the grammar, and what is in the grammar is read.
use Rattle.std.proofs.Common.{◌≡◌, ◌≤◌, ◌&&◌, nat_le, Bool, true, false, if◌then◌else◌, None, [], ◌∷◌, ◌++◌, Some, refl, sym, ap, subst, ◌∙◌, append_assoc, arith, Option}
use Rattle.std.proofs.lemmas.List.{append-nil}
use Rattle.std.proofs.lemmas.Bool.{leb-true, le-leb, and_parts, not-true}
use Rattle.vt_value.specs.declared.value.Comparison.TheVariants.{Eq}
use Rattle.sql_lexer.specs.declared.token.Keyword.TheVariants as k
use Rattle.sql_lexer.specs.declared.token.Sign.TheVariants.{Semicolon}
use Rattle.sql_lexer.specs.Endings.{is_end}
use Rattle.sql_lexer.specs.Lexemes.{keyword, identifier, text, sign, operator}
use Rattle.sql_lexer.specs.inner.Results.{◌>>=◌}
use Rattle.sql_lexer.proofs.Options.{some_is, bound, guard_some}
use Rattle.sql_tree.specs.declared.CharacterSet.{CharacterSet}
use Rattle.sql_tree.specs.declared.CharacterSet.TheVariants as charset
use Rattle.sql_tree.specs.declared.Select as S
use Rattle.sql_tree.specs.declared.Statement.{Statement}
use Rattle.sql_tree.specs.declared.Statement.TheVariants.{Select, Insert, Update, Delete, Begin, Commit, Rollback}
use Rattle.sql_tree.specs.Literals.{literals_of}
use Rattle.sql_parser.specs.Qualifiers.{qualifies_outside_select}
use Rattle.sql_parser.specs.Grammar.{Lexemes, max_literals, is_setting, ReadsSelect, ReadsCharacterSet, ReadsStatement, ReadsText}
use Rattle.sql_parser.specs.Grammar as g
use Rattle.sql_parser.specs.inner.Reading.{select_at, insert_at, update_at, delete_at, from_at, name_at, charset_at, equals_at, setting_at, control_at, statement_at, is_text, text_at}
use Rattle.sql_parser.proofs.Sound.{Front, glue}
use Rattle.sql_parser.proofs.ClauseLaws.{list_sound, from_is, equals_is, join_sound, where_sound, group_sound, order_sound, limit_sound, list_again, join_again, where_again, group_again, order_again, limit_again}
use Rattle.sql_parser.proofs.LiteralLaws.{name_is}
use Rattle.sql_parser.proofs.WriteLaws.{insert_sound, update_sound, delete_sound, insert_again, update_again, delete_again}
use Rattle.sql_parser.proofs.AfterClause.{AfterClause, earlier, end, semicolon, where_after, group_after, order_after, limit_after}

-- ---- what is read is in the grammar

select_sound : (ts : Lexemes) (x : S.Select × Lexemes) → select_at ts ≡ Some x → Front ReadsSelect (keyword k.Select ∷ ts) x
unfolding select_at
select_sound ts x e =
    bound _ _ _ e (λ list p e1. bound _ _ _ e1 (λ table q e2. bound _ _ _ e2 (λ join v e3. bound _ _ _ e3 (λ filter r e4. bound _ _ _ e4 (λ group s e5.
    bound _ _ _ e5 (λ order t e6. bound _ _ _ e6 (λ limit u e7.
    let f = list_sound ts list p in
    let joins = join_sound table.1 join v in
    let filters = where_sound join.1 filter r in
    let groups = group_sound filter.1 group s in
    let orders = order_sound group.1 order t in
    let limits = limit_sound order.1 limit u in
    let a = glue group.1 orders.front order.1 limits.front limit.1 orders.parts limits.parts in
    let b = glue filter.1 groups.front group.1 (orders.front ++ limits.front) limit.1 groups.parts a in
    let c = glue join.1 filters.front filter.1 (groups.front ++ (orders.front ++ limits.front)) limit.1 filters.parts b in
    let d = glue table.1 joins.front join.1 (filters.front ++ (groups.front ++ (orders.front ++ limits.front))) limit.1 joins.parts c in
    let trailing = keyword k.From ∷ identifier table.0 ∷ joins.front ++ (filters.front ++ (groups.front ++ (orders.front ++ limits.front))) in
    let tail : list.1 ≡ trailing ++ limit.1 = from_is list.1 table q ∙ ap (λ (us : Lexemes). keyword k.From ∷ identifier table.0 ∷ us) d in
    let parts = glue ts f.front list.1 trailing limit.1 f.parts tail in
    subst (Front ReadsSelect (keyword k.Select ∷ ts)) (some_is _ x e7) (record {
      front = keyword k.Select ∷ f.front ++ trailing;
      parts = ap (λ (us : Lexemes). keyword k.Select ∷ us) parts;
      reads = g.select f.reads joins.reads filters.reads groups.reads orders.reads limits.reads;
    }))))))))

charset_sound : (ts : Lexemes) (x : CharacterSet × Lexemes) → charset_at ts ≡ Some x → Front ReadsCharacterSet ts x
unfolding charset_at
charset_sound (identifier bytes ∷ ts) x e =
    subst (Front ReadsCharacterSet (identifier bytes ∷ ts)) (some_is (charset.Identifier bytes, ts) x e)
    (record { front = identifier bytes ∷ []; parts = refl; reads = g.by_identifier bytes })
charset_sound (text bytes ∷ ts) x e =
    subst (Front ReadsCharacterSet (text bytes ∷ ts)) (some_is (charset.Text bytes, ts) x e)
    (record { front = text bytes ∷ []; parts = refl; reads = g.by_text bytes })
charset_sound _ x e = absurd cc

-- what is read where a test is passed
where_passed : {A : Type 0} (b : Bool) (read : Option A) (x : A) → (if b then read else None) ≡ Some x → (b ≡ true) × (read ≡ Some x)
where_passed true read x e = (refl, e)
where_passed false read x e = absurd cc

setting_sound : (ts : Lexemes) (x : Statement × Lexemes) → setting_at ts ≡ Some x → Front ReadsStatement (keyword k.Set ∷ ts) x
unfolding setting_at
setting_sound ts x e =
    bound _ _ _ e (λ name p e1. bound _ _ _ e1 (λ rest q e2. bound _ _ _ e2 (λ set r e3.
    let named = where_passed (is_setting name.0) (equals_at name.1) rest q in
    let f = charset_sound rest set r in
    let trailing : name.1 ≡ operator Eq ∷ f.front ++ set.1 = equals_is name.1 rest named.1 ∙ ap (λ (us : Lexemes). operator Eq ∷ us) f.parts in
    let parts = name_is ts name p ∙ ap (λ (us : Lexemes). identifier name.0 ∷ us) trailing in
    subst (Front ReadsStatement (keyword k.Set ∷ ts)) (some_is _ x e3) (record {
      front = keyword k.Set ∷ identifier name.0 ∷ operator Eq ∷ f.front;
      parts = ap (λ (us : Lexemes). keyword k.Set ∷ us) parts;
      reads = g.set_setting named.0 f.reads;
    }))))

control_sound : (ts : Lexemes) (x : Statement × Lexemes) → control_at ts ≡ Some x → Front ReadsStatement ts x
unfolding control_at
control_sound (keyword k.Begin ∷ ts) x e =
    subst (Front ReadsStatement (keyword k.Begin ∷ ts)) (some_is (Begin, ts) x e) (record { front = keyword k.Begin ∷ []; parts = refl; reads = g.begin })
control_sound (keyword k.Start ∷ keyword k.Transaction ∷ ts) x e =
    subst (Front ReadsStatement (keyword k.Start ∷ keyword k.Transaction ∷ ts)) (some_is (Begin, ts) x e)
    (record { front = keyword k.Start ∷ keyword k.Transaction ∷ []; parts = refl; reads = g.start_transaction })
control_sound (keyword k.Commit ∷ ts) x e =
    subst (Front ReadsStatement (keyword k.Commit ∷ ts)) (some_is (Commit, ts) x e) (record { front = keyword k.Commit ∷ []; parts = refl; reads = g.commit })
control_sound (keyword k.Rollback ∷ ts) x e =
    subst (Front ReadsStatement (keyword k.Rollback ∷ ts)) (some_is (Rollback, ts) x e)
    (record { front = keyword k.Rollback ∷ []; parts = refl; reads = g.rollback })
control_sound (keyword k.Set ∷ keyword k.Names ∷ ts) x e =
    bound _ _ _ e (λ set p e1.
    let f = charset_sound ts set p in
    subst (Front ReadsStatement (keyword k.Set ∷ keyword k.Names ∷ ts)) (some_is _ x e1) (record {
      front = keyword k.Set ∷ keyword k.Names ∷ f.front;
      parts = ap (λ (us : Lexemes). keyword k.Set ∷ keyword k.Names ∷ us) f.parts;
      reads = g.set_names f.reads;
    }))
control_sound (keyword k.Set ∷ ts) x e = setting_sound ts x e
control_sound _ x e = absurd cc

-- a statement of one kind
one_kind : {A : Type 0} (Reads : Lexemes → A → Type 0) (node : A → Statement) → ((us : Lexemes) (y : A) → Reads us y → ReadsStatement us (node y))
    → (ts : Lexemes) (read : Option (A × Lexemes)) → ((y : A × Lexemes) → read ≡ Some y → Front Reads ts y)
    → (x : Statement × Lexemes) → (read >>= λ y. Some (node y.0, y.1)) ≡ Some x → Front ReadsStatement ts x
one_kind Reads node is ts read sound x e =
    bound _ _ _ e (λ y p e1.
    let f = sound y p in
    subst (Front ReadsStatement ts) (some_is _ x e1) (record { front = f.front; parts = f.parts; reads = is f.front y.0 f.reads }))

statement_sound : (ts : Lexemes) (x : Statement × Lexemes) → statement_at ts ≡ Some x → Front ReadsStatement ts x
unfolding statement_at
statement_sound (keyword k.Select ∷ ts) x e =
    one_kind ReadsSelect Select (λ us y r. g.select_is r) (keyword k.Select ∷ ts) (select_at ts) (select_sound ts) x e
statement_sound (keyword k.Insert ∷ keyword k.Into ∷ ts) x e =
    one_kind g.ReadsInsert Insert (λ us y r. g.insert_is r) (keyword k.Insert ∷ keyword k.Into ∷ ts) (insert_at ts) (insert_sound ts) x e
statement_sound (keyword k.Update ∷ ts) x e =
    one_kind g.ReadsUpdate Update (λ us y r. g.update_is r) (keyword k.Update ∷ ts) (update_at ts) (update_sound ts) x e
statement_sound (keyword k.Delete ∷ ts) x e =
    one_kind g.ReadsDelete Delete (λ us y r. g.delete_is r) (keyword k.Delete ∷ ts) (delete_at ts) (delete_sound ts) x e
statement_sound ts x e = control_sound ts x e

all_read : (ts front rest : Lexemes) (x : Statement) → ts ≡ front ++ rest → ReadsStatement front x → is_end rest ≡ true → ReadsText ts x
all_read ts front [] x e r done = subst (λ (us : Lexemes). ReadsText us x) (sym (e ∙ append-nil front)) (g.statement r)
all_read ts front (sign Semicolon ∷ []) x e r done = subst (λ (us : Lexemes). ReadsText us x) (sym e) (g.semicolon r)
all_read ts front _ x e r done = absurd cc

-- a statement within the limits of a text
abbrev pub IsWithin : Statement → Type 0
IsWithin x = (literals_of x ≤ max_literals) × (qualifies_outside_select x ≡ false)

pub text_sound : (ts : Lexemes) (x : Statement) → text_at ts ≡ Some x → ReadsText ts x × IsWithin x
unfolding text_at
text_sound ts x e =
    bound _ _ _ e (λ statement p e1.
    let f = statement_sound ts statement p in
    let b = guard_some (is_text statement) statement.0 x e1 in
    let plain = and_parts (is_end statement.1 && nat_le (literals_of statement.0) max_literals) _ b.0 in
    let both = and_parts (is_end statement.1) _ plain.0 in
    subst (λ (y : Statement). ReadsText ts y × IsWithin y) b.1
    (all_read ts f.front statement.1 statement.0 f.parts f.reads both.0, (leb-true _ _ both.1, not-true _ plain.1)))

-- ---- what is in the grammar is read

select_again : (ts : Lexemes) (x : S.Select) → ReadsSelect ts x → (rest : Lexemes) → AfterClause 4 rest
    → (us : Lexemes) × (ts ++ rest ≡ keyword k.Select ∷ us) × (select_at us ≡ Some (x, rest))
unfolding select_at from_at name_at
select_again _ _ (g.select {list_tokens} {join_tokens} {filter_tokens} {group_tokens} {order_tokens} {limit_tokens} {list} {table} {join} {filter} {group_by} {order_by} {limit} p j q r s t) rest b =
    let b3 = limit_after limit_tokens limit t rest b in
    let b2 = order_after order_tokens order_by s (limit_tokens ++ rest) b3 in
    let b1 = group_after group_tokens group_by r (order_tokens ++ (limit_tokens ++ rest)) b2 in
    let b0 = where_after filter_tokens filter q (group_tokens ++ (order_tokens ++ (limit_tokens ++ rest))) b1 in
    let trailing : Lexemes = join_tokens ++ (filter_tokens ++ (group_tokens ++ (order_tokens ++ (limit_tokens ++ rest)))) in (
      list_tokens ++ keyword k.From ∷ identifier table ∷ trailing,
      simp append_assoc,
      rw (
        list_again list_tokens list p (keyword k.From ∷ identifier table ∷ trailing) refl refl,
        join_again join_tokens join j _ b0,
        where_again filter_tokens filter q _ b1,
        group_again group_tokens group_by r _ b2,
        order_again order_tokens order_by s _ b3,
        limit_again limit_tokens limit t rest b,
      ) refl,
    )

charset_again : (ts : Lexemes) (x : CharacterSet) → ReadsCharacterSet ts x → (rest : Lexemes) → charset_at (ts ++ rest) ≡ Some (x, rest)
unfolding charset_at
charset_again _ _ (g.by_identifier bytes) rest = refl
charset_again _ _ (g.by_text bytes) rest = refl

statement_again : (ts : Lexemes) (x : Statement) → ReadsStatement ts x → (rest : Lexemes) → AfterClause 4 rest → statement_at (ts ++ rest) ≡ Some (x, rest)
unfolding statement_at control_at setting_at name_at equals_at
statement_again _ _ (g.select_is {ts} {s} r) rest b = let m = select_again ts s r rest b in rw (m.1, m.2) refl
statement_again _ _ (g.insert_is {ts} {s} r) rest b = let m = insert_again ts s r rest (earlier 4 0 (omega arith) rest b) in rw (m.1, m.2) refl
statement_again _ _ (g.update_is {ts} {s} r) rest b = let m = update_again ts s r rest (earlier 4 1 (omega arith) rest b) in rw (m.1, m.2) refl
statement_again _ _ (g.delete_is {ts} {s} r) rest b = let m = delete_again ts s r rest (earlier 4 1 (omega arith) rest b) in rw (m.1, m.2) refl
statement_again _ _ g.begin rest b = refl
statement_again _ _ g.start_transaction rest b = refl
statement_again _ _ g.commit rest b = refl
statement_again _ _ g.rollback rest b = refl
statement_again _ _ (g.set_names {ts} {set} r) rest b = rw (charset_again ts set r rest) refl
statement_again _ _ (g.set_setting {name} {ts} {set} named r) rest b = rw (named, charset_again ts set r rest) refl

pub text_again : (ts : Lexemes) (x : Statement) → ReadsText ts x → IsWithin x → text_at ts ≡ Some x
unfolding text_at
text_again _ _ (g.statement {ts} {s} r) within =
    let e : statement_at ts ≡ Some (s, []) = subst (λ (us : Lexemes). statement_at us ≡ Some (s, [])) (append-nil ts) (statement_again ts s r [] end) in
    rw (e, le-leb (literals_of s) max_literals within.0, within.1) refl
text_again _ _ (g.semicolon {ts} {s} r) within =
    rw (statement_again ts s r (sign Semicolon ∷ []) semicolon, le-leb (literals_of s) max_literals within.0, within.1) refl
