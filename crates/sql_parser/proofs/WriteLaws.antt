-- The two laws for INSERT, UPDATE and DELETE.
use Rattle.std.proofs.Common.{◌≡◌, List, [], ◌∷◌, ◌++◌, Option, Some, None, refl, ap, subst, ◌∙◌, append_assoc}
use Rattle.vt_value.specs.declared.value.Comparison.TheVariants.{Eq}
use Rattle.sql_lexer.specs.declared.token.Keyword.TheVariants as k
use Rattle.sql_lexer.specs.declared.token.Sign.TheVariants.{LeftParenthesis}
use Rattle.sql_lexer.specs.Lexemes.{keyword, identifier, sign, operator}
use Rattle.sql_lexer.proofs.Options.{some_is, bound}
use Rattle.sql_tree.specs.declared.Assignment.{Assignment}
use Rattle.sql_tree.specs.declared.Insert.{Insert}
use Rattle.sql_tree.specs.declared.Update.{Update}
use Rattle.sql_tree.specs.declared.Delete.{Delete}
use Rattle.sql_tree.specs.Literals.{Name}
use Rattle.sql_parser.specs.Grammar.{Lexemes, Listed, Bracketed, Optional, ReadsName, ReadsLiteral, ReadsAssignment, ReadsInsert, ReadsUpdate, ReadsDelete}
use Rattle.sql_parser.specs.Grammar as g
use Rattle.sql_parser.specs.inner.Reading.{is_comma, after_at, listed_at, members_at, name_at, from_at, columns_at, values_at, set_at, equals_at, assignment_at, insert_at, update_at, delete_at}
use Rattle.sql_parser.proofs.Sound.{Front, glue, listed_sound}
use Rattle.sql_parser.proofs.Again.{listed_again}
use Rattle.sql_parser.proofs.LiteralLaws.{name_is, name_sound, name_again, literal_sound, literal_again, bracketed_sound, bracketed_again, members_sound, members_again}
use Rattle.sql_parser.proofs.ClauseLaws.{from_is, equals_is, where_sound, where_again}
use Rattle.sql_parser.proofs.AfterClause.{AfterClause, no_comma, where_after}

-- ---- what is read is in the grammar

columns_sound : (ts : Lexemes) (x : Option (List Name) × Lexemes) → columns_at ts ≡ Some x → Front (Optional (Bracketed ReadsName)) ts x
unfolding columns_at
columns_sound (sign LeftParenthesis ∷ ts) x e =
    bound _ _ _ e (λ names p e1.
    let f = bracketed_sound name_at ReadsName name_sound (sign LeftParenthesis ∷ ts) names p in
    subst (Front (Optional (Bracketed ReadsName)) (sign LeftParenthesis ∷ ts)) (some_is _ x e1)
    (record { front = f.front; parts = f.parts; reads = g.present f.reads }))
columns_sound ts x e = subst (Front (Optional (Bracketed ReadsName)) ts) (some_is (None, ts) x e) (record { front = []; parts = refl; reads = g.absent })

values_is : (ts rest : Lexemes) → values_at ts ≡ Some rest → ts ≡ keyword k.Values ∷ rest
unfolding values_at
values_is (keyword k.Values ∷ ts) rest e = ap (λ (us : Lexemes). keyword k.Values ∷ us) (some_is ts rest e)
values_is _ rest e = absurd cc

set_is : (ts rest : Lexemes) → set_at ts ≡ Some rest → ts ≡ keyword k.Set ∷ rest
unfolding set_at
set_is (keyword k.Set ∷ ts) rest e = ap (λ (us : Lexemes). keyword k.Set ∷ us) (some_is ts rest e)
set_is _ rest e = absurd cc

pub insert_sound : (ts : Lexemes) (x : Insert × Lexemes) → insert_at ts ≡ Some x → Front ReadsInsert (keyword k.Insert ∷ keyword k.Into ∷ ts) x
unfolding insert_at
insert_sound ts x e =
    bound _ _ _ e (λ table p e1. bound _ _ _ e1 (λ columns q e2. bound _ _ _ e2 (λ values r e3. bound _ _ _ e3 (λ rows s e4.
    let f = columns_sound table.1 columns q in
    let h = listed_sound members_at (Bracketed ReadsLiteral) members_sound values rows s in
    let tail : columns.1 ≡ (keyword k.Values ∷ h.front) ++ rows.1 = values_is columns.1 values r ∙ ap (λ (us : Lexemes). keyword k.Values ∷ us) h.parts in
    let trailing = glue table.1 f.front columns.1 (keyword k.Values ∷ h.front) rows.1 f.parts tail in
    let parts = name_is ts table p ∙ ap (λ (us : Lexemes). identifier table.0 ∷ us) trailing in
    subst (Front ReadsInsert (keyword k.Insert ∷ keyword k.Into ∷ ts)) (some_is _ x e4) (record {
      front = keyword k.Insert ∷ keyword k.Into ∷ identifier table.0 ∷ f.front ++ (keyword k.Values ∷ h.front);
      parts = ap (λ (us : Lexemes). keyword k.Insert ∷ keyword k.Into ∷ us) parts;
      reads = g.insert f.reads h.reads;
    })))))

pub assignment_sound : (ts : Lexemes) (x : Assignment Name × Lexemes) → assignment_at ts ≡ Some x → Front ReadsAssignment ts x
unfolding assignment_at
assignment_sound ts x e =
    bound _ _ _ e (λ column p e1. bound _ _ _ e1 (λ rest q e2. bound _ _ _ e2 (λ value r e3.
    let f = literal_sound rest value r in
    let trailing : column.1 ≡ operator Eq ∷ f.front ++ value.1 = equals_is column.1 rest q ∙ ap (λ (us : Lexemes). operator Eq ∷ us) f.parts in
    subst (Front ReadsAssignment ts) (some_is _ x e3) (record {
      front = identifier column.0 ∷ operator Eq ∷ f.front;
      parts = name_is ts column p ∙ ap (λ (us : Lexemes). identifier column.0 ∷ us) trailing;
      reads = g.assignment column.0 f.reads;
    }))))

pub update_sound : (ts : Lexemes) (x : Update × Lexemes) → update_at ts ≡ Some x → Front ReadsUpdate (keyword k.Update ∷ ts) x
unfolding update_at
update_sound ts x e =
    bound _ _ _ e (λ table p e1. bound _ _ _ e1 (λ rest q e2. bound _ _ _ e2 (λ assignments r e3. bound _ _ _ e3 (λ filter s e4.
    let f = listed_sound assignment_at ReadsAssignment assignment_sound rest assignments r in
    let h = where_sound assignments.1 filter s in
    let trailing = glue rest f.front assignments.1 h.front filter.1 f.parts h.parts in
    let set : table.1 ≡ keyword k.Set ∷ (f.front ++ h.front) ++ filter.1 = set_is table.1 rest q ∙ ap (λ (us : Lexemes). keyword k.Set ∷ us) trailing in
    let parts = name_is ts table p ∙ ap (λ (us : Lexemes). identifier table.0 ∷ us) set in
    subst (Front ReadsUpdate (keyword k.Update ∷ ts)) (some_is _ x e4) (record {
      front = keyword k.Update ∷ identifier table.0 ∷ keyword k.Set ∷ f.front ++ h.front;
      parts = ap (λ (us : Lexemes). keyword k.Update ∷ us) parts;
      reads = g.update f.reads h.reads;
    })))))

pub delete_sound : (ts : Lexemes) (x : Delete × Lexemes) → delete_at ts ≡ Some x → Front ReadsDelete (keyword k.Delete ∷ ts) x
unfolding delete_at
delete_sound ts x e =
    bound _ _ _ e (λ table p e1. bound _ _ _ e1 (λ filter q e2.
    let h = where_sound table.1 filter q in
    let parts = from_is ts table p ∙ ap (λ (us : Lexemes). keyword k.From ∷ identifier table.0 ∷ us) h.parts in
    subst (Front ReadsDelete (keyword k.Delete ∷ ts)) (some_is _ x e2) (record {
      front = keyword k.Delete ∷ keyword k.From ∷ identifier table.0 ∷ h.front;
      parts = ap (λ (us : Lexemes). keyword k.Delete ∷ us) parts;
      reads = g.delete h.reads;
    })))

-- ---- what is in the grammar is read

columns_again : (ts : Lexemes) (x : Option (List Name)) → Optional (Bracketed ReadsName) ts x → (rest : Lexemes)
    → columns_at (ts ++ keyword k.Values ∷ rest) ≡ Some (x, keyword k.Values ∷ rest)
unfolding columns_at
columns_again _ _ g.absent rest = refl
columns_again _ _ (g.present (g.brackets {ts} {xs} r)) rest =
    rw (bracketed_again name_at ReadsName name_again _ xs (g.brackets r) (keyword k.Values ∷ rest)) refl

rows_again : (ts : Lexemes) (xs : _) → Listed (Bracketed ReadsLiteral) ts xs → (rest : Lexemes) → after_at is_comma rest ≡ None
    → listed_at members_at (ts ++ rest) ≡ Some (xs, rest)
rows_again ts xs r rest none =
    listed_again members_at (Bracketed ReadsLiteral) (λ _. Unit {0}) (λ _. tt) (λ us y q rest h. members_again us y q rest) ts xs r rest tt none

pub insert_again : (ts : Lexemes) (x : Insert) → ReadsInsert ts x → (rest : Lexemes) → AfterClause 0 rest
    → (us : Lexemes) × (ts ++ rest ≡ keyword k.Insert ∷ keyword k.Into ∷ us) × (insert_at us ≡ Some (x, rest))
unfolding insert_at name_at values_at
insert_again _ _ (g.insert {column_tokens} {row_tokens} {table} {columns} {rows} p q) rest b = (
  identifier table ∷ column_tokens ++ (keyword k.Values ∷ row_tokens ++ rest),
  simp append_assoc,
  rw (columns_again column_tokens columns p (row_tokens ++ rest), rows_again row_tokens rows q rest (no_comma rest b)) refl,
)

assignment_again : (ts : Lexemes) (x : Assignment Name) → ReadsAssignment ts x → (rest : Lexemes) → assignment_at (ts ++ rest) ≡ Some (x, rest)
unfolding assignment_at name_at equals_at
assignment_again _ _ (g.assignment bytes {ts} {v} r) rest = rw (literal_again ts v r rest) refl

assignments_again : (ts : Lexemes) (xs : List (Assignment Name)) → Listed ReadsAssignment ts xs → (rest : Lexemes) → after_at is_comma rest ≡ None
    → listed_at assignment_at (ts ++ rest) ≡ Some (xs, rest)
assignments_again ts xs r rest none =
    listed_again assignment_at ReadsAssignment (λ _. Unit {0}) (λ _. tt) (λ us y q rest h. assignment_again us y q rest) ts xs r rest tt none

pub update_again : (ts : Lexemes) (x : Update) → ReadsUpdate ts x → (rest : Lexemes) → AfterClause 1 rest
    → (us : Lexemes) × (ts ++ rest ≡ keyword k.Update ∷ us) × (update_at us ≡ Some (x, rest))
unfolding update_at name_at set_at
update_again _ _ (g.update {assignment_tokens} {filter_tokens} {table} {assignments} {filter} p q) rest b =
    let none = no_comma (filter_tokens ++ rest) (where_after filter_tokens filter q rest b) in (
      identifier table ∷ keyword k.Set ∷ assignment_tokens ++ (filter_tokens ++ rest),
      simp append_assoc,
      rw (assignments_again assignment_tokens assignments p (filter_tokens ++ rest) none, where_again filter_tokens filter q rest b) refl,
    )

pub delete_again : (ts : Lexemes) (x : Delete) → ReadsDelete ts x → (rest : Lexemes) → AfterClause 1 rest
    → (us : Lexemes) × (ts ++ rest ≡ keyword k.Delete ∷ us) × (delete_at us ≡ Some (x, rest))
unfolding delete_at from_at name_at
delete_again _ _ (g.delete {filter_tokens} {table} {filter} q) rest b =
    (keyword k.From ∷ identifier table ∷ filter_tokens ++ rest, refl, rw (where_again filter_tokens filter q rest b) refl)
