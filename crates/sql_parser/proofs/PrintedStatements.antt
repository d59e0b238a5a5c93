-- What is printed for a statement that some text has reads as that statement.
use Rattle.std.proofs.Common.{◌≡◌, ℕ, ◌+◌, ◌<◌, ◌^◌, Bool, true, false, cond, eqb, List, [], ◌∷◌, ◌++◌, Option, Some, length, map, refl, sym, subst, append_assoc, arith}
use Rattle.std.specs.Prelude.{codes}
use Rattle.std.specs.Fmt.{decimal}
use Rattle.std.specs.List.{list_all}
use Rattle.std.proofs.lemmas.List.{append-nil, length-append}
use Rattle.std.proofs.lemmas.Bool.{and_parts, eqb-true}
use Rattle.vt_value.specs.declared.value.Comparison.TheVariants.{Eq}
use Rattle.sql_lexer.specs.declared.token.Token.{Token}
use Rattle.sql_lexer.specs.declared.token.Keyword.{Keyword}
use Rattle.sql_lexer.specs.declared.token.Keyword.TheVariants as k
use Rattle.sql_lexer.specs.declared.token.Sign.TheVariants.{LeftParenthesis, RightParenthesis, Star, Semicolon}
use Rattle.sql_lexer.specs.declared.token.TokenKind.{TokenKind}
use Rattle.sql_lexer.specs.Keywords.{keyword_text}
use Rattle.sql_lexer.specs.Lexemes.{keyword, identifier, number, text, sign, operator, is_word, said_by, lexemes_of, Spells}
use Rattle.sql_lexer.specs.Lexemes as s
use Rattle.sql_lexer.specs.Tokens.{LexesFrom}
use Rattle.sql_lexer.specs.Tokens as t
use Rattle.sql_tree.specs.declared.ColumnName.{ColumnName}
use Rattle.sql_tree.specs.declared.JoinOn.{JoinOn}
use Rattle.sql_tree.specs.declared.Condition.{Condition}
use Rattle.sql_tree.specs.declared.Item.{Item}
use Rattle.sql_tree.specs.declared.Item.TheVariants as shown
use Rattle.sql_tree.specs.declared.SelectList.{SelectList}
use Rattle.sql_tree.specs.declared.Key.{Key}
use Rattle.sql_tree.specs.declared.LimitClause.{LimitClause}
use Rattle.sql_tree.specs.declared.Assignment.{Assignment}
use Rattle.sql_tree.specs.declared.CharacterSet.{CharacterSet}
use Rattle.sql_tree.specs.declared.Select as S
use Rattle.sql_tree.specs.declared.Insert as I
use Rattle.sql_tree.specs.declared.Update as U
use Rattle.sql_tree.specs.declared.Delete as D
use Rattle.sql_tree.specs.declared.Statement.{Statement}
use Rattle.sql_tree.specs.declared.Statement.TheVariants.{SetNames}
use Rattle.sql_tree.specs.Literals.{Name}
use Rattle.sql_tree.specs.Printing.{name_text, column_text, bracketed, item_text, list_text, join_text, filter_text, key_text, clause_text, limit_text, columns_text, row_text, assignment_text, charset_text, select_text, insert_text, update_text, delete_text, printed}
use Rattle.sql_parser.specs.Grammar.{Lexemes, Listed, Bracketed, Optional, call, max_depth, ReadsName, ReadsColumn, ReadsLiteral, ReadsItem, ReadsList, ReadsJoin, ReadsWhere, ReadsGroup, ReadsKey, ReadsOrder, ReadsLimit, ReadsAssignment, ReadsCharacterSet, ReadsSelect, ReadsInsert, ReadsUpdate, ReadsDelete, ReadsStatement, ReadsText, Reads}
use Rattle.sql_parser.specs.Grammar as g
use Rattle.sql_parser.proofs.Says.{Says, nothing, blank, Part, Joint, Breaks, at_end, at_blank, at_open, word, join, between_blanks, operator_says, slice, says_reads}
use Rattle.sql_parser.proofs.SpelledParts.{number_part, name_part, text_part, inner_is}
use Rattle.sql_parser.proofs.PrintedLists.{Words, is_named, words_parts, As, sign_says, bracketed_part, literal_prints, name_prints, column_prints, listed_prints, bracketed_prints, members_print}
use Rattle.sql_parser.proofs.PrintedConditions.{condition_prints}

-- ---- the identifiers of a text are words

spelled_named : (bytes : List ℕ) (which : TokenKind) → Spells bytes which → is_named (said_by which bytes) ≡ true
spelled_named _ _ (s.keyword_word f h) = refl
spelled_named _ _ (s.word w h) = w
spelled_named _ _ (s.quoted bytes w) = subst (λ (cs : List ℕ). is_word cs ≡ true) (sym (inner_is 0x60 0x60 bytes)) w
spelled_named _ _ (s.digits h hs) = refl
spelled_named _ _ (s.string b) = refl
spelled_named _ _ (s.mark x) = refl
spelled_named _ _ (s.comparison op) = refl
spelled_named _ _ s.bang = refl

lexed_words : (before : List ℕ) (at : ℕ) (bytes : List ℕ) (tokens : List Token) → at ≡ length before → LexesFrom at bytes tokens
    → Words (lexemes_of (before ++ bytes) tokens)
lexed_words before _ _ _ e t.end = refl
lexed_words before _ _ _ e (t.blank {at} {b} {rest} {tokens} h r) =
    subst (λ (bs : List ℕ). Words (lexemes_of bs tokens)) (append_assoc before (b ∷ []) rest)
    (lexed_words (before ++ b ∷ []) (at + 1) rest tokens (omega (arith, length-append before (b ∷ []))) r)
lexed_words before _ _ _ e (t.token {at} {bytes} {rest} {kind = which} {tokens} h ended r) =
    let later : Words (lexemes_of (before ++ (bytes ++ rest)) tokens) =
    subst (λ (bs : List ℕ). Words (lexemes_of bs tokens)) (append_assoc before bytes rest)
    (lexed_words (before ++ bytes) (at + length bytes) rest tokens (omega (arith, length-append before bytes)) r) in
    let one = slice before bytes rest in
    rw (e, one, spelled_named bytes which h, later) refl

-- ---- parts of a statement

-- what is printed for a part that may be left out
record AsTail {A : Type 0} (Reads : Lexemes → A → Type 0) (bytes : List ℕ) (x : A) : Type 0 where
  says : Lexemes
  reads : Reads says x
  part : Part bytes says
  breaks : (rest : List ℕ) → Breaks rest → Breaks (bytes ++ rest)

one_name : (bytes : Name) → Words (identifier bytes ∷ []) → Part (name_text bytes) (identifier bytes ∷ [])
one_name bytes w = name_part bytes (and_parts (is_word bytes) true w).0

-- an aggregate of a column
call_prints : (f : Keyword) (node : ColumnName → Item ColumnName) → ((us : Lexemes) (c : ColumnName) → ReadsColumn us c → ReadsItem (call f us) (node c))
    → (ts : Lexemes) (c : ColumnName) → ReadsColumn ts c → Words (call f ts) → As ReadsItem (keyword_text f ++ bracketed (column_text c)) (node c)
call_prints f node is ts c r w =
    let a = column_prints ts c r (words_parts ts (sign RightParenthesis ∷ []) w).0 in
    record {
      says = call f a.says;
      reads = is a.says c a.reads;
      part = λ rest ms b x.
          let inside = bracketed_part (column_text c) a.says a.part rest ms b x in
          subst (λ (cs : List ℕ). Says cs (call f a.says ++ ms)) (sym (append_assoc (keyword_text f) (bracketed (column_text c)) rest))
          (word f (bracketed (column_text c) ++ rest) _ at_open inside);
    }

item_prints : (ts : Lexemes) (x : Item ColumnName) → ReadsItem ts x → Words ts → As ReadsItem (item_text x) x
item_prints _ _ (g.column_item {ts} {c} r) w = let a = column_prints ts c r w in record { says = a.says; reads = g.column_item a.reads; part = a.part }
item_prints _ _ g.count_rows w = record {
  says = call k.Count (sign Star ∷ []);
  reads = g.count_rows;
  part = λ rest ms b r. word k.Count (0x28 ∷ 0x2A ∷ 0x29 ∷ rest) _ at_open (sign_says LeftParenthesis _ _ (sign_says Star _ _ (sign_says RightParenthesis rest ms r)));
}
item_prints _ _ (g.count_item {ts} {c} r) w = call_prints k.Count shown.Count (λ us c r. g.count_item r) ts c r w
item_prints _ _ (g.sum_item {ts} {c} r) w = call_prints k.Sum shown.Sum (λ us c r. g.sum_item r) ts c r w
item_prints _ _ (g.min_item {ts} {c} r) w = call_prints k.Min shown.Min (λ us c r. g.min_item r) ts c r w
item_prints _ _ (g.max_item {ts} {c} r) w = call_prints k.Max shown.Max (λ us c r. g.max_item r) ts c r w

list_prints : (ts : Lexemes) (x : SelectList) → ReadsList ts x → Words ts → As ReadsList (list_text x) x
list_prints _ _ g.star w = record { says = sign Star ∷ []; reads = g.star; part = λ rest ms b r. sign_says Star rest ms r }
list_prints _ _ (g.listed {ts} {xs} r) w =
    let a = listed_prints ReadsItem ReadsItem item_text item_prints ts xs r w in
    record { says = a.says; reads = g.listed a.reads; part = a.part }

equals_joint : Joint (codes " = ") (operator Eq ∷ [])
equals_joint = record { says = operator_says Eq; breaks = λ rest. at_blank }

-- JOIN is printed without INNER
joined_prints : (table : Name) (ts us : Lexemes) (left right : ColumnName) → ReadsColumn ts left → ReadsColumn us right
    → Words (identifier table ∷ keyword k.On ∷ ts ++ operator Eq ∷ us)
    → AsTail (Optional ReadsJoin) (join_text (Some (record { table = table; left = left; right = right }))) (Some (record { table = table; left = left; right = right }))
joined_prints table ts us left right r s w =
    let w1 = and_parts (is_word table) (list_all is_named (ts ++ operator Eq ∷ us)) w in
    let w2 = words_parts ts (operator Eq ∷ us) w1.1 in
    let a = column_prints ts left r w2.0 in
    let b = column_prints us right s w2.1 in
    let second = codes " JOIN " ++ name_text table in
    let named : Part second (keyword k.Join ∷ identifier table ∷ []) = λ rest ms br x. (between_blanks k.Join).says _ _ (name_part table w1.0 rest ms br x) in
    let on = join second (keyword k.Join ∷ identifier table ∷ []) (codes " ON ") (keyword k.On ∷ []) (column_text left) a.says named (between_blanks k.On) a.part in
    let front = keyword k.Join ∷ identifier table ∷ keyword k.On ∷ a.says in
    record {
      says = keyword k.Join ∷ identifier table ∷ keyword k.On ∷ a.says ++ operator Eq ∷ b.says;
      reads = g.present (g.join a.reads b.reads);
      part = join (second ++ codes " ON " ++ column_text left) front (codes " = ") (operator Eq ∷ []) (column_text right) b.says on equals_joint b.part;
      breaks = λ rest br. at_blank;
    }

join_prints : (ts : Lexemes) (x : Option JoinOn) → Optional ReadsJoin ts x → Words ts → AsTail (Optional ReadsJoin) (join_text x) x
join_prints _ _ g.absent w = record { says = []; reads = g.absent; part = λ rest ms b r. r; breaks = λ rest b. b }
join_prints _ _ (g.present (g.join {table} {ts} {us} {left} {right} r s)) w = joined_prints table ts us left right r s w
join_prints _ _ (g.present (g.inner_join {table} {ts} {us} {left} {right} r s)) w = joined_prints table ts us left right r s w

where_prints : (ts : Lexemes) (x : Option (Condition ColumnName)) → Optional ReadsWhere ts x → Words ts → AsTail (Optional ReadsWhere) (filter_text x) x
where_prints _ _ g.absent w = record { says = []; reads = g.absent; part = λ rest ms b r. r; breaks = λ rest b. b }
where_prints _ _ (g.present (g.filter {ts} {x} r)) w =
    let a = condition_prints max_depth ts x r w in
    record {
      says = keyword k.Where ∷ a.says;
      reads = g.present (g.filter a.reads);
      part = λ rest ms b q. (between_blanks k.Where).says _ _ (a.part rest ms b q);
      breaks = λ rest b. at_blank;
    }

group_prints : (ts : Lexemes) (xs : List ColumnName) → ReadsGroup ts xs → Words ts → AsTail ReadsGroup (clause_text (codes " GROUP BY ") (map column_text xs)) xs
group_prints _ _ g.without w = record { says = []; reads = g.without; part = λ rest ms b r. r; breaks = λ rest b. b }
group_prints _ _ (g.clause (g.items {ts} {us} {x} {xs} r s)) w =
    let a = listed_prints ReadsColumn ReadsColumn column_text column_prints (ts ++ us) (x ∷ xs) (g.items r s) w in
    record {
      says = keyword k.Group ∷ keyword k.By ∷ a.says;
      reads = g.clause a.reads;
      part = λ rest ms b q. blank refl (word k.Group _ _ at_blank ((between_blanks k.By).says _ _ (a.part rest ms b q)));
      breaks = λ rest b. at_blank;
    }

-- a key that ascends is printed as its column
plain_prints : (ts : Lexemes) (c : ColumnName) → ReadsColumn ts c → Words ts
    → As ReadsKey (key_text (record { column = c; descending = false })) (record { column = c; descending = false })
plain_prints ts c r w =
    let a = column_prints ts c r w in
    record {
      says = a.says;
      reads = g.plain_key a.reads;
      part = subst (λ (cs : List ℕ). Part cs a.says) (sym (append-nil (column_text c))) a.part;
    }

descending_part : (bytes : List ℕ) (us : Lexemes) → Part bytes us → Part (bytes ++ codes " DESC") (us ++ keyword k.Desc ∷ [])
descending_part bytes us p rest ms b x =
    simp append_assoc (p (codes " DESC" ++ rest) (keyword k.Desc ∷ ms) at_blank (blank refl (word k.Desc rest ms b x)))

key_prints : (ts : Lexemes) (x : Key ColumnName) → ReadsKey ts x → Words ts → As ReadsKey (key_text x) x
key_prints _ _ (g.plain_key {ts} {c} r) w = plain_prints ts c r w
key_prints _ _ (g.ascending_key {ts} {c} r) w = plain_prints ts c r (words_parts ts (keyword k.Asc ∷ []) w).0
key_prints _ _ (g.descending_key {ts} {c} r) w =
    let a = column_prints ts c r (words_parts ts (keyword k.Desc ∷ []) w).0 in
    record {
      says = a.says ++ keyword k.Desc ∷ [];
      reads = g.descending_key a.reads;
      part = descending_part (column_text c) a.says a.part;
    }

order_prints : (ts : Lexemes) (xs : List (Key ColumnName)) → ReadsOrder ts xs → Words ts → AsTail ReadsOrder (clause_text (codes " ORDER BY ") (map key_text xs)) xs
order_prints _ _ g.without w = record { says = []; reads = g.without; part = λ rest ms b r. r; breaks = λ rest b. b }
order_prints _ _ (g.clause (g.items {ts} {us} {x} {xs} r s)) w =
    let a = listed_prints ReadsKey ReadsKey key_text key_prints (ts ++ us) (x ∷ xs) (g.items r s) w in
    record {
      says = keyword k.Order ∷ keyword k.By ∷ a.says;
      reads = g.clause a.reads;
      part = λ rest ms b q. blank refl (word k.Order _ _ at_blank ((between_blanks k.By).says _ _ (a.part rest ms b q)));
      breaks = λ rest b. at_blank;
    }

offset_prints : (n m : ℕ) → n < 2 ^ 64 → m < 2 ^ 64
    → AsTail (Optional ReadsLimit) (codes " LIMIT " ++ decimal n ++ cond (eqb m 0) [] (codes " OFFSET " ++ decimal m)) (Some (record { count = n; offset = m }))
offset_prints n m lt lt2 = go (eqb m 0) refl
  where
    go : (q : Bool) → eqb m 0 ≡ q
        → AsTail (Optional ReadsLimit) (codes " LIMIT " ++ decimal n ++ cond q [] (codes " OFFSET " ++ decimal m)) (Some (record { count = n; offset = m }))
    go true is = record {
      says = keyword k.Limit ∷ number n ∷ [];
      reads = subst (λ (j : ℕ). Optional ReadsLimit (keyword k.Limit ∷ number n ∷ []) (Some (record { count = n; offset = j })))
          (sym (eqb-true m 0 is)) (g.present (g.limit n lt));
      part = λ rest ms b r. simp append_assoc ((between_blanks k.Limit).says _ _ (number_part n lt rest ms b r));
      breaks = λ rest b. at_blank;
    }
    go false is = record {
      says = keyword k.Limit ∷ number n ∷ keyword k.Offset ∷ number m ∷ [];
      reads = g.present (g.offset n m lt lt2);
      part = λ rest ms b r. simp append_assoc ((between_blanks k.Limit).says _ _ (number_part n lt (codes " OFFSET " ++ (decimal m ++ rest)) _ at_blank
          ((between_blanks k.Offset).says _ _ (number_part m lt2 rest ms b r))));
      breaks = λ rest b. at_blank;
    }

limit_prints : (ts : Lexemes) (x : Option LimitClause) → Optional ReadsLimit ts x → AsTail (Optional ReadsLimit) (limit_text x) x
limit_prints _ _ g.absent = record { says = []; reads = g.absent; part = λ rest ms b r. r; breaks = λ rest b. b }
limit_prints _ _ (g.present (g.limit n lt)) = offset_prints n 0 lt (omega arith)
limit_prints _ _ (g.present (g.offset n m lt lt2)) = offset_prints n m lt lt2

-- ---- statements

select_prints : (ts : Lexemes) (x : S.Select) → ReadsSelect ts x → Words ts → As ReadsSelect (select_text x) x
select_prints _ _ (g.select {list_tokens} {join_tokens} {filter_tokens} {group_tokens} {order_tokens} {limit_tokens} {list} {table} {join} {filter} {group_by} {order_by} {limit} p j q r s t) w =
    let w1 = words_parts list_tokens (keyword k.From ∷ identifier table ∷ join_tokens ++ (filter_tokens ++ (group_tokens ++ (order_tokens ++ limit_tokens)))) w in
    let w2 = and_parts (is_word table) (list_all is_named (join_tokens ++ (filter_tokens ++ (group_tokens ++ (order_tokens ++ limit_tokens))))) w1.1 in
    let w3 = words_parts join_tokens (filter_tokens ++ (group_tokens ++ (order_tokens ++ limit_tokens))) w2.1 in
    let w4 = words_parts filter_tokens (group_tokens ++ (order_tokens ++ limit_tokens)) w3.1 in
    let w5 = words_parts group_tokens (order_tokens ++ limit_tokens) w4.1 in
    let w6 = words_parts order_tokens limit_tokens w5.1 in
    let a = list_prints list_tokens list p w1.0 in
    let n = join_prints join_tokens join j w3.0 in
    let f = where_prints filter_tokens filter q w4.0 in
    let h = group_prints group_tokens group_by r w5.0 in
    let o = order_prints order_tokens order_by s w6.0 in
    let l = limit_prints limit_tokens limit t in
    record {
      says = keyword k.Select ∷ a.says ++ (keyword k.From ∷ identifier table ∷ n.says ++ (f.says ++ (h.says ++ (o.says ++ l.says))));
      reads = g.select a.reads n.reads f.reads h.reads o.reads l.reads;
      part = λ rest ms b x.
          let b4 = l.breaks rest b in
          let b3 = o.breaks _ b4 in
          let b2 = h.breaks _ b3 in
          let b1 = f.breaks _ b2 in
          let b0 = n.breaks _ b1 in
          let clauses = n.part _ _ b1 (f.part _ _ b2 (h.part _ _ b3 (o.part _ _ b4 (l.part rest ms b x)))) in
          simp append_assoc (word k.Select _ _ at_blank (blank refl (a.part _ _ at_blank ((between_blanks k.From).says _ _ (name_part table w2.0 _ _ b0 clauses)))));
    }

columns_print : (ts : Lexemes) (x : Option (List Name)) → Optional (Bracketed ReadsName) ts x → Words ts
    → AsTail (Optional (Bracketed ReadsName)) (columns_text x) x
columns_print _ _ g.absent w = record { says = []; reads = g.absent; part = λ rest ms b r. r; breaks = λ rest b. b }
columns_print _ _ (g.present {ts} {x} r) w =
    let a = bracketed_prints ReadsName ReadsName name_text name_prints ts x r w in
    record { says = a.says; reads = g.present a.reads; part = λ rest ms b q. blank refl (a.part rest ms b q); breaks = λ rest b. at_blank }

insert_prints : (ts : Lexemes) (x : I.Insert) → ReadsInsert ts x → Words ts → As ReadsInsert (insert_text x) x
insert_prints _ _ (g.insert {column_tokens} {row_tokens} {table} {columns} {rows} p q) w =
    let w1 = and_parts (is_word table) (list_all is_named (column_tokens ++ (keyword k.Values ∷ row_tokens))) w in
    let w2 = words_parts column_tokens (keyword k.Values ∷ row_tokens) w1.1 in
    let a = columns_print column_tokens columns p w2.0 in
    let f = listed_prints (Bracketed ReadsLiteral) (Bracketed ReadsLiteral) row_text members_print row_tokens rows q w2.1 in
    record {
      says = keyword k.Insert ∷ keyword k.Into ∷ identifier table ∷ a.says ++ (keyword k.Values ∷ f.says);
      reads = g.insert a.reads f.reads;
      part = λ rest ms b x.
          simp append_assoc (word k.Insert _ _ at_blank (blank refl (word k.Into _ _ at_blank (blank refl (name_part table w1.0 _ _ (a.breaks _ at_blank)
          (a.part _ _ at_blank ((between_blanks k.Values).says _ _ (f.part rest ms b x))))))));
    }

assignment_prints : (ts : Lexemes) (x : Assignment Name) → ReadsAssignment ts x → Words ts → As ReadsAssignment (assignment_text x) x
assignment_prints _ _ (g.assignment bytes {ts} {v} r) w =
    let w1 = and_parts (is_word bytes) (list_all is_named ts) w in
    let a = literal_prints ts v r in
    record {
      says = identifier bytes ∷ operator Eq ∷ a.says;
      reads = g.assignment bytes a.reads;
      part = λ rest ms b x. simp append_assoc (name_part bytes w1.0 _ _ at_blank (operator_says Eq _ _ (a.part rest ms b x)));
    }

update_prints : (ts : Lexemes) (x : U.Update) → ReadsUpdate ts x → Words ts → As ReadsUpdate (update_text x) x
update_prints _ _ (g.update {assignment_tokens} {filter_tokens} {table} {assignments} {filter} p q) w =
    let w1 = and_parts (is_word table) (list_all is_named (assignment_tokens ++ filter_tokens)) w in
    let w2 = words_parts assignment_tokens filter_tokens w1.1 in
    let a = listed_prints ReadsAssignment ReadsAssignment assignment_text assignment_prints assignment_tokens assignments p w2.0 in
    let f = where_prints filter_tokens filter q w2.1 in
    record {
      says = keyword k.Update ∷ identifier table ∷ keyword k.Set ∷ a.says ++ f.says;
      reads = g.update a.reads f.reads;
      part = λ rest ms b x.
          simp append_assoc (word k.Update _ _ at_blank (blank refl (name_part table w1.0 _ _ at_blank
          ((between_blanks k.Set).says _ _ (a.part _ _ (f.breaks rest b) (f.part rest ms b x))))));
    }

delete_prints : (ts : Lexemes) (x : D.Delete) → ReadsDelete ts x → Words ts → As ReadsDelete (delete_text x) x
delete_prints _ _ (g.delete {filter_tokens} {table} {filter} q) w =
    let w1 = and_parts (is_word table) (list_all is_named filter_tokens) w in
    let f = where_prints filter_tokens filter q w1.1 in
    record {
      says = keyword k.Delete ∷ keyword k.From ∷ identifier table ∷ f.says;
      reads = g.delete f.reads;
      part = λ rest ms b x.
          simp append_assoc (word k.Delete _ _ at_blank (blank refl (word k.From _ _ at_blank (blank refl
          (name_part table w1.0 _ _ (f.breaks rest b) (f.part rest ms b x))))));
    }

charset_prints : (ts : Lexemes) (x : CharacterSet) → ReadsCharacterSet ts x → Words ts → As ReadsCharacterSet (charset_text x) x
charset_prints _ _ (g.by_identifier bytes) w = record { says = identifier bytes ∷ []; reads = g.by_identifier bytes; part = one_name bytes w }
charset_prints _ _ (g.by_text bytes) w = record { says = text bytes ∷ []; reads = g.by_text bytes; part = text_part bytes }

set_prints : (ts : Lexemes) (set : CharacterSet) → ReadsCharacterSet ts set → Words ts → As ReadsStatement (printed (SetNames set)) (SetNames set)
set_prints ts set r w =
    let a = charset_prints ts set r w in
    record {
      says = keyword k.Set ∷ keyword k.Names ∷ a.says;
      reads = g.set_names a.reads;
      part = λ rest ms b x. word k.Set _ _ at_blank ((between_blanks k.Names).says _ _ (a.part rest ms b x));
    }

statement_prints : (ts : Lexemes) (x : Statement) → ReadsStatement ts x → Words ts → As ReadsStatement (printed x) x
statement_prints _ _ (g.select_is {ts} {s} r) w = let a = select_prints ts s r w in record { says = a.says; reads = g.select_is a.reads; part = a.part }
statement_prints _ _ (g.insert_is {ts} {s} r) w = let a = insert_prints ts s r w in record { says = a.says; reads = g.insert_is a.reads; part = a.part }
statement_prints _ _ (g.update_is {ts} {s} r) w = let a = update_prints ts s r w in record { says = a.says; reads = g.update_is a.reads; part = a.part }
statement_prints _ _ (g.delete_is {ts} {s} r) w = let a = delete_prints ts s r w in record { says = a.says; reads = g.delete_is a.reads; part = a.part }
statement_prints _ _ g.begin w = record { says = keyword k.Begin ∷ []; reads = g.begin; part = word k.Begin }
statement_prints _ _ g.start_transaction w = record { says = keyword k.Begin ∷ []; reads = g.begin; part = word k.Begin }
statement_prints _ _ g.commit w = record { says = keyword k.Commit ∷ []; reads = g.commit; part = word k.Commit }
statement_prints _ _ g.rollback w = record { says = keyword k.Rollback ∷ []; reads = g.rollback; part = word k.Rollback }
statement_prints _ _ (g.set_names {ts} {set} r) w = set_prints ts set r w
statement_prints _ _ (g.set_setting {name} {ts} {set} named r) w = set_prints ts set r (and_parts (is_word name) (list_all is_named (operator Eq ∷ ts)) w).1

text_prints : (ts : Lexemes) (x : Statement) → ReadsText ts x → Words ts → As ReadsStatement (printed x) x
text_prints _ _ (g.statement {ts} {s} r) w = statement_prints ts s r w
text_prints _ _ (g.semicolon {ts} {s} r) w = statement_prints ts s r (words_parts ts (sign Semicolon ∷ []) w).0

pub prints : (bytes : List ℕ) (x : Statement) → Reads bytes x → Reads (printed x) x
prints bytes x p =
    let a = text_prints (lexemes_of bytes p.0) x p.2 (lexed_words [] 0 bytes p.0 refl p.1) in
    let whole : Says (printed x ++ []) (a.says ++ []) = a.part [] [] at_end nothing in
    let says : Says (printed x) a.says =
    subst (λ (us : Lexemes). Says (printed x) us) (append-nil a.says) (subst (λ (cs : List ℕ). Says cs (a.says ++ [])) (append-nil (printed x)) whole) in
    says_reads (printed x) a.says x says (g.statement a.reads) p.3 p.4
