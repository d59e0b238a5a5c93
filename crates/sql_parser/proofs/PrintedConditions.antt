-- What is printed for a condition that some tokens have reads as that condition.
use Rattle.std.proofs.Common.{◌≡◌, ℕ, zero, suc, List, [], ◌∷◌, ◌++◌, map, refl, sym, ap, subst, ◌∙◌, append_assoc}
use Rattle.std.specs.Prelude.{codes}
use Rattle.vt_value.specs.declared.value.Value.{Value}
use Rattle.vt_value.specs.declared.value.Comparison.{Comparison}
use Rattle.sql_lexer.specs.declared.token.Keyword.TheVariants as k
use Rattle.sql_lexer.specs.declared.token.Sign.TheVariants.{LeftParenthesis, RightParenthesis}
use Rattle.sql_lexer.specs.Lexemes.{Lexeme, keyword, sign, operator, operator_text}
use Rattle.sql_tree.specs.declared.ColumnName.{ColumnName}
use Rattle.sql_tree.specs.declared.Operand.{Operand}
use Rattle.sql_tree.specs.declared.Condition.{Condition, fold-roll-Condition}
use Rattle.sql_tree.specs.declared.Condition as c
use Rattle.sql_tree.specs.declared.Condition.TheVariants.{rolls-And, rolls-Or, rolls-Not, rolls-Compare, rolls-In, rolls-IsNull}
use Rattle.sql_tree.specs.Printing as p
use Rattle.sql_tree.specs.Printing.{Text, operand_text, value_text, bracketed, commas, following, joined, Printed, text_of, inside_and, inside_or, node_printed, condition_printed, condition_text}
use Rattle.sql_parser.specs.Grammar.{Lexemes, ReadsLiteral, ReadsOperand, Follows, Joined, ReadsTest, OrOf, NotOf, ReadsNot, ReadsOr}
use Rattle.sql_parser.specs.inner.Reading.{ReadsAnd}
use Rattle.sql_parser.specs.Grammar as g
use Rattle.sql_parser.proofs.Says.{Part, Joint, at_blank, blank, word, join, between_blanks, operator_says}
use Rattle.sql_parser.proofs.PrintedLists.{Words, words_parts, words_join, As, operand_prints, members_print, bracketed_part, follows_prints, first_part}

-- ---- the equations of the print

printed-And : (xs : List (Condition ColumnName)) → condition_printed (c.And xs) ≡ p.an_and (joined (codes " AND ") (map inside_and (map condition_printed xs)))
printed-And xs = ap condition_printed (sym (rolls-And xs)) ∙ fold-roll-Condition ColumnName Printed node_printed _

printed-Or : (xs : List (Condition ColumnName)) → condition_printed (c.Or xs) ≡ p.an_or (joined (codes " OR ") (map inside_or (map condition_printed xs)))
printed-Or xs = ap condition_printed (sym (rolls-Or xs)) ∙ fold-roll-Condition ColumnName Printed node_printed _

printed-Not : (x : Condition ColumnName) → condition_printed (c.Not x) ≡ p.other (codes "NOT " ++ inside_and (condition_printed x))
printed-Not x = ap condition_printed (sym (rolls-Not x)) ∙ fold-roll-Condition ColumnName Printed node_printed _

printed-Compare : (op : Comparison) (a b : Operand ColumnName)
    → condition_printed (c.Compare op a b) ≡ p.other (operand_text a ++ codes " " ++ operator_text op ++ codes " " ++ operand_text b)
printed-Compare op a b = ap condition_printed (sym (rolls-Compare op a b)) ∙ fold-roll-Condition ColumnName Printed node_printed _

printed-In : (a : Operand ColumnName) (members : List Value)
    → condition_printed (c.In a members) ≡ p.other (operand_text a ++ codes " IN " ++ bracketed (commas (map value_text members)))
printed-In a members = ap condition_printed (sym (rolls-In a members)) ∙ fold-roll-Condition ColumnName Printed node_printed _

printed-IsNull : (a : Operand ColumnName) → condition_printed (c.IsNull a) ≡ p.other (operand_text a ++ codes " IS NULL")
printed-IsNull a = ap condition_printed (sym (rolls-IsNull a)) ∙ fold-roll-Condition ColumnName Printed node_printed _

-- ---- more depth reads as much

follows_map : {A : Type 0} (sep : Lexeme) (R S : Lexemes → A → Type 0) → ((ts : Lexemes) (x : A) → R ts x → S ts x) → (ts : Lexemes) (xs : List A)
    → Follows sep R ts xs → Follows sep S ts xs
follows_map sep R S f _ _ g.end = g.end
follows_map sep R S f _ _ (g.item {ts} {us} {x} {xs} r s) = g.item (f ts x r) (follows_map sep R S f us xs s)

joined_map : (sep : Lexeme) (node : List (Condition ColumnName) → Condition ColumnName) (R S : Lexemes → Condition ColumnName → Type 0)
    → ((ts : Lexemes) (x : Condition ColumnName) → R ts x → S ts x) → (ts : Lexemes) (x : Condition ColumnName) → Joined sep node R ts x → Joined sep node S ts x
joined_map sep node R S f _ _ (g.single {ts} {x} r) = g.single (f ts x r)
joined_map sep node R S f _ _ (g.several {ts} {us} {x} {y} {zs} r s) = g.several (f ts x r) (follows_map sep R S f us (y ∷ zs) s)

or_of_map : (R S : Lexemes → Condition ColumnName → Type 0) → ((ts : Lexemes) (x : Condition ColumnName) → R ts x → S ts x)
    → (ts : Lexemes) (x : Condition ColumnName) → OrOf R ts x → OrOf S ts x
or_of_map R S f =
    joined_map (keyword k.Or) c.Or (Joined (keyword k.And) c.And R) (Joined (keyword k.And) c.And S) (joined_map (keyword k.And) c.And R S f)

not_of_map : (R S : Lexemes → Condition ColumnName → Type 0) → ((ts : Lexemes) (x : Condition ColumnName) → R ts x → S ts x)
    → (ts : Lexemes) (x : Condition ColumnName) → NotOf R ts x → NotOf S ts x
not_of_map R S f _ _ (g.test r) = g.test r
not_of_map R S f _ _ (g.negated {ts} {x} r) = g.negated (f ts x r)
not_of_map R S f _ _ (g.not_in r s) = g.not_in r s
not_of_map R S f _ _ (g.is_not_null r) = g.is_not_null r
not_of_map R S f _ _ (g.parentheses {ts} {x} r) = g.parentheses (or_of_map R S f ts x r)

deeper_not : (depth : ℕ) (ts : Lexemes) (x : Condition ColumnName) → ReadsNot depth ts x → ReadsNot (suc depth) ts x
deeper_not zero ts x r = g.test r
deeper_not (suc depth) ts x r = not_of_map (ReadsNot depth) (ReadsNot (suc depth)) (deeper_not depth) ts x r

deeper_and : (depth : ℕ) (ts : Lexemes) (x : Condition ColumnName) → ReadsAnd depth ts x → ReadsAnd (suc depth) ts x
deeper_and depth = joined_map (keyword k.And) c.And (ReadsNot depth) (ReadsNot (suc depth)) (deeper_not depth)

deeper_or : (depth : ℕ) (ts : Lexemes) (x : Condition ColumnName) → ReadsOr depth ts x → ReadsOr (suc depth) ts x
deeper_or depth = or_of_map (ReadsNot depth) (ReadsNot (suc depth)) (deeper_not depth)

any_depth : (depth : ℕ) {ts : Lexemes} {x : Condition ColumnName} → ReadsTest ts x → ReadsNot depth ts x
any_depth zero r = r
any_depth (suc depth) r = g.test r

-- the same tokens by another rule
by : (R S : Lexemes → Condition ColumnName → Type 0) → ((ts : Lexemes) (x : Condition ColumnName) → R ts x → S ts x) → (bytes : Text) (x : Condition ColumnName)
    → As R bytes x → As S bytes x
by R S f bytes x a = record { says = a.says; reads = f a.says x a.reads; part = a.part }

-- ---- tests

null_part : Part (codes " IS NULL") (keyword k.Is ∷ keyword k.Null ∷ [])
null_part rest ms b r = blank refl (word k.Is (0x20 ∷ codes "NULL" ++ rest) (keyword k.Null ∷ ms) at_blank (blank refl (word k.Null rest ms b r)))

-- the print where no parentheses are wanted, where an OR wants them, and where an AND wants them too
record PrintsAnd (depth : ℕ) (x : Condition ColumnName) : Type 0 where
  bare : As (ReadsOr depth) (text_of (condition_printed x)) x
  in_or : As (ReadsAnd depth) (inside_or (condition_printed x)) x

record PrintsNot (depth : ℕ) (x : Condition ColumnName) : Type 0 where
  bare : As (ReadsOr depth) (text_of (condition_printed x)) x
  in_or : As (ReadsAnd depth) (inside_or (condition_printed x)) x
  in_and : As (ReadsNot depth) (inside_and (condition_printed x)) x

-- what is no AND and no OR prints alike everywhere
alike : (depth : ℕ) (x : Condition ColumnName) (bytes : Text) → condition_printed x ≡ p.other bytes → As (ReadsNot depth) bytes x → PrintsNot depth x
alike depth x bytes e a =
    let again : (P : Printed → Text) → P (p.other bytes) ≡ bytes → As (ReadsNot depth) (P (condition_printed x)) x =
    λ P same. subst (λ (t : Text). As (ReadsNot depth) t x) (sym (ap P e ∙ same)) a in
    record {
      bare = by (ReadsNot depth) (ReadsOr depth) (λ ts y r. g.single (g.single r)) _ x (again text_of refl);
      in_or = by (ReadsNot depth) (ReadsAnd depth) (λ ts y r. g.single r) _ x (again inside_or refl);
      in_and = again inside_and refl;
    }

test_prints : (depth : ℕ) (ts : Lexemes) (x : Condition ColumnName) → ReadsTest ts x → Words ts → PrintsNot depth x
test_prints depth _ _ (g.compare {ts} {us} {left} {right} {op} r s) w =
    let q = words_parts ts (operator op ∷ us) w in
    let a = operand_prints ts left r q.0 in
    let b = operand_prints us right s q.1 in
    let part : Part (operand_text left ++ codes " " ++ operator_text op ++ codes " " ++ operand_text right) (a.says ++ operator op ∷ b.says) =
    λ rest ms br x. simp append_assoc (a.part (0x20 ∷ operator_text op ++ 0x20 ∷ (operand_text right ++ rest)) (operator op ∷ b.says ++ ms) at_blank
    (operator_says op (operand_text right ++ rest) (b.says ++ ms) (b.part rest ms br x))) in
    alike depth _ _ (printed-Compare op left right) (record { says = a.says ++ operator op ∷ b.says; reads = any_depth depth (g.compare a.reads b.reads); part = part })
test_prints depth _ _ (g.in_list {ts} {us} {left} {members} r s) w =
    let q = words_parts ts (keyword k.In ∷ us) w in
    let a = operand_prints ts left r q.0 in
    let b = members_print us members s q.1 in
    let part : Part (operand_text left ++ codes " IN " ++ bracketed (commas (map value_text members))) (a.says ++ keyword k.In ∷ b.says) =
    join (operand_text left) a.says (codes " IN ") (keyword k.In ∷ []) _ b.says a.part (between_blanks k.In) b.part in
    alike depth _ _ (printed-In left members) (record { says = a.says ++ keyword k.In ∷ b.says; reads = any_depth depth (g.in_list a.reads b.reads); part = part })
test_prints depth _ _ (g.is_null {ts} {left} r) w =
    let a = operand_prints ts left r (words_parts ts (keyword k.Is ∷ keyword k.Null ∷ []) w).0 in
    let part : Part (operand_text left ++ codes " IS NULL") (a.says ++ keyword k.Is ∷ keyword k.Null ∷ []) =
    λ rest ms b x. simp append_assoc (a.part (codes " IS NULL" ++ rest) (keyword k.Is ∷ keyword k.Null ∷ ms) at_blank (null_part rest ms b x)) in
    alike depth _ _ (printed-IsNull left) (record { says = a.says ++ keyword k.Is ∷ keyword k.Null ∷ []; reads = any_depth depth (g.is_null a.reads); part = part })

-- ---- an AND, an OR, and what parentheses hold

map_twice : (inside : Printed → Text) (xs : List (Condition ColumnName)) → map inside (map condition_printed xs) ≡ map (λ x. inside (condition_printed x)) xs
map_twice inside [] = refl
map_twice inside (x ∷ xs) = ap (λ (ts : List Text). inside (condition_printed x) ∷ ts) (map_twice inside xs)

-- the members of a node of two or more
module _ (sep : Lexeme) (between : Text) (joint : Joint between (sep ∷ [])) (node : List (Condition ColumnName) → Condition ColumnName) (inside : Printed → Text)
    (R : Lexemes → Condition ColumnName → Type 0) (prints : (ts : Lexemes) (x : Condition ColumnName) → R ts x → Words ts → As R (inside (condition_printed x)) x) where
  node_prints : (ts us : Lexemes) (x y : Condition ColumnName) (zs : List (Condition ColumnName)) → R ts x → Follows sep R us (y ∷ zs) → Words (ts ++ us)
      → As (Joined sep node R) (joined between (map inside (map condition_printed (x ∷ y ∷ zs)))) (node (x ∷ y ∷ zs))
  node_prints ts us x y zs r s w =
      let q = words_parts ts us w in
      let print : Condition ColumnName → Text = λ z. inside (condition_printed z) in
      let a = prints ts x r q.0 in
      let f = follows_prints sep between joint R R print prints us (y ∷ zs) s q.1 in
      subst (λ (ts : List Text). As (Joined sep node R) (joined between ts) (node (x ∷ y ∷ zs))) (sym (map_twice inside (x ∷ y ∷ zs))) (record {
        says = a.says ++ f.says;
        reads = g.several a.reads f.reads;
        part = first_part sep between joint R R print prints (print x) a.says (y ∷ zs) a.part f;
      })

module _ (depth : ℕ) (prints : (ts : Lexemes) (x : Condition ColumnName) → ReadsNot depth ts x → Words ts → PrintsNot depth x) where
  and_prints : (ts : Lexemes) (x : Condition ColumnName) → ReadsAnd depth ts x → Words ts → PrintsAnd depth x
  and_prints _ _ (g.single {ts} {x} r) w = let q = prints ts x r w in record { bare = q.bare; in_or = q.in_or }
  and_prints _ _ (g.several {ts} {us} {x} {y} {zs} r s) w =
      let e = printed-And (x ∷ y ∷ zs) in
      let a = node_prints (keyword k.And) (codes " AND ") (between_blanks k.And) c.And inside_and (ReadsNot depth)
      (λ ts x r w. (prints ts x r w).in_and) ts us x y zs r s w in
      record {
        bare = subst (λ (q : Printed). As (ReadsOr depth) (text_of q) (c.And (x ∷ y ∷ zs))) (sym e) (by (ReadsAnd depth) (ReadsOr depth) (λ ts y r. g.single r) _ _ a);
        in_or = subst (λ (q : Printed). As (ReadsAnd depth) (inside_or q) (c.And (x ∷ y ∷ zs))) (sym e) a;
      }

  or_prints : (ts : Lexemes) (x : Condition ColumnName) → ReadsOr depth ts x → Words ts → As (ReadsOr depth) (text_of (condition_printed x)) x
  or_prints _ _ (g.single {ts} {x} r) w = (and_prints ts x r w).bare
  or_prints _ _ (g.several {ts} {us} {x} {y} {zs} r s) w =
      let a = node_prints (keyword k.Or) (codes " OR ") (between_blanks k.Or) c.Or inside_or (ReadsAnd depth)
      (λ ts x r w. (and_prints ts x r w).in_or) ts us x y zs r s w in
      subst (λ (q : Printed). As (ReadsOr depth) (text_of q) (c.Or (x ∷ y ∷ zs))) (sym (printed-Or (x ∷ y ∷ zs))) a

  in_parentheses : (bytes : Text) (x : Condition ColumnName) → As (ReadsOr depth) bytes x → As (ReadsNot (suc depth)) (bracketed bytes) x
  in_parentheses bytes x a =
      record { says = sign LeftParenthesis ∷ a.says ++ sign RightParenthesis ∷ []; reads = g.parentheses a.reads; part = bracketed_part bytes a.says a.part }

  -- what stood in parentheses: they are printed again where they are needed, and there is depth for them
  parentheses_print : (ts : Lexemes) (x : Condition ColumnName) → ReadsOr depth ts x → Words ts → PrintsNot (suc depth) x
  parentheses_print _ _ (g.single (g.single {ts} {x} r)) w =
      let q = prints ts x r w in
      record {
        bare = by (ReadsOr depth) (ReadsOr (suc depth)) (deeper_or depth) _ x q.bare;
        in_or = by (ReadsAnd depth) (ReadsAnd (suc depth)) (deeper_and depth) _ x q.in_or;
        in_and = by (ReadsNot depth) (ReadsNot (suc depth)) (deeper_not depth) _ x q.in_and;
      }
  parentheses_print _ _ (g.single (g.several {ts} {us} {x} {y} {zs} r s)) w =
      let q = and_prints _ _ (g.several r s) w in
      let e = printed-And (x ∷ y ∷ zs) in
      let b = subst (λ (q : Printed). As (ReadsOr depth) (text_of q) (c.And (x ∷ y ∷ zs))) e q.bare in
      record {
        bare = by (ReadsOr depth) (ReadsOr (suc depth)) (deeper_or depth) _ _ q.bare;
        in_or = by (ReadsAnd depth) (ReadsAnd (suc depth)) (deeper_and depth) _ _ q.in_or;
        in_and = subst (λ (q : Printed). As (ReadsNot (suc depth)) (inside_and q) (c.And (x ∷ y ∷ zs))) (sym e) (in_parentheses _ _ b);
      }
  parentheses_print _ _ (g.several {ts} {us} {x} {y} {zs} r s) w =
      let q = or_prints _ _ (g.several r s) w in
      let e = printed-Or (x ∷ y ∷ zs) in
      let b = in_parentheses _ _ (subst (λ (q : Printed). As (ReadsOr depth) (text_of q) (c.Or (x ∷ y ∷ zs))) e q) in
      record {
        bare = by (ReadsOr depth) (ReadsOr (suc depth)) (deeper_or depth) _ _ q;
        in_or = subst (λ (q : Printed). As (ReadsAnd (suc depth)) (inside_or q) (c.Or (x ∷ y ∷ zs))) (sym e)
            (by (ReadsNot (suc depth)) (ReadsAnd (suc depth)) (λ ts y r. g.single r) _ _ b);
        in_and = subst (λ (q : Printed). As (ReadsNot (suc depth)) (inside_and q) (c.Or (x ∷ y ∷ zs))) (sym e) b;
      }

-- NOT and what stands under it
not_part : (bytes : Text) (us : Lexemes) → Part bytes us → Part (codes "NOT " ++ bytes) (keyword k.Not ∷ us)
not_part bytes us q rest ms b r = word k.Not (0x20 ∷ bytes ++ rest) (us ++ ms) at_blank (blank refl (q rest ms b r))

negated_prints : (depth : ℕ) (x : Condition ColumnName) → As (ReadsNot depth) (inside_and (condition_printed x)) x → PrintsNot (suc depth) (c.Not x)
negated_prints depth x a =
    alike (suc depth) _ _ (printed-Not x) (record { says = keyword k.Not ∷ a.says; reads = g.negated a.reads; part = not_part _ a.says a.part })

not_prints : (depth : ℕ) (ts : Lexemes) (x : Condition ColumnName) → ReadsNot depth ts x → Words ts → PrintsNot depth x
not_prints zero ts x r w = test_prints zero ts x r w
not_prints (suc depth) _ _ (g.test {ts} {x} r) w = test_prints (suc depth) ts x r w
not_prints (suc depth) _ _ (g.negated {ts} {x} r) w = negated_prints depth x (not_prints depth ts x r w).in_and
not_prints (suc depth) _ _ (g.not_in {ts} {us} {left} {members} r s) w =
    let q = words_parts ts (keyword k.Not ∷ keyword k.In ∷ us) w in
    negated_prints depth (c.In left members) (test_prints depth (ts ++ keyword k.In ∷ us) _ (g.in_list r s) (words_join ts (keyword k.In ∷ us) q.0 q.1)).in_and
not_prints (suc depth) _ _ (g.is_not_null {ts} {left} r) w =
    let q = words_parts ts (keyword k.Is ∷ keyword k.Not ∷ keyword k.Null ∷ []) w in
    negated_prints depth (c.IsNull left) (test_prints depth (ts ++ keyword k.Is ∷ keyword k.Null ∷ []) _ (g.is_null r) (words_join ts _ q.0 refl)).in_and
not_prints (suc depth) _ _ (g.parentheses {ts} {x} r) w =
    parentheses_print depth (not_prints depth) ts x r (words_parts ts (sign RightParenthesis ∷ []) w).0

pub condition_prints : (depth : ℕ) (ts : Lexemes) (x : Condition ColumnName) → ReadsOr depth ts x → Words ts → As (ReadsOr depth) (condition_text x) x
condition_prints depth ts x r w = or_prints depth (not_prints depth) ts x r w
