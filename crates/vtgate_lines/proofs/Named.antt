-- A comma list of names is read name by name: no name has a comma.
use Rattle.std.proofs.Common.{◌≡◌, ◌≢◌, ℕ, zero, suc, ◌/◌, ◌%◌, ◌<◌, List, [], ◌∷◌, ◌++◌, length, get_or, refl, sym, ap, subst, ◌∙◌, arith, append_assoc}
use Rattle.std.specs.Prelude.{codes, Some, None, Option}
use Rattle.std.proofs.lemmas.Bool.Decides.{nat_tests}
use Rattle.keyrange.specs.declared.KeyRange.{KeyRange}
use Rattle.keyrange.specs.Names.{hex_digit, hex, end_text, IsNameOf}
use Rattle.keyrange.proofs.Reading.{one_range_of}
use Rattle.vtgate_lines.specs.Partitions.{IsListOf, last, more}

abbrev pub HasNoComma : List ℕ → Type 0
HasNoComma xs = (i : ℕ) → i < length xs → get_or xs i 0 ≢ 44

no_comma_cons : (x : ℕ) (xs : List ℕ) → x ≢ 44 → HasNoComma xs → HasNoComma (x ∷ xs)
no_comma_cons x xs h g zero l e = h e
no_comma_cons x xs h g (suc i) l e = g i (omega arith) e

no_comma_append : (xs ys : List ℕ) → HasNoComma xs → HasNoComma ys → HasNoComma (xs ++ ys)
no_comma_append [] ys h g = g
no_comma_append (x ∷ xs) ys h g =
    no_comma_cons x (xs ++ ys) (h 0 (omega arith)) (no_comma_append xs ys (λ i l. h (suc i) (omega arith)) g)

digit_no_comma : (d : ℕ) → hex_digit d ≢ 44
digit_no_comma d e = grind (arith, nat_tests)

hex_no_comma : (bs : List ℕ) → HasNoComma (hex bs)
hex_no_comma [] = λ i l e. absurd (omega (arith, l))
hex_no_comma (b ∷ bs) =
    no_comma_cons (hex_digit (b / 16)) (hex_digit (b % 16) ∷ hex bs) (digit_no_comma (b / 16))
    (no_comma_cons (hex_digit (b % 16)) (hex bs) (digit_no_comma (b % 16)) (hex_no_comma bs))

end_no_comma : (end : Option (List ℕ)) → HasNoComma (end_text end)
end_no_comma None = λ i l e. absurd (omega (arith, l))
end_no_comma (Some end) = hex_no_comma end

name_no_comma : (name : List ℕ) (range : KeyRange) → IsNameOf name range → HasNoComma name
name_no_comma name range n =
    subst (λ (xs : List ℕ). HasNoComma xs) (sym n.1)
    (no_comma_append (hex range.begin ++ codes "-") (end_text range.end)
    (no_comma_append (hex range.begin) (codes "-") (hex_no_comma range.begin) (no_comma_cons 45 [] (λ e. absurd (omega (arith, e))) (λ i l e. absurd (omega (arith, l)))))
    (end_no_comma range.end))

has_comma : (zs xs ys : List ℕ) → HasNoComma zs → zs ≡ xs ++ (44 ∷ ys) → ⊥
has_comma [] [] ys h e = cc
has_comma [] (x ∷ xs) ys h e = cc
has_comma (z ∷ zs) [] ys h e = h 0 (omega arith) (cc)
has_comma (z ∷ zs) (x ∷ xs) ys h e = has_comma zs xs ys (λ i l. h (suc i) (omega arith)) (cc)

-- a text is split at its first comma in one way
comma_apart : (xs ys zs ws : List ℕ) → HasNoComma xs → HasNoComma ys → xs ++ (44 ∷ zs) ≡ ys ++ (44 ∷ ws) → (xs ≡ ys) × (zs ≡ ws)
comma_apart [] [] zs ws h g e = (refl, cc)
comma_apart [] (y ∷ ys) zs ws h g e = absurd (g 0 (omega arith) (cc))
comma_apart (x ∷ xs) [] zs ws h g e = absurd (h 0 (omega arith) (cc))
comma_apart (x ∷ xs) (y ∷ ys) zs ws h g e =
    let w = comma_apart xs ys zs ws (λ i l. h (suc i) (omega arith)) (λ i l. g (suc i) (omega arith)) (cc) in
    let same : x ≡ y = cc in
    (cc, w.1)

-- what a list begins with
pub record Front (name rest : List ℕ) (all : List KeyRange) : Type 0 where
  pub range : KeyRange
  pub ranges : List KeyRange
  pub named : IsNameOf name range
  pub trailing : IsListOf rest ranges
  pub is : all ≡ range ∷ ranges

pub at_comma : (text name rest : List ℕ) (all : List KeyRange) → text ≡ name ++ (44 ∷ rest) → HasNoComma name → IsListOf text all → Front name rest all
at_comma text name rest _ e h (last {range = range} n) = absurd (has_comma text name rest (name_no_comma text range n) e)
at_comma _ name rest _ e h (more {name = first} {rest = others} {range = range} {ranges = ranges} n l) =
    let p = comma_apart first name others rest (name_no_comma first range n) h e in
    record {
      range = range;
      ranges = ranges;
      named = subst (λ (t : List ℕ). IsNameOf t range) p.0 n;
      trailing = subst (λ (t : List ℕ). IsListOf t ranges) p.1 l;
      is = refl;
    }

pub record Only (name : List ℕ) (all : List KeyRange) : Type 0 where
  pub range : KeyRange
  pub named : IsNameOf name range
  pub is : all ≡ range ∷ []

pub at_end : (text : List ℕ) (all : List KeyRange) → HasNoComma text → IsListOf text all → Only text all
at_end text _ h (last {range = range} n) = record { range = range; named = n; is = refl }
at_end _ _ h (more {name = first} {rest = others} n l) = absurd (has_comma (first ++ (44 ∷ others)) first others h refl)

-- the ranges of the text are those that were read, and those of the rest
pub record IsRead (text rest : List ℕ) (read : List KeyRange) : Type 0 where
  pub whole : (others : List KeyRange) → IsListOf rest others → IsListOf text (read ++ others)
  pub only : (all : List KeyRange) → IsListOf text all → (others : List KeyRange) × IsListOf rest others × (all ≡ read ++ others)

pub none_read : (text : List ℕ) → IsRead text text []
none_read text = record { whole = λ others l. l; only = λ all l. (all, l, refl) }

pub read_more : (text rest name others : List ℕ) (read now : List KeyRange) (range : KeyRange) → IsRead text rest read
    → rest ≡ name ++ (44 ∷ others) → HasNoComma name → IsNameOf name range → now ≡ read ++ (range ∷ []) → IsRead text others now
read_more text rest name others read now range r e h n is = record {
  whole = λ ranges l.
      subst (λ (all : List KeyRange). IsListOf text all) (sym (ap (λ (xs : List KeyRange). xs ++ ranges) is ∙ append_assoc read (range ∷ []) ranges))
      (r.whole (range ∷ ranges) (subst (λ (t : List ℕ). IsListOf t (range ∷ ranges)) (sym e) (more n l)));
  only = λ all l.
      let o = r.only all l in
      let f = at_comma rest name others o.0 e h o.1 in
      let same : f.range ≡ range = one_range_of name f.range range f.named n in (
        f.ranges,
        f.trailing,
        o.2 ∙ (ap (λ (xs : List KeyRange). read ++ xs) (f.is ∙ ap (λ (x : KeyRange). x ∷ f.ranges) same)
            ∙ (sym (append_assoc read (range ∷ []) f.ranges) ∙ ap (λ (xs : List KeyRange). xs ++ f.ranges) (sym is))),
      );
}

pub all_read : (text rest : List ℕ) (read now : List KeyRange) (range : KeyRange) → IsRead text rest read → HasNoComma rest → IsNameOf rest range
    → now ≡ read ++ (range ∷ []) → IsListOf text now × ((all : List KeyRange) → IsListOf text all → now ≡ all)
all_read text rest read now range r h n is = (
  subst (λ (all : List KeyRange). IsListOf text all) (sym is) (r.whole (range ∷ []) (last n)),
  λ all l.
      let o = r.only all l in
      let f = at_end rest o.0 h o.1 in
      is ∙ sym (o.2 ∙ ap (λ (xs : List KeyRange). read ++ xs) (f.is ∙ ap (λ (x : KeyRange). x ∷ []) (one_range_of rest f.range range f.named n))),
)

pub bad_name : (text rest name others : List ℕ) (read : List KeyRange) → IsRead text rest read → rest ≡ name ++ (44 ∷ others) → HasNoComma name
    → ((range : KeyRange) → IsNameOf name range → ⊥) → (all : List KeyRange) → IsListOf text all → ⊥
bad_name text rest name others read r e h none all l =
    let o = r.only all l in
    let f = at_comma rest name others o.0 e h o.1 in
    none f.range f.named

pub bad_end : (text rest : List ℕ) (read : List KeyRange) → IsRead text rest read → HasNoComma rest
    → ((range : KeyRange) → IsNameOf rest range → ⊥) → (all : List KeyRange) → IsListOf text all → ⊥
bad_end text rest read r h none all l =
    let o = r.only all l in
    let f = at_end rest o.0 h o.1 in
    none f.range f.named
