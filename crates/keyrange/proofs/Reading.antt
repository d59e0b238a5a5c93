-- A range's name is split at its dash into the digits of its begin and of its end.
use Rattle.std.proofs.Common.{◌≡◌, ◌≢◌, ℕ, zero, suc, ◌/◌, ◌%◌, ◌<◌, true, false, List, [], ◌∷◌, ◌++◌, Option, Some, None, IfSome, IsTrue, ◌==◌, MatchOption, length, get_or, refl, sym, ap, subst, ◌∙◌, arith, append-nil, append_assoc, Bor, lit<}
use Rattle.std.specs.Prelude.{codes}
use Rattle.std.proofs.lemmas.Bool.Decides.{nat_tests}
use Rattle.std.proofs.lemmas.Str.Pattern.{IsSplitOnceResult, split_after}
use Rattle.keyrange.specs.declared.KeyRange.{KeyRange}
use Rattle.keyrange.specs.Ranges.{is_before, IsByteString}
use Rattle.keyrange.specs.Names.{hex_digit, hex, end_text, IsEdge, IsNamed, IsNameOf}
use Rattle.keyrange.proofs.Hex.{byte_of, all_read}

no_dash : (d : ℕ) → d < 16 → hex_digit d ≢ 45
no_dash d h e = grind (arith, nat_tests)

hex_no_dash : (bs : List ℕ) → IsByteString bs → (i : ℕ) → i < length (hex bs) → get_or (hex bs) i 0 ≢ 45
hex_no_dash [] h i l e = absurd (omega (arith, l))
hex_no_dash (b ∷ bs) h zero l e = no_dash (b / 16) (let p = byte_of b bs h in omega arith) e
hex_no_dash (b ∷ bs) h (suc zero) l e = no_dash (b % 16) (omega arith) e
hex_no_dash (b ∷ bs) h (suc (suc i)) l e = hex_no_dash bs (byte_of b bs h).1 i (omega arith) e

pub named_split : (text : List ℕ) (r : KeyRange) (parts : Option (Bor (List ℕ) × Bor (List ℕ))) → IsSplitOnceResult 45 text parts
    → IsNameOf text r → MatchOption parts ⊥ (λ x. (x.0.now ≡ hex r.begin) × (x.1.now ≡ end_text r.end))
named_split text r parts s n =
    split_after 45 text (hex r.begin) (end_text r.end) parts s (lit< tt) (n.1 ∙ append_assoc (hex r.begin) (codes "-") (end_text r.end)) (hex_no_dash r.begin n.0.0.0)

pub no_end : (r : KeyRange) → IsNamed r → length (end_text r.end) ≡ 0 → r.end ≡ None
no_end r n e = by r.end n.1 e
  where
    by : (end : Option (List ℕ)) → IfSome end (λ e. IsEdge e × (e ≢ []) × IsTrue (is_before r.begin e)) → length (end_text end) ≡ 0 → end ≡ None
    by None h e = refl
    by (Some []) h e = absurd (h.1 refl)
    by (Some (b ∷ bs)) h e = absurd (omega (arith, e))

pub record IsEnd (r : KeyRange) (digits e : List ℕ) : Type 0 where
  pub is : r.end ≡ Some e
  pub edge : IsEdge e
  pub spelled : hex e ≡ digits
  pub trailing : is_before r.begin e ≡ true

pub some_end : (r : KeyRange) (digits : List ℕ) → IsNamed r → digits ≡ end_text r.end → 0 < length digits → (e : List ℕ) × IsEnd r digits e
some_end r digits n d l = by r.end refl n.1 d
  where
    by : (end : Option (List ℕ)) → r.end ≡ end → IfSome end (λ e. IsEdge e × (e ≢ []) × IsTrue (is_before r.begin e)) → digits ≡ end_text end
        → (e : List ℕ) × IsEnd r digits e
    by None i h e = absurd (omega (arith, ap length e))
    by (Some end) i h e = (end, record { is = i; edge = h.0; spelled = sym e; trailing = h.2 })

pub some_left : (n : ℕ) → (n == 0) ≡ false → 0 < n
some_left n h = grind (arith, nat_tests)

range_by_edges : (a b : KeyRange) → a.begin ≡ b.begin → a.end ≡ b.end → a ≡ b
range_by_edges a b begin end = λ i. record { begin = begin i; end = end i }

pub same_range : (r : KeyRange) (begin : List ℕ) (end : Option (List ℕ)) → begin ≡ r.begin → r.end ≡ end
    → Some (let range : KeyRange = record { begin = begin; end = end } in range) ≡ Some r
same_range r begin end b e = ap Some (range_by_edges (record { begin = begin; end = end }) r b (sym e))

HasNoDash : List ℕ → Type 0
HasNoDash xs = (i : ℕ) → i < length xs → get_or xs i 0 ≢ 45

-- a text is split at its first dash in one way
dash_apart : (xs ys zs ws : List ℕ) → HasNoDash xs → HasNoDash ys → xs ++ (45 ∷ zs) ≡ ys ++ (45 ∷ ws) → (xs ≡ ys) × (zs ≡ ws)
unfolding HasNoDash
dash_apart [] [] zs ws h g e = (refl, cc)
dash_apart [] (y ∷ ys) zs ws h g e = absurd (g 0 (omega arith) (cc))
dash_apart (x ∷ xs) [] zs ws h g e = absurd (h 0 (omega arith) (cc))
dash_apart (x ∷ xs) (y ∷ ys) zs ws h g e =
    let w = dash_apart xs ys zs ws (λ i l. h (suc i) (omega arith)) (λ i l. g (suc i) (omega arith)) (cc) in
    let same : x ≡ y = cc in
    (cc, w.1)

hex_one : (a b : List ℕ) → IsByteString a → IsByteString b → hex a ≡ hex b → a ≡ b
hex_one a b h g e = all_read a b [] h g (sym e ∙ sym (append-nil (hex a))) refl

IsEndOf : List ℕ → Option (List ℕ) → Type 0
IsEndOf begin end = IfSome end (λ e. IsEdge e × (e ≢ []) × IsTrue (is_before begin e))

end_one : (begin : List ℕ) (a b : Option (List ℕ)) → IsEndOf begin a → IsEndOf begin b → end_text a ≡ end_text b → a ≡ b
unfolding IsEndOf
end_one begin None None h g e = refl
end_one begin None (Some []) h g e = absurd (g.1 refl)
end_one begin None (Some (y ∷ b)) h g e = cc
end_one begin (Some []) None h g e = absurd (h.1 refl)
end_one begin (Some (x ∷ a)) None h g e = cc
end_one begin (Some a) (Some b) h g e = ap Some (hex_one a b h.0.0 g.0.0 e)

pub one_range_of : (text : List ℕ) (a b : KeyRange) → IsNameOf text a → IsNameOf text b → a ≡ b
unfolding HasNoDash IsEndOf
one_range_of text a b m n =
    let joined : hex a.begin ++ (45 ∷ end_text a.end) ≡ hex b.begin ++ (45 ∷ end_text b.end) =
    sym (append_assoc (hex a.begin) (codes "-") (end_text a.end)) ∙ sym m.1 ∙ n.1 ∙ append_assoc (hex b.begin) (codes "-") (end_text b.end) in
    let parts = dash_apart (hex a.begin) (hex b.begin) (end_text a.end) (end_text b.end) (hex_no_dash a.begin m.0.0.0) (hex_no_dash b.begin n.0.0.0) joined in
    let begin : a.begin ≡ b.begin = hex_one a.begin b.begin m.0.0.0 n.0.0.0 parts.0 in
    let end : a.end ≡ b.end = end_one a.begin a.end b.end m.0.1 (subst (λ (begin : List ℕ). IsEndOf begin b.end) (sym begin) n.0.1) parts.1 in
    range_by_edges a b begin end
