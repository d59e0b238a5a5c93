-- A result set is read again.
use Rattle.std.proofs.Common.{append_assoc, ◌≡◌, ℕ, ◌+◌, ◌-◌, ◌^◌, ◌<◌, List, [], ◌∷◌, ◌++◌, length, map, take, drop, refl, ap, sym, subst, ◌∙◌, arith}
use Rattle.std.specs.List.{AllByRecursion}
use Rattle.std.proofs.lemmas.List.{append-nil, length-append, length-map}
use Rattle.std.proofs.Math.Seq.{take-append_seam, drop-append_seam}
use Rattle.vt_value.specs.Values.{Row}
use Rattle.mysql_packet.specs.Numbers.{length_encoded}
use Rattle.resultset.specs.declared.Column.{Column}
use Rattle.resultset.specs.declared.ResultSet.{ResultSet}
use Rattle.resultset.specs.declared.SetEnd.{SetEnd}
use Rattle.resultset.specs.declared.SetEnd.TheVariants.{EofPackets, OkPacket}
use Rattle.resultset.specs.Encoding.{RowFits, definition_payload, row_payload, after_definitions, after_rows, set_payloads}

-- the payloads that stand between two others
between : (front middle back : List (List ℕ)) (i n : ℕ) → i ≡ length front → n ≡ length middle → take n (drop i (front ++ (middle ++ back))) ≡ middle
between front middle back i n e f =
    ap (λ (k : ℕ). take n (drop k (front ++ (middle ++ back)))) e ∙ ap (take n) (drop-append_seam front (middle ++ back))
    ∙ ap (λ (k : ℕ). take k (middle ++ back)) f ∙ take-append_seam middle back

-- the status of the packets after the definitions doesn't tell how many they are
after_length : (end : SetEnd) (status other : ℕ) → length (after_definitions end status) ≡ length (after_definitions end other)
after_length EofPackets status other = refl
after_length OkPacket status other = refl

module _ (end : SetEnd) (set : ResultSet) (status : ℕ) (head : List ℕ) (payloads : List (List ℕ)) (is_head : head ≡ length_encoded (length set.columns)) (e : payloads ≡ set_payloads end set status) where
  set_length : length payloads ≡ length set.columns + length set.rows + length (after_definitions end 0) + 2
  set_length = ap length e ∙ simp (length-append, length-map) (omega (arith, after_length end status 0))

  pub head_again : head ≡ length_encoded (length set.columns) ++ []
  head_again = is_head ∙ sym (append-nil (length_encoded (length set.columns)))

  pub columns_short : length payloads < 2 ^ 64 → length set.columns < 2 ^ 64
  columns_short short = omega (arith, set_length)

  module _ (count : ℕ) (counted : count ≡ length set.columns) where
    -- the payloads of the definitions, and those of the rows
    pub definitions_stand : take (count + 1 - 1) (drop 1 payloads) ≡ map definition_payload set.columns
    definitions_stand =
        ap (λ (l : List (List ℕ)). take (count + 1 - 1) (drop 1 l))
        (e ∙ append_assoc (length_encoded (length set.columns) ∷ map definition_payload set.columns) (after_definitions end status ++ map row_payload set.rows) (after_rows end status ∷ []))
        ∙ between (length_encoded (length set.columns) ∷ []) (map definition_payload set.columns) _ 1 (count + 1 - 1) refl (omega (arith, counted, length-map set.columns definition_payload))

    pub rows_stand : (trailing : ℕ) → trailing ≡ length (after_definitions end 0)
        → take (length payloads - 1 - (count + 1 + trailing)) (drop (count + 1 + trailing) payloads) ≡ map row_payload set.rows
    rows_stand trailing is =
        let front : List (List ℕ) = (length_encoded (length set.columns) ∷ map definition_payload set.columns) ++ after_definitions end status in
        let back : List (List ℕ) = after_rows end status ∷ [] in
        let shape : set_payloads end set status ≡ front ++ (map row_payload set.rows ++ back) =
        append_assoc (length_encoded (length set.columns) ∷ map definition_payload set.columns) (after_definitions end status ++ map row_payload set.rows) back
        ∙ ap (λ (l : List (List ℕ)). (length_encoded (length set.columns) ∷ map definition_payload set.columns) ++ l) (append_assoc (after_definitions end status) (map row_payload set.rows) back)
        ∙ sym (append_assoc (length_encoded (length set.columns) ∷ map definition_payload set.columns) (after_definitions end status) (map row_payload set.rows ++ back))
        in
        ap (λ (l : List (List ℕ)). take (length payloads - 1 - (count + 1 + trailing)) (drop (count + 1 + trailing) l)) (e ∙ shape)
        ∙ between front (map row_payload set.rows) back (count + 1 + trailing) (length payloads - 1 - (count + 1 + trailing))
        (simp (length-append, length-map) (omega (arith, counted, is, after_length end status 0)))
        (omega (arith, counted, is, set_length, length-map set.rows row_payload))

    pub rows_fit : (columns : List Column) → columns ≡ set.columns → AllByRecursion (RowFits set.columns) set.rows → AllByRecursion (RowFits columns) set.rows
    rows_fit columns same fits = subst (λ (cs : List Column). AllByRecursion (RowFits cs) set.rows) (sym same) fits

    pub same_set : (columns : List Column) (rows : List Row) → columns ≡ set.columns → rows ≡ set.rows → (let s : ResultSet = record { columns = columns; rows = rows } in s) ≡ set
    same_set columns rows same_columns same_rows =
        ap (λ (cs : List Column). let s : ResultSet = record { columns = cs; rows = rows } in s) same_columns
        ∙ ap (λ (rs : List Row). let s : ResultSet = record { columns = set.columns; rows = rs } in s) same_rows
