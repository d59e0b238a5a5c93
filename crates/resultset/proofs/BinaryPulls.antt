-- Binary rows that are pulled and encoded, one after another.
use Rattle.std.proofs.Common.{◌≡◌, ℕ, ◌+◌, ◌<◌, List, [], ◌∷◌, ◌++◌, length, map, get_or, take, append_assoc, append-nil, ap, sym, ◌∙◌}
use Rattle.std.proofs.lemmas.List.{map_more}
use Rattle.vt_value.specs.Values.{Row}
use Rattle.mysql_packet.specs.Numbers.{length_encoded}
use Rattle.mysql_packet.specs.Frames.{frame, frames_from, number_after, number_after_all}
use Rattle.resultset.specs.declared.Column.{Column}
use Rattle.resultset.specs.declared.Kind.{Kind}
use Rattle.resultset.specs.declared.SetEnd.{SetEnd}
use Rattle.resultset.specs.Encoding.{definition_payload, after_definitions, after_rows}
use Rattle.resultset.specs.BinaryRows.{binary_row_payload, kinds_of, binary_set_payloads}
use Rattle.resultset.specs.inner.Heads.{head_payloads}

-- What stands there, with the packets of the rows that are still to come, is the whole stream.
abbrev pub binary_bytes : List Kind → List ℕ → ℕ → List Row → List ℕ
binary_bytes kinds bytes next rows = bytes ++ frames_from next (map (binary_row_payload kinds) rows)

abbrev pub binary_past : List Kind → ℕ → List Row → ℕ
binary_past kinds next rows = number_after_all next (map (binary_row_payload kinds) rows)

pub binary_pulled : (kinds : List Kind) (rows more : List Row) (row : Row) (bytes bytes' payload : List ℕ) (next next' : ℕ) → rows ≡ row ∷ more
    → payload ≡ binary_row_payload kinds row → bytes' ≡ bytes ++ frame next payload → next' ≡ number_after next payload
    → binary_bytes kinds bytes' next' more ≡ binary_bytes kinds bytes next rows
binary_pulled kinds rows more row bytes bytes' payload next next' is e is_new is_next =
    ap (λ (b : List ℕ). b ++ frames_from next' (map (binary_row_payload kinds) more)) (is_new ∙ ap (λ (p : List ℕ). bytes ++ frame next p) e)
    ∙ ap (λ (n : ℕ). (bytes ++ frame next (binary_row_payload kinds row)) ++ frames_from n (map (binary_row_payload kinds) more)) (is_next ∙ ap (number_after next) e)
    ∙ append_assoc bytes (frame next (binary_row_payload kinds row)) _
    ∙ ap (binary_bytes kinds bytes next) (sym is)

pub binary_number : (kinds : List Kind) (rows more : List Row) (row : Row) (payload : List ℕ) (next next' : ℕ) → rows ≡ row ∷ more
    → payload ≡ binary_row_payload kinds row → next' ≡ number_after next payload → binary_past kinds next' more ≡ binary_past kinds next rows
binary_number kinds rows more row payload next next' is e is_next =
    ap (λ (n : ℕ). binary_past kinds n more) (is_next ∙ ap (number_after next) e) ∙ ap (binary_past kinds next) (sym is)

-- Where no row is left, all of it stands there.
pub binary_none_left : (kinds : List Kind) (rows : List Row) (bytes : List ℕ) (next : ℕ) → rows ≡ [] → binary_bytes kinds bytes next rows ≡ bytes
binary_none_left kinds rows bytes next is = ap (binary_bytes kinds bytes next) is ∙ append-nil bytes

pub binary_last_number : (kinds : List Kind) (rows : List Row) (next : ℕ) → rows ≡ [] → binary_past kinds next rows ≡ next
binary_last_number kinds rows next is = ap (binary_past kinds next) is

-- the payloads of a result set, as they are written
pub binary_shape : (end : SetEnd) (status : ℕ) (columns : List Column) (kinds : List Kind) (rows : List Row) → kinds ≡ kinds_of columns
    → (head_payloads end columns status ++ map (binary_row_payload kinds) rows) ++ after_rows end status ∷ []
    ≡ binary_set_payloads end (record { columns = columns; rows = rows }) status
binary_shape end status columns kinds rows is =
    ap (λ (ks : List Kind). (head_payloads end columns status ++ map (binary_row_payload ks) rows) ++ after_rows end status ∷ []) is
    ∙ ap (λ (l : List (List ℕ)). l ++ after_rows end status ∷ [])
    (append_assoc (length_encoded (length columns) ∷ map definition_payload columns) (after_definitions end status) (map (binary_row_payload (kinds_of columns)) rows))

-- the kinds of one more column
pub kinds_more : (columns : List Column) (i : ℕ) (c : Column) → i < length columns → c ≡ get_or columns i c
    → kinds_of (take (i + 1) columns) ≡ kinds_of (take i columns) ++ c.kind ∷ []
kinds_more columns i c lt is =
    map_more (λ (x : Column). x.kind) columns i c lt ∙ ap (λ (y : Column). kinds_of (take i columns) ++ y.kind ∷ []) (sym is)
