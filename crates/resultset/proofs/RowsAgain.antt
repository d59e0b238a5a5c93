-- A row is read value by value.
use Rattle.std.proofs.Common.{◌≡◌, ℕ, suc, ◌+◌, ◌<◌, ◌≤◌, List, [], ◌∷◌, ◌++◌, length, get_or, take, drop, add-one, append_assoc, drop-cons, ap, sym, subst, ◌∙◌}
use Rattle.std.proofs.lemmas.List.{take_all, drop_all, take_more, append-nil}
use Rattle.std.proofs.lemmas.List.Concat.{flat_map-cons}
use Rattle.vt_value.specs.declared.value.Value.{Value}
use Rattle.vt_value.specs.Values.{Row}
use Rattle.mysql_message.specs.TextValues.{value_bytes}
use Rattle.resultset.specs.declared.unread.Unread.{Unread}
use Rattle.resultset.specs.declared.Column.{Column}
use Rattle.resultset.specs.Encoding.{FitsKind, RowFits, row_payload}
use Rattle.resultset.specs.inner.Reading.{IsMemory}

-- Of a row these values are read already, and these bytes are the rest of them.
pub record Later (columns : List Column) (i : ℕ) (rest : List ℕ) (read whole : Row) : Type 0 where
  pub later : Row
  pub fits : RowFits (drop i columns) later
  pub bytes : rest ≡ row_payload later
  pub joined : read ++ later ≡ whole

pub record RowSoFar (columns : List Column) (payload : List ℕ) (i : ℕ) (rest : List ℕ) (read : Row) : Type 0 where
  pub fits : RowFits (take i columns) read
  pub again : (row : Row) → RowFits columns row → payload ≡ row_payload row → Later columns i rest read row

fits_push : (columns : List Column) (c : Column) (row : Row) (v : Value) → RowFits columns row → FitsKind c.kind v → RowFits (columns ++ c ∷ []) (row ++ v ∷ [])
fits_push [] c [] v fits f = (f, tt)
fits_push [] c (u ∷ row) v fits f = absurd fits
fits_push (d ∷ columns) c [] v fits f = absurd fits
fits_push (d ∷ columns) c (u ∷ row) v fits f = (fits.0, fits_push columns c row v fits.1 f)

-- what the next value and the bytes after it say of each value that the bytes may begin with
abbrev pub IsValue : Column → List ℕ → Value → List ℕ → Type 0
IsValue c rest value after = (v : Value) (more : List ℕ) → FitsKind c.kind v → rest ≡ value_bytes v ++ more → (value ≡ v) × (after ≡ more)

abbrev pub IsNoValue : Column → List ℕ → Unread → Type 0
IsNoValue c rest e = (v : Value) (more : List ℕ) → FitsKind c.kind v → rest ≡ value_bytes v ++ more → IsMemory e

later_from : (columns : List Column) (i : ℕ) (rest after : List ℕ) (read whole later : Row) (c : Column) (value : Value) → IsValue c rest value after
    → RowFits (c ∷ drop (i + 1) columns) later → rest ≡ row_payload later → read ++ later ≡ whole → Later columns (i + 1) after (read ++ value ∷ []) whole
later_from columns i rest after read whole [] c value is fits bytes joined = absurd fits
later_from columns i rest after read whole (v ∷ later) c value is fits bytes joined =
    let found = is v (row_payload later) fits.0 (bytes ∙ flat_map-cons value_bytes v later) in
    record {
      later = later;
      fits = fits.1;
      bytes = found.1;
      joined = append_assoc read (value ∷ []) later ∙ ap (λ (u : Value). read ++ (u ∷ later)) found.0 ∙ joined;
    }

front : (columns : List Column) (i : ℕ) (c : Column) → i < length columns → c ≡ get_or columns i c → drop i columns ≡ c ∷ drop (i + 1) columns
front columns i c lt is = drop-cons columns i c lt ∙ ap (λ (d : Column). d ∷ drop (suc i) columns) (sym is) ∙ ap (λ (n : ℕ). c ∷ drop n columns) (sym (add-one i))

pub row_next : (columns : List Column) (payload : List ℕ) (i : ℕ) (rest after : List ℕ) (read : Row) (c : Column) (value : Value)
    → RowSoFar columns payload i rest read → i < length columns → c ≡ get_or columns i c → FitsKind c.kind value → IsValue c rest value after
    → RowSoFar columns payload (i + 1) after (read ++ value ∷ [])
row_next columns payload i rest after read c value so_far lt is fits found = record {
  fits = subst (λ (cs : List Column). RowFits cs (read ++ value ∷ [])) (ap (λ (d : Column). take i columns ++ d ∷ []) is ∙ sym (take_more columns i c lt)) (fits_push (take i columns) c read value so_far.fits fits);
  again = λ row all e.
      let l = so_far.again row all e in
      later_from columns i rest after read row l.later c value found (subst (λ (cs : List Column). RowFits cs l.later) (front columns i c lt is) l.fits) l.bytes l.joined;
}

no_value_from : (columns : List Column) (rest : List ℕ) (later : Row) (c : Column) (e : Unread) → IsNoValue c rest e → RowFits (c ∷ columns) later → rest ≡ row_payload later → IsMemory e
no_value_from columns rest [] c e none fits bytes = absurd fits
no_value_from columns rest (v ∷ later) c e none fits bytes = none v (row_payload later) fits.0 (bytes ∙ flat_map-cons value_bytes v later)

pub no_value : (columns : List Column) (payload : List ℕ) (i : ℕ) (rest : List ℕ) (read : Row) (c : Column) (e : Unread) → RowSoFar columns payload i rest read → i < length columns → c ≡ get_or columns i c
    → IsNoValue c rest e → (row : Row) → RowFits columns row → payload ≡ row_payload row → IsMemory e
no_value columns payload i rest read c e so_far lt is none row all written =
    let l = so_far.again row all written in
    no_value_from (drop (i + 1) columns) rest l.later c e none (subst (λ (cs : List Column). RowFits cs l.later) (front columns i c lt is) l.fits) l.bytes

none_later : (later read : Row) → RowFits [] later → read ≡ read ++ later
none_later [] read fits = sym (append-nil read)
none_later (v ∷ later) read fits = absurd fits

pub row_all : (columns : List Column) (payload : List ℕ) (i : ℕ) (rest : List ℕ) (read : Row) → RowSoFar columns payload i rest read → length columns ≤ i
    → RowFits columns read × ((row : Row) → RowFits columns row → payload ≡ row_payload row → read ≡ row)
row_all columns payload i rest read so_far done = (
  subst (λ (cs : List Column). RowFits cs read) (take_all i columns done) so_far.fits,
  λ row all e.
      let l = so_far.again row all e in
      none_later l.later read (subst (λ (cs : List Column). RowFits cs l.later) (drop_all i columns done) l.fits) ∙ l.joined,
)
