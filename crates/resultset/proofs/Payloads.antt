-- Payloads that are written one after another.
use Rattle.std.proofs.Common.{append_assoc, ◌≡◌, ℕ, ◌+◌, ◌<◌, ◌≤◌, List, [], ◌∷◌, ◌++◌, length, map, get_or, take, drop, Result, Ok, Err, ap, subst, sym, ◌∙◌, refl, arith}
use Rattle.std.specs.Prelude.{OnErr, OnOk, IfOk}
use Rattle.std.proofs.Math.Seq.{take-append_seam}
use Rattle.std.proofs.lemmas.List.{append-nil, take-append-drop, map_more}
use Rattle.vt_value.specs.Values.{Row}
use Rattle.mysql_packet.specs.Numbers.{length_encoded}
use Rattle.mysql_packet.specs.Frames.{frame, frames_from, number_after, number_after_all}
use Rattle.resultset.specs.declared.Column.{Column}
use Rattle.resultset.specs.declared.SetEnd.{SetEnd}
use Rattle.resultset.specs.Encoding.{row_payload, definition_payload, after_definitions, after_rows, set_payloads}
use Rattle.resultset.specs.inner.Heads.{head_payloads}

pub frames_from-append : (first : ℕ) (ps qs : List (List ℕ)) → frames_from first (ps ++ qs) ≡ frames_from first ps ++ frames_from (number_after_all first ps) qs
frames_from-append first [] qs = refl
frames_from-append first (p ∷ ps) qs =
    ap (λ (l : List ℕ). frame first p ++ l) (frames_from-append (number_after first p) ps qs) ∙ sym (append_assoc (frame first p) _ _)

pub number_after_all-append : (first : ℕ) (ps qs : List (List ℕ)) → number_after_all first (ps ++ qs) ≡ number_after_all (number_after_all first ps) qs
number_after_all-append first [] qs = refl
number_after_all-append first (p ∷ ps) qs = number_after_all-append (number_after first p) ps qs

-- After what was there at the start stand these payloads, and no room was lost.
pub record HasPut (start : List ℕ) (first size : ℕ) (ps : List (List ℕ)) (items : List ℕ) (spare number : ℕ) : Type 0 where
  pub whole : items ≡ start ++ frames_from first ps
  pub next : number ≡ number_after_all first ps
  pub capacity : size ≤ length items + spare

module _ {start : List ℕ} {first size : ℕ} where
  pub has_put_none : (spare : ℕ) → size ≤ length start + spare → HasPut start first size [] start spare first
  has_put_none spare le = record { whole = sym (append-nil start); next = refl; capacity = le }

  pub whole_one : (ps : List (List ℕ)) (p items items' : List ℕ) (spare number : ℕ)
      → HasPut start first size ps items spare number → items' ≡ items ++ frame number p → items' ≡ start ++ frames_from first (ps ++ p ∷ [])
  whole_one ps p items items' spare number so_far is_new =
      is_new ∙ ap (λ (l : List ℕ). l ++ frame number p) so_far.whole ∙ append_assoc start _ _
      ∙ ap (λ (n : ℕ). start ++ (frames_from first ps ++ frame n p)) so_far.next
      ∙ ap (λ (l : List ℕ). start ++ (frames_from first ps ++ l)) (sym (append-nil (frame (number_after_all first ps) p)))
      ∙ ap (λ (l : List ℕ). start ++ l) (sym (frames_from-append first ps (p ∷ [])))

  pub next_one : (ps : List (List ℕ)) (p items : List ℕ) (spare number number' : ℕ)
      → HasPut start first size ps items spare number → number' ≡ number_after number p → number' ≡ number_after_all first (ps ++ p ∷ [])
  next_one ps p items spare number number' so_far is_next =
      is_next ∙ ap (λ (n : ℕ). number_after n p) so_far.next ∙ sym (number_after_all-append first ps (p ∷ []))

  pub puts_one : (ps : List (List ℕ)) (p items items' : List ℕ) (spare spare' number number' : ℕ)
      → HasPut start first size ps items spare number
      → items' ≡ items ++ frame number p → number' ≡ number_after number p → length items + spare ≤ length items' + spare'
      → HasPut start first size (ps ++ p ∷ []) items' spare' number'
  puts_one ps p items items' spare spare' number number' so_far is_new is_next le = record {
    whole = whole_one ps p items items' spare number so_far is_new;
    next = next_one ps p items spare number number' so_far is_next;
    capacity = omega (arith, so_far.capacity, le);
  }

  -- the next of a list
  pub puts_next : {X : Type 0} (f : X → List ℕ) (xs : List X) (i : ℕ) (x : X) (p items items' : List ℕ) (spare spare' number number' : ℕ)
      → HasPut start first size (map f (take i xs)) items spare number → i < length xs → x ≡ get_or xs i x → p ≡ f x
      → items' ≡ items ++ frame number p → number' ≡ number_after number p → length items + spare ≤ length items' + spare'
      → HasPut start first size (map f (take (i + 1) xs)) items' spare' number'
  puts_next f xs i x p items items' spare spare' number number' so_far lt is e is_new is_next le =
      let all : map f (take (i + 1) xs) ≡ map f (take i xs) ++ p ∷ [] =
      map_more f xs i x lt ∙ ap (λ y. map f (take i xs) ++ f y ∷ []) (sym is) ∙ ap (λ (q : List ℕ). map f (take i xs) ++ q ∷ []) (sym e)
      in
      subst (λ (ps : List (List ℕ)). HasPut start first size ps items' spare' number') (sym all)
      (puts_one (map f (take i xs)) p items items' spare spare' number number' so_far is_new is_next le)

  pub whole_more : (ps qs : List (List ℕ)) (items items' : List ℕ) (spare number : ℕ)
      → HasPut start first size ps items spare number → items' ≡ items ++ frames_from number qs → items' ≡ start ++ frames_from first (ps ++ qs)
  whole_more ps qs items items' spare number so_far is_new =
      is_new ∙ ap (λ (l : List ℕ). l ++ frames_from number qs) so_far.whole ∙ append_assoc start _ _
      ∙ ap (λ (n : ℕ). start ++ (frames_from first ps ++ frames_from n qs)) so_far.next
      ∙ ap (λ (l : List ℕ). start ++ l) (sym (frames_from-append first ps qs))

  pub next_more : (ps qs : List (List ℕ)) (items : List ℕ) (spare number number' : ℕ)
      → HasPut start first size ps items spare number → number' ≡ number_after_all number qs → number' ≡ number_after_all first (ps ++ qs)
  next_more ps qs items spare number number' so_far is_next =
      is_next ∙ ap (λ (n : ℕ). number_after_all n qs) so_far.next ∙ sym (number_after_all-append first ps qs)

  pub puts_more : (ps qs : List (List ℕ)) (items items' : List ℕ) (spare spare' number number' : ℕ)
      → HasPut start first size ps items spare number
      → items' ≡ items ++ frames_from number qs → number' ≡ number_after_all number qs → length items + spare ≤ length items' + spare'
      → HasPut start first size (ps ++ qs) items' spare' number'
  puts_more ps qs items items' spare spare' number number' so_far is_new is_next le = record {
    whole = whole_more ps qs items items' spare number so_far is_new;
    next = next_more ps qs items spare number number' so_far is_next;
    capacity = omega (arith, so_far.capacity, le);
  }

-- What stood in front of what stands in front stands in front.
pub front_kept : (start more mid later : List ℕ) → mid ≡ start ++ more → take (length mid) later ≡ mid → take (length start) later ≡ start
front_kept start more mid later e kept =
    let whole : later ≡ start ++ (more ++ drop (length mid) later) =
    sym (take-append-drop (length mid) later) ∙ ap (λ (l : List ℕ). l ++ drop (length mid) later) (kept ∙ e) ∙ append_assoc start more _
    in
    ap (take (length start)) whole ∙ take-append_seam start _

pub front_stays : (start more later : List ℕ) → later ≡ start ++ more → take (length start) later ≡ start
front_stays start more later e = ap (take (length start)) e ∙ take-append_seam start more

pub on_err : {T E P : Type 0} (r : Result T E) → P → OnErr r P
on_err (Ok x) p = tt
on_err (Err e) p = p

-- what stands in front of the rows, as it is written
pub head_shape : (end : SetEnd) (status : ℕ) (columns : List Column) (p : List ℕ) → p ≡ length_encoded (length columns)
    → (p ∷ map definition_payload columns) ++ after_definitions end status ≡ head_payloads end columns status
head_shape end status columns p e = ap (λ (q : List ℕ). (q ∷ map definition_payload columns) ++ after_definitions end status) e

-- the payloads of a result set, as they are written
pub set_shape : (end : SetEnd) (status : ℕ) (columns' columns : List Column) (rows' rows : List Row) → columns' ≡ columns → rows' ≡ rows
    → (head_payloads end columns' status ++ map row_payload rows') ++ after_rows end status ∷ []
    ≡ set_payloads end (record { columns = columns; rows = rows }) status
set_shape end status columns' columns rows' rows e1 e2 =
    ap (λ (cs : List Column). (head_payloads end cs status ++ map row_payload rows') ++ after_rows end status ∷ []) e1
    ∙ ap (λ (rs : List Row). (head_payloads end columns status ++ map row_payload rs) ++ after_rows end status ∷ []) e2
    ∙ ap (λ (l : List (List ℕ)). l ++ after_rows end status ∷ [])
    (append_assoc (length_encoded (length columns) ∷ map definition_payload columns) (after_definitions end status) (map row_payload rows))

-- What the result for the last of them says of all of them.
module _ {E : Type 0} {start : List ℕ} {first size : ℕ} where
  pub more_ok : (r : Result ℕ E) (ps more qs : List (List ℕ)) (items items' : List ℕ) (spare number : ℕ)
      → HasPut start first size ps items spare number → ps ++ more ≡ qs
      → OnOk r (items' ≡ items ++ frames_from number more) → OnOk r (items' ≡ start ++ frames_from first qs)
  more_ok (Ok n) ps more qs items items' spare number so_far e is_new =
      whole_more ps more items items' spare number so_far is_new ∙ ap (λ (l : List (List ℕ)). start ++ frames_from first l) e
  more_ok (Err x) ps more qs items items' spare number so_far e is_new = tt

  pub more_next : (r : Result ℕ E) (ps more qs : List (List ℕ)) (items : List ℕ) (spare number : ℕ)
      → HasPut start first size ps items spare number → ps ++ more ≡ qs
      → IfOk r (λ n. n ≡ number_after_all number more) → IfOk r (λ n. n ≡ number_after_all first qs)
  more_next (Ok n) ps more qs items spare number so_far e is_next =
      next_more ps more items spare number n so_far is_next ∙ ap (number_after_all first) e
  more_next (Err x) ps more qs items spare number so_far e is_next = tt

  pub last_ok : (r : Result ℕ E) (ps qs : List (List ℕ)) (p items items' : List ℕ) (spare number : ℕ)
      → HasPut start first size ps items spare number → ps ++ p ∷ [] ≡ qs
      → OnOk r (items' ≡ items ++ frame number p) → OnOk r (items' ≡ start ++ frames_from first qs)
  last_ok (Ok n) ps qs p items items' spare number so_far e is_new =
      whole_one ps p items items' spare number so_far is_new ∙ ap (λ (l : List (List ℕ)). start ++ frames_from first l) e
  last_ok (Err x) ps qs p items items' spare number so_far e is_new = tt

  pub last_next : (r : Result ℕ E) (ps qs : List (List ℕ)) (p items : List ℕ) (spare number : ℕ)
      → HasPut start first size ps items spare number → ps ++ p ∷ [] ≡ qs
      → IfOk r (λ n. n ≡ number_after number p) → IfOk r (λ n. n ≡ number_after_all first qs)
  last_next (Ok n) ps qs p items spare number so_far e is_next =
      next_one ps p items spare number n so_far is_next ∙ ap (number_after_all first) e
  last_next (Err x) ps qs p items spare number so_far e is_next = tt

  pub last_err : (r : Result ℕ E) (ps : List (List ℕ)) (items items' : List ℕ) (spare number : ℕ)
      → HasPut start first size ps items spare number → OnErr r (items' ≡ items) → OnErr r (take (length start) items' ≡ start)
  last_err (Ok n) ps items items' spare number so_far is_new = tt
  last_err (Err x) ps items items' spare number so_far is_new = front_stays start (frames_from first ps) items' (is_new ∙ so_far.whole)
