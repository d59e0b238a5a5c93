-- Rows that are pulled and encoded, one after another.
use Rattle.std.proofs.Common.{◌≡◌, ℕ, ◌+◌, ◌<◌, List, [], ◌∷◌, ◌++◌, length, map, get_or, take, Result, Ok, Err, append_assoc, append-nil, ap, subst, sym, refl, ◌∙◌, arith}
use Rattle.std.specs.Prelude.{OnOk, IfOk}
use Rattle.std.proofs.lemmas.List.{map_more}
use Rattle.vt_value.specs.Values.{Row}
use Rattle.mysql_packet.specs.Frames.{frame, frames_from, number_after, number_after_all}
use Rattle.resultset.specs.Encoding.{row_payload}
use Rattle.resultset.proofs.Payloads.{HasPut, has_put_none, whole_more, next_more, whole_one, next_one, more_ok, more_next, number_after_all-append}

-- What stands there, with the packets of the rows that are still to come, is the whole stream.
abbrev pub bytes_of : List ℕ → ℕ → List Row → List ℕ
bytes_of bytes next rows = bytes ++ frames_from next (map row_payload rows)

abbrev pub number_past : ℕ → List Row → ℕ
number_past next rows = number_after_all next (map row_payload rows)

pub pulled_bytes : (rows more : List Row) (row : Row) (bytes bytes' payload : List ℕ) (next next' : ℕ) → rows ≡ row ∷ more → payload ≡ row_payload row
    → bytes' ≡ bytes ++ frame next payload → next' ≡ number_after next payload → bytes_of bytes' next' more ≡ bytes_of bytes next rows
pulled_bytes rows more row bytes bytes' payload next next' is e is_new is_next =
    ap (λ (b : List ℕ). b ++ frames_from next' (map row_payload more)) (is_new ∙ ap (λ (p : List ℕ). bytes ++ frame next p) e)
    ∙ ap (λ (n : ℕ). (bytes ++ frame next (row_payload row)) ++ frames_from n (map row_payload more)) (is_next ∙ ap (number_after next) e)
    ∙ append_assoc bytes (frame next (row_payload row)) _
    ∙ ap (bytes_of bytes next) (sym is)

pub pulled_number : (rows more : List Row) (row : Row) (payload : List ℕ) (next next' : ℕ) → rows ≡ row ∷ more → payload ≡ row_payload row
    → next' ≡ number_after next payload → number_past next' more ≡ number_past next rows
pulled_number rows more row payload next next' is e is_next =
    ap (λ (n : ℕ). number_past n more) (is_next ∙ ap (number_after next) e) ∙ ap (number_past next) (sym is)

-- Where no row is left, all of it stands there.
pub none_left : (rows : List Row) (bytes : List ℕ) (next : ℕ) → rows ≡ [] → bytes_of bytes next rows ≡ bytes
none_left rows bytes next is = ap (bytes_of bytes next) is ∙ append-nil bytes

pub last_number : (rows : List Row) (next : ℕ) → rows ≡ [] → number_past next rows ≡ next
last_number rows next is = ap (number_past next) is

-- Three parts of a stream, the last of which is one packet.
pub three_bytes : (start first second third : List ℕ) (n n' n'' : ℕ) (ps qs : List (List ℕ)) (last : List ℕ) (all : List (List ℕ))
    → first ≡ start ++ frames_from n ps → n' ≡ number_after_all n ps → second ≡ first ++ frames_from n' qs → n'' ≡ number_after_all n' qs
    → third ≡ second ++ frame n'' last → (ps ++ qs) ++ last ∷ [] ≡ all → third ≡ start ++ frames_from n all
three_bytes start first second third n n' n'' ps qs last all a na b nb c shape =
    let begun : HasPut start n 0 ps first 0 n' = record { whole = a; next = na; capacity = omega arith } in
    let more : HasPut start n 0 (ps ++ qs) second 0 n'' = record { whole = whole_more ps qs first second 0 n' begun b; next = next_more ps qs first 0 n' n'' begun nb; capacity = omega arith } in
    whole_one (ps ++ qs) last second third 0 n'' more c ∙ ap (λ (l : List (List ℕ)). start ++ frames_from n l) shape

pub three_numbers : (n n' n'' n''' : ℕ) (ps qs : List (List ℕ)) (last : List ℕ) (all : List (List ℕ))
    → n' ≡ number_after_all n ps → n'' ≡ number_after_all n' qs → n''' ≡ number_after n'' last → (ps ++ qs) ++ last ∷ [] ≡ all → n''' ≡ number_after_all n all
three_numbers n n' n'' n''' ps qs last all na nb nc shape =
    nc ∙ ap (λ (m : ℕ). number_after m last) (nb ∙ ap (λ (m : ℕ). number_after_all m qs) na ∙ sym (number_after_all-append n ps qs))
    ∙ sym (number_after_all-append n (ps ++ qs) (last ∷ [])) ∙ ap (number_after_all n) shape

-- What the result for the last of them says of all three.
module _ {E : Type 0} where
  pub three_ok : (r : Result ℕ E) (start first second third : List ℕ) (n n' n'' : ℕ) (ps qs : List (List ℕ)) (last : List ℕ) (all : List (List ℕ))
      → first ≡ start ++ frames_from n ps → n' ≡ number_after_all n ps → second ≡ first ++ frames_from n' qs → n'' ≡ number_after_all n' qs
      → OnOk r (third ≡ second ++ frame n'' last) → (ps ++ qs) ++ last ∷ [] ≡ all → OnOk r (third ≡ start ++ frames_from n all)
  three_ok (Ok x) start first second third n n' n'' ps qs last all a na b nb c shape = three_bytes start first second third n n' n'' ps qs last all a na b nb c shape
  three_ok (Err e) start first second third n n' n'' ps qs last all a na b nb c shape = tt

  pub three_next : (r : Result ℕ E) (n n' n'' : ℕ) (ps qs : List (List ℕ)) (last : List ℕ) (all : List (List ℕ))
      → n' ≡ number_after_all n ps → n'' ≡ number_after_all n' qs → IfOk r (λ x. x ≡ number_after n'' last) → (ps ++ qs) ++ last ∷ [] ≡ all
      → IfOk r (λ x. x ≡ number_after_all n all)
  three_next (Ok x) n n' n'' ps qs last all na nb nc shape = three_numbers n n' n'' x ps qs last all na nb nc shape
  three_next (Err e) n n' n'' ps qs last all na nb nc shape = tt

  -- one packet, then many, then what the result tells of
  pub head_ok : (r : Result ℕ E) (start first second third : List ℕ) (n n' n'' : ℕ) (p : List ℕ) (ds es : List (List ℕ))
      → first ≡ start ++ frame n p → n' ≡ number_after n p → second ≡ first ++ frames_from n' ds → n'' ≡ number_after_all n' ds
      → OnOk r (third ≡ second ++ frames_from n'' es) → OnOk r (third ≡ start ++ frames_from n ((p ∷ ds) ++ es))
  head_ok r start first second third n n' n'' p ds es a na b nb c =
      let none : HasPut start n 0 [] start 0 n = has_put_none 0 (omega arith) in
      let one : HasPut start n 0 (p ∷ []) first 0 n' = record { whole = whole_one [] p start first 0 n none a; next = next_one [] p start 0 n n' none na; capacity = omega arith } in
      let more : HasPut start n 0 (p ∷ ds) second 0 n'' = record { whole = whole_more (p ∷ []) ds first second 0 n' one b; next = next_more (p ∷ []) ds first 0 n' n'' one nb; capacity = omega arith } in
      more_ok r (p ∷ ds) es ((p ∷ ds) ++ es) second third 0 n'' more refl c

  pub head_next : (r : Result ℕ E) (start first second : List ℕ) (n n' n'' : ℕ) (p : List ℕ) (ds es : List (List ℕ))
      → first ≡ start ++ frame n p → n' ≡ number_after n p → second ≡ first ++ frames_from n' ds → n'' ≡ number_after_all n' ds
      → IfOk r (λ x. x ≡ number_after_all n'' es) → IfOk r (λ x. x ≡ number_after_all n ((p ∷ ds) ++ es))
  head_next r start first second n n' n'' p ds es a na b nb c =
      let none : HasPut start n 0 [] start 0 n = has_put_none 0 (omega arith) in
      let one : HasPut start n 0 (p ∷ []) first 0 n' = record { whole = whole_one [] p start first 0 n none a; next = next_one [] p start 0 n n' none na; capacity = omega arith } in
      let more : HasPut start n 0 (p ∷ ds) second 0 n'' = record { whole = whole_more (p ∷ []) ds first second 0 n' one b; next = next_more (p ∷ []) ds first 0 n' n'' one nb; capacity = omega arith } in
      more_next r (p ∷ ds) es ((p ∷ ds) ++ es) second 0 n'' more refl c

-- After what was there at the start stand these payloads.
pub record Written (start : List ℕ) (first : ℕ) (ps : List (List ℕ)) (items : List ℕ) (number : ℕ) : Type 0 where
  pub whole : items ≡ start ++ frames_from first ps
  pub next : number ≡ number_after_all first ps

-- the next of a list
pub writes_next : {X : Type 0} (f : X → List ℕ) (xs : List X) (i : ℕ) (x : X) (start items items' : List ℕ) (first number number' : ℕ)
    → Written start first (map f (take i xs)) items number → i < length xs → x ≡ get_or xs i x
    → items' ≡ items ++ frame number (f x) → number' ≡ number_after number (f x) → Written start first (map f (take (i + 1) xs)) items' number'
writes_next f xs i x start items items' first number number' so_far lt is is_new is_next =
    let put : HasPut start first 0 (map f (take i xs)) items 0 number = record { whole = so_far.whole; next = so_far.next; capacity = omega arith } in
    let all : map f (take (i + 1) xs) ≡ map f (take i xs) ++ f x ∷ [] = map_more f xs i x lt ∙ ap (λ y. map f (take i xs) ++ f y ∷ []) (sym is) in
    let both : Written start first (map f (take i xs) ++ f x ∷ []) items' number' = record {
      whole = whole_one (map f (take i xs)) (f x) items items' 0 number put is_new;
      next = next_one (map f (take i xs)) (f x) items 0 number number' put is_next;
    } in
    subst (λ (ps : List (List ℕ)). Written start first ps items' number') (sym all) both
