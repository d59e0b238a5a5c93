-- A plain query's piece is the query, and what one shard gives for it is the answer.
use Rattle.std.proofs.Common.{◌≡◌, ◌==◌, ◌&&◌, ℕ, ◌+◌, zero, suc, Bool, true, false, List, [], ◌∷◌, length, map, None, IsTrue, refl, sym, ap, ◌∙◌, subst}
use Rattle.std.proofs.lemmas.Bool.{eqb-true, false≢true}
use Rattle.std.proofs.lemmas.List.Sorted.{IsPermutation-refl}
use Rattle.std.specs.List.{list_all, range_with_len}
use Rattle.vt_value.specs.Values.{Row}
use Rattle.operators.specs.Slices.{columns_of}
use Rattle.operators.proofs.Turns.{shown_whole}
use Rattle.vschema.specs.declared.schema.Query.{Query}
use Rattle.vschema.specs.Resolved.{ordinals_from}
use Rattle.vschema.specs.Checks.{is_aggregated}
use Rattle.vt_value.specs.declared.value.Value.{Value}
use Rattle.keyrange.specs.declared.KeyRange.{KeyRange}
use Rattle.vschema.specs.declared.schema.Table.{Table}
use Rattle.planner.specs.declared.routes.Route.{Route}
use Rattle.planner.specs.declared.routes.Route.TheVariants.{EqualUnique}
use Rattle.planner.specs.Routes.{route_of}
use Rattle.planner.specs.Plans.{pushed, planned, piece_of, shard_filter, finish_of, Finishes}

in_turn : {X : Type 0} (n : ℕ) (xs : List X) → ordinals_from n xs ≡ range_with_len n (length xs)
in_turn n [] = refl
in_turn n (x ∷ xs) = ap (λ l. n ∷ l) (in_turn (n + 1) xs)

as_many : {X : Type 0} (n : ℕ) (xs : List X) → length (ordinals_from n xs) ≡ length xs
as_many n [] = refl
as_many n (x ∷ xs) = ap suc (as_many (n + 1) xs)

whole : {X : Type 0} (xs : List X) (row : Row) → length row ≡ length xs → columns_of (ordinals_from 0 xs) row ≡ row
whole xs row wide =
    shown_whole (ordinals_from 0 xs) row (length xs) (sym wide) (as_many 0 xs)
    (in_turn 0 xs ∙ ap (range_with_len 0) (sym (as_many 0 xs)))

all_whole : {X : Type 0} (xs : List X) (rows : List Row) → list_all (λ row. length row == length xs) rows ≡ true → rows ≡ map (columns_of (ordinals_from 0 xs)) rows
all_whole xs [] all = refl
all_whole xs (row ∷ rows) all = by (all_whole xs rows) (length row == length xs) refl
  where
    by : (list_all (λ row. length row == length xs) rows ≡ true → rows ≡ map (columns_of (ordinals_from 0 xs)) rows) → (b : Bool) → (length row == length xs) ≡ b
        → row ∷ rows ≡ map (columns_of (ordinals_from 0 xs)) (row ∷ rows)
    by ih true t =
        let g : list_all (λ row. length row == length xs) rows ≡ true = rw t at all in
        let first = sym (whole xs row (eqb-true (length row) (length xs) t)) in
        λ i. first i ∷ ih g i
    by ih false t = let g : false ≡ true = rw t at all in absurd (false≢true g)

pub plain_finishes : (q : Query) (rows : List Row) → is_aggregated q ≡ false → q.order_by ≡ [] → q.limit ≡ None → list_all (λ row. length row == length q.items) rows ≡ true
    → Finishes (finish_of q) rows rows
plain_finishes q rows grouped ordered limited all =
    rw (grouped, ordered, limited) (rows, IsPermutation-refl rows, (λ k d low less. refl), all_whole q.items rows all)

pub point_piece : (t : Table) (q : Query) (v : Value) (range : KeyRange) → pushed q ≡ q → EqualUnique v ≡ route_of t q.join q.filter → piece_of t (planned t q) range ≡ q
point_piece t q v range plain is =
    ap (λ (x : Query). record x { filter = shard_filter t x.join (route_of t q.join q.filter) range x.filter }) plain
    ∙ ap (λ (r : Route). record q { filter = shard_filter t q.join r range q.filter }) (sym is)
