-- One try to commit a write on the one shard that it needs by a partition.
use Rattle.std.proofs.Common.{◌≡◌, ℕ, ◌<◌, true, false, ◌==◌, List, [], ◌∷◌, length, filter, Some, refl, sym, ap, subst, ◌∙◌, inl, inr}
use Rattle.std.specs.List.{All, AllByRecursion, list_all}
use Rattle.std.proofs.lemmas.Bool.{and_from, eq-eqb}
use Rattle.std.proofs.lemmas.List.Sums.{length-filter}
use Rattle.vt_value.specs.declared.refusal.Refusal.{Refusal}
use Rattle.vt_value.specs.Values.{Row}
use Rattle.keyrange.specs.declared.KeyRange.{KeyRange}
use Rattle.keyrange.specs.Ranges.{has_id}
use Rattle.vschema.specs.declared.schema.Place.{Place}
use Rattle.vschema.specs.declared.schema.Table.{Table}
use Rattle.vschema.specs.declared.changes.Write.{Write}
use Rattle.vschema.specs.declared.changes.Write.TheVariants.{Insert, Update, Delete}
use Rattle.vschema.specs.Schema.{row_id}
use Rattle.vschema.specs.Storable.{is_storable}
use Rattle.vschema.specs.Database.{lies_in}
use Rattle.vschema.specs.TypedWrites.{IsTypedWrite}
use Rattle.shard_contents.specs.Writes.{written_table}
use Rattle.shard_calls.specs.Route.{Route}
use Rattle.shard_calls.specs.Routes.{table_at, write_route, insert_route, takes}
use Rattle.journal.specs.Runs.{NumbersBelow, number_of}
use Rattle.journal.specs.Views.{PassView}
use Rattle.shard_run.specs.declared.Mode.{Mode}
use Rattle.shard_run.specs.declared.Mode.TheVariants.{Following, Serving, Frozen, Retired, Dropped}
use Rattle.shard_run.specs.declared.Entry.{Entry}
use Rattle.shard_run.specs.Runs.{Opening, answers_queries}
use Rattle.shard_contents.proofs.Lists.{In, In-from_filter, In-filter, In-from_map}
use Rattle.serving.specs.Partitions.{Seat, IsPartition, ranges}
use Rattle.shard_contents.specs.Limits.{Limits}
use Rattle.shard_contents.specs.Entries.{HasLooked, commit_of}
use Rattle.shard_contents.specs.Commits.{IsPlaced}
use Rattle.shard_calls.specs.declared.reply.Tried.{Tried}
use Rattle.shard_calls.specs.declared.reply.Tried.TheVariants.{Done, Again}
use Rattle.shard_calls.specs.Answers as a
use Rattle.shard_calls.specs.Answers.{needed, needed_by, HasGone, HasWritten, IsHeldUp, MayWriteRefuse, is_writable}
use Rattle.shard_calls.specs.inner.Scatter.{IsTried, written, again}
use Rattle.shard_contents.proofs.Fitting.{fits-from_typed}
use Rattle.route_engine.proofs.Everywhere.{everywhere}
use Rattle.shard_calls.proofs.Finding.{partition_since, held_up_since}
use Rattle.route_engine.proofs.Placing.{some_in, row_taken, only_one}
use Rattle.route_engine.proofs.Selecting.{gone_on}

-- the part of a partition in which an id lies
pub home_in : (seats : List Seat) → IsPartition seats → (id : List ℕ) → (seat : Seat) × In seat seats × (has_id seat.1 id ≡ true)
home_in seats is id =
    let one = length-filter (λ r. has_id r id) (ranges seats) ∙ everywhere (ranges seats) is.named is.whole id in
    let w = some_in (filter (λ r. has_id r id) (ranges seats)) one in
    let g = In-from_filter (λ r. has_id r id) w.0 (ranges seats) w.1 in
    let v = In-from_map (λ (seat : Seat). seat.1) w.0 seats g.0 in
    (v.0, v.1, subst (λ (r : KeyRange). has_id r id ≡ true) (sym v.2) g.1)

module _ (t : Table) (rows : List Row) (seats : List Seat) (is : IsPartition seats) (seat : Seat) (alone : needed t (insert_route t rows) seats ≡ seat ∷ []) where
  abbrev there : Place
  there = record { keyspace = t.keyspace; range = seat.1 }

  row_lies : (row : Row) → In row rows → is_storable t row ≡ true → lies_in there t row ≡ true
  row_lies row h fits =
      let w = home_in seats is (row_id t row) in
      let same : w.0 ≡ seat = only_one w.0 seat (needed t (insert_route t rows) seats) alone
      (In-filter (λ s. takes t (insert_route t rows) s.1) w.0 (row_taken t rows row h fits w.0.1 w.2) seats w.1) in
      and_from (t.keyspace == t.keyspace) (has_id seat.1 (row_id t row)) (eq-eqb t.keyspace t.keyspace refl)
      (subst (λ (s : Seat). has_id s.1 (row_id t row) ≡ true) same w.2)

  pub all_lie : (more : List Row) → ((row : Row) → In row more → In row rows) → AllByRecursion (λ row. is_storable t row ≡ true) more
      → list_all (lies_in there t) more ≡ true
  all_lie [] inn fits = refl
  all_lie (row ∷ more) inn fits =
      and_from (lies_in there t row) (list_all (lies_in there t) more) (row_lies row (inn row (inl refl)) fits.0)
      (all_lie more (λ r h. inn r (inr h)) fits.1)

pub placed : (o : Opening) (w : Write) → IsTypedWrite o.schema w → (seats : List Seat) → IsPartition seats → (seat : Seat) → needed_by o w seats ≡ seat ∷ []
    → IsPlaced o.schema (record { keyspace = (table_at o.schema (written_table w)).keyspace; range = seat.1 }) w
placed o (Insert n rows) typed seats is seat alone =
    all_lie (table_at o.schema n) rows seats is seat alone rows (λ row h. h) (fits-from_typed o.schema (Insert n rows) typed)
placed o (Update n assignments condition) typed seats is seat alone = refl
placed o (Delete n condition) typed seats is seat alone = refl

pub gone_by : (o : Opening) (slot : ℕ) (p now : PassView Entry) → HasLooked o slot p now → HasGone o p now
gone_by o slot p now is = ((slot, length now.seen) ∷ [], record { legal = is.legal; later = is.later; own = is.own; pass = is.pass })

pub not_writable : (m : Mode) → answers_queries m ≡ false → is_writable m ≡ false
not_writable Following is = refl
not_writable Serving is = is
not_writable Frozen is = refl
not_writable Retired is = refl
not_writable Dropped is = refl

-- ---- after tries before

module _ (o : Opening) (limits : Limits) (w : Write) (p since now : PassView Entry) (gone : HasGone o p since) where
  pub written_after : (count : ℕ) → HasWritten o limits since w (record { answer = Rattle.shard_calls.specs.declared.reply.Answer.TheVariants.Count count; reads = [] }) now
      → HasWritten o limits p w (record { answer = Rattle.shard_calls.specs.declared.reply.Answer.TheVariants.Count count; reads = [] }) now
  written_after _ (a.nowhere seats is none more means) = a.nowhere seats is none (gone_on o p since now gone more) means
  written_after _ (a.wrote s alone more h means) = a.wrote s alone (gone_on o p since _ gone more) h means

  pub refused_after : (e : Refusal) → MayWriteRefuse o limits since w e now → MayWriteRefuse o limits p w e now
  refused_after _ (a.no_memory more) = a.no_memory (gone_on o p since now gone more)
  refused_after _ (a.several seats found h more) =
      a.several seats (partition_since o p.seen since.seen now.seen gone.1.later _ seats found) h (gone_on o p since now gone more)
  refused_after _ (a.buffer_full more held) =
      a.buffer_full (gone_on o p since now gone more)
      (held_up_since o (table_at o.schema (written_table w)) (write_route o.schema w) is_writable p.seen since.seen now.seen gone.1.later held)
  refused_after _ (a.refused s alone more look served serves why) = a.refused s alone (gone_on o p since _ gone more) look served serves why

-- numbers are still above those of the session's commits
pub still_above : (o : Opening) (p now : PassView Entry) → HasGone o p now
    → ((n : ℕ) → p.session ≡ Some n → NumbersBelow commit_of n p.statements p.seen) → (n : ℕ) → now.session ≡ Some n
    → NumbersBelow commit_of n now.statements now.seen
still_above o p now (added, is) above n mine =
    let session : p.session ≡ Some n = ap (λ (v : PassView Entry). v.session) (sym is.pass) ∙ mine in
    let statements : p.statements ≡ now.statements = ap (λ (v : PassView Entry). v.statements) (sym is.pass) in
    subst (λ k. NumbersBelow commit_of n k now.seen) statements
    (subst (λ l. All (λ e. number_of (commit_of e) < p.statements) l) (sym (is.own n session)) (above n session))

pub same_session : (o : Opening) (p now : PassView Entry) → HasGone o p now → now.session ≡ p.session
same_session o p now (added, is) = ap (λ (v : PassView Entry). v.session) is.pass

-- what comes back is the write, after looks, by one of which its shard took no commits
pub record CameBack (o : Opening) (w w' : Write) (seats : List Seat) (p now : PassView Entry) : Type 0 where
  pub same : w' ≡ w
  pub gone : HasGone o p now
  pub held : IsHeldUp o (table_at o.schema (written_table w)) (write_route o.schema w) is_writable p.seen now.seen seats

pub came_back : (o : Opening) (limits : Limits) (w w' : Write) (seats : List Seat) (p now : PassView Entry) (r : Tried) → r ≡ Again w'
    → IsTried o limits seats p w r now → CameBack o w w' seats p now
came_back o limits w w' seats p now _ is (written h) = absurd (cc is)
came_back o limits w w' seats p now _ is (again gone held) = record { same = same w w' is; gone = gone; held = held }
  where
    same : (x y : Write) → Again x ≡ Again y → y ≡ x
    same x y e = sym (ap (λ (r : Tried). write_of x r) e)
      where
        write_of : Write → Tried → Write
        write_of d (Done n) = d
        write_of d (Again v) = v

pub is_written : (o : Opening) (limits : Limits) (w : Write) (count : ℕ) (seats : List Seat) (p now : PassView Entry) (r : Tried) → r ≡ Done count → IsTried o limits seats p w r now
    → HasWritten o limits p w (record { answer = Rattle.shard_calls.specs.declared.reply.Answer.TheVariants.Count count; reads = [] }) now
is_written o limits w count seats p now _ is (written {count = n} h) = subst (λ k. HasWritten o limits p w (record { answer = Rattle.shard_calls.specs.declared.reply.Answer.TheVariants.Count k; reads = [] }) now) (same n count is) h
  where
    same : (x y : ℕ) → Done x ≡ Done y → x ≡ y
    same x y e = ap (λ (r : Tried). number_or x r) e
      where
        number_or : ℕ → Tried → ℕ
        number_or d (Done n) = n
        number_or d (Again v) = d
is_written o limits w count seats p now _ is (again gone held) = absurd (cc is)
