-- A following step: when it is lawful, also where the source goes on meanwhile, and when nothing is left to follow.
use Rattle.std.proofs.Common.{flat_map, inl, inr, false, ◌≡◌, ℕ, zero, suc, ◌+◌, ◌<◌, ◌≤◌, ◌^◌, Bool, true, ◌&&◌, List, [], ◌∷◌, ◌++◌, map, length, filter, slice_get, Some, refl, sym, ap, ◌∙◌, subst, arith, length-append}
use Rattle.std.specs.Prelude.{Contains, count_by}
use Rattle.std.proofs.lemmas.List.Elements.{filter-append}
use Rattle.std.specs.List.{AllByRecursion}
use Rattle.std.proofs.lemmas.Bool.{eq-eqb, false≢true}
use mathlib.Core.List.{IsPrefix}
use Rattle.vschema.specs.declared.changes.RowChange.{RowChange}
use Rattle.vschema.specs.Database.{SameRows, restricted_changes, all_applied, changed_table}
use Rattle.shard_law.specs.Runs.{IsLegal, on_slot, by_session}
use Rattle.shard_law.specs.Views.{SeatView, PassView, IsLater}
use Rattle.shard_law.proofs.Fronts.{prefix_trans, prefix_self}
use Rattle.shard_law.specs.ShardRecord.{ShardRecord}
use Rattle.shard_law.specs.Mode.TheVariants.{Following}
use Rattle.shard_law.specs.Follow as F
use Rattle.shard_law.specs.Entry.{Entry}
use Rattle.shard_law.specs.Event.TheVariants.{Follow}
use Rattle.shard_law.specs.ShardRunRuns.{Run, Opening, shard_rows, first_rows, mode, answers_queries, is_on, is_stored, stored_on, stored_changes, entries_on}
use Rattle.shard_law.specs.Legal.{Legal, MayFollowSource, IsOnItsSlot}
use Rattle.shard_law.specs.Copies.{position, change_is_copied}
use Rattle.shard_contents.proofs.Positions.{position-same, copied-same}
use Rattle.shard_law.specs.Openings.{IsOpening, row_count}
use Rattle.shard_law.proofs.Law.{slots}
use Rattle.shard_law.proofs.Databases.{length-all_applied}
use Rattle.shard_law.proofs.Runs.{log, log-on, mode-on, stored_on-push}
use Rattle.shard_law.specs.declared.limits.Limits.{Limits}
use Rattle.shard_contents.specs.declared.contents.Contents.{Contents}
use Rattle.shard_law.specs.Entries as entries_of
use Rattle.shard_law.specs.Entries.{ShardView, slot_of, commit_of}
use Rattle.shard_contents.specs.Shards.{Holds, holds, IsAfter, IsNext, RetiredFor, beyond, state_view}
use Rattle.shard_contents.proofs.Commits.{applied-append}
use Rattle.shard_contents.proofs.Legality.{stands-next, legal_is}
use Rattle.shard_contents.proofs.Tables.{taken_there}
use Rattle.shard_contents.proofs.Looks.{following_lives}
use Rattle.shard_contents.specs.declared.target_steps.TargetStep.TheVariants.{Followed}
use Rattle.shard_contents.specs.Progress.{steps_of, steps_on}
use Rattle.shard_contents.specs.Kept.{keep, kept_from, kept_on}
use Rattle.shard_contents.specs.KeptEntries.{kept_of, entries_kept}
use Rattle.shard_contents.proofs.Kept.{kept-push}
use Rattle.shard_contents.proofs.KeptStored.{length-kept}
use Rattle.std.proofs.lemmas.List.{map-append}
use Rattle.shard_contents.proofs.Progress.{steps-push}
use Rattle.shard_contents.specs.Commits.{is_added, is_removed}
use Rattle.shard_contents.specs.Copying.{PassesLimit}
use Rattle.shard_contents.specs.Copying as limits
use Rattle.shard_contents.specs.inner.Transactions.{has_room_for}
use Rattle.shard_contents.proofs.StepRoom.{IsNoRoomFor, no_room_for, room_by_rows, at_least}
use Rattle.shard_contents.proofs.Bags.{row_count-same, same_through, length-same, all_applied-same}
use Rattle.shard_contents.specs.inner.StoredLogs.{count_of, HasStoredNext}
use Rattle.shard_contents.proofs.StoredLogs.{count-stored, same_log, stored_next}
use Rattle.shard_contents.proofs.States.{held-same, stored-same, holds_of, entries-on, after_look, mode_after_look, alone_here}
use Rattle.shard_contents.proofs.Modes.{here, stands_there, mode_there}

get_front : {X : Type 0} (xs ys : List X) (n : ℕ) (x : X) → slice_get xs n ≡ Some x → slice_get (xs ++ ys) n ≡ Some x
get_front [] ys n x is = absurd (cc is)
get_front (y ∷ xs) ys zero x is = is
get_front (y ∷ xs) ys (suc n) x is = get_front xs ys n x is

-- what a source has stored it has stored later
pub stored_later : (source place : ℕ) (old new : Run) (e : Entry) → IsPrefix old new → slice_get (stored_on source old) place ≡ Some e
    → slice_get (stored_on source new) place ≡ Some e
stored_later source place old new e (rest, is) at =
    let p : Entry → Bool = λ x. is_on source x && is_stored x.event in
    subst (λ (r : Run). slice_get (stored_on source r) place ≡ Some e) is
    (subst (λ (l : Run). slice_get l place ≡ Some e) (sym (filter-append p old rest)) (get_front (filter p old) (filter p rest) place e at))

-- a step that was lawful by what the pass had seen is lawful in each run that the seat may meet
pub may_follow_later : (o : Opening) (old seen new : Run) (t : ShardRecord) (f : F.Follow) → IsPrefix old new → entries_on t.slot new ≡ entries_on t.slot seen
    → mode o new t.slot ≡ Following → Contains t.sources f.source → position seen t.slot f.source ≡ Some f.log_position → (e : Entry)
    → slice_get (stored_on f.source old) f.log_position ≡ Some e
    → f.changes ≡ filter (change_is_copied o.schema seen t.slot f.source) (restricted_changes o.schema t.place (stored_changes e.event)) → MayFollowSource o new t f
may_follow_later o old seen new t f later same following of_source next e stored filtered = record {
  following = following;
  of_source = of_source;
  next = position-same seen new t.slot f.source same ∙ next;
  entry = e;
  stored = stored_later f.source f.log_position old new e later stored;
  filtered = filtered ∙ sym (copied-same seen new t.slot f.source o.schema (restricted_changes o.schema t.place (stored_changes e.event)) same);
}

stored_more : (source : ℕ) (first second : Run) → IsPrefix first second → length (stored_on source first) ≤ length (stored_on source second)
stored_more source first second (rest, is) =
    let p : Entry → Bool = λ x. is_on source x && is_stored x.event in
    let h = ap length (filter-append p first rest) in
    let k = length-append (filter p first) (filter p rest) in
    let l = ap (λ (r : Run). length (stored_on source r)) is in
    omega (arith, h, k, l)

-- First the target was looked at, then the source: where it had stored no more than the target's position, that is all that it had stored at the second look.
pub none_left : (o : Opening) → IsOpening o → (first second : Run) (slot source stored n : ℕ) → IsPrefix first second → Legal o first
    → stored ≡ length (stored_on source second) → position first slot source ≡ Some n → stored ≤ n → n ≡ length (stored_on source second)
none_left o opens first second slot source stored n later legal is at level =
    let most = (slots o opens first legal).trailing slot source n at in
    let more = stored_more source first second later in
    omega (arith, is, level, more, most)

-- what was seen by a look is a run that seat and pass may meet
pub nothing_since : (o : Opening) (looked : SeatView Entry) (q : PassView Entry) → IsLegal (entries_of.MayFollow o) looked.seen → q.seen ≡ looked.seen
    → IsLater slot_of commit_of (entries_of.MayFollow o) looked q looked.seen
nothing_since o looked q legal same = record {
  legal = legal;
  seat = prefix_self looked.seen;
  pass = subst (λ (r : Run). IsPrefix r looked.seen) (sym same) (prefix_self looked.seen);
  alone = refl;
  own = λ n mine. ap (filter (by_session commit_of n)) (sym same);
}

-- ---- what a following step leaves

module _ (o : Opening) (most : Limits) (seat : SeatView Entry) (c : Contents) (is : IsAfter o most seat c) (following : mode o seat.seen c.shard.slot ≡ Following)
    (run : Run) (alone : entries_on seat.slot run ≡ entries_on seat.slot seat.seen) (f : F.Follow) where
  abbrev s : ShardRecord
  s = c.shard

  abbrev e : Entry
  e = record { shard = s; event = Follow f }

  on : is_on s.slot e ≡ true
  on = eq-eqb s.slot s.slot refl

  same : entries_on s.slot run ≡ entries_on s.slot seat.seen
  same = here o most seat c is run alone

  has : Holds o most seat.seen c
  has = holds_of o most seat.seen c is.keeps (following_lives (mode o seat.seen s.slot) following)

  pub mode_follows : mode o (run ++ e ∷ []) s.slot ≡ Following
  mode_follows = mode-on o run e s.slot on ∙ mode_there o most seat c is run alone ∙ following

  held_now : shard_rows o (run ++ e ∷ []) s ≡ all_applied f.changes (shard_rows o seat.seen s)
  held_now =
      ap (λ (l : List RowChange). all_applied l (first_rows o s)) (log-on run e s.slot on)
      ∙ applied-append (log s.slot run) f.changes (first_rows o s)
      ∙ ap (all_applied f.changes) (held-same o seat.seen run s same)

  stored_now : stored_on s.slot (run ++ e ∷ []) ≡ stored_on s.slot seat.seen ++ e ∷ []
  stored_now =
      let one : filter (λ (x : Entry). is_on s.slot x && is_stored x.event) (e ∷ []) ≡ e ∷ [] = simp on in
      stored_on-push run e s.slot ∙ ap (λ (l : Run). stored_on s.slot run ++ l) one ∙ ap (λ (l : Run). l ++ e ∷ []) (stored-same o seat.seen run s same)

  kept_now : entries_kept s.slot (run ++ e ∷ []) ≡ entries_kept s.slot seat.seen ++ f.changes ∷ []
  kept_now = ap (map kept_of) stored_now ∙ map-append kept_of (stored_on s.slot seat.seen) (e ∷ [])

  pub after_follow : (seat' : SeatView Entry) (c' : Contents) → seat'.seen ≡ run ++ e ∷ [] → seat'.slot ≡ seat.slot → c'.shard ≡ s
      → SameRows c'.store.rows (all_applied f.changes c.store.rows) → c'.mode ≡ c.mode → HasStoredNext c.stored.log f.changes c'.stored.log → c'.steps.items ≡ keep (Followed f.source f.log_position) c.steps.items → c'.limits ≡ c.limits
      → length (entries_on s.slot seat.seen) < 2 ^ 40 → IsAfter o most seat' c'
  after_follow seat' c' seen at shard_is rows modes stores came limits_are room =
      let now : SameRows c'.store.rows (shard_rows o (run ++ e ∷ []) s) =
      subst (SameRows c'.store.rows) (sym held_now)
      (same_through c'.store.rows (all_applied f.changes c.store.rows) (all_applied f.changes (shard_rows o seat.seen s)) rows
      (all_applied-same f.changes c.store.rows (shard_rows o seat.seen s) has.rows)) in
      record {
        opens = is.opens;
        slot = at ∙ is.slot ∙ ap (λ (t : ShardRecord). t.slot) (sym shard_is);
        stands =
            subst (λ r. IsOnItsSlot o r c'.shard) (sym seen)
            (subst (IsOnItsSlot o (run ++ e ∷ [])) (sym shard_is) (stands-next o run s e.event (stands_there o most seat c is run alone)));
        keeps = holds (record {
          rows = subst (SameRows c'.store.rows) (ap (shard_rows o (run ++ e ∷ [])) (sym shard_is) ∙ ap (λ r. shard_rows o r c'.shard) (sym seen)) now;
          tables = length-same c'.store.rows (all_applied f.changes c.store.rows) rows ∙ length-all_applied f.changes c.store.rows ∙ has.tables;
          mode =
              modes ∙ has.mode ∙ following ∙ sym mode_follows ∙ ap (λ (t : ShardRecord). mode o (run ++ e ∷ []) t.slot) (sym shard_is)
              ∙ ap (λ r. mode o r c'.shard.slot) (sym seen);
          stored =
              same_log _ _ _ _ refl
              (sym kept_now ∙ ap (λ (t : ShardRecord). entries_kept t.slot (run ++ e ∷ [])) (sym shard_is) ∙ ap (entries_kept c'.shard.slot) (sym seen))
              (stored_next c.stored.log c'.stored.log (entries_kept s.slot seat.seen) f.changes has.stored stores);
          steps =
              came ∙ ap (keep (Followed f.source f.log_position)) (has.steps ∙ ap (λ (es : List Entry). kept_from [] (flat_map (λ (x : Entry). steps_of x.event) es)) (sym same))
              ∙ sym (kept-push [] (steps_on s.slot run) (Followed f.source f.log_position)) ∙ ap (kept_from []) (sym (steps-push run e s.slot on))
              ∙ ap (λ (t : ShardRecord). kept_on t.slot (run ++ e ∷ [])) (sym shard_is) ∙ ap (kept_on c'.shard.slot) (sym seen);
          within = λ serves.
              absurd (false≢true (sym (ap answers_queries (ap (λ r. mode o r c'.shard.slot) seen
              ∙ ap (λ (t : ShardRecord). mode o (run ++ e ∷ []) t.slot) shard_is ∙ mode_follows)) ∙ serves));
        });
        entries =
            subst (λ r. length (entries_on c'.shard.slot r) ≤ 2 ^ 40 + beyond (mode o r c'.shard.slot)) (sym seen)
            (subst (λ (t : ShardRecord). length (entries_on t.slot (run ++ e ∷ [])) ≤ 2 ^ 40 + beyond (mode o (run ++ e ∷ []) t.slot)) (sym shard_is)
            (let h = ap length (entries-on run e s.slot on) in
            let k = length-append (entries_on s.slot run) (e ∷ []) in
            let l = ap length same in
            let n = ap beyond mode_follows in
            omega (arith, h, k, l, n, room)));
        limits = limits_are ∙ is.limits;
        most_rows = is.most_rows;
      }

-- ---- the step as the code makes it

module _ {X : Type 0} (o : Opening) (most : Limits) (seat looked : SeatView Entry) (c : Contents) (targets : List ShardRecord) (p q : PassView Entry)
    (inv : IsAfter o most seat c × RetiredFor o seat.seen c.shard targets × X) (later : IsLater slot_of commit_of (entries_of.MayFollow o) seat p looked.seen)
    (seat_is : looked ≡ record seat { seen = looked.seen }) (pass_is : q ≡ record p { seen = looked.seen; looks = p.looks ++ (seat.slot, length looked.seen) ∷ [] })
    (v : ShardView) (view : state_view seat.seen c ≡ v) (following : mode o v.seen v.shard.slot ≡ Following) where
  slot_same : looked.slot ≡ seat.slot
  slot_same = ap (λ (s : SeatView Entry). s.slot) seat_is

  pub now_is : IsAfter o most looked c
  now_is = after_look o most seat looked p c targets later slot_same inv.0

  seen_same : q.seen ≡ looked.seen
  seen_same = ap (λ (x : PassView Entry). x.seen) pass_is

  pub follows_now : mode o looked.seen c.shard.slot ≡ Following
  follows_now =
      mode_after_look o most seat looked p c targets later slot_same inv.0
      ∙ subst (λ (x : ShardView). mode o x.seen x.shard.slot ≡ Following) (sym view) following

  pub has_now : Holds o most looked.seen c
  has_now = holds_of o most looked.seen c now_is.keeps (following_lives (mode o looked.seen c.shard.slot) follows_now)

  pub tables_now : length c.store.rows ≡ length o.schema.tables
  tables_now = has_now.tables

  pub count_is : (n : ℕ) → n ≡ length (filter (on_slot slot_of seat.slot) looked.seen) → n ≡ length (entries_on c.shard.slot looked.seen)
  count_is n is = is ∙ ap (λ (i : ℕ). length (entries_on i looked.seen)) inv.0.slot

  pub entries_told : length (entries_on c.shard.slot looked.seen) ≡ length (entries_on v.shard.slot q.seen)
  entries_told =
      ap (λ (s : ShardRecord). length (entries_on s.slot looked.seen)) (ap (λ (x : ShardView). x.shard) view)
      ∙ ap (λ (r : Run). length (entries_on v.shard.slot r)) (sym seen_same)

  pub stored_told : count_of c.stored.log ≡ length (stored_on v.shard.slot q.seen)
  stored_told =
      count-stored _ _ has_now.stored ∙ length-kept c.shard.slot looked.seen ∙ ap (λ (s : ShardRecord). length (stored_on s.slot looked.seen)) (ap (λ (x : ShardView). x.shard) view)
      ∙ ap (λ (r : Run). length (stored_on v.shard.slot r)) (sym seen_same)

  -- as many as before the look
  pub entries_before : length (entries_on c.shard.slot looked.seen) ≡ length (entries_on v.shard.slot v.seen)
  entries_before =
      ap length (alone_here o most seat looked p c targets later slot_same inv.0)
      ∙ ap (λ (x : ShardView). length (entries_on x.shard.slot x.seen)) view

  pub stored_before : count_of c.stored.log ≡ length (stored_on v.shard.slot v.seen)
  stored_before =
      let follows : mode o seat.seen c.shard.slot ≡ Following = subst (λ (x : ShardView). mode o x.seen x.shard.slot ≡ Following) (sym view) following in
      let held = holds_of o most seat.seen c inv.0.keeps (following_lives (mode o seat.seen c.shard.slot) follows) in
      count-stored _ _ held.stored ∙ length-kept c.shard.slot seat.seen ∙ ap (λ (x : ShardView). length (stored_on x.shard.slot x.seen)) view

  module _ (f : F.Follow) (next : IsNext o p.seen v f) where
    -- it is lawful after each run that seat and pass may meet
    pub lawful : (run : Run) → IsLater slot_of commit_of (entries_of.MayFollow o) looked q run → entries_of.MayFollow o run (record { shard = c.shard; event = Follow f })
    lawful run more =
        let s_is : v.shard ≡ c.shard = ap (λ (x : ShardView). x.shard) (sym view) in
        let v_seen : v.seen ≡ seat.seen = ap (λ (x : ShardView). x.seen) (sym view) in
        let first = alone_here o most seat looked p c targets later slot_same inv.0 in
        let second = here o most looked c now_is run more.alone in
        let taken : Run → ShardRecord → List RowChange =
        λ r s. filter (change_is_copied o.schema r s.slot f.source) (restricted_changes o.schema s.place (stored_changes next.entry.event)) in (
          stands_there o most looked c now_is run more.alone,
          may_follow_later o p.seen seat.seen run c.shard f
              (prefix_trans p.seen looked.seen run later.pass more.seat) (second ∙ first)
              (mode_there o most looked c now_is run more.alone ∙ follows_now)
              (subst (λ (s : ShardRecord). Contains s.sources f.source) s_is next.of_source)
              (sym (ap (λ (r : Run). position r v.shard.slot f.source) v_seen ∙ ap (λ (s : ShardRecord). position seat.seen s.slot f.source) s_is) ∙ next.next)
              next.entry next.stored (next.filtered ∙ ap (λ (r : Run). taken r v.shard) v_seen ∙ ap (λ (s : ShardRecord). taken seat.seen s) s_is),
        )

    -- after the run that was seen too
    pub lawful_now : entries_of.MayFollow o q.seen (record { shard = v.shard; event = Follow f })
    lawful_now =
        let h = lawful looked.seen (nothing_since o looked q later.legal seen_same) in
        subst (λ (r : Run). entries_of.MayFollow o r (record { shard = v.shard; event = Follow f })) (sym seen_same)
        (subst (λ (s : ShardRecord). entries_of.MayFollow o looked.seen (record { shard = s; event = Follow f })) (ap (λ (x : ShardView). x.shard) view) h)

    -- and of tables that are there
    pub there_now : AllByRecursion (λ (x : RowChange). changed_table x < length o.schema.tables) f.changes
    there_now =
        subst (AllByRecursion (λ (x : RowChange). changed_table x < length o.schema.tables)) (sym next.filtered)
        (taken_there o looked.seen (legal_is o looked.seen later.legal) f.source f.log_position next.entry
        (stored_later f.source f.log_position p.seen looked.seen next.entry later.pass next.stored) v.shard.place
        (change_is_copied o.schema v.seen v.shard.slot f.source))

    rows_told : row_count (all_applied f.changes c.store.rows) ≡ row_count (shard_rows o (q.seen ++ record { shard = v.shard; event = Follow f } ∷ []) v.shard)
    rows_told =
        let changed = all_applied-same f.changes c.store.rows (shard_rows o looked.seen c.shard) has_now.rows in
        row_count-same (all_applied f.changes c.store.rows) (all_applied f.changes (shard_rows o looked.seen c.shard)) changed
        ∙ ap row_count (sym (held_now o most looked c now_is follows_now looked.seen refl f))
        ∙ ap (λ (r : Run). row_count (shard_rows o (r ++ record { shard = c.shard; event = Follow f } ∷ []) c.shard)) (sym seen_same)
        ∙ ap (λ (s : ShardRecord). row_count (shard_rows o (q.seen ++ record { shard = s; event = Follow f } ∷ []) s)) (ap (λ (x : ShardView). x.shard) view)

    -- where the test by counts says no, a limit is passed
    pub passes : (n stored : ℕ) → n ≡ length (filter (on_slot slot_of seat.slot) looked.seen) → stored ≡ count_of c.stored.log
        → has_room_for c.limits n stored (row_count c.store.rows) f.changes ≡ false → PassesLimit o most q.seen v.shard (Follow f)
    passes n stored ns ss h = by (no_room_for c.limits n stored (row_count c.store.rows) f.changes h)
      where
        by : IsNoRoomFor c.limits n stored (row_count c.store.rows) f.changes → PassesLimit o most q.seen v.shard (Follow f)
        by (inl h) = let count = count_is n ns in let told = entries_told in limits.entries (omega (arith, count, told, h))
        by (inr (inl h)) =
            let told = stored_told in let limit = ap (λ (x : Limits). x.stored) inv.0.limits in limits.stored (omega (arith, told, ss, limit, h))
        by (inr (inr h)) =
            let told = rows_told in
            let limit = ap (λ (x : Limits). x.rows) inv.0.limits in
            let few = at_least f.changes c.store.rows (subst (λ k. AllByRecursion (λ (x : RowChange). changed_table x < k) f.changes) (sym tables_now) there_now) in
            limits.rows (omega (arith, told, limit, few, h))

    -- where it says yes, the rows are within the limit by counts
    pub fits : (n stored : ℕ) → has_room_for c.limits n stored (row_count c.store.rows) f.changes ≡ true
        → row_count c.store.rows + count_by is_added f.changes ≤ most.rows + count_by is_removed f.changes
    fits n stored h =
        let limit = ap (λ (x : Limits). x.rows) inv.0.limits in
        let few = room_by_rows c.limits n stored (row_count c.store.rows) f.changes h in
        omega (arith, limit, few)

    -- and so they are after each run that seat and pass may meet
    pub held_then : (run : Run) → IsLater slot_of commit_of (entries_of.MayFollow o) looked q run → row_count (shard_rows o run c.shard) ≡ row_count c.store.rows
    held_then run more =
        ap row_count (held-same o looked.seen run c.shard (here o most looked c now_is run more.alone))
        ∙ sym (row_count-same c.store.rows (shard_rows o looked.seen c.shard) has_now.rows)

    pub there_then : (run : Run) → IsLater slot_of commit_of (entries_of.MayFollow o) looked q run
        → AllByRecursion (λ (x : RowChange). changed_table x < length (shard_rows o run c.shard)) f.changes
    there_then run more =
        let long : length o.schema.tables ≡ length (shard_rows o run c.shard) =
        sym tables_now ∙ length-same c.store.rows (shard_rows o looked.seen c.shard) has_now.rows
        ∙ ap length (sym (held-same o looked.seen run c.shard (here o most looked c now_is run more.alone))) in
        subst (λ k. AllByRecursion (λ (x : RowChange). changed_table x < k) f.changes) long there_now
