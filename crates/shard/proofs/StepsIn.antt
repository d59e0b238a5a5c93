-- A transaction's commit step by step: the look, the entry, and what both leave.
use Rattle.std.proofs.Common.{◌≡◌, ℕ, ◌<◌, ◌≤◌, true, List, [], ◌∷◌, ◌++◌, length, Some, refl, sym, ap, ◌∙◌, subst}
use Rattle.std.specs.List.{AllByRecursion}
use mathlib.Core.List.{IsPrefix}
use Rattle.vt_value.specs.declared.refusal.Refusal.{Refusal}
use Rattle.vschema.specs.Database.{SameRows, all_applied, changed_table}
use Rattle.journal.specs.Runs.{IsLegal, NumbersBelow}
use Rattle.journal.specs.Views.{SeatView, PassView, IsLater}
use Rattle.journal.proofs.Fronts.{prefix_self, prefix_trans}
use Rattle.journal.proofs.Public.{numbers_later}
use Rattle.shard_run.specs.declared.ShardRecord.{ShardRecord}
use Rattle.shard_run.specs.declared.Entry.{Entry}
use Rattle.shard_run.specs.declared.Mode.TheVariants.{Serving}
use Rattle.shard_run.specs.Runs.{Run, Opening, mode, answers_queries, entries_on}
use Rattle.shard_run.specs.Openings.{row_count}
use Rattle.shard_contents.specs.Limits.{Limits}
use Rattle.shard_contents.specs.declared.contents.Contents.{Contents}
use Rattle.shard_contents.specs.Entries.{MayFollow, HasLooked, ShardView, slot_of, commit_of}
use Rattle.shard_contents.specs.Shards.{IsAfter, state_view}
use Rattle.shard_contents.specs.KeptEntries.{kept_of}
use Rattle.shard_contents.specs.Transactions.{PendingView, IsClear, IsPendingOf, entry_of, IsCommitAllRefusal, HasCommittedAll}
use Rattle.shard_contents.specs.inner.Transactions.{has_room_for, IsAllUnprepared}
use Rattle.shard_contents.specs.inner.StoredLogs.{count_of, HasStoredNext}
use Rattle.shard_contents.proofs.Commits as commits
use Rattle.shard.proofs.CommitsIn as k
use Rattle.shard_contents.proofs.Looks as looks

-- what is left of a commit that was made
pub record Left (o : Opening) (most : Limits) (s : ShardRecord) (seat' : SeatView Entry) (c' : Contents) (p : PassView Entry) (tx : PendingView) (now : PassView Entry)
    (first : Run) : Type 0 where
  pub committed : HasCommittedAll o most s p tx now
  pub is_now : IsAfter o most seat' c'
  pub serves_now : mode o seat'.seen c'.shard.slot ≡ Serving
  pub begins : IsPrefix first seat'.seen
  pub shard_now : c'.shard ≡ s

-- the state after the look, and how it is seen
module _ (o : Opening) (most : Limits) (seat : SeatView Entry) (c : Contents) (is : IsAfter o most seat c) (v : ShardView)
    (view_is : state_view seat.seen c ≡ v) (s : ShardRecord) (shards : v.shard ≡ s) (old : SeatView Entry) (p looked : PassView Entry)
    (tx : PendingView) (later : IsLater slot_of commit_of (MayFollow o) old p v.seen)
    (pass_is : looked ≡ record p { seen = v.seen; looks = p.looks ++ (s.slot, length v.seen) ∷ [] }) (tied_is : IsPendingOf o s tx p)
    (clear_is : IsClear o s v.seen tx) where
  shard_is : c.shard ≡ s
  shard_is = ap (λ (x : ShardView). x.shard) view_is ∙ shards

  seen_is : seat.seen ≡ v.seen
  seen_is = ap (λ (x : ShardView). x.seen) view_is

  looked_seen : looked.seen ≡ v.seen
  looked_seen = looks.seen_of o s.slot p looked v.seen pass_is

  session_is : looked.session ≡ p.session
  session_is = ap (λ (x : PassView Entry). x.session) pass_is

  pub has_looked : HasLooked o s.slot p looked
  has_looked = looks.has_looked o s.slot old p looked v.seen later pass_is

  tied : IsPendingOf o c.shard tx p
  tied = subst (λ (u : ShardRecord). IsPendingOf o u tx p) (sym shard_is) tied_is

  prior : IsPrefix p.seen seat.seen
  prior = subst (IsPrefix p.seen) (sym seen_is) later.pass

  legal_seen : IsLegal (MayFollow o) seat.seen
  legal_seen = subst (IsLegal (MayFollow o)) (sym seen_is) later.legal

  clear : IsClear o c.shard seat.seen tx
  clear = subst (λ (u : ShardRecord). IsClear o u seat.seen tx) (sym shard_is) (subst (λ (r : Run). IsClear o s r tx) (sym seen_is) clear_is)

  entries_are : (entries : ℕ) → entries ≡ length (entries_on s.slot v.seen) → entries ≡ length (entries_on c.shard.slot seat.seen)
  entries_are entries e =
      e ∙ ap (λ (r : Run). length (entries_on s.slot r)) (sym seen_is) ∙ ap (λ (u : ShardRecord). length (entries_on u.slot seat.seen)) (sym shard_is)

  pub there : AllByRecursion (λ x. changed_table x < length c.store.rows) tx.changes
  there =
      subst (λ (n : ℕ). AllByRecursion (λ x. changed_table x < n) tx.changes) (sym (commits.has o most seat c is clear.serving).tables)
      (k.changes_there o most seat c is p tx clear tied prior seat.seen legal_seen (prefix_self seat.seen) refl)

  pub within : row_count c.store.rows ≤ most.rows
  within = (commits.has o most seat c is clear.serving).within (ap answers_queries clear.serving)

  pub refused : (entries : ℕ) (e : Refusal) → entries ≡ length (entries_on s.slot v.seen)
      → IsAllUnprepared c.limits entries (count_of c.stored.log) (row_count c.store.rows) tx.changes e → IsCommitAllRefusal o most s looked.seen tx e
  refused entries e es why =
      let h = k.refused o most seat c is p tx clear tied prior seat.seen legal_seen (prefix_self seat.seen) refl entries (count_of c.stored.log) e (entries_are entries es)
      refl why in
      subst (λ (u : ShardRecord). IsCommitAllRefusal o most u looked.seen tx e) shard_is
      (subst (λ (r : Run). IsCommitAllRefusal o most c.shard r tx e) (seen_is ∙ sym looked_seen) h)

  module _ (session number : ℕ) (mine : p.session ≡ Some session) (low : NumbersBelow commit_of session number p.seen) (run : Run)
      (next : IsLater slot_of commit_of (MayFollow o) seat looked run) where
    low_run : NumbersBelow commit_of session number run
    low_run =
        let first = numbers_later slot_of commit_of (MayFollow o) old p p v.seen session number mine refl low later in
        numbers_later slot_of commit_of (MayFollow o) seat looked looked run session number (session_is ∙ mine) refl
        (subst (NumbersBelow commit_of session number) (sym looked_seen) first) next

    pub lawful : (e : Entry) → e ≡ entry_of c.shard session number tx.writes tx.changes → MayFollow o run e
    lawful e e_is =
        subst (MayFollow o run) (sym e_is) (k.lawful o most seat c is p tx clear tied prior run next.legal next.seat next.alone session number low_run)

    pub left : (first : Run) → IsPrefix first v.seen → (e : Entry) → e ≡ entry_of c.shard session number tx.writes tx.changes → number ≡ p.statements
        → (seat' : SeatView Entry) (now : PassView Entry) (c' : Contents) → seat'.seen ≡ run ++ e ∷ [] → seat' ≡ record seat { seen = seat'.seen }
        → now ≡ record looked { seen = seat'.seen } → IsLegal (MayFollow o) seat'.seen → (entries : ℕ) → entries ≡ length (entries_on s.slot v.seen)
        → has_room_for c.limits entries (count_of c.stored.log) (row_count c.store.rows) tx.changes ≡ true → c'.shard ≡ c.shard
        → SameRows c'.store.rows (all_applied tx.changes c.store.rows) → HasStoredNext c.stored.log (kept_of e) c'.stored.log → c'.steps.items ≡ c.steps.items
        → c'.mode ≡ c.mode → c'.limits ≡ c.limits → Left o most s seat' c' p tx now first
    left first before e e_is numbered seat' now c' seen seat_now now_is legal entries es fits shard_same rows stored came mode limits =
        let ends : seat'.seen ≡ run ++ entry_of c.shard session number tx.writes tx.changes ∷ [] = seen ∙ ap (λ (x : Entry). run ++ x ∷ []) e_is in
        let now_seen : now.seen ≡ seat'.seen = ap (λ (x : PassView Entry). x.seen) now_is in
        let has = k.has_room o most seat c is p tx clear tied prior run next.legal next.seat next.alone entries (count_of c.stored.log) (entries_are entries es) refl fits in
        record {
          committed =
              subst (λ (u : ShardRecord). HasCommittedAll o most u p tx now) shard_is
              (record {
                looked = looked;
                look = subst (λ (u : ShardRecord). HasLooked o u.slot p looked) (sym shard_is) has_looked;
                before = run;
                later = next.pass;
                own = λ n own. next.own n (session_is ∙ own) ∙ has_looked.own n own;
                clear = k.clear_here o most seat c is p tx clear tied prior run next.legal next.seat next.alone;
                session = session;
                of_session = mine;
                seen = now_seen ∙ ends ∙ ap (λ (n : ℕ). run ++ entry_of c.shard session n tx.writes tx.changes ∷ []) numbered;
                legal = subst (IsLegal (MayFollow o)) (sym now_seen) legal;
                room = has;
                pass = now_is ∙ ap (λ (l : List Entry). record looked { seen = l }) (sym now_seen);
              });
          is_now =
              commits.after o most seat c is clear.serving run next.legal next.alone seat' c' session number tx.writes tx.changes
              (ap (λ (x : SeatView Entry). x.slot) seat_now) ends has shard_same rows (subst (λ (x : Entry). HasStoredNext c.stored.log (kept_of x) c'.stored.log) e_is stored) came mode limits;
          serves_now =
              commits.still_serves o most seat c is clear.serving run next.legal next.alone seat' c' session number tx.writes tx.changes ends shard_same;
          begins =
              prefix_trans first seat.seen seat'.seen (subst (IsPrefix first) (sym seen_is) before)
              (prefix_trans seat.seen run seat'.seen next.seat (e ∷ [], sym seen));
          shard_now = shard_same ∙ shard_is;
        }
