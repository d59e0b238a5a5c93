-- The entries by which a shard's mode changes: when they are lawful, and what they leave.
use Rattle.std.proofs.Common.{flat_map, ◌≡◌, ℕ, ◌+◌, ◌<◌, ◌≤◌, ◌^◌, Bool, true, false, ◌&&◌, List, [], ◌∷◌, ◌++◌, map, length, filter, zip, IsTrue, Some, None, refl, sym, ap, ◌∙◌, subst, arith, length-append}
use Rattle.std.proofs.lemmas.Bool.{false≢true, eq-eqb, eqb-true}
use Rattle.std.proofs.lemmas.List.{append-nil, append_assoc}
use mathlib.Core.List.{IsPrefix}
use Rattle.vschema.specs.declared.changes.RowChange.{RowChange}
use Rattle.vschema.specs.declared.schema.Place.{Place}
use Rattle.vschema.specs.Database.{Database, SameRows, all_applied}
use Rattle.shard_law.specs.Runs.{on_slot}
use Rattle.shard_law.specs.Views.{SeatView}
use Rattle.shard_law.specs.ShardRecord.{ShardRecord}
use Rattle.shard_law.specs.Mode.{Mode}
use Rattle.shard_law.specs.Mode.TheVariants.{Following, Serving, Frozen, Retired}
use Rattle.shard_law.specs.Event.{Event}
use Rattle.shard_law.specs.Event.TheVariants.{Commit, Follow, Copy, Freeze, Thaw, Retire, Serve}
use Rattle.shard_law.specs.Entry.{Entry}
use Rattle.shard_law.specs.ShardRunRuns.{Run, Opening, shard_rows, first_rows, mode, mode_after, answers_queries, is_on, is_stored, held_changes, stored_on, entries_on}
use Rattle.shard_law.specs.Legal.{LegalFrom, Legal, MayRetire, MayServe, IsOnItsSlot, IsRetiredFor, IsTableOf}
use Rattle.shard_law.specs.Openings.{IsOpening, row_count}
use Rattle.shard_law.proofs.Lists.{In, In-from_Contains, In-all, all-from_In, zip-left}
use Rattle.shard_law.proofs.Runs.{log, log-on, mode-on, mode-off, stored_on-push, not_retired}
use Rattle.shard_law.proofs.Law.{slots, slots_from}
use Rattle.shard_law.specs.declared.limits.Limits.{Limits}
use Rattle.shard_contents.specs.declared.contents.Contents.{Contents}
use Rattle.shard_law.specs.Entries.{slot_of, commit_in}
use Rattle.shard_contents.specs.Shards.{beyond, Holds, holds, IsAfter}
use Rattle.shard_contents.specs.inner.Shards.{is_plain}
use Rattle.shard_law.specs.Copies.{position, has_copied_all}
use Rattle.shard_contents.proofs.Positions.{position-same, copied_all-same}
use Rattle.shard_contents.proofs.Legality.{stands-same, stands-next}
use Rattle.shard_contents.specs.declared.target_steps.TargetStep.{TargetStep}
use Rattle.shard_contents.specs.Progress.{steps_of, steps_on}
use Rattle.shard_contents.specs.Kept.{kept_from, kept_on}
use Rattle.shard_contents.specs.KeptEntries.{kept_of, entries_kept}
use Rattle.shard_contents.proofs.Progress.{steps-push, no_steps}
use Rattle.shard_contents.proofs.StoredLogs.{same_log}
use Rattle.shard_contents.proofs.States.{held-same, mode-same, stored-same, holds_of, lives_if, entries-on, entries-off, contains_later}

nothing_held : (e : Event) → is_plain e ≡ true → held_changes e ≡ []
nothing_held (Commit c) i = absurd (false≢true i)
nothing_held (Follow f) i = absurd (false≢true i)
nothing_held (Copy c) i = absurd (false≢true i)
nothing_held Freeze i = refl
nothing_held Thaw i = refl
nothing_held (Retire targets) i = refl
nothing_held Serve i = refl

not_stored : (e : Event) → is_plain e ≡ true → is_stored e ≡ false
not_stored (Commit c) i = absurd (false≢true i)
not_stored (Follow f) i = absurd (false≢true i)
not_stored (Copy c) i = refl
not_stored Freeze i = refl
not_stored Thaw i = refl
not_stored (Retire targets) i = refl
not_stored Serve i = refl

pub no_commit : (e : Event) → is_plain e ≡ true → commit_in e ≡ None
no_commit (Commit c) i = absurd (false≢true i)
no_commit (Follow f) i = refl
no_commit (Copy c) i = refl
no_commit Freeze i = refl
no_commit Thaw i = refl
no_commit (Retire targets) i = refl
no_commit Serve i = refl

pub of_no_session : {A : Type 0} (e : Event) → is_plain e ≡ true → (c : ℕ × ℕ) → commit_in e ≡ Some c → A
of_no_session e plain c is = let none = no_commit e plain in absurd (cc (none, is))

beyond_one : (m : Mode) → beyond m ≤ 1
beyond_one m = by m
  where
    by : (m : Mode) → beyond m ≤ 1
    by Following = omega arith
    by Serving = omega arith
    by Frozen = omega arith
    by Retired = omega arith
    by Rattle.shard_law.specs.Mode.TheVariants.Dropped = omega arith

module _ (o : Opening) (most : Limits) (seat : SeatView Entry) (c : Contents) (is : IsAfter o most seat c) where
  abbrev s : ShardRecord
  s = c.shard

  -- the word has room for one more
  pub room_in_word : length (filter (on_slot slot_of seat.slot) seat.seen) < 2 ^ 63
  room_in_word =
      let h = is.entries in
      let k = beyond_one (mode o seat.seen s.slot) in
      let l = ap (λ (i : ℕ). length (entries_on i seat.seen)) is.slot in
      omega (arith, h, k, l)

  module _ (run : Run) (alone : entries_on seat.slot run ≡ entries_on seat.slot seat.seen) where
    pub here : entries_on s.slot run ≡ entries_on s.slot seat.seen
    here = subst (λ (i : ℕ). entries_on i run ≡ entries_on i seat.seen) is.slot alone

    pub stands_there : IsOnItsSlot o run s
    stands_there = stands-same o seat.seen run s here is.stands

    pub mode_there : mode o run s.slot ≡ mode o seat.seen s.slot
    mode_there = mode-same o seat.seen run s here

    module _ (ev : Event) (plain : is_plain ev ≡ true) (m : Mode) (m_is : m ≡ mode_after (mode o seat.seen s.slot) ev)
        (room : length (entries_on s.slot seat.seen) < 2 ^ 40 + beyond m) (lives : mode o seat.seen s.slot ≡ Retired → ⊥) where
      abbrev e : Entry
      e = record { shard = s; event = ev }

      on : is_on s.slot e ≡ true
      on = eq-eqb s.slot s.slot refl

      has : Holds o most seat.seen c
      has = holds_of o most seat.seen c is.keeps lives

      pub mode_now : mode o (run ++ e ∷ []) s.slot ≡ m
      mode_now = mode-on o run e s.slot on ∙ ap (λ (x : Mode). mode_after x ev) mode_there ∙ sym m_is

      held_now : shard_rows o (run ++ e ∷ []) s ≡ shard_rows o seat.seen s
      held_now =
          ap (λ (l : List RowChange). all_applied l (first_rows o s))
          (log-on run e s.slot on ∙ ap (λ (l : List RowChange). log s.slot run ++ l) (nothing_held ev plain) ∙ append-nil (log s.slot run))
          ∙ held-same o seat.seen run s here

      stored_now : stored_on s.slot (run ++ e ∷ []) ≡ stored_on s.slot seat.seen
      stored_now =
          let none : filter (λ (x : Entry). is_on s.slot x && is_stored x.event) (e ∷ []) ≡ [] = simp (on, not_stored ev plain) in
          stored_on-push run e s.slot ∙ ap (λ (l : Run). stored_on s.slot run ++ l) none ∙ append-nil (stored_on s.slot run)
          ∙ stored-same o seat.seen run s here

      steps_now : steps_on s.slot (run ++ e ∷ []) ≡ steps_on s.slot seat.seen
      steps_now =
          steps-push run e s.slot on ∙ ap (λ (l : List TargetStep). steps_on s.slot run ++ l) (no_steps ev plain) ∙ append-nil (steps_on s.slot run)
          ∙ ap (flat_map (λ (x : Entry). steps_of x.event)) here

      pub after : (seat' : SeatView Entry) (c' : Contents) → seat'.seen ≡ run ++ e ∷ [] → seat'.slot ≡ seat.slot → c'.shard ≡ s → c'.store.rows ≡ c.store.rows
          → c'.mode ≡ m → c'.stored.log ≡ c.stored.log → c'.steps.items ≡ c.steps.items → c'.limits ≡ c.limits
          → (answers_queries m ≡ true → row_count c.store.rows ≤ most.rows) → IsAfter o most seat' c'
      after seat' c' seen at shard_is rows modes stores came limits_are fit = record {
        opens = is.opens;
        slot = at ∙ is.slot ∙ ap (λ (t : ShardRecord). t.slot) (sym shard_is);
        stands = subst (λ r. IsOnItsSlot o r c'.shard) (sym seen) (subst (IsOnItsSlot o (run ++ e ∷ [])) (sym shard_is) (stands-next o run s ev stands_there));
        keeps = holds (record {
          rows =
              subst (SameRows c'.store.rows) (sym held_now ∙ ap (shard_rows o (run ++ e ∷ [])) (sym shard_is) ∙ ap (λ r. shard_rows o r c'.shard) (sym seen))
              (subst (λ (db : Database). SameRows db (shard_rows o seat.seen s)) (sym rows) has.rows);
          tables = ap length rows ∙ has.tables;
          mode = modes ∙ sym mode_now ∙ ap (λ (t : ShardRecord). mode o (run ++ e ∷ []) t.slot) (sym shard_is) ∙ ap (λ r. mode o r c'.shard.slot) (sym seen);
          stored =
              same_log _ _ _ _ stores
              (ap (map kept_of) (sym stored_now) ∙ ap (λ (t : ShardRecord). entries_kept t.slot (run ++ e ∷ [])) (sym shard_is)
              ∙ ap (entries_kept c'.shard.slot) (sym seen)) has.stored;
          steps =
              came ∙ has.steps ∙ ap (kept_from []) (sym steps_now) ∙ ap (λ (t : ShardRecord). kept_on t.slot (run ++ e ∷ [])) (sym shard_is)
              ∙ ap (kept_on c'.shard.slot) (sym seen);
          within = λ serves.
              subst (λ db. row_count db ≤ most.rows) (sym rows)
              (fit (ap answers_queries (sym mode_now ∙ ap (λ (t : ShardRecord). mode o (run ++ e ∷ []) t.slot) (sym shard_is)
              ∙ ap (λ r. mode o r c'.shard.slot) (sym seen)) ∙ serves));
        });
        entries =
            subst (λ r. length (entries_on c'.shard.slot r) ≤ 2 ^ 40 + beyond (mode o r c'.shard.slot)) (sym seen)
            (subst (λ (t : ShardRecord). length (entries_on t.slot (run ++ e ∷ [])) ≤ 2 ^ 40 + beyond (mode o (run ++ e ∷ []) t.slot)) (sym shard_is)
            (let h = ap length (entries-on run e s.slot on) in
            let k = length-append (entries_on s.slot run) (e ∷ []) in
            let l = ap length here in
            let n = ap beyond mode_now in
            let r = room in
            omega (arith, h, k, l, n, r)));
        limits = limits_are ∙ is.limits;
        most_rows = is.most_rows;
      }

pub within_here : (o : Opening) (most : Limits) (seat : SeatView Entry) (c : Contents) → IsAfter o most seat c
    → answers_queries (mode o seat.seen c.shard.slot) ≡ true → row_count c.store.rows ≤ most.rows
within_here o most seat c is serves =
    (holds_of o most seat.seen c is.keeps (lives_if (mode o seat.seen c.shard.slot) serves)).within serves

-- ---- retiring

pub may_retire_later : (o : Opening) (old run : Run) (s : ShardRecord) (targets : List ShardRecord) → mode o run s.slot ≡ mode o old s.slot → MayRetire o old s targets
    → MayRetire o run s targets
may_retire_later o old run s targets same may = record {
  frozen = same ∙ may.frozen;
  of_source = may.of_source;
  apart = may.apart;
  whole = may.whole;
}

-- ---- a retired shard stays as it is

module _ (o : Opening) (slot : ℕ) where
  quiet : (run before : Run) → LegalFrom o before run → mode o before slot ≡ Retired → entries_on slot (before ++ run) ≡ entries_on slot before
  quiet [] before legal retired = ap (entries_on slot) (append-nil before)
  quiet (e ∷ run) before legal retired = by (quiet run (before ++ e ∷ []) legal.2) (is_on slot e) refl
    where
      by : (mode o (before ++ e ∷ []) slot ≡ Retired → entries_on slot ((before ++ e ∷ []) ++ run) ≡ entries_on slot (before ++ e ∷ [])) → (b : Bool)
          → is_on slot e ≡ b → entries_on slot (before ++ e ∷ run) ≡ entries_on slot before
      by rest true i =
          absurd (not_retired o before e.shard e.event legal.1 (ap (mode o before) (eqb-true e.shard.slot slot i) ∙ retired))
      by rest false i =
          ap (entries_on slot) (sym (append_assoc before (e ∷ []) run))
          ∙ rest (mode-off o before e slot i ∙ retired) ∙ entries-off before e slot i

  legal_back : (front back before : Run) → LegalFrom o before (front ++ back) → LegalFrom o (before ++ front) back
  legal_back [] back before legal = subst (λ r. LegalFrom o r back) (sym (append-nil before)) legal
  legal_back (e ∷ front) back before legal =
      subst (λ r. LegalFrom o r back) (append_assoc before (e ∷ []) front) (legal_back front back (before ++ e ∷ []) legal.2)

  pub retired_stays : (old new : Run) → IsPrefix old new → Legal o new → mode o old slot ≡ Retired → entries_on slot new ≡ entries_on slot old
  retired_stays old new (rest, is) legal retired =
      ap (entries_on slot) (sym is) ∙ quiet rest old (legal_back old rest [] (subst (Legal o) (sym is) legal)) retired

-- ---- serving

pub retired_for_later : (old new : Run) (source : ℕ) (place : Place) (t : ShardRecord) → IsPrefix old new → IsRetiredFor old source place t → IsRetiredFor new source place t
retired_for_later old new source place t later is = record {
  retired = is.retired;
  targets = is.targets;
  there = contains_later (record { shard = is.retired; event = Retire is.targets }) old new later is.there;
  is_source = is.is_source;
  in_place = is.in_place;
  named = is.named;
}

module _ (o : Opening) (opens : IsOpening o) (old new : Run) (later : IsPrefix old new) (legal : Legal o new) (t : ShardRecord) (may : MayServe o old t)
    (same : entries_on t.slot new ≡ entries_on t.slot old) (following : mode o new t.slot ≡ Following) where
  legal_old : Legal o old
  legal_old = by later
    where
      by : IsPrefix old new → Legal o old
      by (rest, is) = Rattle.shard_law.proofs.Law.beginnings o old rest (subst (Legal o) (sym is) legal)

  gone : (source : ℕ) (place : Place) → IsRetiredFor old source place t → mode o old source ≡ Retired
  gone source place is =
      ap (mode o old) (sym is.is_source)
      ∙ (slots o opens old legal_old).gone is.retired is.targets
      (In-from_Contains (record { shard = is.retired; event = Retire is.targets }) old is.there)

  -- where it is once level with a retired source, it stays level
  level_at : (source : ℕ) → In source t.sources → (n : ℕ) → position new t.slot source ≡ Some n → n ≡ length (stored_on source new)
  level_at source h n at =
      let z = zip-left t.sources may.places may.each source h in
      let r : mode o old source ≡ Retired = gone source z.0 (In-all (λ p. IsRetiredFor old p.0 p.1 t) (source, z.0) (zip t.sources may.places) may.retired z.1) in
      let still : stored_on source new ≡ stored_on source old =
      stored-same o old new (record t { slot = source }) (retired_stays o source old new later legal r) in
      let level = In-all (λ source. (n : ℕ) → position old t.slot source ≡ Some n → n ≡ length (stored_on source old)) source t.sources may.level h in
      level n (sym (position-same old new t.slot source same) ∙ at) ∙ ap length (sym still)

  copied_at : (source : ℕ) → In source t.sources → (n : ℕ) → IsTableOf o.schema t.place.keyspace n → IsTrue (has_copied_all new t.slot source n)
  copied_at source h n table =
      copied_all-same old new t.slot source n same
      ∙ In-all (λ source. (n : ℕ) → IsTableOf o.schema t.place.keyspace n → IsTrue (has_copied_all old t.slot source n)) source t.sources may.copied h n table

  pub may_serve_later : MayServe o new t
  may_serve_later = record {
    following = following;
    copied = all-from_In (λ source. (n : ℕ) → IsTableOf o.schema t.place.keyspace n → IsTrue (has_copied_all new t.slot source n)) t.sources copied_at;
    level = all-from_In (λ source. (n : ℕ) → position new t.slot source ≡ Some n → n ≡ length (stored_on source new)) t.sources level_at;
    places = may.places;
    retired =
        Rattle.shard_law.proofs.Lists.all-weaker (λ (p : ℕ × Place). IsRetiredFor old p.0 p.1 t) (λ (p : ℕ × Place). IsRetiredFor new p.0 p.1 t)
        (λ p is. retired_for_later old new p.0 p.1 t later is) (zip t.sources may.places) may.retired;
    each = may.each;
    whole = may.whole;
  }
