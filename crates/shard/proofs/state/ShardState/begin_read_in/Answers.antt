use Rattle.std.proofs.Common.{◌≡◌, ℕ, ◌≤◌, ◌^◌, List, [], length, ap, sym, refl, subst, ◌∙◌, arith}
use Rattle.std.proofs.lemmas.Result.{err_from_is_err_and}
use Rattle.vschema.specs.declared.changes.RowChange.{RowChange}
use Rattle.vschema.specs.Database.{Database, all_applied}
use Rattle.vschema.specs.Sources.{source_rows, SourcesThere}
use Rattle.shard_contents.specs.Groups.{CanBeSummed}
use Rattle.shard_run.specs.Runs.{shard_rows, stored_on}
use Rattle.shard_contents.specs.Entries.{ShardView, seat_view}
use Rattle.shard_contents.specs.Transactions.{PendingView}
use Rattle.shard_contents.specs.Transactions as t
use Rattle.shard_contents.specs.inner.Earlier.{AllHadRows}
use Rattle.shard_contents.proofs.States.{same_contents}
use Rattle.shard.specs.inner.Snapshots.{HasBegunIn, HasRows, IsToRead}
use Rattle.shard.specs.declared.snapshot.BegunReadIn.{BegunReadIn}
use Rattle.shard.proofs.BegunReads.{has_rows_of}
use Rattle.shard.proofs.HeldRows.{few_sources}
use Rattle.shard.proofs.LooksIn as l
use Rattle.shard.proofs.state.ShardState.begin_read_in.Goals as goal

pub returns-in_err-entries-clause-err : goal.returns-in_err-entries-clause-err
returns-in_err-entries-clause-err g c =
    let p = err_from_is_err_and c.from_residual.result c.from_residual.ensures.1 in
    rw (p.1, p.2) (t.stopped c.in_err-entries.ensures.err)

pub returns-in_err-rows-clause-err : goal.returns-in_err-rows-clause-err
returns-in_err-rows-clause-err g c =
    let p = err_from_is_err_and c.from_residual-in_err-rows.result c.from_residual-in_err-rows.ensures.1 in
    rw (p.1, p.2) t.no_memory

pub rows_in-requires : goal.rows_in-requires
rows_in-requires g c =
    let e = c.in_ok-entries.ensures in
    let inside = c.self.inside.contents in
    let own : c.tx.inside.changes ≡ c.args.tx.now.changes = ap (λ (x : PendingView). x.changes) c.tx.view_is in
    let rows = inside.store.rows in
    let q = c.args.query.now in
    let long = l.tables g.W.World.opening g.W.World.limits c.self.inside.seat inside c.self.invariant.0 _ c.self.view_is c.args.self.now.shard e.shard
    c.args.tx.now e.clear e.seen.legal in
    let few = l.few g.W.World.opening g.W.World.limits c.self.inside.seat inside c.self.invariant.0 _ c.self.view_is c.args.self.now.shard e.shard
    c.args.tx.now e.clear e.seen.legal in
    let sources = few_sources q rows few in
    record {
      there = subst (λ (count : ℕ). SourcesThere count q) (sym long) c.requires.there;
      few = omega (arith, sources);
      summed = λ aggregated fits.
          subst (λ (changes : List RowChange). CanBeSummed (source_rows q (all_applied changes rows))) (sym own)
          (l.summed g.W.World.opening g.W.World.limits c.self.inside.seat inside c.self.invariant.0 _ c.self.view_is c.args.self.now.shard e.shard
          c.args.tx.now e.clear e.seen.legal (seat_view c.args.self.now) c.args.pass.now e.seen c.requires.tied c.requires.session c.requires.above q
          (subst (λ (changes : List RowChange). length (source_rows q (all_applied changes rows)) ≤ 2 ^ 60) own fits));
    }

pub returns-clause-begun : goal.returns-clause-begun
returns-clause-begun g c =
    let e = c.in_ok-entries.ensures in
    let tx : PendingView = c.args.tx.now in
    let own : c.tx.inside.changes ≡ tx.changes = ap (λ (x : PendingView). x.changes) c.tx.view_is in
    let inside = c.self.inside.contents in
    let q = c.args.query.now in
    let o = g.W.World.opening in
    let same = l.same_there o g.W.World.limits c.self.inside.seat inside c.self.invariant.0 _ c.self.view_is c.args.self.now.shard e.shard tx e.clear e.seen.legal [] in
    let stored : c.len-stored.result ≡ length (stored_on c.args.self.now.shard.slot c.check.new.self.seen) =
    c.len-stored.ensures
    ∙ l.stored_is o g.W.World.limits c.self.inside.seat inside c.self.invariant.0 _ c.self.view_is c.args.self.now.shard e.shard
    tx e.clear e.seen.legal in
    let begun : BegunReadIn = record { rows = c.in_ok-rows.rows; entries = c.in_ok-entries.entries; stored = c.len-stored.result } in
    subst (λ (v : ShardView). HasBegunIn o c.args.self.now.shard tx v.seen q begun) (sym c.self.view_is)
    (record {
      clear = e.clear;
      rows =
          has_rows_of q tx.changes inside.store.rows (shard_rows o c.check.new.self.seen c.args.self.now.shard) same c.in_ok-rows.rows
          (subst (λ (changes : List RowChange). HasRows q changes inside.store.rows c.in_ok-rows.rows) own c.in_ok-rows.ensures.rows);
      count = e.entries;
      stored = stored;
    })

pub returns-clause-readable : goal.returns-clause-readable
returns-clause-readable g c =
    let own : c.tx.inside.changes ≡ c.args.tx.now.changes = ap (λ (x : PendingView). x.changes) c.tx.view_is in
    subst (λ (changes : List RowChange). IsToRead c.args.query.now changes c.in_ok-rows.rows) own c.in_ok-rows.ensures.readable

pub invariant_of-self : goal.invariant_of-self
invariant_of-self g c =
    let rows = c.rows_in.ensures.unchanged in (
      same_contents _ _ c.self.inside.seat c.self.inside.contents _ c.self.invariant.0 refl rows refl refl refl refl,
      c.self.invariant.1,
      subst (λ (db : Database). AllHadRows c.self.inside.contents.stored.log db c.self.inside.sorted) (sym rows) c.self.invariant.2,
    )
