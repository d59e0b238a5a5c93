-- What the engine gives for a narrowed query is, shown whole, what the whole one gives.
use Rattle.std.proofs.Common.{◌≡◌, ℕ, Bool, List, Option, refl, sym, ap, subst, ◌∙◌}
use Rattle.vt_value.specs.declared.refusal.Refusal.{Refusal}
use Rattle.vt_value.specs.Values.{Row}
use Rattle.sql_tree.specs.declared.Item.{Item}
use Rattle.operators.specs.Slices.{shown_at}
use Rattle.vschema.specs.declared.schema.Query.{Query}
use Rattle.vschema.specs.declared.schema.VSchema.{VSchema}
use Rattle.vschema.specs.Sources.{source_rows, JoinsInPlace}
use Rattle.shard_contents.specs.Narrowing.{narrowed, whole_items, whole_ordinals, ShowsAt}
use Rattle.shard_contents.specs.Whole.{Whole}
use Rattle.shard_contents.proofs.NarrowLemmas.{narrowed_aggregated}
use Rattle.shard_calls.specs.Routes.{table_at}
use Rattle.journal.specs.Views.{PassView}
use Rattle.shard_run.specs.declared.Entry.{Entry}
use Rattle.shard_run.specs.Runs.{Opening}
use Rattle.shard_calls.specs.declared.reply.ShardRead.{ShardRead}
use Rattle.shard_calls.specs.declared.reply.Answer.TheVariants.{Rows}
use Rattle.shard_calls.specs.Mix.{mixed_rows}
use Rattle.shard_calls.specs.Answers as a
use Rattle.shard_calls.specs.Answers.{HasRead, MayReadRefuse}

-- a join that shards can make is one of the narrowed query too
pub joins_narrowed : (schema : VSchema) (q : Query) → JoinsInPlace schema q → JoinsInPlace schema (narrowed q)
joins_narrowed schema q joins j e = record {
  plain = narrowed_aggregated q ∙ (joins j e).plain;
  keyspace = (joins j e).keyspace;
  width = (joins j e).width;
  first = (joins j e).first;
  second = (joins j e).second;
  ordinal = (joins j e).ordinal;
  kind = (joins j e).kind;
  ids = (joins j e).ids;
}

pub read_whole : (o : Opening) (p now : PassView Entry) (q : Query) (ordinals : Option (List ℕ)) → ShowsAt q ordinals
    → (items : List (Item ℕ)) (qualified : List Bool) (rows : List Row) (reads : List ShardRead)
    → HasRead o p (narrowed q) (record { answer = Rows (record { table = q.table; join = q.join; items = items; qualified = qualified; rows = rows }); reads = reads }) now
    → HasRead o p q (record { answer = Rows (record { table = q.table; join = q.join; items = q.items; qualified = qualified; rows = shown_at ordinals rows }); reads = reads }) now
read_whole o p now q ordinals shows items qualified rows reads (a.read is) = a.read (record {
  table = refl;
  join = refl;
  items = refl;
  qualified = is.qualified;
  added = is.added;
  gone = is.gone;
  parts = is.parts;
  mix = is.mix;
  allowed = shows.answers (source_rows q (mixed_rows o (table_at o.schema q.table).keyspace is.parts)) rows is.allowed;
  routed = is.routed;
})

pub not_read_whole : (o : Opening) (p now : PassView Entry) (q : Query) (e : Refusal) → MayReadRefuse o p (narrowed q) e now → MayReadRefuse o p q e now
not_read_whole o p now q e (a.no_memory gone) = a.no_memory gone
not_read_whole o p now q e (a.buffer_full gone held_up) = a.buffer_full gone held_up

-- ---- from what the parts of the code tell

module _ (o : Opening) (p now : PassView Entry) (q f n : Query) (same : f ≡ q) (narrow : n ≡ narrowed f) where
  narrow_is : n ≡ narrowed q
  narrow_is = narrow ∙ ap narrowed same

  pub joined : JoinsInPlace o.schema q → JoinsInPlace o.schema n
  joined joins = subst (JoinsInPlace o.schema) (sym narrow_is) (joins_narrowed o.schema q joins)

  pub refused : (e : Refusal) → MayReadRefuse o p n e now → MayReadRefuse o p q e now
  refused e is = not_read_whole o p now q e (subst (λ (v : Query). MayReadRefuse o p v e now) narrow_is is)

  pub replied : (w : Option Whole) → whole_items w n.items ≡ f.items → ShowsAt f (whole_ordinals w) → (items : List (Item ℕ)) → items ≡ n.items
      → (qualified : List Bool) (rows : List Row) (reads : List ShardRead)
      → HasRead o p n (record { answer = Rows (record { table = n.table; join = n.join; items = items; qualified = qualified; rows = rows }); reads = reads }) now
      → (told : List (Item ℕ)) → told ≡ whole_items w items → (shown : List Row) → shown ≡ shown_at (whole_ordinals w) rows
      → HasRead o p q (record { answer = Rows (record { table = q.table; join = q.join; items = told; qualified = qualified; rows = shown }); reads = reads }) now
  replied w whole shows items items_are qualified rows reads read told told_is shown shown_is =
      let all : told ≡ q.items = told_is ∙ ap (whole_items w) items_are ∙ whole ∙ ap (λ (v : Query). v.items) same in
      let here = subst (λ (v : Query). HasRead o p v (record { answer = Rows (record { table = v.table; join = v.join; items = items; qualified = qualified; rows = rows }); reads = reads }) now) narrow_is read in
      let out = read_whole o p now q (whole_ordinals w) (subst (λ (v : Query). ShowsAt v (whole_ordinals w)) same shows) items qualified rows reads here in
      subst (λ (l : List (Item ℕ)). HasRead o p q (record { answer = Rows (record { table = q.table; join = q.join; items = l; qualified = qualified; rows = shown }); reads = reads }) now) (sym all)
      (subst (λ (l : List Row). HasRead o p q (record { answer = Rows (record { table = q.table; join = q.join; items = q.items; qualified = qualified; rows = l }); reads = reads }) now) (sym shown_is) out)
