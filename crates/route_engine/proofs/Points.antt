-- A query by its key, which its shard answers without a plan.
use Rattle.std.proofs.Common.{◌≡◌, ◌<◌, List, [], ◌∷◌, length, get_or, refl, sym, ap, ◌∙◌, subst, append-nil}
use Rattle.vt_value.specs.declared.refusal.Refusal.{Refusal}
use Rattle.vt_value.specs.Values.{Row}
use Rattle.vschema.specs.declared.schema.Table.{Table}
use Rattle.vschema.specs.declared.schema.Query.{Query}
use Rattle.vschema.specs.declared.schema.VSchema.{VSchema}
use Rattle.vschema.specs.Schema.{no_table}
use Rattle.vschema.specs.Sources.{JoinsInPlace}
use Rattle.journal.specs.Views.{PassView}
use Rattle.shard_run.specs.declared.Entry.{Entry}
use Rattle.shard_run.specs.Runs.{Opening, answers_queries}
use Rattle.shard_run.specs.Openings.{IsOpening}
use Rattle.shard_calls.specs.Routes.{table_at}
use Rattle.std.proofs.lemmas.List.{get_or_default}
use Rattle.shard_calls.specs.Plans.{planned, Finishes}
use Rattle.shard_calls.proofs.Rights.{rights}
use Rattle.shard_calls.specs.declared.reply.ShardRead.{ShardRead}
use Rattle.shard_calls.specs.declared.reply.Answer.TheVariants.{Rows}
use Rattle.shard_calls.specs.Answers as a
use Rattle.shard_calls.specs.Answers.{HasGone, HasRead, MayReadRefuse}
use Rattle.shard_calls.specs.inner.Scatter.{IsScattered, IsFinished}
use Rattle.route_engine.proofs.Selecting.{selected, gone_on}
use Rattle.shard_calls.proofs.Finding.{held_up_since}

module _ (o : Opening) (opens : IsOpening o) (schema : VSchema) (served : schema ≡ o.schema) (q : Query) (joins : JoinsInPlace o.schema q)
    (there : q.table < length schema.tables) (t : Table) (t_is : t ≡ get_or schema.tables q.table t) where
  here : t ≡ table_at schema q.table
  here = t_is ∙ get_or_default schema.tables q.table t no_table there

  pub point_read : (p now : PassView Entry) (rows : List Row) (reads : List ShardRead) → IsFinished o t (planned t q) p rows reads now
      → HasRead o p q (record { answer = Rows (record { table = q.table; join = q.join; items = q.items; qualified = q.qualified; rows = rows }); reads = reads }) now
  point_read p now rows reads is =
      let exact = ap (λ (x : Table). planned x q) here in
      selected o opens schema served q joins there t t_is (planned t q) exact (rights schema q (planned t q) exact) p now is.pieces reads is.scattered rows is.finished q.items refl q.qualified refl

-- a refusal after a look of the same call
pub refused_after : (o : Opening) (p since now : PassView Entry) (q : Query) (e : Refusal) → HasGone o p since → MayReadRefuse o since q e now → MayReadRefuse o p q e now
refused_after o p since now q e gone (a.no_memory g) = a.no_memory (gone_on o p since now gone g)
refused_after o p since now q e gone (a.buffer_full g held) =
    a.buffer_full (gone_on o p since now gone g) (held_up_since o (table_at o.schema q.table) (planned (table_at o.schema q.table) q).route answers_queries p.seen since.seen now.seen gone.1.later held)

-- the rows of one shard are finished
pub finished_alone : (o : Opening) (t : Table) (q : Query) (p now : PassView Entry) (rows : List Row) (reads : List ShardRead) → IsScattered o t (planned t q) p (rows ∷ []) reads now
    → Finishes (planned t q).finish rows rows → IsFinished o t (planned t q) p rows reads now
finished_alone o t q p now rows reads scattered is = record {
  pieces = rows ∷ [];
  scattered = scattered;
  finished = subst (λ (l : List Row). Finishes (planned t q).finish l rows) (sym (append-nil rows)) is;
}
