use Rattle.std.proofs.Common.{◌≡◌, ◌∙◌, ◌+◌, true, ap, filter, subst, sym}
use Rattle.std.proofs.lemmas.Result.{IfOk-weaker}
use Rattle.vt_value.specs.declared.value.Value.{Value}
use Rattle.sql_eval.specs.Sources.{is_pair}
use Rattle.shard_store.specs.inner.Joined.{ColumnRows, has_value}
use Rattle.shard_store.proofs.KeptRows.{filter_weaker}
use Rattle.shard_store.proofs.KeptPairs.{partner_has, null_is_alone}
use Rattle.shard_store.proofs.by_value.RowsByValue.candidates.Goals as goal

pub returns-in-Some : goal.returns-in-Some
returns-in-Some c =
    record {
      ok = (let j = c.args.join in
          let a = c.args.first.now in
          let column = c.args.self.now.column in
          let across = c.joins_by.ensures c.if-not-joins_by.false in
          let ordinal = across.1 ∙ ap (λ (r : ColumnRows). j.width + r.column) c.self.view_is in
          IfOk-weaker c.with.result _ _
          (λ rows is. ap (filter (is_pair j a)) is
          ∙ filter_weaker (is_pair j a) (has_value column c.in-Some.value.now)
          (λ b pair. subst (λ (v : Value). has_value column v b ≡ true) (sym c.in-Some.ensures) (partner_has j column a b across.0 ordinal pair)) c.args.self.now.rows)
          c.with.ensures.ok);
    }

pub returns-in-None : goal.returns-in-None
returns-in-None c =
    record {
      ok = (let across = c.joins_by.ensures c.if-not-joins_by.false in
          ap (filter (is_pair c.args.join c.args.first.now)) c.none.ensures
          ∙ null_is_alone c.args.join c.args.first.now across.0 c.in-None.ensures c.args.self.now.rows);
    }
