use Rattle.std.proofs.Common.{inl}
use Rattle.std.proofs.lemmas.Result.{IfOk-weaker, IfErr-weaker}
use Rattle.session.specs.conversation.Prepared as a
use Rattle.session.proofs.conversation.StatementReplies.{unsure_is, refused_is}
use Rattle.session.proofs.conversation.prepared.columns_shown.Goals as goal

pub returns-in-Ok-clause-shows : goal.returns-in-Ok-clause-shows
returns-in-Ok-clause-shows c = IfOk-weaker c.columns_owned.result _ _ (λ columns shows. a.shows c.in-Ok.ensures.ok shows) c.columns_owned.ensures.shows

pub returns-in-Ok-clause-err : goal.returns-in-Ok-clause-err
returns-in-Ok-clause-err c = IfErr-weaker c.columns_owned.result _ _ (λ e memory. inl memory) c.columns_owned.ensures.err

pub returns-in-Err-clause-shows : goal.returns-in-Err-clause-shows
returns-in-Err-clause-shows c =
    IfOk-weaker c.no_columns.result _ _
    (λ columns said. unsure_is c.args.schema.now c.args.statement c.in-Err.why c.is_select-selects.result columns c.in-Err.ensures.err c.is_select-selects.ensures said)
    c.no_columns.ensures.ok

pub returns-in-Err-clause-err : goal.returns-in-Err-clause-err
returns-in-Err-clause-err c =
    IfErr-weaker c.no_columns.result _ _
    (λ e said. refused_is c.args.schema.now c.args.statement c.in-Err.why e c.is_select-selects.result c.in-Err.ensures.err c.is_select-selects.ensures said)
    c.no_columns.ensures.err
