use Rattle.shard_store.proofs.KeptRows.{update_of_kept, delete_of_kept}
use Rattle.shard_contents.proofs.contents.Contents.changes_over.Goals as goal

pub changed_in_transaction-requires-clause-kept : goal.changed_in_transaction-requires-clause-kept
changed_in_transaction-requires-clause-kept c = λ rows.
    update_of_kept c.args.table.now c.args.write.now c.in-Update.ordinal c.in-Update.field-1 c.in-Update.condition c.in-Update.is rows

pub changed_in_transaction-requires-in-Delete-clause-kept : goal.changed_in_transaction-requires-in-Delete-clause-kept
changed_in_transaction-requires-in-Delete-clause-kept c = λ rows.
    delete_of_kept c.args.table.now c.args.write.now c.in-Delete.ordinal c.in-Delete.condition c.in-Delete.is rows
