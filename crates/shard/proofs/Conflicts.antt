-- Where no entry after a touch changes a table, the shard's rows of it are those at the touch.
use Rattle.std.proofs.Common.{◌≡◌, ◌≤◌, false, ◌&&◌, [], ◌++◌, length, drop, sym, ap, ◌∙◌, subst}
use Rattle.std.specs.List.{list_any}
use Rattle.std.proofs.lemmas.List.{drop-append-le}
use Rattle.std.proofs.lemmas.List.Elements.{filter-append}
use Rattle.std.proofs.lemmas.List.Folds.{list_any-append}
use mathlib.Core.List.{IsPrefix}
use Rattle.vschema.specs.Database.{rows_of, all_applied}
use Rattle.journal.specs.Runs.{IsLegal}
use Rattle.shard_run.specs.declared.ShardRecord.{ShardRecord}
use Rattle.shard_run.specs.declared.Mode.TheVariants.{Following}
use Rattle.shard_run.specs.Runs.{Run, Opening, shard_rows, first_rows, mode, stored_changes, is_stored, is_on, stored_on}
use Rattle.shard_contents.specs.Legal.{Legal}
use Rattle.shard_contents.proofs.Law.{legal_back}
use Rattle.shard_contents.proofs.Runs.{log}
use Rattle.shard_contents.proofs.Since.{told, since}
use Rattle.shard_contents.specs.declared.touched_table.Touch.{Touch}
use Rattle.shard_contents.specs.Entries.{MayFollow}
use Rattle.shard_contents.specs.Transactions.{changes_table, is_changed}
use Rattle.shard_contents.proofs.Commits.{applied-append}
use Rattle.shard_contents.proofs.Legality.{legal_is}
use Rattle.shard_contents.proofs.OneTable.{no_or, others_kept, none_of}

module _ (o : Opening) (s : ShardRecord) (old new : Run) (later : IsPrefix old new) where
  abbrev pub added : Run
  added = later.0

  -- what the shard stored after the old run
  pub stored_is : stored_on s.slot new ≡ stored_on s.slot old ++ stored_on s.slot added
  stored_is = ap (stored_on s.slot) (sym later.1) ∙ filter-append (λ e. is_on s.slot e && is_stored e.event) old added

  -- where it had come past following, it goes on by that
  pub held_is : IsLegal (MayFollow o) new → (mode o old s.slot ≡ Following → ⊥) → shard_rows o new s ≡ all_applied (told (stored_on s.slot added)) (shard_rows o old s)
  held_is legal past =
      let whole : Legal o (old ++ added) = subst (Legal o) (sym later.1) (legal_is o new legal) in
      ap (λ r. shard_rows o r s) (sym later.1)
      ∙ ap (λ l. all_applied l (first_rows o s)) (since o s.slot added old (legal_back o old added [] whole) past)
      ∙ applied-append (log s.slot old) (told (stored_on s.slot added)) (first_rows o s)

  trailing : (t : Touch) → t.stored ≤ length (stored_on s.slot old) → is_changed (stored_on s.slot new) t ≡ false
      → list_any (changes_table t.table) (stored_on s.slot added) ≡ false
  trailing t low h =
      let cut : drop t.stored (stored_on s.slot new) ≡ drop t.stored (stored_on s.slot old) ++ stored_on s.slot added =
      ap (drop t.stored) stored_is ∙ drop-append-le t.stored (stored_on s.slot old) (stored_on s.slot added) low in
      let parts = no_or (list_any (changes_table t.table) (drop t.stored (stored_on s.slot old))) (list_any (changes_table t.table) (stored_on s.slot added))
      (sym (list_any-append (changes_table t.table) (drop t.stored (stored_on s.slot old)) (stored_on s.slot added))
      ∙ ap (list_any (changes_table t.table)) (sym cut) ∙ h) in
      parts.1

  -- the rows of a touched table
  pub same_rows : IsLegal (MayFollow o) new → (mode o old s.slot ≡ Following → ⊥) → (t : Touch) → t.stored ≤ length (stored_on s.slot old)
      → is_changed (stored_on s.slot new) t ≡ false → rows_of (shard_rows o new s) t.table ≡ rows_of (shard_rows o old s) t.table
  same_rows legal past t low h =
      ap (λ d. rows_of d t.table) (held_is legal past)
      ∙ others_kept (told (stored_on s.slot added)) (shard_rows o old s) t.table
      (none_of (λ e. stored_changes e.event) (stored_on s.slot added) t.table (trailing t low h))
