use Rattle.std.proofs.Common.{◌≡◌, ℕ, ◌+◌, Bool, false, [], ◌∷◌, ◌∙◌, ap, length, take, slice_index_or, subst, arith}
use Rattle.std.proofs.lemmas.List.{take_more, length-append}
use Rattle.sql_tree.specs.declared.Item.{Item}
use Rattle.sql_tree.specs.declared.Item.TheVariants.{Column}
use Rattle.vschema.specs.Schema.{no_table}
use Rattle.session.specs.conversation.Columns.{DefinesItem}
use Rattle.session.proofs.conversation.ColumnLemmas.{AllDefined-push}
use Rattle.session.proofs.conversation.columns.columns_of.Goals as goal

pub loop-item-preserved : goal.loop-item-preserved
loop-item-preserved c =
    let item : Item ℕ = slice_index_or c.args.items.now c.loop-item.item-index (Column 0) in
    let more = take_more c.args.items.now c.loop-item.item-index (Column 0) c.loop-item-test.true in
    let at : c.len.result ≡ 0 + length c.loop-item.columns.items = omega arith in
    let pushed = c.in_ok-push_item.ensures.ok in
    let defined =
    subst (λ (k : Bool). DefinesItem c.args.schema.now (slice_index_or c.args.schema.now.tables c.args.table no_table) c.args.join k item pushed.0)
    (c.flag_at-named_whole.ensures ∙ ap (λ (n : ℕ). slice_index_or c.args.qualified.now n false) at) pushed.1 in
    record {
      defined =
          rw (more, pushed.2)
          (AllDefined-push c.args.schema.now (slice_index_or c.args.schema.now.tables c.args.table no_table) c.args.join c.args.qualified.now 0 (take c.loop-item.item-index c.args.items.now)
          c.loop-item.columns.items item pushed.0 c.loop-item.invariant.defined defined);
      len = omega (arith, ap length pushed.2, length-append c.loop-item.columns.items (pushed.0 ∷ []));
      room = omega arith;
    }
