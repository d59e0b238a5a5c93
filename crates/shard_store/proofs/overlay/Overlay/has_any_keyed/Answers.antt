use Rattle.std.proofs.Common.{◌≡◌, ◌∙◌, ◌||◌, Bool, true, false, sym, ap, subst}
use Rattle.std.specs.List.{list_any}
use Rattle.std.proofs.lemmas.List.Sorted.{list_any-IsPermutation}
use Rattle.vt_value.specs.Values.{Row}
use Rattle.sql_eval.specs.Schema.{key_of}
use Rattle.sql_eval.specs.Database.{same_row}
use Rattle.shard_store.specs.Slots.{rows_in}
use Rattle.shard_store.specs.Tables.{key_at}
use Rattle.shard_store.specs.Stores.{ChangedView}
use Rattle.shard_store.specs.inner.Joined.{rows_lent}
use Rattle.shard_store.specs.inner.Overlays.{left_of}
use Rattle.shard_store.proofs.Shared.{any_two, two_lists, turned_two}
use Rattle.shard_store.proofs.overlay.Overlay.has_any_keyed.Goals as goal

pub returns-then-branch : goal.returns-then-branch
returns-then-branch c =
    record {
      ok = (let t = c.args.table.now in
          let new = c.args.new.now in
          let f : Row → Row → Bool = λ n r. same_row (key_of t n) (key_of t r) in
          let xs = left_of c.self.inside.gone (rows_in c.self.inside.stored.now.slots) in
          let ys = rows_lent c.self.inside.others.items in
          let told : (a b : Row) → same_row (key_at c.self.inside.stored.now.ordinals a) (key_at c.self.inside.stored.now.ordinals b) ≡ f a b =
          λ a b. subst (λ (v : ChangedView). same_row (key_at v.ordinals a) (key_at v.ordinals b) ≡ f a b) (sym c.self.view_is) (c.requires a b) in
          let there : any_two f xs new ≡ true =
          sym (c.in_ok-any_has_slot.ensures.ok ∙ (λ i. list_any (λ n. list_any (λ r. told n r i) xs) new)) ∙ c.if-branch.true in
          sym (ap (λ (v : ChangedView). any_two f v.rows new) (sym c.self.view_is) ∙ two_lists f xs ys new ∙ ap (λ b. b || any_two f ys new) there));
    }

pub returns : goal.returns
returns c =
    record {
      ok = (let t = c.args.table.now in
          let new = c.args.new.now in
          let f : Row → Row → Bool = λ n r. same_row (key_of t n) (key_of t r) in
          let xs = left_of c.self.inside.gone (rows_in c.self.inside.stored.now.slots) in
          let ys = rows_lent c.self.inside.others.items in
          let sorted = rows_lent c.in_ok-sorted.sorted.items in
          let told : (a b : Row) → same_row (key_at c.self.inside.stored.now.ordinals a) (key_at c.self.inside.stored.now.ordinals b) ≡ f a b =
          λ a b. subst (λ (v : ChangedView). same_row (key_at v.ordinals a) (key_at v.ordinals b) ≡ f a b) (sym c.self.view_is) (c.requires a b) in
          let none : any_two f xs new ≡ false =
          sym (c.in_ok-any_has_slot.ensures.ok ∙ (λ i. list_any (λ n. list_any (λ r. told n r i) xs) new)) ∙ c.if-branch.false in
          c.any_lent_has_key.ensures
          ∙ (λ i. list_any (λ r. list_any (λ n. f n r) (rows_lent (c.as_slice.ensures.value i))) (rows_lent (c.as_slice-2.ensures.value i)))
          ∙ turned_two f ys sorted
          ∙ sym (list_any-IsPermutation (λ n. list_any (f n) ys) new sorted c.in_ok-sorted.ensures.permutation)
          ∙ sym (ap (λ (v : ChangedView). any_two f v.rows new) (sym c.self.view_is) ∙ two_lists f xs ys new ∙ ap (λ b. b || any_two f ys new) none));
    }
