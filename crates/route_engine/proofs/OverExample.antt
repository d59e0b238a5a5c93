-- Session 1 over the shards -80 and 80- with the rows (1, NULL) and (2, NULL) of t, with what one database gives.
use Rattle.std.proofs.Common.{◌≡◌, ℕ, [], ◌∷◌, refl, sym, ap, subst, ◌∙◌, None, Some, Option, Err, arith}
use Rattle.std.specs.List.{AllByRecursion}
use Rattle.std.proofs.lemmas.List.Sorted.{IsPermutation-refl}
use Rattle.vt_value.specs.declared.refusal.Refusal.TheVariants.{DuplicateKey}
use Rattle.vt_value.specs.declared.value.Value.TheVariants.{Null}
use Rattle.sql_tree.specs.declared.Item.TheVariants.{Column}
use Rattle.vschema.specs.declared.schema.Query.{Query}
use Rattle.vschema.specs.declared.schema.Typed.TheVariants as typed
use Rattle.vschema.specs.declared.changes.Write.{Write}
use Rattle.vschema.specs.declared.changes.Write.TheVariants.{Insert}
use Rattle.vschema.specs.declared.changes.RowChange.TheVariants.{Added}
use Rattle.vschema.specs.Database.{Database}
use Rattle.vschema.proofs.Example.{schema}
use Rattle.shard_contents.specs.Writes.{changes_of}
use Rattle.journal.specs.Views.{PassView, new_pass}
use Rattle.shard_run.specs.declared.Event.TheVariants.{Freeze}
use Rattle.shard_run.specs.declared.Entry.{Entry}
use Rattle.shard_run.specs.Runs.{Run, database}
use Rattle.shard_run.proofs.Examples.{n, opening, seven, four}
use Rattle.shard_calls.specs.declared.reply.Answer.TheVariants.{Rows, Count}
use Rattle.shard_calls.specs.Alone as over
use Rattle.shard_calls.specs.Alone.{IsNoOthers, NoOthers, GivesOver}

abbrev pass : ℕ → Run → PassView Entry
pass session run = new_pass run (Some session)

-- the session that a commit's entry names
session_in : Option (ℕ × ℕ) → ℕ
session_in None = 0
session_in (Some c) = c.0

-- its commits on two shards, and none of another session
alone : NoOthers (pass 1 []) (pass 1 (seven ∷ four ∷ []))
unfolding session_in
alone = record {
  session = 1;
  of_session = refl;
  added = seven ∷ four ∷ [];
  seen = refl;
  own = ((λ c is. sym (ap session_in is)), ((λ c is. sym (ap session_in is)), tt));
}

-- meanwhile a shard may freeze
abbrev frozen : Entry
frozen = record { shard = seven.shard; event = Freeze }

alongside : NoOthers (pass 1 []) (pass 1 (seven ∷ frozen ∷ []))
unfolding session_in
alongside = record {
  session = 1;
  of_session = refl;
  added = seven ∷ frozen ∷ [];
  seen = refl;
  own = ((λ c is. sym (ap session_in is)), ((λ c is. absurd (cc is)), tt));
}

number_in : Option ℕ → ℕ
number_in None = 0
number_in (Some k) = k

-- session 2 isn't alone where it has seen them
others : NoOthers (pass 2 []) (pass 2 (seven ∷ four ∷ [])) → ⊥
unfolding number_in
others h =
    let two : 2 ≡ h.session = ap number_in h.of_session in
    let own = subst (AllByRecursion (IsNoOthers h.session)) (sym h.seen) h.own in
    let first : 1 ≡ h.session = own.0 (1, 1) refl in
    let wrong : 1 ≡ 2 = first ∙ sym two in
    absurd (omega (arith, wrong))

abbrev db : Database
db = ((n 2 ∷ Null ∷ []) ∷ (n 1 ∷ Null ∷ []) ∷ []) ∷ [] ∷ [] ∷ []

before : database opening [] ≡ db
before = refl

abbrev insert_seven : Write
insert_seven = Insert 0 ((n 7 ∷ n 1 ∷ []) ∷ [])

abbrev after : Database
after = ((n 2 ∷ Null ∷ []) ∷ (n 1 ∷ Null ∷ []) ∷ (n 7 ∷ n 1 ∷ []) ∷ []) ∷ [] ∷ [] ∷ []

-- INSERT INTO t VALUES (7, 1) counts one row, and leaves what its entry leaves of the shards
inserts : GivesOver schema db (typed.Write insert_seven) (Count 1) after
inserts = over.writes (Added 0 (n 7 ∷ n 1 ∷ []) ∷ []) (Added 0 (n 7 ∷ n 1 ∷ []) ∷ [], refl, IsPermutation-refl (Added 0 (n 7 ∷ n 1 ∷ []) ∷ []))

left : database opening (seven ∷ []) ≡ after
left = refl

-- and once more is a primary key twice
again : changes_of schema insert_seven after ≡ Err DuplicateKey
again = refl

abbrev all_ids : Query
all_ids = record { table = 0; join = None; items = Column 0 ∷ []; qualified = []; filter = None; group_by = []; order_by = []; limit = None }

-- SELECT id FROM t shows the rows of both shards
selects : GivesOver schema after (typed.Select all_ids)
    (Rows (record { table = 0; join = None; items = Column 0 ∷ []; qualified = []; rows = (n 2 ∷ []) ∷ (n 1 ∷ []) ∷ (n 7 ∷ []) ∷ [] })) after
selects =
    over.selects refl refl refl refl (
      ((n 2 ∷ []), []) ∷ ((n 1 ∷ []), []) ∷ ((n 7 ∷ []), []) ∷ [],
      IsPermutation-refl (((n 2 ∷ []), []) ∷ ((n 1 ∷ []), []) ∷ ((n 7 ∷ []), []) ∷ []),
      (λ k d low high. refl),
      refl,
    )
