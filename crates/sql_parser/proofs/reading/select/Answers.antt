use Rattle.std.proofs.Common.{List, Option, refl}
use Rattle.std.proofs.lemmas.Result.{err_from_is_err_and}
use Rattle.vt_value.specs.declared.refusal.Refusal.{Refusal}
use Rattle.vt_value.specs.declared.refusal.Refusal.TheVariants as r
use Rattle.sql_lexer.specs.Lexemes.{lexemes_of}
use Rattle.sql_lexer.specs.inner.Results.{◌>>=◌, Fails}
use Rattle.sql_tree.specs.declared.ColumnName.{ColumnName}
use Rattle.sql_tree.specs.declared.JoinOn.{JoinOn}
use Rattle.sql_tree.specs.declared.Condition.{Condition}
use Rattle.sql_tree.specs.declared.Key.{Key}
use Rattle.sql_tree.specs.declared.LimitClause.{LimitClause}
use Rattle.sql_tree.specs.declared.SelectList.{SelectList}
use Rattle.sql_tree.specs.declared.Select as S
use Rattle.sql_tree.specs.Literals.{Name}
use Rattle.sql_parser.specs.inner.Reading.{select_at}
use Rattle.sql_parser.proofs.LastClauses.{made_of_last}
use Rattle.sql_parser.proofs.WholeTexts.{select_ends, select_goes_on}
use Rattle.sql_parser.proofs.reading.select.Goals as goal

-- What isn't read isn't read with more after it.
fails_with_more : {A B : Type 0} (e : Refusal) (read : Option A) (more : A → Option B) → Fails e read → Fails e (read >>= more)
fails_with_more r.OutOfMemory read more h = tt
fails_with_more r.SyntaxError read more h = rw h refl
fails_with_more _ read more h = absurd h

-- Nor is it by a statement that has more steps after it, and then an end.
fails_in : {A B C D : Type 0} (e : Refusal) (read : Option A) (more : A → Option B) (node : B → Option C) (end : C → Option D) → Fails e read
    → Fails e (((read >>= more) >>= node) >>= end)
fails_in e read more node end h = fails_with_more e _ end (fails_with_more e _ node (fails_with_more e read more h))

abbrev make : SelectList → Name → Option JoinOn → Option (Condition ColumnName) → List ColumnName → List (Key ColumnName) → Option LimitClause → S.Select
make list table join filter group_by order_by limit =
    record { list = list; table = table; join = join; filter = filter; group_by = group_by; order_by = order_by; limit = limit }

pub returns-in_err-list : goal.returns-in_err-list
unfolding select_at
returns-in_err-list c =
    let p = err_from_is_err_and c.from_residual.result c.from_residual.ensures.1 in
    rw (p.1, p.2) (fails_in c.in_err-list.field-0.0 _ _ _ _ c.in_err-list.ensures)

pub returns-in_err-table : goal.returns-in_err-table
unfolding select_at
returns-in_err-table c =
    let p = err_from_is_err_and c.from_residual-in_err-table.result c.from_residual-in_err-table.ensures.1 in
    rw (p.1, p.2) (rw c.in_ok-list.ensures (fails_in c.in_err-table.field-0.0 _ _ _ _ c.in_err-table.ensures))

pub returns-in_err-join : goal.returns-in_err-join
unfolding select_at
returns-in_err-join c =
    let p = err_from_is_err_and c.from_residual-in_err-join.result c.from_residual-in_err-join.ensures.1 in
    rw (p.1, p.2) (rw (c.in_ok-list.ensures, c.in_ok-table.ensures) (fails_in c.in_err-join.field-0.0 _ _ _ _ c.in_err-join.ensures))

pub returns-in_err-filter : goal.returns-in_err-filter
unfolding select_at
returns-in_err-filter c =
    let p = err_from_is_err_and c.from_residual-in_err-filter.result c.from_residual-in_err-filter.ensures.1 in
    rw (p.1, p.2) (rw (c.in_ok-list.ensures, c.in_ok-table.ensures, c.in_ok-join.ensures) (fails_in c.in_err-filter.field-0.0 _ _ _ _ c.in_err-filter.ensures))

pub returns-in_err-last : goal.returns-in_err-last
unfolding select_at
returns-in_err-last c =
    let p = err_from_is_err_and c.from_residual-in_err-last.result c.from_residual-in_err-last.ensures.1 in
    let rest = lexemes_of c.args.text.now c.in_ok-filter.rest.now in
    rw (p.1, p.2) (rw (c.in_ok-list.ensures, c.in_ok-table.ensures, c.in_ok-join.ensures, c.in_ok-filter.ensures, made_of_last (make c.in_ok-list.list c.in_ok-table.table c.in_ok-join.join c.in_ok-filter.filter) rest)
    (fails_in c.in_err-last.field-0.0 _ _ _ _ c.in_err-last.ensures))

pub returns-then-not-ends_select : goal.returns-then-not-ends_select
unfolding select_at
returns-then-not-ends_select c =
    let ends = c.if-not-ends_select.ensures c.args.text.now in
    let with = make c.in_ok-list.list c.in_ok-table.table c.in_ok-join.join c.in_ok-filter.filter in
    let last = c.in_ok-last.last in
    rw (c.in_ok-list.ensures, c.in_ok-table.ensures, c.in_ok-join.ensures, c.in_ok-filter.ensures, made_of_last with (lexemes_of c.args.text.now c.in_ok-filter.rest.now), c.in_ok-last.ensures)
    (select_goes_on (with last.group_by last.order_by last.limit) (lexemes_of c.args.text.now c.in_ok-last.rest.now) ends)

pub returns : goal.returns
unfolding select_at
returns c =
    let ends = c.if-not-ends_select.ensures c.args.text.now in
    let with = make c.in_ok-list.list c.in_ok-table.table c.in_ok-join.join c.in_ok-filter.filter in
    let last = c.in_ok-last.last in
    rw (c.in_ok-list.ensures, c.in_ok-table.ensures, c.in_ok-join.ensures, c.in_ok-filter.ensures, made_of_last with (lexemes_of c.args.text.now c.in_ok-filter.rest.now), c.in_ok-last.ensures)
    (select_ends (with last.group_by last.order_by last.limit) (lexemes_of c.args.text.now c.in_ok-last.rest.now) ends)
