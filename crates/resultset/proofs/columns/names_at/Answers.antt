use Rattle.std.proofs.Common.{◌∙◌}
use Rattle.std.specs.Prelude.{codes}
use Rattle.std.proofs.lemmas.Result.{err_from_is_err_and}
use Rattle.resultset.proofs.Definitions.{past_catalog, past_schema, past_table, past_tables, past_name, names_in_turn}
use Rattle.resultset.proofs.columns.names_at.Goals as goal

pub returns-in_err-after_catalog : goal.returns-in_err-after_catalog
returns-in_err-after_catalog c =
    let p = err_from_is_err_and c.from_residual.result c.from_residual.ensures.1 in
    rw (p.1, p.2) (λ k more e.
    let at0 = e ∙ names_in_turn k more in
    c.in_err-after_catalog.ensures (codes "def") (past_catalog k more) at0)

pub returns-in_err-schema : goal.returns-in_err-schema
returns-in_err-schema c =
    let p = err_from_is_err_and c.from_residual-in_err-schema.result c.from_residual-in_err-schema.ensures.1 in
    rw (p.1, p.2) (λ k more e.
    let at0 = e ∙ names_in_turn k more in
    let got0 = c.in_ok-after_catalog.ensures (codes "def") (past_catalog k more) at0 in
    let at1 = got0.1 in
    c.in_err-schema.ensures k.schema (past_schema k more) at1)

pub returns-in_err-table : goal.returns-in_err-table
returns-in_err-table c =
    let p = err_from_is_err_and c.from_residual-in_err-table.result c.from_residual-in_err-table.ensures.1 in
    rw (p.1, p.2) (λ k more e.
    let at0 = e ∙ names_in_turn k more in
    let got0 = c.in_ok-after_catalog.ensures (codes "def") (past_catalog k more) at0 in
    let at1 = got0.1 in
    let got1 = c.in_ok-schema.ensures k.schema (past_schema k more) at1 in
    let at2 = got1.1 in
    c.in_err-table.ensures k.table (past_table k more) at2)

pub returns-in_err-after_tables : goal.returns-in_err-after_tables
returns-in_err-after_tables c =
    let p = err_from_is_err_and c.from_residual-in_err-after_tables.result c.from_residual-in_err-after_tables.ensures.1 in
    rw (p.1, p.2) (λ k more e.
    let at0 = e ∙ names_in_turn k more in
    let got0 = c.in_ok-after_catalog.ensures (codes "def") (past_catalog k more) at0 in
    let at1 = got0.1 in
    let got1 = c.in_ok-schema.ensures k.schema (past_schema k more) at1 in
    let at2 = got1.1 in
    let got2 = c.in_ok-table.ensures k.table (past_table k more) at2 in
    let at3 = got2.1 in
    c.in_err-after_tables.ensures k.table (past_tables k more) at3)

pub returns-in_err-name : goal.returns-in_err-name
returns-in_err-name c =
    let p = err_from_is_err_and c.from_residual-in_err-name.result c.from_residual-in_err-name.ensures.1 in
    rw (p.1, p.2) (λ k more e.
    let at0 = e ∙ names_in_turn k more in
    let got0 = c.in_ok-after_catalog.ensures (codes "def") (past_catalog k more) at0 in
    let at1 = got0.1 in
    let got1 = c.in_ok-schema.ensures k.schema (past_schema k more) at1 in
    let at2 = got1.1 in
    let got2 = c.in_ok-table.ensures k.table (past_table k more) at2 in
    let at3 = got2.1 in
    let got3 = c.in_ok-after_tables.ensures k.table (past_tables k more) at3 in
    let at4 = got3.1 in
    c.in_err-name.ensures k.name (past_name k more) at4)

pub returns-in_err-org_name : goal.returns-in_err-org_name
returns-in_err-org_name c =
    let p = err_from_is_err_and c.from_residual-in_err-org_name.result c.from_residual-in_err-org_name.ensures.1 in
    rw (p.1, p.2) (λ k more e.
    let at0 = e ∙ names_in_turn k more in
    let got0 = c.in_ok-after_catalog.ensures (codes "def") (past_catalog k more) at0 in
    let at1 = got0.1 in
    let got1 = c.in_ok-schema.ensures k.schema (past_schema k more) at1 in
    let at2 = got1.1 in
    let got2 = c.in_ok-table.ensures k.table (past_table k more) at2 in
    let at3 = got2.1 in
    let got3 = c.in_ok-after_tables.ensures k.table (past_tables k more) at3 in
    let at4 = got3.1 in
    let got4 = c.in_ok-name.ensures k.name (past_name k more) at4 in
    let at5 = got4.1 in
    c.in_err-org_name.ensures k.org_name more at5)

pub returns : goal.returns
returns c = λ k more e.
    let at0 = e ∙ names_in_turn k more in
    let got0 = c.in_ok-after_catalog.ensures (codes "def") (past_catalog k more) at0 in
    let at1 = got0.1 in
    let got1 = c.in_ok-schema.ensures k.schema (past_schema k more) at1 in
    let at2 = got1.1 in
    let got2 = c.in_ok-table.ensures k.table (past_table k more) at2 in
    let at3 = got2.1 in
    let got3 = c.in_ok-after_tables.ensures k.table (past_tables k more) at3 in
    let at4 = got3.1 in
    let got4 = c.in_ok-name.ensures k.name (past_name k more) at4 in
    let at5 = got4.1 in
    let got5 = c.in_ok-org_name.ensures k.org_name more at5 in
    let at6 = got5.1 in
    (got1.0, got2.0, got4.0, got5.0, got5.1)
