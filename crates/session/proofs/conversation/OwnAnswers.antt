-- What SET of autocommit gives that needs no transaction.
use Rattle.std.proofs.Common.{◌≡◌, Bool, true, false, Some, refl, ap, subst}
use Rattle.std.specs.Prelude.{not}
use Rattle.vschema.specs.declared.schema.VSchema.{VSchema}
use Rattle.resultset.specs.declared.Outcome.TheVariants.{Count}
use Rattle.client_statements.specs.declared.statement.ClientStatement.TheVariants.{Set}
use Rattle.session.specs.declared.conversation.access.Handshake.{Handshake}
use Rattle.session.specs.declared.conversation.connection_state.Settings.{Settings}
use Rattle.session.specs.conversation.GivesText.{TellsClient}
use Rattle.session.specs.conversation.GivesText as g
use Rattle.session.specs.conversation.inner.Tellings.{turns_on}

is_on : (b : Bool) → not b ≡ false → b ≡ true
is_on true none = refl
is_on false none = cc

pub set_to : (schema : VSchema) (handshake : Handshake) (set : Settings) (on : Bool) → turns_on set (Set (Some on)) ≡ false
    → TellsClient schema handshake set (Set (Some on)) (Count 0) (record set { autocommit = on })
set_to schema handshake set false other = g.turned_off
set_to schema handshake set true other =
    let same : set.autocommit ≡ true = is_on set.autocommit other in
    let whole : set ≡ record set { autocommit = true } = ap (λ (b : Bool). record set { autocommit = b }) same in
    subst (λ (then : Settings). TellsClient schema handshake set (Set (Some true)) (Count 0) then) whole (g.stays same)
