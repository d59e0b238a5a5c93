-- Why a part of a text isn't read: want of memory, or there is nothing that it means.
use Rattle.std.specs.Prelude.{◌≡◌, ◌⊎◌, Option, None}
use Rattle.vschema_json.specs.declared.fault.SchemaFault.{SchemaFault}
use Rattle.vschema_json.specs.declared.fault.SchemaFault.TheVariants.{OutOfMemory, IllFormed}

abbrev pub IsFaultOf : {A : Type 0} → SchemaFault → Option A → Type 0
IsFaultOf fault meaning = (fault ≡ OutOfMemory) ⊎ ((fault ≡ IllFormed) × (meaning ≡ None))
