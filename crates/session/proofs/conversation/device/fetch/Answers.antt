use Rattle.session.specs.declared.conversation.devices.DeviceFailed.{DeviceFailed}
use Rattle.session.proofs.conversation.KeptLemmas.{some_read}
use Rattle.session.proofs.conversation.device.fetch.Goals as goal

pub returns-in-Err-extend_from_slice-clause-memory : goal.returns-in-Err-extend_from_slice-clause-memory
returns-in-Err-extend_from_slice-clause-memory g c = λ is. (_, some_read DeviceFailed _ _ _ _ _ c.in-Ok-Some.field-0-is c.in-Ok-Some.ensures.bytes)
