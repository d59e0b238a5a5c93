-- The lines that answer an admin line.
use Rattle.std.specs.Prelude.{ℕ, List, ◌++◌, codes, flat_map}
use Rattle.std.specs.Fmt.{decimal}
use Rattle.vt_value.specs.Refusals.{refusal_number}
use Rattle.keyrange.specs.declared.KeyRange.{KeyRange}
use Rattle.keyrange.specs.Names.{range_text}
use Rattle.vtgate_lines.specs.Printed.{line}
use Rattle.reshard.specs.Step as moves
use Rattle.reshard.specs.Step.TheVariants.{Copied, Followed, Level}
use Rattle.reshard.specs.declared.workflow.Stage.{Stage}
use Rattle.reshard.specs.declared.workflow.Stage.TheVariants as stages
use Rattle.reshard.specs.declared.cutover.CutoverStep.{CutoverStep}
use Rattle.reshard.specs.declared.cutover.CutoverStep.TheVariants.{Freeze, Copy, Follow, Retire, Serve, Publish, Release}
use Rattle.reshard.specs.ReshardFault.{ReshardFault}
use Rattle.reshard.specs.ReshardFault.TheVariants as faults
use Rattle.admin.specs.declared.reply.AdminReply.{AdminReply}
use Rattle.admin.specs.declared.reply.AdminReply.TheVariants.{Done, Moved, Took, Refused, Status, Unknown}

-- how far a workflow is
abbrev pub stage_word : Stage → List ℕ
stage_word stages.None = codes "none"
stage_word stages.Following = codes "following"
stage_word stages.Switching = codes "switching"
stage_word stages.Switched = codes "switched"

-- what a target did
abbrev pub move_word : moves.Step → List ℕ
move_word Copied = codes "copied"
move_word Followed = codes "followed"
move_word Level = codes "level"

-- a step of a cutover
abbrev pub step_word : CutoverStep → List ℕ
step_word Freeze = codes "freeze"
step_word Copy = codes "copy"
step_word Follow = codes "follow"
step_word Retire = codes "retire"
step_word Serve = codes "serve"
step_word Publish = codes "publish"
step_word Release = codes "release"

-- the number of a refusal: those of a workflow have their own
abbrev pub fault_word : ReshardFault → List ℕ
fault_word (faults.Refused r) = codes "F" ++ decimal (refusal_number r)
fault_word faults.Gap = codes "N1"
fault_word faults.Overlap = codes "N2"
fault_word faults.FewSlots = codes "N3"
fault_word faults.WrongState = codes "N4"
fault_word faults.WrongSource = codes "N5"

-- the ranges of the shards that serve, and how far a workflow is
abbrev pub status_text : List KeyRange → Stage → List ℕ
status_text serving stage = line (codes "serving" ++ flat_map (λ range. codes " " ++ range_text range) serving ++ codes " " ++ stage_word stage)

-- the line that answers
abbrev pub reply_text : AdminReply → List ℕ
reply_text Done = line (codes "ok")
reply_text (Moved step) = line (codes "ok " ++ move_word step)
reply_text (Took step) = line (codes "ok " ++ step_word step)
reply_text (Refused fault) = line (fault_word fault)
reply_text (Status text) = text
reply_text Unknown = line (codes "unknown")
