-- The conversation with a client of the admin port: lines come, each ended by the byte 0A, and a line answers each.
use Rattle.std.specs.Prelude.{◌≡◌, ◌≤◌, ℕ, Bool, ◌&&◌, nat_le, IsTrue, IsFalse, List, [], ◌++◌, length, codes, Option}
use Rattle.std.specs.List.{list_all}
use Rattle.std.specs.Io.KnownBytes.{Appends, Consumes, IsAtEnd}
use Rattle.journal.specs.Views.{PassView}
use Rattle.shard_run.specs.declared.Entry.{Entry}
use Rattle.shard_run.specs.Runs.{Opening}
use Rattle.shard_law.specs.declared.limits.Limits.{Limits}
use Rattle.vtgate_lines.specs.Lines.{HasNoEnd}
use Rattle.vtgate_lines.specs.Printed.{line}
use Rattle.vtgate_clients.specs.Devices.{AppendsFront}
use Rattle.admin.specs.declared.reply.AdminReply.{AdminReply}
use Rattle.admin.specs.AdminAnswers.{AdministratorView, IsAdminReply}
use Rattle.admin.specs.Words.{reply_text}

-- what the controller has: its pass, and the workflow of the sharded keyspace, if there is one
pub record Controller : Type 0 where
  pub pass : PassView Entry
  pub workflow : AdministratorView

-- one of the bytes from 20 to 7E
abbrev pub is_word_byte : ℕ → Bool
is_word_byte b = nat_le 0x20 b && nat_le b 0x7E

-- The words of a line that is done.
pub record IsDoable (words : List ℕ) : Type 0 where
  pub inner : HasNoEnd words
  pub few : length words ≤ 8192
  pub printable : IsTrue (list_all is_word_byte words)

-- Lines that were answered in turn, each over what the lines before it left: the bytes that came, and the lines that answer them.
pub data AreAnswered (o : Opening) (most : Limits) (from : Controller) : List ℕ → List ℕ → Controller → Type 0 where
  none : AreAnswered o most from [] [] from
  next : {came told words : List ℕ} {mid now : Controller} {reply : AdminReply} → AreAnswered o most from came told mid → IsDoable words
      → IsAdminReply o most words mid.pass now.pass reply mid.workflow now.workflow → AreAnswered o most from (came ++ line words) (told ++ reply_text reply) now

-- Of the bytes that came, each line is answered that has ended, and that was written. A rest that hasn't ended isn't a line.
pub record AllAnswered (o : Opening) (most : Limits) (from : Controller) (came rest : List ℕ) (taken then : Option (List ℕ)) (now : Controller) : Type 0 where
  pub lines : List ℕ
  pub told : List ℕ
  pub split : came ≡ lines ++ rest
  pub unended : HasNoEnd rest
  pub are : AreAnswered o most from lines told now
  pub written : Appends taken then told

-- a conversation that ended with its input
pub record HasAnsweredAll (o : Opening) (most : Limits) (from now : Controller) (unread left taken then : Option (List ℕ)) : Type 0 where
  pub came : List ℕ
  pub rest : List ℕ
  pub consumed : Consumes unread left came
  pub end : IsAtEnd left
  pub told : AllAnswered o most from came rest taken then now

-- A conversation that broke off: after a line that was told, after one that was answered and not told whole, or at one that has another byte,
-- which was answered `unknown`. Nothing after that was done.
pub data BreaksOff (o : Opening) (most : Limits) (from : Controller) (came : List ℕ) (taken then : Option (List ℕ)) (now : Controller) : Type 0 where
  unasked : (lines told rest : List ℕ) → came ≡ lines ++ rest → AreAnswered o most from lines told now → Appends taken then told
      → BreaksOff o most from came taken then now
  untold : (lines told words rest : List ℕ) (mid : Controller) (reply : AdminReply) (between : Option (List ℕ)) → came ≡ lines ++ (line words ++ rest)
      → AreAnswered o most from lines told mid → IsDoable words → IsAdminReply o most words mid.pass now.pass reply mid.workflow now.workflow
      → Appends taken between told → AppendsFront between then (reply_text reply) → BreaksOff o most from came taken then now
  unread : (lines told words rest : List ℕ) (between : Option (List ℕ)) → came ≡ lines ++ (line words ++ rest) → AreAnswered o most from lines told now
      → HasNoEnd words → IsFalse (list_all is_word_byte words) → Appends taken between told → AppendsFront between then (line (codes "unknown"))
      → BreaksOff o most from came taken then now

pub record HasEndedEarly (o : Opening) (most : Limits) (from now : Controller) (unread left taken then : Option (List ℕ)) : Type 0 where
  pub came : List ℕ
  pub consumed : Consumes unread left came
  pub broke : BreaksOff o most from came taken then now
