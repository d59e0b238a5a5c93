-- The lines of a script, one after the other.
use Rattle.std.proofs.Common.{◌≡◌, ℕ, ◌<◌, List, [], ◌∷◌, ◌++◌, length, refl, sym, subst, ◌∙◌, append_assoc, arith}
use Rattle.std.proofs.lemmas.List.{append-nil, length-append}
use Rattle.std.specs.Io.KnownBytes.{Appends}
use Rattle.std.proofs.KnownBytes.{Appends-nil, Appends-trans}
use Rattle.journal.specs.Views.{PassView}
use Rattle.shard_run.specs.declared.Entry.{Entry}
use Rattle.shard_run.specs.Runs.{Run, Opening}
use Rattle.vtgate_clients.specs.ShardCallsAlone.{NoCommits}
use Rattle.shard_law.specs.Entries.{most_limits}
use Rattle.admin.specs.declared.reply.AdminReply.{AdminReply}
use Rattle.admin.specs.AdminAnswers.{AdministratorView, IsAdminReply}
use Rattle.admin.specs.Words.{reply_text}
use Rattle.vtgate_lines.specs.Lines.{IsNextLine, IsAdminLine}
use Rattle.vtgate_lines.specs.Lines as l
use Rattle.vtgate_clients.specs.setup.Inputs.{Known}
use Rattle.vtgate_serve.specs.script.Scripted as s
use Rattle.vtgate_serve.specs.script.inner.UnderWay.{KeptProgress, IsProgressOf, nothing_kept}
use Rattle.vtgate_serve.specs.script.Scripted.{ScriptProgress, PrintsLine, AllGive, HasPrinted, at_first}

-- What was written so far, over the lines that are run: whatever the rest gives stands after it.
pub record IsUnderWay (o : Opening) (first : ScriptProgress) (workflow : AdministratorView) (lines : List ℕ) (taken : Known) (now : ScriptProgress)
    (then : AdministratorView) (rest : List ℕ) (taken_now : Known) : Type 0 where
  pub written : List ℕ
  pub appended : Appends taken taken_now written
  pub goes_on : (out : List ℕ) (last : ScriptProgress) (left : AdministratorView) → AllGive o now then rest out last left
      → AllGive o first workflow lines (written ++ out) last left

pub begins : (o : Opening) (first : ScriptProgress) (workflow : AdministratorView) (lines : List ℕ) (taken : Known)
    → IsUnderWay o first workflow lines taken first workflow lines taken
begins o first workflow lines taken = record { written = []; appended = Appends-nil taken; goes_on = λ out last left r. r }

module _ (o : Opening) (first now mid : ScriptProgress) (workflow then amid : AdministratorView) (lines rest line more text : List ℕ)
    (taken taken_now taken_then : Known) where
  pub one_more : IsUnderWay o first workflow lines taken now then rest taken_now → IsNextLine rest line more → PrintsLine o now then line text mid amid
      → Appends taken_now taken_then text → IsUnderWay o first workflow lines taken mid amid more taken_then
  one_more so next gives appends = record {
    written = so.written ++ text;
    appended = Appends-trans taken taken_now taken_then so.written text so.appended appends;
    goes_on = λ out last left r.
        subst (λ (w : List ℕ). AllGive o first workflow lines w last left) (sym (append_assoc so.written text out))
        (so.goes_on (text ++ out) last left (s.next next gives r));
  }

pub ends : (o : Opening) (workflow then : AdministratorView) (now : ScriptProgress) (lines rest : List ℕ) (taken taken_now : Known)
    → IsUnderWay o at_first workflow lines taken now then rest taken_now → rest ≡ [] → HasPrinted o workflow lines taken taken_now
ends o workflow then now lines rest taken taken_now so none =
    let all : AllGive o at_first workflow lines (so.written ++ []) now then =
    so.goes_on [] now then (subst (λ (r : List ℕ). AllGive o now then r [] now then) (sym none) s.none) in
    record {
      out = so.written;
      last = now;
      after = then;
      gives = subst (λ (w : List ℕ). AllGive o at_first workflow lines w now then) (append-nil so.written) all;
      printed = so.appended;
    }

-- ---- over what is kept

-- The lines so far are run over what is kept now.
abbrev pub AreRun : Opening → AdministratorView → List ℕ → Known → KeptProgress → AdministratorView → List ℕ → Known → Type 0
AreRun o workflow lines taken kept then rest taken_now =
    (now : ScriptProgress) × IsProgressOf o kept now × IsUnderWay o at_first workflow lines taken now then rest taken_now

pub none_run : (o : Opening) (workflow : AdministratorView) (lines : List ℕ) (taken : Known) (kept : KeptProgress) → kept ≡ nothing_kept
    → AreRun o workflow lines taken kept workflow lines taken
none_run o workflow lines taken kept none = (
  at_first,
  subst (λ (k : KeptProgress). IsProgressOf o k at_first) (sym none) (record { sessions = tt; seen = refl }),
  begins o at_first workflow lines taken,
)

pub one_run : (o : Opening) (workflow was then : AdministratorView) (kept after : KeptProgress) (lines rest line more : List ℕ) (taken : Known) (text : List ℕ)
    (taken_now taken_then : Known) → AreRun o workflow lines taken kept was rest taken_now → IsNextLine rest line more → Appends taken_now taken_then text
    → ((p : ScriptProgress) → IsProgressOf o kept p → (q : ScriptProgress) × IsProgressOf o after q × PrintsLine o p was line text q then)
    → AreRun o workflow lines taken after then more taken_then
one_run o workflow was then kept after lines rest line more taken text taken_now taken_then so next appends gives =
    let mid = gives so.0 so.1 in
    (mid.0, mid.1, one_more o at_first so.0 mid.0 workflow was then lines rest line more text taken taken_now taken_then so.2 next mid.2 appends)

pub all_run : (o : Opening) (workflow then : AdministratorView) (lines : List ℕ) (taken : Known) (kept : KeptProgress) (rest : List ℕ) (taken_now : Known)
    → AreRun o workflow lines taken kept then rest taken_now → rest ≡ [] → HasPrinted o workflow lines taken taken_now
all_run o workflow then lines taken kept rest taken_now so none = ends o workflow then so.0 lines rest taken taken_now so.2 none

-- what an admin line leaves of what is kept
pub admin_run : (o : Opening) (kept after : KeptProgress) (was then : AdministratorView) (line words : List ℕ) (p q : PassView Entry) (reply : AdminReply)
    → IsAdminLine line words → p.seen ≡ kept.seen → NoCommits kept.seen q.seen → after ≡ record kept { seen = q.seen } → IsAdminReply o most_limits words p q reply was then
    → (from : ScriptProgress) → IsProgressOf o kept from → (t : ScriptProgress) × IsProgressOf o after t × PrintsLine o from was line (reply_text reply) t then
admin_run o kept after was then line words p q reply asks seen still left told from held = (
  record from { seen = q.seen },
  subst (λ (k : KeptProgress). IsProgressOf o k (record from { seen = q.seen })) (sym left) (record { sessions = held.sessions; seen = refl }),
  s.admin words p q asks (seen ∙ held.seen) (subst (λ (r : Run). NoCommits r q.seen) held.seen still) told,
)

-- a line is after it
pub shorter : (input line rest : List ℕ) → IsNextLine input line rest → length rest < length input
shorter _ _ _ (l.ended {line} {rest} inner) = let e = length-append line (0x0A ∷ rest) in omega (arith, e)
shorter _ [] _ (l.last inner some) = absurd (some refl)
shorter _ (b ∷ line) _ (l.last inner some) = omega arith
