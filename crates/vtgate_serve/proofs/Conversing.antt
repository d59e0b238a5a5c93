-- A conversation that goes on.
use Rattle.std.proofs.Common.{◌≡◌, ℕ, List, [], ◌∷◌, ◌++◌, Option, Result, Ok, Err, refl, sym, subst, ap, ◌∙◌, append_assoc, append-nil}
use Rattle.std.specs.Prelude.{◌≤◌, length, codes, IsTrue, IsFalse, OnErr}
use Rattle.std.specs.List.{list_all}
use Rattle.std.proofs.lemmas.List.Folds.{list_all-append}
use Rattle.std.specs.Io.KnownBytes.{Appends}
use Rattle.std.proofs.KnownBytes.{Appends-nil, Appends-trans}
use Rattle.shard_run.specs.Runs.{Opening}
use Rattle.shard_law.specs.declared.limits.Limits.{Limits}
use Rattle.vtgate_lines.specs.Lines.{HasNoEnd, is_inner}
use Rattle.vtgate_lines.specs.Printed.{line}
use Rattle.vtgate_clients.specs.Devices.{AppendsFront}
use Rattle.admin.specs.declared.reply.AdminReply.{AdminReply}
use Rattle.admin.specs.AdminAnswers.{IsAdminReply}
use Rattle.admin.specs.Words.{reply_text}
use Rattle.vtgate_serve.specs.Conversations as t
use Rattle.vtgate_serve.specs.Conversations.{Controller, AreAnswered, AllAnswered, BreaksOff, HasAnsweredAll, HasEndedEarly, IsDoable, is_word_byte}

-- neither has an end
pub no_end : (front more : List ℕ) → HasNoEnd front → HasNoEnd more → HasNoEnd (front ++ more)
no_end front more one other = rw (list_all-append is_inner front more, one, other) refl

doable : (front more whole : List ℕ) → HasNoEnd front → HasNoEnd more → whole ≡ front ++ more → length whole ≤ 8192 → IsTrue (list_all is_word_byte whole)
    → IsDoable whole
doable front more whole one other put few good =
    record { inner = subst HasNoEnd (sym put) (no_end front more one other); few = few; printable = good }

-- What came is answered but for a front of a line and a rest that wasn't looked at.
pub record IsUnderWay (o : Opening) (most : Limits) (from : Controller) (came front rest : List ℕ) (taken then : Option (List ℕ)) (now : Controller) : Type 0 where
  pub lines : List ℕ
  pub told : List ℕ
  pub split : came ≡ lines ++ (front ++ rest)
  pub unended : HasNoEnd front
  pub are : AreAnswered o most from lines told now
  pub written : Appends taken then told

module _ (o : Opening) (most : Limits) where
  -- one conversation behind another
  pub told_on : (from then now : Controller) (first said came told : List ℕ) → AreAnswered o most from first said then → AreAnswered o most then came told now
      → AreAnswered o most from (first ++ came) (said ++ told) now
  told_on from then _ first said _ _ so t.none =
      subst (λ (c : List ℕ). AreAnswered o most from c (said ++ []) then) (sym (append-nil first))
      (subst (λ (w : List ℕ). AreAnswered o most from first w then) (sym (append-nil said)) so)
  told_on from then _ first said _ _ so (t.next {came} {told} {words} {mid} {now} {reply} is inner last) =
      subst (λ (c : List ℕ). AreAnswered o most from c (said ++ (told ++ reply_text reply)) now) (append_assoc first came (line words))
      (subst (λ (w : List ℕ). AreAnswered o most from ((first ++ came) ++ line words) w now) (append_assoc said told (reply_text reply))
      (t.next (told_on from then mid first said came told so is) inner last))

  pub begins : (from : Controller) (front piece : List ℕ) (taken : Option (List ℕ)) → HasNoEnd front
      → IsUnderWay o most from (front ++ piece) front piece taken taken from
  begins from front piece taken unended = record { lines = []; told = []; split = refl; unended = unended; are = t.none; written = Appends-nil taken }

  pub goes_on : (from mid now : Controller) (came front rest more trailing whole : List ℕ) (taken then later : Option (List ℕ))
      → IsUnderWay o most from came front rest taken then mid → HasNoEnd more → rest ≡ line more ++ trailing → whole ≡ front ++ more
      → length whole ≤ 8192 → IsTrue (list_all is_word_byte whole) → ((reply : AdminReply) × IsAdminReply o most whole mid.pass now.pass reply mid.workflow now.workflow × Appends then later (reply_text reply))
      → IsUnderWay o most from came [] trailing taken later now
  goes_on from mid now came front rest more trailing whole taken then later so inner is put few good told = record {
    lines = so.lines ++ line whole;
    told = so.told ++ reply_text told.0;
    split = so.split ∙ (ap (λ (r : List ℕ). so.lines ++ (front ++ r)) is
        ∙ (ap (λ (r : List ℕ). so.lines ++ (front ++ r)) (append_assoc more (0x0A ∷ []) trailing)
        ∙ (ap (λ (r : List ℕ). so.lines ++ r) (sym (append_assoc front more (0x0A ∷ trailing)))
        ∙ (ap (λ (w : List ℕ). so.lines ++ (w ++ 0x0A ∷ trailing)) (sym put)
        ∙ (ap (λ (r : List ℕ). so.lines ++ r) (sym (append_assoc whole (0x0A ∷ []) trailing))
        ∙ sym (append_assoc so.lines (line whole) trailing))))));
    unended = refl;
    are = t.next so.are (doable front more whole so.unended inner put few good) told.1;
    written = Appends-trans taken then later so.told (reply_text told.0) so.written told.2;
  }

  pub goes_on_anew : (from mid now : Controller) (came front rest more trailing whole left : List ℕ) (taken then later : Option (List ℕ))
      → IsUnderWay o most from came front rest taken then mid → HasNoEnd more → rest ≡ line more ++ trailing → whole ≡ front ++ more
      → length whole ≤ 8192 → IsTrue (list_all is_word_byte whole) → ((reply : AdminReply) × IsAdminReply o most whole mid.pass now.pass reply mid.workflow now.workflow × Appends then later (reply_text reply))
      → left ≡ [] → IsUnderWay o most from came left trailing taken later now
  goes_on_anew from mid now came front rest more trailing whole left taken then later so inner is put few good told none =
      subst (λ (f : List ℕ). IsUnderWay o most from came f trailing taken later now) (sym none)
      (goes_on from mid now came front rest more trailing whole taken then later so inner is put few good told)

  pub stops : (from now : Controller) (came front rest : List ℕ) (taken then : Option (List ℕ)) → IsUnderWay o most from came front rest taken then now
      → BreaksOff o most from came taken then now
  stops from now came front rest taken then so = t.unasked so.lines so.told (front ++ rest) so.split so.are so.written

  pub stops_untold : (from mid now : Controller) (came front rest more trailing whole : List ℕ) (taken then later : Option (List ℕ))
      → IsUnderWay o most from came front rest taken then mid → HasNoEnd more → rest ≡ line more ++ trailing → whole ≡ front ++ more
      → length whole ≤ 8192 → IsTrue (list_all is_word_byte whole) → ((reply : AdminReply) × IsAdminReply o most whole mid.pass now.pass reply mid.workflow now.workflow × AppendsFront then later (reply_text reply))
      → BreaksOff o most from came taken later now
  stops_untold from mid now came front rest more trailing whole taken then later so inner is put few good told =
      t.untold so.lines so.told whole trailing mid told.0 then
      (so.split ∙ (ap (λ (r : List ℕ). so.lines ++ (front ++ r)) is
      ∙ (ap (λ (r : List ℕ). so.lines ++ (front ++ r)) (append_assoc more (0x0A ∷ []) trailing)
      ∙ (ap (λ (r : List ℕ). so.lines ++ r) (sym (append_assoc front more (0x0A ∷ trailing)))
      ∙ (ap (λ (w : List ℕ). so.lines ++ (w ++ 0x0A ∷ trailing)) (sym put)
      ∙ ap (λ (r : List ℕ). so.lines ++ r) (sym (append_assoc whole (0x0A ∷ []) trailing)))))))
      so.are (doable front more whole so.unended inner put few good) told.1 so.written told.2

  pub stops_unread : (from now : Controller) (came front rest more trailing whole : List ℕ) (taken then later : Option (List ℕ))
      → IsUnderWay o most from came front rest taken then now → HasNoEnd more → rest ≡ line more ++ trailing → whole ≡ front ++ more
      → IsFalse (list_all is_word_byte whole) → AppendsFront then later (line (codes "unknown")) → BreaksOff o most from came taken later now
  stops_unread from now came front rest more trailing whole taken then later so inner is put bad told =
      t.unread so.lines so.told whole trailing then
      (so.split ∙ (ap (λ (r : List ℕ). so.lines ++ (front ++ r)) is
      ∙ (ap (λ (r : List ℕ). so.lines ++ (front ++ r)) (append_assoc more (0x0A ∷ []) trailing)
      ∙ (ap (λ (r : List ℕ). so.lines ++ r) (sym (append_assoc front more (0x0A ∷ trailing)))
      ∙ (ap (λ (w : List ℕ). so.lines ++ (w ++ 0x0A ∷ trailing)) (sym put)
      ∙ ap (λ (r : List ℕ). so.lines ++ r) (sym (append_assoc whole (0x0A ∷ []) trailing)))))))
      so.are (subst HasNoEnd (sym put) (no_end front more so.unended inner)) bad so.written told

  pub ends : (from now : Controller) (came front rest left : List ℕ) (taken then : Option (List ℕ)) → IsUnderWay o most from came front rest taken then now
      → HasNoEnd rest → left ≡ front ++ rest → AllAnswered o most from came left taken then now
  ends from now came front rest left taken then so inner put = record {
    lines = so.lines;
    told = so.told;
    split = so.split ∙ ap (λ (r : List ℕ). so.lines ++ r) (sym put);
    unended = subst HasNoEnd (sym put) (no_end front rest so.unended inner);
    are = so.are;
    written = so.written;
  }

  -- ---- pieces

  pub nothing_yet : (from : Controller) (front : List ℕ) (taken : Option (List ℕ)) → front ≡ [] → AllAnswered o most from [] front taken taken from
  nothing_yet from front taken none =
      subst (λ (f : List ℕ). AllAnswered o most from [] f taken taken from) (sym none)
      (record { lines = []; told = []; split = refl; unended = refl; are = t.none; written = Appends-nil taken })

  pub piece_told : (from mid now : Controller) (came front piece left : List ℕ) (taken then later : Option (List ℕ))
      → AllAnswered o most from came front taken then mid → AllAnswered o most mid (front ++ piece) left then later now
      → AllAnswered o most from (came ++ piece) left taken later now
  piece_told from mid now came front piece left taken then later so is = record {
    lines = so.lines ++ is.lines;
    told = so.told ++ is.told;
    split = ap (λ (c : List ℕ). c ++ piece) so.split ∙ (append_assoc so.lines front piece ∙ (ap (λ (r : List ℕ). so.lines ++ r) is.split ∙ sym (append_assoc so.lines is.lines left)));
    unended = is.unended;
    are = told_on from mid now so.lines so.told is.lines is.told so.are is.are;
    written = Appends-trans taken then later so.told is.told so.written is.written;
  }

  pub piece_broke : (from mid now : Controller) (came front piece : List ℕ) (taken then later : Option (List ℕ))
      → AllAnswered o most from came front taken then mid → BreaksOff o most mid (front ++ piece) then later now
      → BreaksOff o most from (came ++ piece) taken later now
  piece_broke from mid now came front piece taken then later so (t.unasked lines told rest split are written) =
      t.unasked (so.lines ++ lines) (so.told ++ told) rest
      (ap (λ (c : List ℕ). c ++ piece) so.split ∙ (append_assoc so.lines front piece ∙ (ap (λ (r : List ℕ). so.lines ++ r) split ∙ sym (append_assoc so.lines lines rest))))
      (told_on from mid now so.lines so.told lines told so.are are)
      (Appends-trans taken then later so.told told so.written written)
  piece_broke from mid now came front piece taken then later so (t.untold lines told words rest before reply between split are inner is written front_of) =
      t.untold (so.lines ++ lines) (so.told ++ told) words rest before reply between
      (ap (λ (c : List ℕ). c ++ piece) so.split ∙ (append_assoc so.lines front piece ∙ (ap (λ (r : List ℕ). so.lines ++ r) split ∙ sym (append_assoc so.lines lines (line words ++ rest)))))
      (told_on from mid before so.lines so.told lines told so.are are) inner is
      (Appends-trans taken then between so.told told so.written written) front_of
  piece_broke from mid now came front piece taken then later so (t.unread lines told words rest between split are inner bad written front_of) =
      t.unread (so.lines ++ lines) (so.told ++ told) words rest between
      (ap (λ (c : List ℕ). c ++ piece) so.split ∙ (append_assoc so.lines front piece ∙ (ap (λ (r : List ℕ). so.lines ++ r) split ∙ sym (append_assoc so.lines lines (line words ++ rest)))))
      (told_on from mid now so.lines so.told lines told so.are are) inner bad
      (Appends-trans taken then between so.told told so.written written) front_of

  -- a conversation that breaks off before anything is done
  pub nothing_done : (from : Controller) (came : List ℕ) (taken : Option (List ℕ)) → BreaksOff o most from came taken taken from
  nothing_done from came taken = t.unasked [] [] came refl t.none (Appends-nil taken)

  -- what was told so far stands where a conversation breaks off
  pub broke : (from now : Controller) (came front : List ℕ) (taken then : Option (List ℕ)) → AllAnswered o most from came front taken then now
      → BreaksOff o most from came taken then now
  broke from now came front taken then so = t.unasked so.lines so.told front so.split so.are so.written

-- what holds anyway holds of an error
pub on_err : {A E : Type 0} (r : Result A E) (P : Type 0) → P → OnErr r P
on_err (Ok x) P p = tt
on_err (Err e) P p = p
