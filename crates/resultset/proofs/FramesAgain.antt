-- A stream of packets is read again as the payloads that it was written from.
use Rattle.std.proofs.Common.{append_assoc, ◌≡◌, ◌≢◌, ℕ, ◌+◌, ◌%◌, ◌<◌, ◌≤◌, List, [], ◌∷◌, ◌++◌, length, take, drop, ap, sym, ◌∙◌, arith, inl, inr, false}
use Rattle.std.specs.Prelude.{◌==◌}
use Rattle.std.proofs.lemmas.Bool.{cases_lt}
use Rattle.std.proofs.lemmas.List.{append-nil, take-append-drop, length-take, length-append}
use Rattle.mysql_packet.specs.Frames.{full, packet, frame, frames_from, number_after}
use Rattle.mysql_packet.proofs.FrameLemmas.{frame-short, frame-long, length-frame}
use Rattle.resultset.specs.declared.unread.Unread.{Unread}
use Rattle.resultset.specs.inner.Reading.{IsMemory}

-- Of a payload this much is read already, and these bytes begin with the frame of the rest.
pub record Remains (payload more so_far rest : List ℕ) : Type 0 where
  pub number : ℕ
  pub later : List ℕ
  pub whole : rest ≡ frame number later ++ more
  pub joined : so_far ++ later ≡ payload

abbrev pub StillReads : List ℕ → List ℕ → List ℕ → Type 0
StillReads bytes so_far rest = (number : ℕ) (payload more : List ℕ) → bytes ≡ frame number payload ++ more → Remains payload more so_far rest

-- what a part and the bytes after it say of each packet that the bytes may begin with
abbrev pub IsPart : List ℕ → List ℕ → List ℕ → Type 0
IsPart rest part after = (number : ℕ) (p more : List ℕ) → length p ≤ full → rest ≡ packet number p ++ more → (part ≡ p) × (after ≡ more)

short_part : (payload more so_far rest part after : List ℕ) → IsPart rest part after → (r : Remains payload more so_far rest) → length r.later < full → (part ≡ r.later) × (after ≡ more)
short_part payload more so_far rest part after is r short =
    is r.number r.later more (omega arith) (r.whole ∙ ap (λ (l : List ℕ). l ++ more) (frame-short r.number r.later short))

full_part : (payload more so_far rest part after : List ℕ) → IsPart rest part after → (r : Remains payload more so_far rest) → full ≤ length r.later
    → (part ≡ take full r.later) × (after ≡ frame ((r.number + 1) % 256) (drop full r.later) ++ more)
full_part payload more so_far rest part after is r long =
    is r.number (take full r.later) (frame ((r.number + 1) % 256) (drop full r.later) ++ more) (omega (arith, length-take full r.later))
    (r.whole ∙ ap (λ (l : List ℕ). l ++ more) (frame-long r.number r.later long) ∙ append_assoc (packet r.number (take full r.later)) (frame ((r.number + 1) % 256) (drop full r.later)) more)

-- a full part is followed by the rest
reads_more_from : (payload more so_far rest part after : List ℕ) → IsPart rest part after → full ≤ length part → Remains payload more so_far rest → Remains payload more (so_far ++ part) after
reads_more_from payload more so_far rest part after is long r =
    elim (cases_lt (length r.later) full) [
      | inl short ↦ absurd (omega (arith, ap length (short_part payload more so_far rest part after is r short).0))
      | inr le ↦
          let p = full_part payload more so_far rest part after is r le in
          record {
            number = (r.number + 1) % 256;
            later = drop full r.later;
            whole = p.1;
            joined = append_assoc so_far part (drop full r.later) ∙ ap (λ (l : List ℕ). so_far ++ (l ++ drop full r.later)) p.0 ∙ ap (λ (l : List ℕ). so_far ++ l) (take-append-drop full r.later) ∙ r.joined;
          }
    ]

pub reads_more : (bytes so_far rest part after : List ℕ) → IsPart rest part after → full ≤ length part → StillReads bytes so_far rest → StillReads bytes (so_far ++ part) after
reads_more bytes so_far rest part after is long still = λ number payload more e. reads_more_from payload more so_far rest part after is long (still number payload more e)

-- a shorter one is the last
reads_last_from : (payload more so_far rest part after : List ℕ) → IsPart rest part after → length part < full → Remains payload more so_far rest → (so_far ++ part ≡ payload) × (after ≡ more)
reads_last_from payload more so_far rest part after is short r =
    elim (cases_lt (length r.later) full) [
      | inl lt ↦
          let p = short_part payload more so_far rest part after is r lt in
          (ap (λ (l : List ℕ). so_far ++ l) p.0 ∙ r.joined, p.1)
      | inr le ↦ absurd (omega (arith, ap length (full_part payload more so_far rest part after is r le).0, length-take full r.later))
    ]

pub reads_last : (bytes so_far rest part after : List ℕ) → IsPart rest part after → length part < full → StillReads bytes so_far rest
    → (number : ℕ) (payload more : List ℕ) → bytes ≡ frame number payload ++ more → (so_far ++ part ≡ payload) × (after ≡ more)
reads_last bytes so_far rest part after is short still number payload more e = reads_last_from payload more so_far rest part after is short (still number payload more e)

-- where no packet is read, there is none, unless memory ran out
abbrev pub IsNoPart : List ℕ → Unread → Type 0
IsNoPart rest e = (number : ℕ) (p more : List ℕ) → length p ≤ full → rest ≡ packet number p ++ more → IsMemory e

no_part_from : (payload more so_far rest : List ℕ) (e : Unread) → IsNoPart rest e → Remains payload more so_far rest → IsMemory e
no_part_from payload more so_far rest e none r =
    elim (cases_lt (length r.later) full) [
      | inl lt ↦ none r.number r.later more (omega arith) (r.whole ∙ ap (λ (l : List ℕ). l ++ more) (frame-short r.number r.later lt))
      | inr le ↦
          none r.number (take full r.later) (frame ((r.number + 1) % 256) (drop full r.later) ++ more) (omega (arith, length-take full r.later))
          (r.whole ∙ ap (λ (l : List ℕ). l ++ more) (frame-long r.number r.later le) ∙ append_assoc (packet r.number (take full r.later)) (frame ((r.number + 1) % 256) (drop full r.later)) more)
    ]

pub no_part : (bytes so_far rest : List ℕ) (e : Unread) → IsNoPart rest e → StillReads bytes so_far rest → (number : ℕ) (payload more : List ℕ) → bytes ≡ frame number payload ++ more → IsMemory e
no_part bytes so_far rest e none still number payload more is = no_part_from payload more so_far rest e none (still number payload more is)

pub not_empty : (xs : List ℕ) → (length xs == 0) ≡ false → 0 < length xs
not_empty [] e = absurd cc
not_empty (x ∷ xs) e = omega arith

-- Of the payloads these are read already, and these bytes are the frames of the rest.
pub record Follow (all so_far : List (List ℕ)) (rest : List ℕ) : Type 0 where
  pub number : ℕ
  pub later : List (List ℕ)
  pub whole : rest ≡ frames_from number later
  pub joined : so_far ++ later ≡ all

abbrev pub StillSplits : List ℕ → List (List ℕ) → List ℕ → Type 0
StillSplits bytes so_far rest = (number : ℕ) (all : List (List ℕ)) → bytes ≡ frames_from number all → Follow all so_far rest

no_frame : (number : ℕ) (p : List ℕ) (more : List ℕ) → frame number p ++ more ≢ []
no_frame number p more e = omega (arith, ap length e, length-append (frame number p) more, length-frame number p)

-- what a payload and the bytes after it say of each frame that the bytes may begin with
abbrev pub IsPayload : List ℕ → List ℕ → List ℕ → Type 0
IsPayload rest payload after = (number : ℕ) (p more : List ℕ) → rest ≡ frame number p ++ more → (payload ≡ p) × (after ≡ more)

splits_more_from : (all so_far : List (List ℕ)) (rest payload after : List ℕ) (number : ℕ) (later : List (List ℕ)) → IsPayload rest payload after → 0 < length rest
    → rest ≡ frames_from number later → so_far ++ later ≡ all → Follow all (so_far ++ payload ∷ []) after
splits_more_from all so_far rest payload after number [] is some whole joined = absurd (omega (arith, ap length whole))
splits_more_from all so_far rest payload after number (p ∷ later) is some whole joined =
    let found = is number p (frames_from (number_after number p) later) whole in
    record {
      number = number_after number p;
      later = later;
      whole = found.1;
      joined = append_assoc so_far (payload ∷ []) later ∙ ap (λ (q : List ℕ). so_far ++ (q ∷ later)) found.0 ∙ joined;
    }

pub splits_more : (bytes : List ℕ) (so_far : List (List ℕ)) (rest payload after : List ℕ) → IsPayload rest payload after → 0 < length rest → StillSplits bytes so_far rest
    → StillSplits bytes (so_far ++ payload ∷ []) after
splits_more bytes so_far rest payload after is some still = λ number all e.
    let f = still number all e in
    splits_more_from all so_far rest payload after f.number f.later is some f.whole f.joined

splits_all_from : (all so_far : List (List ℕ)) (number : ℕ) (later : List (List ℕ)) → [] ≡ frames_from number later → so_far ++ later ≡ all → so_far ≡ all
splits_all_from all so_far number [] whole joined = sym (append-nil so_far) ∙ joined
splits_all_from all so_far number (p ∷ later) whole joined = absurd (no_frame number p _ (sym whole))

pub splits_all : (bytes : List ℕ) (so_far : List (List ℕ)) (rest : List ℕ) → rest ≡ [] → StillSplits bytes so_far rest → (number : ℕ) (all : List (List ℕ)) → bytes ≡ frames_from number all → so_far ≡ all
splits_all bytes so_far rest ended still number all e = let f = still number all e in splits_all_from all so_far f.number f.later (sym ended ∙ f.whole) f.joined

abbrev pub IsNoPayload : List ℕ → Unread → Type 0
IsNoPayload rest e = (number : ℕ) (p more : List ℕ) → rest ≡ frame number p ++ more → IsMemory e

no_payload_from : (rest : List ℕ) (e : Unread) (number : ℕ) (later : List (List ℕ)) → IsNoPayload rest e → 0 < length rest → rest ≡ frames_from number later → IsMemory e
no_payload_from rest e number [] none some whole = absurd (omega (arith, ap length whole))
no_payload_from rest e number (p ∷ later) none some whole = none number p (frames_from (number_after number p) later) whole

pub no_payload : (bytes : List ℕ) (so_far : List (List ℕ)) (rest : List ℕ) (e : Unread) → IsNoPayload rest e → 0 < length rest → StillSplits bytes so_far rest
    → (number : ℕ) (all : List (List ℕ)) → bytes ≡ frames_from number all → IsMemory e
no_payload bytes so_far rest e none some still number all is = let f = still number all is in no_payload_from rest e f.number f.later none some f.whole
