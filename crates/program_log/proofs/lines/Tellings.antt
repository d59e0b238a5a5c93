-- The fields that a visit writes, and the line that they make.
use Rattle.std.proofs.Common.{◌≡◌, ℕ, List, [], ◌∷◌, ◌++◌, Option, Some, None, IfSome, sym, ap, ◌∙◌, append_assoc}
use Rattle.std.specs.Prelude.{flat_map}
use Rattle.std.specs.List.{FoldsTo}
use Rattle.std.proofs.lemmas.List.{append-nil}
use Rattle.std.proofs.lemmas.List.Concat.{flat_map-append}
use Rattle.log.specs.declared.level.Level.{Level}
use Rattle.log.specs.declared.record.Record.{Record}
use Rattle.log.specs.Record.{metadata_level, record_metadata, record_args, record_key_values, record_spans}
use Rattle.log.specs.Kv.{Pair}
use Rattle.log.specs.Span.{Scope}
use Rattle.jiff.specs.Types.{Timestamp}
use Rattle.program_log.specs.lines.Lines.{log_field, log_head, level_text, span_pairs, known_entry, recorded_entry, IsTimeText, TellsAt}

folded : (a : List ℕ) (ps : List Pair) (b : List ℕ) → FoldsTo (λ old pair new. new ≡ old ++ log_field pair) a ps b → b ≡ a ++ flat_map log_field ps
folded a [] b h = sym h ∙ sym (append-nil a)
folded a (p ∷ ps) b h =
    folded h.0 ps b h.2 ∙ (ap (λ (x : List ℕ). x ++ flat_map log_field ps) h.1 ∙ append_assoc a (log_field p) (flat_map log_field ps))

folded_spans : (a : List ℕ) (ss : List Scope) (b : List ℕ) → FoldsTo (λ old scope new. new ≡ old ++ flat_map log_field scope.1) a ss b
    → b ≡ a ++ flat_map log_field (span_pairs ss)
folded_spans a [] b h = sym h ∙ sym (append-nil a)
folded_spans a (s ∷ ss) b h =
    folded_spans h.0 ss b h.2
    ∙ (ap (λ (x : List ℕ). x ++ flat_map log_field (span_pairs ss)) h.1
    ∙ (append_assoc a (flat_map log_field s.1) (flat_map log_field (span_pairs ss))
    ∙ ap (λ (x : List ℕ). a ++ x) (sym (flat_map-append log_field s.1 (span_pairs ss)))))

-- where the pairs are known, they are written
pub known_pairs : (o : Option (List Pair)) (a b : List ℕ) → IfSome o (λ ps. FoldsTo (λ old pair new. new ≡ old ++ log_field pair) a ps b)
    → IfSome o (λ ps. b ≡ a ++ flat_map log_field ps)
known_pairs None a b h = tt
known_pairs (Some ps) a b h = folded a ps b h

pub known_spans : (o : Option (List Scope)) (a b : List ℕ) → IfSome o (λ ss. FoldsTo (λ old scope new. new ≡ old ++ flat_map log_field scope.1) a ss b)
    → IfSome o (λ ss. b ≡ a ++ flat_map log_field (span_pairs ss))
known_spans None a b h = tt
known_spans (Some ss) a b h = folded_spans a ss b h

joined : (head d1 d2 d3 line : List ℕ) (spans pairs : List Pair) → d1 ≡ head → d2 ≡ d1 ++ flat_map log_field spans → d3 ≡ d2 ++ flat_map log_field pairs
    → line ≡ d3 ++ 0x0A ∷ [] → line ≡ head ++ flat_map log_field (spans ++ pairs) ++ 0x0A ∷ []
joined head d1 d2 d3 line spans pairs h s p e =
    e
    ∙ ap (λ (x : List ℕ). x ++ 0x0A ∷ [])
    (p ∙ (ap (λ (x : List ℕ). x ++ flat_map log_field pairs) (s ∙ ap (λ (x : List ℕ). x ++ flat_map log_field spans) h)
    ∙ (append_assoc head (flat_map log_field spans) (flat_map log_field pairs)
    ∙ ap (λ (x : List ℕ). head ++ x) (sym (flat_map-append log_field spans pairs)))))

-- the parts of a line, one after the other
pub whole_line : (t : Timestamp) (level : Level) (event : Option (List ℕ)) (scopes : Option (List Scope)) (pairs : Option (List Pair)) (d1 d2 d3 line : List ℕ)
    → IfSome event (λ text. (time : List ℕ) × IsTimeText t time × (d1 ≡ log_head time (level_text level) text))
    → IfSome scopes (λ ss. d2 ≡ d1 ++ flat_map log_field (span_pairs ss))
    → IfSome pairs (λ ps. d3 ≡ d2 ++ flat_map log_field ps)
    → line ≡ d3 ++ 0x0A ∷ []
    → IfSome (known_entry level event scopes pairs) (λ e. TellsAt t e line)
whole_line t level None scopes pairs d1 d2 d3 line h s p e = tt
whole_line t level (Some text) None pairs d1 d2 d3 line h s p e = tt
whole_line t level (Some text) (Some ss) None d1 d2 d3 line h s p e = tt
whole_line t level (Some text) (Some ss) (Some ps) d1 d2 d3 line h s p e =
    (h.0, h.1, joined (log_head h.0 (level_text level) text) d1 d2 d3 line (span_pairs ss) ps h.2 s p e)

-- the beginning of a line
pub begun_is : (o : Option (List ℕ)) (t : Timestamp) (time level text head : List ℕ) → IfSome o (λ bs. text ≡ bs) → IsTimeText t time → head ≡ log_head time level text
    → IfSome o (λ bs. (x : List ℕ) × IsTimeText t x × (head ≡ log_head x level bs))
begun_is None t time level text head e h k = tt
begun_is (Some bs) t time level text head e h k = (time, h, k ∙ ap (log_head time level) e)

-- what a record tells, by its parts
pub recorded : {D K S : Type 0} (output : D → Option (List ℕ)) (pairs : K → Option (List Pair)) (scopes : S → Option (List Scope)) (r : Record D K S) (level : Level) (d : D) (k : K) (s : S)
    → level ≡ metadata_level (record_metadata r) → d ≡ record_args r → k ≡ record_key_values r → s ≡ record_spans r
    → known_entry level (output d) (scopes s) (pairs k) ≡ recorded_entry output pairs scopes r
recorded {D} {K} {S} output pairs scopes r level d k s l e f h =
    ap (λ (x : Level). known_entry x (output d) (scopes s) (pairs k)) l
    ∙ (ap (λ (x : D). known_entry (metadata_level (record_metadata r)) (output x) (scopes s) (pairs k)) e
    ∙ (ap (λ (x : S). known_entry (metadata_level (record_metadata r)) (output (record_args r)) (scopes x) (pairs k)) h
    ∙ ap (λ (x : K). known_entry (metadata_level (record_metadata r)) (output (record_args r)) (scopes (record_spans r)) (pairs x)) f))
