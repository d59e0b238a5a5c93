-- Words that ask for a plan or a script are what the code tests them to be.
use Rattle.std.proofs.Common.{◌≡◌, ℕ, List, [], ◌∷◌, Bool, true, ◌&&◌, Some, is_some, bytes_eq, codes, map, ap}
use Rattle.std.proofs.lemmas.Slice.Eq.{bytes_eq-Decides}
use Rattle.vtgate_serve.specs.Word.{Word}
use Rattle.vtgate_serve.specs.Words.{word_bytes, word_text}
use Rattle.vtgate_main.specs.Words.{AsksPlan, AsksScript, is_plan, is_script}

both : (a b : Bool) → a ≡ true → b ≡ true → (a && b) ≡ true
both a b x y = cc

-- words that ask for a plan are words of one
pub plan_asked : (line : List Word) (shards sql : List ℕ) → AsksPlan line shards sql → is_plan line ≡ true
plan_asked [] shards sql a = absurd (cc (a.texts))
plan_asked (w ∷ []) shards sql a = absurd (cc (a.texts))
plan_asked (w ∷ s ∷ []) shards sql a = absurd (cc (a.texts))
plan_asked (w ∷ s ∷ q ∷ []) shards sql a =
    let word : word_bytes w ≡ codes "plan" = cc (a.bytes) in
    let told : word_text s ≡ Some shards = cc (a.texts) in
    both (bytes_eq (word_bytes w) (codes "plan")) (is_some (word_text s)) ((bytes_eq-Decides (word_bytes w) (codes "plan")).1 word) (ap is_some told)
plan_asked (w ∷ s ∷ q ∷ r ∷ more) shards sql a = absurd (cc (a.texts))

-- words that ask for a script are words of one
pub script_asked : (line : List Word) (shards : List ℕ) → AsksScript line shards → is_script line ≡ true
script_asked [] shards a = absurd (cc (a.texts))
script_asked (w ∷ []) shards a = absurd (cc (a.texts))
script_asked (w ∷ s ∷ []) shards a =
    let word : word_bytes w ≡ codes "script" = cc (a.bytes) in
    let told : word_text s ≡ Some shards = cc (a.texts) in
    both (bytes_eq (word_bytes w) (codes "script")) (is_some (word_text s)) ((bytes_eq-Decides (word_bytes w) (codes "script")).1 word) (ap is_some told)
script_asked (w ∷ s ∷ q ∷ more) shards a = absurd (cc (a.texts))
