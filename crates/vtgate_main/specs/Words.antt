-- The words of the command line.
use Rattle.std.specs.Prelude.{◌≡◌, ℕ, Bool, ◌&&◌, List, [], ◌∷◌, map, codes, bytes_eq, is_some, false, Option, Some}
use Rattle.vtgate_serve.specs.Word.{Word}
use Rattle.vtgate_serve.specs.Words.{word_bytes, word_text}

-- `plan`, the word of the shards, which is UTF-8, and a statement, which may be any bytes
abbrev pub is_plan : List Word → Bool
is_plan (word ∷ shards ∷ sql ∷ []) = bytes_eq (word_bytes word) (codes "plan") && is_some (word_text shards)
is_plan _ = false

-- `script`, and the word of the shards, which is UTF-8
abbrev pub is_script : List Word → Bool
is_script (word ∷ shards ∷ []) = bytes_eq (word_bytes word) (codes "script") && is_some (word_text shards)
is_script _ = false

-- They ask for the plan of this statement over these shards.
pub record AsksPlan (line : List Word) (shards sql : List ℕ) : Type 0 where
  pub word : Option (List ℕ)
  pub statement : Option (List ℕ)
  pub texts : map word_text line ≡ word ∷ Some shards ∷ statement ∷ []
  pub bytes : map word_bytes line ≡ codes "plan" ∷ shards ∷ sql ∷ []

-- They ask for a script over these shards.
pub record AsksScript (line : List Word) (shards : List ℕ) : Type 0 where
  pub word : Option (List ℕ)
  pub texts : map word_text line ≡ word ∷ Some shards ∷ []
  pub bytes : map word_bytes line ≡ codes "script" ∷ shards ∷ []
