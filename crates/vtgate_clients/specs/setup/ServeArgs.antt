-- What the words of `vtgate serve` ask for.
use Rattle.std.specs.Prelude.{◌≡◌, ◌≤◌, ◌<◌, ◌^◌, ℕ, List, [], ◌∷◌, length, map, codes, Option, Some, None, IfSome}
use Rattle.std.specs.Fmt.{decimal}
use Rattle.hex.specs.Hex.{IsBytes, encode_lower}
use Rattle.vtgate_clients.specs.declared.setup.word.Word.{Word}
use Rattle.vtgate_clients.specs.setup.Words.{word_text}

-- The words of the shards and of the two ports, how many workers there are, how many statements may wait in the buffer, after how many
-- connections it ends, whom it lets in, and what its salts are made of.
pub record ServeArgsView : Type 0 where
  pub shards : List ℕ
  pub address : List ℕ
  pub admin : List ℕ
  pub workers : ℕ
  pub buffer : ℕ
  pub connections : ℕ
  pub user : List ℕ
  pub stage2 : Option (List ℕ)
  pub nonce : List ℕ

-- the 20 bytes of SHA1(SHA1(password)) in lower-case hexadecimal digits; without a password `-`
abbrev pub stage2_text : Option (List ℕ) → List ℕ
stage2_text None = codes "-"
stage2_text (Some bytes) = encode_lower bytes

-- These are words that ask for this. Each is UTF-8. Numbers are decimal digits without leading zeros.
pub record IsServeCommand (line : List Word) (a : ServeArgsView) : Type 0 where
  pub workers : (1 ≤ a.workers) × (a.workers ≤ 32)
  pub buffer : (1 ≤ a.buffer) × (a.buffer ≤ 1000)
  pub connections : a.connections < 2 ^ 32
  pub stage2 : IfSome a.stage2 (λ bytes. IsBytes bytes × (length bytes ≡ 20))
  pub words : map word_text line ≡ Some (codes "serve") ∷ Some a.shards ∷ Some a.address ∷ Some a.admin ∷ Some (decimal a.workers) ∷ Some (decimal a.buffer)
      ∷ Some (decimal a.connections) ∷ Some a.user ∷ Some (stage2_text a.stage2) ∷ Some a.nonce ∷ []
