use Rattle.std.proofs.Common.{arith, sym, ◌∙◌, refl}
use Rattle.std.specs.Prelude.{codes}
use Rattle.std.proofs.lemmas.Slice.Eq.{bytes_eq-Decides}
use Rattle.vtgate_serve.specs.Words.{word_bytes, word_text}
use Rattle.vtgate_main.proofs.PlanWords.{bytes_of, two_of}
use Rattle.vtgate_main.proofs.running.script_words.Goals as goal

pub returns-clause-found : goal.returns-clause-found
returns-clause-found c = record {
  word = word_text c.word-item.result;
  texts =
      two_of word_text c.args.words.now c.word-item.result c.shards-item.result _ _
      (omega (arith, c.in-len2.len_at_least, c.in-len2.len_below)) c.word-item.is c.shards-item.is refl c.in_ok-text.ensures.some;
  bytes =
      two_of word_bytes c.args.words.now c.word-item.result c.shards-item.result _ _
      (omega (arith, c.in-len2.len_at_least, c.in-len2.len_below)) c.word-item.is c.shards-item.is
      ((bytes_eq-Decides _ (codes "script")).0 (sym c.is_word.ensures ∙ c.if-not-is_word.false)) (bytes_of _ _ c.in_ok-text.ensures.some);
}
