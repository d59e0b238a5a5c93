use Rattle.std.proofs.Common.{arith, sym, ◌∙◌, refl}
use Rattle.std.specs.Prelude.{codes}
use Rattle.std.proofs.lemmas.Slice.Eq.{bytes_eq-Decides}
use Rattle.vtgate_serve.specs.Words.{word_bytes, word_text}
use Rattle.vtgate_main.proofs.PlanWords.{bytes_of, three_of}
use Rattle.vtgate_main.proofs.running.plan_words.Goals as goal

pub returns-clause-found : goal.returns-clause-found
returns-clause-found c = record {
  word = word_text c.word-item.result;
  statement = word_text c.sql-item.result;
  texts =
      three_of word_text c.args.words.now c.word-item.result c.shards-item.result c.sql-item.result _ _ _
      (omega (arith, c.in-len3.len_at_least, c.in-len3.len_below)) c.word-item.is c.shards-item.is c.sql-item.is refl c.in_ok-text.ensures.some refl;
  bytes =
      three_of word_bytes c.args.words.now c.word-item.result c.shards-item.result c.sql-item.result _ _ _
      (omega (arith, c.in-len3.len_at_least, c.in-len3.len_below)) c.word-item.is c.shards-item.is c.sql-item.is
      ((bytes_eq-Decides _ (codes "plan")).0 (sym c.is_word.ensures ∙ c.if-not-is_word.false)) (bytes_of _ _ c.in_ok-text.ensures.some) (sym c.as_bytes.ensures);
}
