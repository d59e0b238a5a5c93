use Rattle.std.proofs.Common.{ap, sym, ◌∙◌, arith, Some}
use Rattle.std.specs.Prelude.{codes}
use Rattle.std.proofs.lemmas.Slice.Eq.{bytes_eq-Decides}
use Rattle.vtgate_clients.specs.setup.Words.{word_text}
use Rattle.vtgate_clients.proofs.setup.TenWords.{ten_of}
use Rattle.vtgate_clients.proofs.setup.serve_args.read_words.Goals as goal

pub returns-clause-found : goal.returns-clause-found
returns-clause-found c = record {
  workers = (c.in-Some.ensures.found.1, c.in-Some.ensures.found.2);
  buffer = (c.in-Some-read_between.ensures.found.1, c.in-Some-read_between.ensures.found.2);
  connections = c.in-Some-read_number.ensures.below;
  stage2 = c.in-Some-read_stage2.ensures.bytes;
  words =
      ten_of word_text c.args.words.now c.word-item.result c.shards-item.result c.address-item.result c.admin-item.result c.workers-item.result c.buffer-item.result
      c.connections-item.result c.user-item.result c.stage2-item.result c.nonce-item.result _ _ _ _ _ _ _ _ _ _
      (omega (arith, c.in-len10.len_at_least, c.in-len10.len_below)) c.word-item.is c.shards-item.is c.address-item.is c.admin-item.is c.workers-item.is c.buffer-item.is
      c.connections-item.is c.user-item.is c.stage2-item.is c.nonce-item.is
      (c.in_ok-text.ensures.some ∙ ap Some ((bytes_eq-Decides _ (codes "serve")).0 (sym c.is_serve.ensures ∙ c.if-not-is_serve.false)))
      c.in_ok-text-6.ensures.some
      c.in_ok-text-7.ensures.some
      c.in_ok-text-8.ensures.some
      (c.in_ok-text-2.ensures.some ∙ ap Some c.in-Some.ensures.found.0)
      (c.in_ok-text-3.ensures.some ∙ ap Some c.in-Some-read_between.ensures.found.0)
      (c.in_ok-text-4.ensures.some ∙ ap Some c.in-Some-read_number.ensures.found)
      (c.in_ok-text-9.ensures.some ∙ ap Some (sym c.as_bytes-2.ensures.value))
      (c.in_ok-text-5.ensures.some ∙ ap Some (sym c.as_bytes.ensures.value ∙ c.in-Some-read_stage2.ensures.found))
      (c.in_ok-text-10.ensures.some ∙ ap Some (sym c.as_bytes-3.ensures.value));
}
