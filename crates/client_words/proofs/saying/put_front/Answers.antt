use Rattle.client_words.proofs.Sayings.{form_put, word_put}
use Rattle.client_words.proofs.saying.put_front.Goals as goal

pub returns-in_ok-put-in-Ok-clause-put : goal.returns-in_ok-put-in-Ok-clause-put
returns-in_ok-put-in-Ok-clause-put c =
    form_put c.args.table.now c.args.text.now c.args.tokens.now c.in-Ok.rest.now _ _ _ c.requires.some (rw c.as_slice.ensures at c.in_ok-put-in-Ok.ensures.ok)
    c.in-Ok.ensures.written

pub returns-in_ok-put_word-in-Err-SyntaxError-clause-put :
    goal.returns-in_ok-put_word-in-Err-SyntaxError-clause-put
returns-in_ok-put_word-in-Err-SyntaxError-clause-put c =
    word_put c.args.table.now c.args.text.now c.args.tokens.now _ _ _ c.requires.some c.in_ok-put_word-in-Err-SyntaxError.ensures.ok
    (rw c.in-Err-SyntaxError.field-0-is at c.in-Err-SyntaxError.ensures.written)
