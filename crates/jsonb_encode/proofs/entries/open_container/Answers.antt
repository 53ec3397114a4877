use Rattle.std.proofs.Common.{◌≡◌, ◌++◌, ◌*◌, [], replicate, ◌∙◌, arith}
use Rattle.std.proofs.lemmas.Result.{IfOk-weaker}
use Rattle.jsonb_encode.specs.inner.Writing.{IsOpen}
use Rattle.jsonb_encode.proofs.Opened.{opened_none}
use Rattle.jsonb_encode.proofs.entries.open_container.Goals as goal

pub returns-clause-ok : goal.returns-clause-ok
returns-clause-ok c =
    let whole = opened_none c.args.form c.args.count c.args.items c.args.bytes.now.items c.push_word.new.bytes.items c.flags.result c.flags.ensures
    c.in_ok-push_word.ensures.ok in
    IfOk-weaker c.push_empty_words.result
    (λ _. c.push_empty_words.new.bytes.items ≡ c.push_word.new.bytes.items ++ replicate (4 * c.args.items) 0)
    (λ _. IsOpen c.args.form c.args.count c.args.items [] c.args.bytes.now.items c.push_empty_words.new.bytes.items)
    (λ _ e. record { bytes = e ∙ whole; small = omega arith }) c.push_empty_words.ensures.ok
