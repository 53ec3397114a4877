use Rattle.std.proofs.Common.{ap, ◌∙◌, true}
use Rattle.std.specs.Prelude.{cond}
use Rattle.std.specs.Str.{bytes_eq}
use Rattle.std.specs.String.{string_bytes}
use Rattle.std.specs.BTreeSet.{contains_text}
use Rattle.std.proofs.lemmas.Map.Text.{btree_set_updates_text}
use Rattle.pattern_translation.proofs.NameLaws.{cond_or}
use Rattle.pattern_translation.proofs.names.see.Goals as goal

pub returns-clause-added : goal.returns-clause-added
returns-clause-added c = λ n q.
    btree_set_updates_text (string_bytes c.in_ok-from_str.field-0) c.args.seen.now c.insert.new.self true c.in_ok-insert.ensures.updates q
    ∙ (ap (λ z. cond (bytes_eq z q) true (contains_text c.args.seen.now q)) c.in_ok-from_str.ensures.ok
    ∙ cond_or (bytes_eq c.args.name.now q) (contains_text c.args.seen.now q))
