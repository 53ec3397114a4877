use Rattle.std.proofs.Common.{ap, ◌∙◌, Some}
use Rattle.std.specs.Prelude.{string_bytes}
use Rattle.std.specs.Map.{update}
use Rattle.std.specs.Str.{bytes_eq}
use Rattle.std.proofs.lemmas.Map.Text.{btree_map_updates_text}
use Rattle.pattern_tree.specs.Places.{place_of}
use Rattle.pattern_tree.proofs.places.Places.name.Goals as goal

pub returns-clause-place : goal.returns-clause-place
returns-clause-place c = λ t q.
    btree_map_updates_text (string_bytes c.in_ok-key.key) c.args.self.now.latest c.insert.new.self (Some c.args.start)
    c.in_ok-insert.ensures.updates q
    ∙ ap (λ z. update bytes_eq (place_of c.args.self.now) z (Some c.args.start) q) c.in_ok-key.ensures.ok
