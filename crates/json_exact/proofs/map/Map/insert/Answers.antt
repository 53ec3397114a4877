use Rattle.std.proofs.Common.{◌+◌, ℕ, length, sym, ap, ◌∙◌}
use Rattle.std.specs.Prelude.{option_map, is_some, string_bytes, bytes_eq, if◌then◌else◌}
use Rattle.json_exact.specs.Trees.{tree}
use Rattle.json_exact.proofs.TreeLaws.{pairs-of, under, put-tree, count-same}
use Rattle.json_exact.proofs.map.Map.insert.Goals as goal

pub returns-in-Ok-clause-old : goal.returns-in-Ok-clause-old
returns-in-Ok-clause-old c = ap (option_map tree) c.in-Ok.ensures.old ∙ sym (under (string_bytes c.args.key) c.args.self.now)

pub returns-in-Ok-clause-new : goal.returns-in-Ok-clause-new
returns-in-Ok-clause-new c = λ k. under k _ ∙ ap (option_map tree) (c.in-Ok.ensures.new k)
    ∙ put-tree (bytes_eq k (string_bytes c.args.key)) c.args.value _ _ (sym (under k c.args.self.now))

pub returns-in-Ok-clause-len : goal.returns-in-Ok-clause-len
returns-in-Ok-clause-len c = ap length (pairs-of _) ∙ count-same _ ∙ c.in-Ok.ensures.len
    ∙ ap (λ (n : ℕ). n + (if is_some c.in-Ok.old then 0 else 1)) (sym (ap length (pairs-of c.args.self.now) ∙ count-same c.args.self.now.members))

pub returns-in-Err-clause-only_new : goal.returns-in-Err-clause-only_new
returns-in-Err-clause-only_new c = under (string_bytes c.args.key) c.args.self.now ∙ ap (option_map tree) c.in-Err.ensures.only_new
