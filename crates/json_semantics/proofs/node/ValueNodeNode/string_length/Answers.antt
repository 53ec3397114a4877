use Rattle.std.proofs.Common.{rules, ◌∙◌}
use Rattle.json_semantics.proofs.TextLaws.{points_counted}
use Rattle.json_semantics.proofs.node.ValueNodeNode.string_length.Goals as goal

pub returns-in-String : goal.returns-in-String
returns-in-String c =
    points_counted c.args.self.now.value.now c.in-String.text c.as_bytes.result.now _ c.in-String.is
    (c.as_bytes.ensures.value ∙ c.as_str.ensures.value) c.as_bytes.ensures.utf8 (search rules)
