use Rattle.std.proofs.Common.{rules}
use Rattle.std.specs.BTreeSet.{contains_text}
use Rattle.pattern_translation.proofs.NameLaws.{all_left}
use Rattle.pattern_translation.proofs.names.shares_name.Goals as goal

pub loop-id-init : goal.loop-id-init
loop-id-init c = record {
  same = all_left c.args.pattern.now c.root.result _ c.new-nodes.result.items c.push.new.self.items (λ q. contains_text c.new-seen.result q)
      c.new-nodes.ensures.items c.in_ok-push.ensures.items c.root.ensures.tree (λ q. search rules);
  nodes = search rules;
}
