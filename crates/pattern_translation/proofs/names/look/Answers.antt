use Rattle.std.proofs.Common.{ap, ◌∙◌}
use Rattle.std.specs.BTreeSet.{contains_text}
use Rattle.pattern_tree.specs.Forms.{tree_name}
use Rattle.pattern_translation.proofs.NameLaws.{look_named}
use Rattle.pattern_translation.proofs.names.look.Goals as goal

pub returns-in_ok-known-in-Some : goal.returns-in_ok-known-in-Some
returns-in_ok-known-in-Some c =
    let (part, named) = c.in-Group.ensures.form in
    let (m, e, k) = named in
    look_named c.args.pattern.now c.args.id c.in-Group.inner c.args.nodes.now.items c.push.new.self.items
    (λ q. contains_text c.args.seen.now q) (λ q. contains_text c.see.new.seen q) c.in_ok-known-in-Some.known m c.in-Some.name.now part.node
    c.in_ok-push-in-Group.ensures.items e (c.in-Some.ensures ∙ ap tree_name e) c.in_ok-known-in-Some.ensures.known c.in_ok-known-in-Some.ensures.added
